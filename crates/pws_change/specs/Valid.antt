-- Which view changes are valid, after Castro and Liskov (2002), Practical Byzantine Fault Tolerance and Proactive
-- Recovery; the numbers are this project's own.
use Rattle.std.specs.Prelude.{ℕ, ◌+◌, ◌%◌, ◌==◌, ◌&&◌, ◌||◌, not, Bool, false, nat_lt, nat_le, List, [], ◌∷◌, length, replicate, IsTrue}
use Rattle.std.specs.List.{list_all}
use Rattle.std.specs.Str.{bytes_eq}
use Rattle.pws_base.specs.Limits.{checkpoint_distance, place_window}
use Rattle.pws_base.specs.Places.{is_in_window}
use Rattle.pws_msg.specs.declared.changes.Checkpoint.{Checkpoint}
use Rattle.pws_msg.specs.declared.changes.PRow.{PRow}
use Rattle.pws_msg.specs.declared.changes.QRow.{QRow}
use Rattle.pws_msg.specs.declared.changes.Seen.{Seen}
use Rattle.pws_msg.specs.declared.changes.ViewChange.{ViewChange}
use Rattle.pws_change.specs.Rising.{rises, is_digest_below}

-- whether the first checkpoint is at this place
abbrev pub begins_at : ℕ → List Checkpoint → Bool
begins_at low [] = false
begins_at low (c ∷ cs) = c.place == low

-- whether a checkpoint is at a multiple of 16, at most 32 places above the low mark, and the one at 0 has 32 zeros
abbrev pub is_checkpoint_valid : ℕ → Checkpoint → Bool
is_checkpoint_valid low c = c.place % checkpoint_distance == 0 && nat_le c.place (low + place_window) && (not (c.place == 0) || bytes_eq c.digest (replicate 32 0))

-- whether checkpoints are valid, rise by place, and begin with the low mark
abbrev pub are_checkpoints_valid : ℕ → List Checkpoint → Bool
are_checkpoints_valid low cs = list_all (is_checkpoint_valid low) cs && rises (λ a b. nat_lt a.place b.place) cs && begins_at low cs

-- whether a prepared row is above the low mark, and of a view before this one
abbrev pub is_p_row_valid : ℕ → ℕ → PRow → Bool
is_p_row_valid low view r = is_in_window low r.place && nat_lt r.view view

-- whether prepared rows are valid, and rise by place
abbrev pub are_p_rows_valid : ℕ → ℕ → List PRow → Bool
are_p_rows_valid low view rows = list_all (is_p_row_valid low view) rows && rises (λ a b. nat_lt a.place b.place) rows

-- whether digests are 1 to 16, rising, and of views before this one
abbrev pub are_digests_valid : ℕ → List Seen → Bool
are_digests_valid view digests =
    nat_le 1 (length digests)
    && nat_le (length digests) 16
    && list_all (λ s. nat_lt s.view view) digests
    && rises (λ a b. is_digest_below a.digest b.digest) digests

-- whether a pre-prepared row is above the low mark, and its digests are valid
abbrev pub is_q_row_valid : ℕ → ℕ → QRow → Bool
is_q_row_valid low view r = is_in_window low r.place && are_digests_valid view r.digests

-- whether pre-prepared rows are valid, and rise by place
abbrev pub are_q_rows_valid : ℕ → ℕ → List QRow → Bool
are_q_rows_valid low view rows = list_all (is_q_row_valid low view) rows && rises (λ a b. nat_lt a.place b.place) rows

-- what a valid view change is
pub record IsValid (c : ViewChange) : Type 0 where
  pub view : IsTrue (nat_le 1 c.view)
  pub low : IsTrue (c.low % checkpoint_distance == 0)
  pub checkpoints : IsTrue (are_checkpoints_valid c.low c.checkpoints)
  pub prepared : IsTrue (are_p_rows_valid c.low c.view c.prepared)
  pub pre_prepared : IsTrue (are_q_rows_valid c.low c.view c.pre_prepared)

-- the same as a test
unfoldable pub is_valid : ViewChange → Bool
is_valid c =
    nat_le 1 c.view
    && (c.low % checkpoint_distance == 0
    && (are_checkpoints_valid c.low c.checkpoints
    && (are_p_rows_valid c.low c.view c.prepared
    && are_q_rows_valid c.low c.view c.pre_prepared)))
