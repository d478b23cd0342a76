-- What one view change says of a place: the tests that the choice counts.
use Rattle.std.specs.Prelude.{ℕ, ◌==◌, ◌&&◌, ◌||◌, not, Bool, nat_lt, nat_le, List}
use Rattle.std.specs.List.{list_any, list_all}
use Rattle.std.specs.Str.{bytes_eq}
use Rattle.pws_msg.specs.declared.changes.PRow.{PRow}
use Rattle.pws_change.specs.declared.heard.Heard.{Heard}

-- whether its low mark is at or below the place
abbrev pub is_low_by : ℕ → Heard → Bool
is_low_by place h = nat_le h.change.low place

-- whether it has this checkpoint
abbrev pub has_checkpoint : ℕ → List ℕ → Heard → Bool
has_checkpoint place digest h = list_any (λ c. c.place == place && bytes_eq c.digest digest) h.change.checkpoints

-- an entry of a prepared set is its digest and its view at a place: whether a row is this entry
abbrev pub is_entry : ℕ → List ℕ → ℕ → PRow → Bool
is_entry place digest view r = r.place == place && (r.view == view && bytes_eq r.digest digest)

-- whether its prepared set has this entry
abbrev pub has_entry : ℕ → List ℕ → ℕ → Heard → Bool
has_entry place digest view h = list_any (is_entry place digest view) h.change.prepared

-- whether a row, if it is at the place, is of an earlier view than the entry, or is the entry itself
abbrev pub is_row_no_later : ℕ → List ℕ → ℕ → PRow → Bool
is_row_no_later place digest view r = not (r.place == place) || (nat_lt r.view view || (r.view == view && bytes_eq r.digest digest))

-- whether its low mark is below the place, and each entry that it has there is of an earlier view, or is this one
abbrev pub allows_entry : ℕ → List ℕ → ℕ → Heard → Bool
allows_entry place digest view h = nat_lt h.change.low place && list_all (is_row_no_later place digest view) h.change.prepared

-- whether it has this digest pre-prepared at the place, in this view or a later one
abbrev pub is_witness : ℕ → List ℕ → ℕ → Heard → Bool
is_witness place digest view h =
    list_any (λ q. q.place == place && list_any (λ s. bytes_eq s.digest digest && nat_le view s.view) q.digests) h.change.pre_prepared

-- whether its low mark is below the place, and it has no entry there
abbrev pub has_no_entry : ℕ → Heard → Bool
has_no_entry place h = nat_lt h.change.low place && list_all (λ r. not (r.place == place)) h.change.prepared

-- whether a row at the place is this entry, or of a later view
abbrev pub is_row_from : ℕ → List ℕ → ℕ → PRow → Bool
is_row_from place digest view r = r.place == place && (nat_lt view r.view || (r.view == view && bytes_eq r.digest digest))

-- whether it has this entry at the place, or one of a later view
abbrev pub covers : ℕ → List ℕ → ℕ → Heard → Bool
covers place digest view h = list_any (is_row_from place digest view) h.change.prepared

-- whether its low mark is below the place, and it has there neither this entry nor one of a later view
abbrev pub lacks : ℕ → List ℕ → ℕ → Heard → Bool
lacks place digest view h = nat_lt h.change.low place && not (covers place digest view h)
