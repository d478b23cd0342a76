-- What makes one checkpoint better than another, and one entry: two are compared by a number and a digest.
use Rattle.std.specs.Prelude.{ℕ, ◌==◌, ◌&&◌, ◌||◌, not, Bool, true, nat_lt, nat_le, List, Option, Some, None}
use Rattle.std.specs.List.{count_by}
use Rattle.pws_base.specs.Shapes.{quorum_of, weak_of}
use Rattle.pws_msg.specs.declared.changes.Checkpoint.{Checkpoint}
use Rattle.pws_msg.specs.declared.changes.PRow.{PRow}
use Rattle.pws_change.specs.declared.heard.Heard.{Heard}
use Rattle.pws_change.specs.Changes.{is_low_by, has_checkpoint, allows_entry, is_witness}
use Rattle.pws_change.specs.Rising.{is_digest_at_most}

-- what two candidates are compared by
abbrev pub Rank : Type 0
Rank = ℕ × List ℕ

-- whether a candidate is no better than another: its number is lower, or the same and its digest isn't below
abbrev pub is_no_better : Rank → Rank → Bool
is_no_better x b = nat_lt x.0 b.0 || (x.0 == b.0 && is_digest_at_most b.1 x.1)

-- whether a candidate is better than the best before it, if there is one
abbrev pub is_better : {X : Type 0} → (X → Rank) → X → Option X → Bool
is_better rank x None = true
is_better rank x (Some b) = not (is_no_better (rank x) (rank b))

-- checkpoints, by their places
abbrev pub rank_of_checkpoint : Checkpoint → Rank
rank_of_checkpoint c = (c.place, c.digest)

-- whether a view may start from a checkpoint
abbrev pub may_start : ℕ → List Heard → Checkpoint → Bool
may_start f changes c = nat_le (quorum_of f) (count_by (is_low_by c.place) changes) && nat_le (weak_of f) (count_by (has_checkpoint c.place c.digest) changes)

-- entries, by their views
abbrev pub rank_of_row : PRow → Rank
rank_of_row r = (r.view, r.digest)

-- whether a row is an entry at the place that meets A
abbrev pub is_candidate : ℕ → List Heard → ℕ → PRow → Bool
is_candidate f changes place r =
    r.place == place
    && (nat_le (quorum_of f) (count_by (allows_entry place r.digest r.view) changes) && nat_le (weak_of f) (count_by (is_witness place r.digest r.view) changes))
