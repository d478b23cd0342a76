-- What a list of view changes decides, as a function: the decision procedure that Choices states as a relation, after
-- Castro and Liskov (2002), Practical Byzantine Fault Tolerance and Proactive Recovery. Laws says that the two agree.
use Rattle.std.specs.Prelude.{ℕ, ◌+◌, ◌-◌, ◌&&◌, Bool, nat_le, if◌then◌else◌, List, [], ◌∷◌, Option, Some, None, Result, Ok, Err, zero, suc}
use Rattle.std.specs.List.{fold, flat_map, count_by}
use Rattle.pws_base.specs.Shapes.{quorum_of}
use Rattle.pws_msg.specs.declared.changes.Checkpoint.{Checkpoint}
use Rattle.pws_msg.specs.declared.changes.Choice.{Choice}
use Rattle.pws_msg.specs.declared.changes.PRow.{PRow}
use Rattle.pws_change.specs.declared.heard.Heard.{Heard}
use Rattle.pws_change.specs.declared.decisions.Decision.{Decision}
use Rattle.pws_change.specs.declared.decisions.Decision.TheVariants.{Chosen, Undecided}
use Rattle.pws_change.specs.Best.{Rank, is_better, may_start, rank_of_checkpoint, is_candidate, rank_of_row}
use Rattle.pws_change.specs.Changes.{has_no_entry}
use Rattle.pws_change.specs.Choices.{prepared_rows, last_place, null_digest}

-- an item that passes the test and is better than the best before it takes its place
abbrev pub better_of : {X : Type 0} → (X → Bool) → (X → Rank) → Option X → X → Option X
better_of ok rank best x = if is_better rank x best && ok x then Some x else best

-- the best of the items that pass a test
unfoldable pub best_of : {X : Type 0} → (X → Bool) → (X → Rank) → List X → Option X
best_of ok rank items = fold (better_of ok rank) None items

-- the checkpoint that the view starts from, if there is one
abbrev pub start_of : ℕ → List Heard → Option Checkpoint
start_of f changes = best_of (may_start f changes) rank_of_checkpoint (flat_map (λ h. h.change.checkpoints) changes)

-- Null's digest where condition B holds
abbrev pub null_by_b : ℕ → List Heard → ℕ → Option (List ℕ)
null_by_b f changes place = if nat_le (quorum_of f) (count_by (has_no_entry place) changes) then Some null_digest else None

-- the digest of the best entry, if one meets condition A; else by condition B
abbrev pub digest_or : Option PRow → Option (List ℕ) → Option (List ℕ)
digest_or (Some r) by_b = Some r.digest
digest_or None by_b = by_b

-- the digest that is chosen at a place, if it is decided
unfoldable pub chosen_digest : ℕ → List Heard → ℕ → Option (List ℕ)
chosen_digest f changes place = digest_or (best_of (is_candidate f changes place) rank_of_row (prepared_rows changes)) (null_by_b f changes place)

-- a digest before those of the later places; or the first place that is undecided
abbrev pub with_chosen : ℕ → Option (List ℕ) → Result (List (List ℕ)) ℕ → Result (List (List ℕ)) ℕ
with_chosen place None later = Err place
with_chosen place (Some d) (Err first) = Err first
with_chosen place (Some d) (Ok ds) = Ok (d ∷ ds)

-- the digests that are chosen at so many places from one on
unfoldable pub chosen_from : ℕ → List Heard → ℕ → ℕ → Result (List (List ℕ)) ℕ
chosen_from f changes place zero = Ok []
chosen_from f changes place (suc n) = with_chosen place (chosen_digest f changes place) (chosen_from f changes (place + 1) n)

-- the choice with this checkpoint and these digests
abbrev pub decision_with : Checkpoint → Result (List (List ℕ)) ℕ → Decision
decision_with c (Ok ds) = Chosen (record { place = c.place; digest = c.digest; chosen = ds })
decision_with c (Err place) = Undecided place

-- what is decided from a checkpoint on
abbrev pub decision_from : ℕ → List Heard → Option Checkpoint → Decision
decision_from f changes None = Undecided 0
decision_from f changes (Some c) = decision_with c (chosen_from f changes (c.place + 1) (last_place c.place changes - c.place))

-- what a list of view changes decides
unfoldable pub decision_of : ℕ → List Heard → Decision
decision_of f changes = decision_from f changes (start_of f changes)

-- the choice, where there is one
abbrev pub choice_in : Decision → Option Choice
choice_in (Chosen c) = Some c
choice_in (Undecided place) = None
