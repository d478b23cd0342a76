-- The functions of the choice are what its relations say.
use Rattle.std.proofs.Common.{◌≡◌, ℕ, zero, suc, ◌+◌, ◌-◌, ◌<◌, ◌≤◌, ◌&&◌, nat_le, Bool, true, false, if◌then◌else◌, List, [], ◌∷◌, ◌++◌, length, get_or, Option, Some, None, Result, Ok, Err, MatchOption, refl, sym, ◌∙◌, subst, inl, inr, arith}
use Rattle.std.specs.List.{fold, count_by}
use Rattle.std.proofs.lemmas.Bool.{false≢true, cases_lt, leb-true, le-leb}
use Rattle.std.proofs.lemmas.List.{append-nil, append_assoc}
use Rattle.pws_base.specs.Shapes.{quorum_of}
use Rattle.pws_msg.specs.declared.changes.Checkpoint.{Checkpoint}
use Rattle.pws_msg.specs.declared.changes.PRow.{PRow}
use Rattle.pws_change.specs.declared.heard.Heard.{Heard}
use Rattle.pws_change.specs.declared.decisions.Decision.{Decision}
use Rattle.pws_change.specs.Best.{Rank, is_better, may_start, rank_of_checkpoint, is_candidate, rank_of_row}
use Rattle.pws_change.specs.Searched.{IsBest, is_same_checkpoint, is_same_row}
use Rattle.pws_change.specs.Changes.{has_no_entry}
use Rattle.pws_change.specs.Choices.{IsStart, HasNoStart, HasNoA, IsBestEntry, IsChosenAt, IsUndecidedAt, IsChoice, prepared_rows, last_place, null_digest}
use Rattle.pws_change.proofs.Best.{best_takes, best_keeps}
use Rattle.pws_change.proofs.Found.{same_checkpoint, same_row, found_start, found_entry, held_checkpoints}
use Rattle.pws_change.proofs.Unique.{chosen_decides, choice_is_unique}
use Rattle.pws_change.specs.Decisions.{better_of, best_of, start_of, null_by_b, digest_or, chosen_digest, with_chosen, chosen_from, decision_with, decision_from, decision_of}
use Rattle.pws_change.specs.Laws.{DecisionIsChoice}

-- a fold that takes what is better gives the best
module _ {X : Type 0} (ok : X → Bool) (rank : X → Rank) (same : X → X → Bool) (mirror : (x : X) → same x x ≡ true) where
  by_test : (seen : List X) (best : Option X) (x : X) (b : Bool) → is_better rank x best && ok x ≡ b → IsBest ok rank same seen best → IsBest ok rank same (seen ++ x ∷ []) (if b then Some x else best)
  by_test seen best x true e h = best_takes ok rank same mirror seen best x h e
  by_test seen best x false e h = best_keeps ok rank same mirror seen best x h e

  folded : (seen xs : List X) (best : Option X) → IsBest ok rank same seen best → IsBest ok rank same (seen ++ xs) (fold (better_of ok rank) best xs)
  folded seen [] best h = subst (λ ys. IsBest ok rank same ys best) (sym (append-nil seen)) h
  folded seen (x ∷ xs) best h =
      subst (λ ys. IsBest ok rank same ys (fold (better_of ok rank) (better_of ok rank best x) xs)) (append_assoc seen (x ∷ []) xs)
      (folded (seen ++ x ∷ []) xs (better_of ok rank best x) (by_test seen best x (is_better rank x best && ok x) refl h))

  pub best_of_is : (items : List X) → IsBest ok rank same items (best_of ok rank items)
  unfolding best_of
  best_of_is items = folded [] items None refl

module _ (f : ℕ) (changes : List Heard) where
  start_is : MatchOption (start_of f changes) (HasNoStart f changes) (λ c. IsStart f changes c.place c.digest)
  start_is = found_start f changes (start_of f changes) (best_of_is (may_start f changes) rank_of_checkpoint is_same_checkpoint same_checkpoint (held_checkpoints changes))

  -- the digest at a place
  IsDigestAt : ℕ → Option (List ℕ) → Type 0
  IsDigestAt place o = MatchOption o (IsUndecidedAt f changes place) (λ d. IsChosenAt f changes place d)

  at_b : (place : ℕ) (b : Bool) → HasNoA f changes place → nat_le (quorum_of f) (count_by (has_no_entry place) changes) ≡ b → IsDigestAt place (if b then Some null_digest else None)
  unfolding IsDigestAt
  at_b place true none e = inr (none, leb-true (quorum_of f) (count_by (has_no_entry place) changes) e, refl)
  at_b place false none e = (none, λ m. false≢true (sym e ∙ le-leb (quorum_of f) (count_by (has_no_entry place) changes) m))

  at_best : (place : ℕ) (o : Option PRow) → MatchOption o (HasNoA f changes place) (λ r. IsBestEntry f changes place r.digest r.view) → IsDigestAt place (digest_or o (null_by_b f changes place))
  unfolding IsDigestAt
  at_best place None h = at_b place (nat_le (quorum_of f) (count_by (has_no_entry place) changes)) h refl
  at_best place (Some r) h = inl (r.view, h)

  digest_is : (place : ℕ) → IsDigestAt place (chosen_digest f changes place)
  unfolding chosen_digest
  digest_is place =
      at_best place (best_of (is_candidate f changes place) rank_of_row (prepared_rows changes))
      (found_entry f changes place (best_of (is_candidate f changes place) rank_of_row (prepared_rows changes)) (best_of_is (is_candidate f changes place) rank_of_row is_same_row same_row (prepared_rows changes)))

  -- the digests at so many places from one on
  AreFrom : ℕ → ℕ → Result (List (List ℕ)) ℕ → Type 0
  AreFrom place n (Ok ds) = (length ds ≡ n) × ((p : ℕ) → place ≤ p → p < place + n → IsChosenAt f changes p (get_or ds (p - place) []))
  AreFrom place n (Err q) = (place ≤ q) × (q < place + n) × IsUndecidedAt f changes q × ((p : ℕ) → place ≤ p → p < q → ¬ (IsUndecidedAt f changes p))

  chosen_next : (place : ℕ) (d : List ℕ) (ds : List (List ℕ)) (p : ℕ) → IsChosenAt f changes place d → (place + 1 ≤ p → IsChosenAt f changes p (get_or ds (p - (place + 1)) [])) → place ≤ p → IsChosenAt f changes p (get_or (d ∷ ds) (p - place) [])
  chosen_next place d ds p c later a = elim (cases_lt place p) [
    | inl l ↦ (
        let e : p - place ≡ suc (p - (place + 1)) = omega arith in
        subst (λ k. IsChosenAt f changes p (get_or (d ∷ ds) k [])) (sym e) (later (omega arith)))
    | inr l ↦ (
        let e : place ≡ p = omega arith in
        let z : p - place ≡ 0 = omega arith in
        subst (λ k. IsChosenAt f changes p (get_or (d ∷ ds) k [])) (sym z) (subst (λ k. IsChosenAt f changes k d) e c))
  ]

  undecided_next : (place : ℕ) (d : List ℕ) (q p : ℕ) → IsChosenAt f changes place d → (place + 1 ≤ p → ¬ (IsUndecidedAt f changes p)) → place ≤ p → ¬ (IsUndecidedAt f changes p)
  undecided_next place d q p c later a u = elim (cases_lt place p) [
    | inl l ↦ later (omega arith) u
    | inr l ↦ (let e : place ≡ p = omega arith in chosen_decides f changes p d (subst (λ k. IsChosenAt f changes k d) e c) u)
  ]

  one_from : (place n : ℕ) (o : Option (List ℕ)) (r : Result (List (List ℕ)) ℕ) → IsDigestAt place o → AreFrom (place + 1) n r → AreFrom place (suc n) (with_chosen place o r)
  unfolding IsDigestAt AreFrom
  one_from place n None r u h = (omega arith, omega arith, u, λ p a b. absurd (omega arith))
  one_from place n (Some d) (Err q) c h = (omega (arith, h.0), omega (arith, h.1), h.2, λ p a b. undecided_next place d q p c (λ l. h.3 p l b) a)
  one_from place n (Some d) (Ok ds) c h = (omega (arith, h.0), λ p a b. chosen_next place d ds p c (λ l. h.1 p l (omega arith)) a)

  all_from : (place n : ℕ) → AreFrom place n (chosen_from f changes place n)
  unfolding chosen_from AreFrom
  all_from place zero = (refl, λ p a b. absurd (omega arith))
  all_from place (suc n) = one_from place n (chosen_digest f changes place) (chosen_from f changes (place + 1) n) (digest_is place) (all_from (place + 1) n)

  -- from the checkpoint to the last place
  decided : (c : Checkpoint) (r : Result (List (List ℕ)) ℕ) → IsStart f changes c.place c.digest → AreFrom (c.place + 1) (last_place c.place changes - c.place) r → IsChoice f changes (decision_with c r)
  unfolding AreFrom
  decided c (Ok ds) s h =
      record {
        start = s;
        last = omega (arith, h.0);
        chosen = λ p a b. h.1 p (omega arith) (omega (arith, h.0));
      }
  decided c (Err q) s h = inr (
    c.place,
    c.digest,
    record {
      checkpoint = s;
      after = omega (arith, h.0);
      within = omega (arith, h.1);
      undecided = h.2;
      first = λ p a b. h.3 p (omega arith) b;
    },
  )

  by_start : (o : Option Checkpoint) → MatchOption o (HasNoStart f changes) (λ c. IsStart f changes c.place c.digest) → IsChoice f changes (decision_from f changes o)
  by_start None h = inl (refl, h)
  by_start (Some c) h = decided c (chosen_from f changes (c.place + 1) (last_place c.place changes - c.place)) h (all_from (c.place + 1) (last_place c.place changes - c.place))

pub decision_is_choice : DecisionIsChoice
unfolding decision_of
decision_is_choice f changes = by_start f changes (start_of f changes) (start_is f changes)

-- what meets the relation is what the function gives
pub choice_is_decided : (f : ℕ) (changes : List Heard) (d : Decision) → IsChoice f changes d → d ≡ decision_of f changes
choice_is_decided f changes d h = choice_is_unique f changes d (decision_of f changes) h (decision_is_choice f changes)
