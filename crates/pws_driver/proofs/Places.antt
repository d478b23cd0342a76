-- The first event that passes, by its place.
use Rattle.std.proofs.Common.{◌≡◌, ℕ, suc, ◌+◌, ◌<◌, ◌≤◌, Bool, true, false, not, nat_lt, cond, List, [], ◌∷◌, length, remove, slice_index_or, Option, Some, None, refl, sym, ap, ◌∙◌, arith}
use Rattle.std.specs.List.{position, position_or_len}
use Rattle.std.specs.Option.{option_map}
use Rattle.std.proofs.lemmas.Bool.Decides.{nat_tests}
use Rattle.pws_event.specs.declared.events.Event.{Event}
use Rattle.pws_driver.specs.Runs.{first_of, behind}

pos_some : (b : Bool) (n i : ℕ) → cond b (Some n) None ≡ Some i → (b ≡ true) × (n ≡ i)
pos_some true n i h = (refl, cc)
pos_some false n i h = let j : ◌≡◌ {A = Option ℕ} None (Some i) = h in absurd (cc)

pos_none : (b : Bool) (n : ℕ) → cond b (Some n) None ≡ None → b ≡ false
pos_none true n h = let j : ◌≡◌ {A = Option ℕ} (Some n) None = h in absurd (cc)
pos_none false n h = refl

below : (a b : ℕ) → nat_lt a b ≡ true → a < b
below a b h = grind (arith, nat_tests)

above : (a b : ℕ) → nat_lt a b ≡ false → b ≤ a
above a b h = grind (arith, nat_tests)

at_by : (x : Event) (es : List Event) (e : Event) (n : ℕ) (o : Option (Event × List Event)) (b : Bool) → (n < length es → e ≡ slice_index_or es n e → o ≡ Some (e, remove es n)) → cond (not b) (1 + n) 0 < length (x ∷ es) → e ≡ slice_index_or (x ∷ es) (cond (not b) (1 + n) 0) e → cond b (Some (x, es)) (option_map (behind x) o) ≡ Some (e, remove (x ∷ es) (cond (not b) (1 + n) 0))
at_by x es e n o true ih h w = ap (λ (y : Event). Some (y, es)) (sym w)
at_by x es e n o false ih h w =
    let k : 1 + n ≡ suc n = omega arith in
    let v : e ≡ slice_index_or (x ∷ es) (suc n) e = w ∙ ap (λ (m : ℕ). slice_index_or (x ∷ es) m e) k in
    rw k (ap (option_map (behind x)) (ih (omega arith) v))

at_first : (test : Event → Bool) (es : List Event) (e : Event) → position_or_len test es < length es → e ≡ slice_index_or es (position_or_len test es) e → first_of test es ≡ Some (e, remove es (position_or_len test es))
at_first test [] e h w = absurd (omega arith)
at_first test (x ∷ es) e h w = at_by x es e (position_or_len test es) (first_of test es) (test x) (at_first test es e) h w

none_by : (x : Event) (es : List Event) (n : ℕ) (o : Option (Event × List Event)) (b : Bool) → (length es ≤ n → o ≡ None) → length (x ∷ es) ≤ cond (not b) (1 + n) 0 → cond b (Some (x, es)) (option_map (behind x) o) ≡ None
none_by x es n o true ih h = absurd (omega arith)
none_by x es n o false ih h = ap (option_map (behind x)) (ih (omega arith))

none_first : (test : Event → Bool) (es : List Event) → length es ≤ position_or_len test es → first_of test es ≡ None
none_first test [] h = refl
none_first test (x ∷ es) h = none_by x es (position_or_len test es) (first_of test es) (test x) (none_first test es) h

pub first_none : (test : Event → Bool) (es : List Event) → position test es ≡ None → first_of test es ≡ None
first_none test es h = none_first test es (above _ _ (pos_none _ _ h))

pub first_at : (test : Event → Bool) (es : List Event) (i : ℕ) (e : Event) → position test es ≡ Some i → e ≡ slice_index_or es i e → first_of test es ≡ Some (e, remove es i)
first_at test es i e h w =
    let s = pos_some (nat_lt (position_or_len test es) (length es)) (position_or_len test es) i h in
    let v : e ≡ slice_index_or es (position_or_len test es) e = w ∙ ap (λ (m : ℕ). slice_index_or es m e) (sym s.1) in
    at_first test es e (below _ _ s.0) v ∙ ap (λ (m : ℕ). Some (e, remove es m)) s.1
