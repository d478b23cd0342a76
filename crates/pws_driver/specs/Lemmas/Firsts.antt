-- The first event of a list that passes a test, and the others. It is here for the proofs alone.
use Rattle.std.proofs.Common.{◌≡◌, ◌⊎◌, inl, inr, ℕ, ◌+◌, ◌||◌, Bool, true, false, cond, List, [], ◌∷◌, ◌++◌, length, Option, Some, None, refl, sym, ◌∙◌, ap, arith}
use Rattle.std.specs.List.{list_any}
use Rattle.std.specs.Option.{option_map}
use Rattle.pws_event.specs.declared.events.Event.{Event}
use Rattle.pws_driver.specs.Runs.{behind, first_of}

abbrev pub Picked : Type 0
Picked = Event × List Event

abbrev pub picked_more : List Event → Picked → Picked
picked_more ys q = (q.0, q.1 ++ ys)

-- ---- the first event that passes

first_true : (e : Event) (es ys : List Event) (q : Picked) → Some (e, es) ≡ Some q → Some (e, es ++ ys) ≡ Some (picked_more ys q)
first_true e es ys q h = let s : (e, es) ≡ q = cc in ap (λ (w : Picked). Some (picked_more ys w)) s

first_false : (e : Event) (ys : List Event) (q : Picked) (o w : Option Picked) → ((r : Picked) → o ≡ Some r → w ≡ Some (picked_more ys r)) → option_map (behind e) o ≡ Some q → option_map (behind e) w ≡ Some (picked_more ys q)
first_false e ys q None w ih h = let i : ◌≡◌ {A = Option Picked} None (Some q) = h in absurd (cc)
first_false e ys q (Some r) w ih h =
    let s : behind e r ≡ q = cc in
    ap (option_map (behind e)) (ih r refl) ∙ ap (λ (v : Picked). Some (picked_more ys v)) s

first_by : (test : Event → Bool) (e : Event) (es ys : List Event) (q : Picked) (b : Bool) → ((r : Picked) → first_of test es ≡ Some r → first_of test (es ++ ys) ≡ Some (picked_more ys r)) → cond b (Some (e, es)) (option_map (behind e) (first_of test es)) ≡ Some q → cond b (Some (e, es ++ ys)) (option_map (behind e) (first_of test (es ++ ys))) ≡ Some (picked_more ys q)
first_by test e es ys q true ih h = first_true e es ys q h
first_by test e es ys q false ih h = first_false e ys q (first_of test es) (first_of test (es ++ ys)) ih h

-- what comes first in a list comes first in a longer one
pub first_more : (test : Event → Bool) (es ys : List Event) (q : Picked) → first_of test es ≡ Some q → first_of test (es ++ ys) ≡ Some (picked_more ys q)
first_more test [] ys q h = let i : ◌≡◌ {A = Option Picked} None (Some q) = h in absurd (cc)
first_more test (e ∷ es) ys q h = first_by test e es ys q (test e) (first_more test es ys) h

length_behind : (e : Event) (es : List Event) (q : Picked) (b : Bool) (o : Option Picked) → ((r : Picked) → o ≡ Some r → length es ≡ length r.1 + 1) → cond b (Some (e, es)) (option_map (behind e) o) ≡ Some q → length (e ∷ es) ≡ length q.1 + 1
length_behind e es q true o ih h = let s : (e, es) ≡ q = cc in let t : es ≡ q.1 = ap (λ (w : Picked). w.1) s in omega (arith, ap length t)
length_behind e es q false None ih h = let i : ◌≡◌ {A = Option Picked} None (Some q) = h in absurd (cc)
length_behind e es q false (Some r) ih h = let s : behind e r ≡ q = cc in let t : e ∷ r.1 ≡ q.1 = ap (λ (w : Picked). w.1) s in omega (arith, ap length t, ih r refl)

-- the others are one fewer
pub first_length : (test : Event → Bool) (es : List Event) (q : Picked) → first_of test es ≡ Some q → length es ≡ length q.1 + 1
first_length test [] q h = let i : ◌≡◌ {A = Option Picked} None (Some q) = h in absurd (cc)
first_length test (e ∷ es) q h = length_behind e es q (test e) (first_of test es) (first_length test es) h

-- what is picked is wanted
wanted_by_test : (test : Event → Bool) (x : Event) (es : List Event) (q : Picked) (o : Option Picked) (b : Bool) → test x ≡ b → ((r : Picked) → o ≡ Some r → test r.0 ≡ true) → cond b (Some (x, es)) (option_map (behind x) o) ≡ Some q → test q.0 ≡ true
wanted_by_test test x es q o true t ih h = let s : (x, es) ≡ q = cc in ap (λ (w : Picked). test w.0) (sym s) ∙ t
wanted_by_test test x es q None false t ih h = let j : ◌≡◌ {A = Option Picked} None (Some q) = h in absurd (cc)
wanted_by_test test x es q (Some r) false t ih h = let s : behind x r ≡ q = cc in ap (λ (w : Picked). test w.0) (sym s) ∙ ih r refl

pub picked_wanted : (test : Event → Bool) (es : List Event) (q : Picked) → first_of test es ≡ Some q → test q.0 ≡ true
picked_wanted test [] q h = let j : ◌≡◌ {A = Option Picked} None (Some q) = h in absurd (cc)
picked_wanted test (x ∷ es) q h = wanted_by_test test x es q (first_of test es) (test x) refl (picked_wanted test es) h

swap_front : (a b c d : Bool) → ((a || c) ≡ true → d ≡ true) → (a || (b || c)) ≡ true → (b || d) ≡ true
swap_front a true c d f h = refl
swap_front a false c d f h = f h

picked_by : (x : Event) (es : List Event) (q : Picked) (o : Option Picked) (b : Bool) (t : Event → Bool) → ((r : Picked) → o ≡ Some r → (t : Event → Bool) → (t r.0 || list_any t r.1) ≡ true → list_any t es ≡ true) → cond b (Some (x, es)) (option_map (behind x) o) ≡ Some q → (t q.0 || list_any t q.1) ≡ true → (t x || list_any t es) ≡ true
picked_by x es q o true t ih h i = let s : (x, es) ≡ q = cc in ap (λ (w : Picked). t w.0 || list_any t w.1) s ∙ i
picked_by x es q None false t ih h i = let j : ◌≡◌ {A = Option Picked} None (Some q) = h in absurd (cc)
picked_by x es q (Some r) false t ih h i =
    let s : behind x r ≡ q = cc in
    swap_front (t r.0) (t x) (list_any t r.1) (list_any t es) (ih r refl t) (ap (λ (w : Picked). t w.0 || list_any t w.1) s ∙ i)

-- what is picked stands in the list, and so do the others
pub picked_in : (test : Event → Bool) (es : List Event) (q : Picked) → first_of test es ≡ Some q → (t : Event → Bool) → (t q.0 || list_any t q.1) ≡ true → list_any t es ≡ true
picked_in test [] q h t i = let j : ◌≡◌ {A = Option Picked} None (Some q) = h in absurd (cc)
picked_in test (x ∷ es) q h t i = picked_by x es q (first_of test es) (test x) t (picked_in test es) h i

pub or_right : (b : Bool) → (b || true) ≡ true
or_right true = refl
or_right false = refl
