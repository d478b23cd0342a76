-- Runs end, and a run on a longer list goes on from where the run on the shorter one ended. It is here for the proofs alone.
use Rattle.std.proofs.Common.{◌≡◌, ◌⊎◌, inl, inr, ℕ, zero, suc, ◌+◌, ◌≤◌, Bool, true, false, List, [], ◌∷◌, ◌++◌, length, Option, Some, None, refl, sym, ◌∙◌, ap, arith, append_assoc}
use Rattle.pws_event.specs.declared.events.Event.{Event}
use Rattle.pws_service.specs.declared.acts.Act.{Act}
use Rattle.pws_driver.specs.declared.cores.Core.{Core}
use Rattle.pws_driver.specs.Services.{Service}
use Rattle.pws_driver.specs.Instructions.{begin}
use Rattle.pws_driver.specs.Takings.{wants, takes, is_ready}
use Rattle.pws_driver.specs.Runs.{Run, first_of, step, steps, enough, fresh_core, fresh, run_of, acts_of, IsOver, more, after, weight_ready, weight, finish, resumed, run_at, IsAt}
use Rattle.pws_service.specs.Drivers.{IsPrefix}
use Rattle.pws_driver.specs.Lemmas.Counts.{begin_falls, takes_within}
use Rattle.pws_driver.specs.Lemmas.Firsts.{Picked, first_more, first_length, picked_wanted}

-- ---- one step

step_more_in : (s : Service) (ys : List Event) (r : Run) (b : Bool) (o : Option Picked) → is_ready r.core ≡ b → first_of (wants r.core) r.untaken ≡ o → IsOver s r ⊎ (step s (more ys r) ≡ more ys (step s r))
unfolding step
step_more_in s ys r true o h e = inr (rw h refl)
step_more_in s ys r false None h e = inl (rw (h, e) refl)
step_more_in s ys r false (Some q) h e = inr (rw (h, e, first_more (wants r.core) r.untaken ys q e) refl)

-- a step that isn't the last one doesn't see what comes after the list
pub step_more : (s : Service) (ys : List Event) (r : Run) → IsOver s r ⊎ (step s (more ys r) ≡ more ys (step s r))
step_more s ys r = step_more_in s ys r (is_ready r.core) (first_of (wants r.core) r.untaken) refl refl

step_after_in : (s : Service) (acts : List Act) (r : Run) (b : Bool) (o : Option Picked) → is_ready r.core ≡ b → first_of (wants r.core) r.untaken ≡ o → step s (after acts r) ≡ after acts (step s r)
unfolding step
step_after_in s acts r true o h e = rw h (ap (λ (done : List Act). record { core = (begin s r.core).core; untaken = r.untaken; acts = done }) (append_assoc acts r.acts (begin s r.core).acts))
step_after_in s acts r false None h e = rw (h, e) refl
step_after_in s acts r false (Some q) h e = rw (h, e) (ap (λ (done : List Act). record { core = (takes s r.core q.0).core; untaken = q.1; acts = done }) (append_assoc acts r.acts (takes s r.core q.0).acts))

-- nor what was done before
pub step_after : (s : Service) (acts : List Act) (r : Run) → step s (after acts r) ≡ after acts (step s r)
step_after s acts r = step_after_in s acts r (is_ready r.core) (first_of (wants r.core) r.untaken) refl refl

pub step_ready_falls : (s : Service) (r : Run) → is_ready r.core ≡ true → weight (step s r) + 1 ≤ weight r
unfolding step weight
step_ready_falls s r h = let f = rw h at (begin_falls s r.core h) in rw h (omega (arith, f))

pub step_takes_falls : (s : Service) (r : Run) (q : Picked) → is_ready r.core ≡ false → first_of (wants r.core) r.untaken ≡ Some q → weight (step s r) + 1 ≤ weight r
unfolding step weight
step_takes_falls s r q h e = let n = first_length (wants r.core) r.untaken q e in let f = takes_within s r.core q.0 (picked_wanted (wants r.core) r.untaken q e) in rw (h, e) (omega (arith, f, n))

pub step_none_over : (s : Service) (r : Run) → is_ready r.core ≡ false → first_of (wants r.core) r.untaken ≡ None → IsOver s r
unfolding step
step_none_over s r h e = rw (h, e) refl

step_falls_in : (s : Service) (r : Run) (b : Bool) (o : Option Picked) → is_ready r.core ≡ b → first_of (wants r.core) r.untaken ≡ o → IsOver s r ⊎ (weight (step s r) + 1 ≤ weight r)
step_falls_in s r true o h e = inr (step_ready_falls s r h)
step_falls_in s r false None h e = inl (step_none_over s r h e)
step_falls_in s r false (Some q) h e = inr (step_takes_falls s r q h e)

-- each step but the last leaves fewer
pub step_falls : (s : Service) (r : Run) → IsOver s r ⊎ (weight (step s r) + 1 ≤ weight r)
step_falls s r = step_falls_in s r (is_ready r.core) (first_of (wants r.core) r.untaken) refl refl

-- ---- steps

pub steps_over : (s : Service) (n : ℕ) (r : Run) → IsOver s r → steps s n r ≡ r
unfolding steps
steps_over s zero r h = refl
steps_over s (suc n) r h = ap (steps s n) h ∙ steps_over s n r h

-- so many steps are enough
pub ends : (s : Service) (n : ℕ) (r : Run) → weight r ≤ n → IsOver s (steps s n r)
unfolding steps
ends s zero r w = elim (step_falls s r) [ inl h ↦ h | inr f ↦ absurd (omega arith) ]
ends s (suc n) r w = elim (step_falls s r) [
  | inl h ↦ let stays : steps s (suc n) r ≡ r = steps_over s (suc n) r h in ap (step s) stays ∙ (h ∙ sym stays)
  | inr f ↦ ends s n (step s r) (omega arith)
]

pub same_end : (s : Service) (n m : ℕ) (r : Run) → weight r ≤ n → weight r ≤ m → steps s n r ≡ steps s m r
unfolding steps
same_end s zero m r w v = elim (step_falls s r) [ inl h ↦ sym (steps_over s m r h) | inr f ↦ absurd (omega arith) ]
same_end s (suc n) zero r w v = elim (step_falls s r) [ inl h ↦ steps_over s (suc n) r h | inr f ↦ absurd (omega arith) ]
same_end s (suc n) (suc m) r w v = elim (step_falls s r) [
  | inl h ↦ steps_over s (suc n) r h ∙ sym (steps_over s (suc m) r h)
  | inr f ↦ same_end s n m (step s r) (omega arith) (omega arith)
]

pub finish_by : (s : Service) (n : ℕ) (r : Run) → weight r ≤ n → steps s n r ≡ finish s r
unfolding finish
finish_by s n r w = same_end s n (weight r) r w (omega arith)

pub finish_over : (s : Service) (r : Run) → IsOver s r → finish s r ≡ r
unfolding finish
finish_over s r h = steps_over s (weight r) r h

pub finish_step : (s : Service) (r : Run) → finish s r ≡ finish s (step s r)
unfolding steps
finish_step s r = elim (step_falls s r) [
  | inl h ↦ ap (finish s) (sym h)
  | inr f ↦ sym (finish_by s (suc (weight r)) r (omega arith)) ∙ finish_by s (weight r) (step s r) (omega arith)
]

pub finish_more : (s : Service) (ys : List Event) (n : ℕ) (r : Run) → finish s (more ys r) ≡ finish s (more ys (steps s n r))
unfolding steps
finish_more s ys zero r = refl
finish_more s ys (suc n) r = elim (step_more s ys r) [
  | inl h ↦ finish_more s ys n r ∙ ap (λ (q : Run). finish s (more ys (steps s n q))) (sym h)
  | inr h ↦ finish_step s (more ys r) ∙ (ap (finish s) h ∙ finish_more s ys n (step s r))
]

pub steps_after : (s : Service) (acts : List Act) (n : ℕ) (r : Run) → steps s n (after acts r) ≡ after acts (steps s n r)
unfolding steps
steps_after s acts zero r = refl
steps_after s acts (suc n) r = ap (steps s n) (step_after s acts r) ∙ steps_after s acts n (step s r)

pub finish_after : (s : Service) (acts : List Act) (r : Run) → finish s (after acts r) ≡ after acts (finish s r)
unfolding finish weight
finish_after s acts r = steps_after s acts (weight r) r

weight_ready_small : (b : Bool) → weight_ready b ≤ 1
weight_ready_small true = omega arith
weight_ready_small false = omega arith

-- ---- runs from scratch

pub fresh_enough : (xs : List Event) → weight (fresh xs) ≤ enough xs
unfolding weight enough fresh_core
fresh_enough xs = omega (arith, weight_ready_small (is_ready fresh_core))

pub run_finish : (s : Service) (xs : List Event) → run_of s xs ≡ finish s (fresh xs)
run_finish s xs = finish_by s (enough xs) (fresh xs) (fresh_enough xs)

-- a run from scratch is over
pub run_over : (s : Service) (xs : List Event) → IsOver s (run_of s xs)
run_over s xs = ends s (enough xs) (fresh xs) (fresh_enough xs)

append_none : (xs : List Act) → xs ++ [] ≡ xs
append_none [] = refl
append_none (x ∷ xs) = ap (λ (ys : List Act). x ∷ ys) (append_none xs)

-- the run on a longer list goes on from where the run on the shorter one ended
pub run_resumed : (s : Service) (xs ys : List Event) → run_of s (xs ++ ys) ≡ after (run_of s xs).acts (finish s (resumed (run_of s xs) ys))
run_resumed s xs ys =
    run_finish s (xs ++ ys)
    ∙ (finish_more s ys (enough xs) (fresh xs)
    ∙ (ap (λ (done : List Act). finish s (record { core = (run_of s xs).core; untaken = (run_of s xs).untaken ++ ys; acts = done })) (sym (append_none (run_of s xs).acts))
    ∙ finish_after s (run_of s xs).acts (resumed (run_of s xs) ys)))

-- the acts on a prefix are a prefix of the acts on the whole
pub acts_prefix : (s : Service) (xs ys : List Event) → acts_of s (xs ++ ys) ≡ acts_of s xs ++ (finish s (resumed (run_of s xs) ys)).acts
acts_prefix s xs ys = ap (λ (r : Run). r.acts) (run_resumed s xs ys)

pub acts_grow : (s : Service) (xs ys : List Event) → IsPrefix (acts_of s xs) (acts_of s (xs ++ ys))
acts_grow s xs ys = ((finish s (resumed (run_of s xs) ys)).acts, acts_prefix s xs ys)

-- what going on from the end of a run gives
pub goes_on : (s : Service) (c d : Core) (u v : List Event) (acts : List Act) (xs : List Event) (e : Event) → IsAt s c u xs → run_at d v acts ≡ finish s (run_at c (u ++ e ∷ []) []) → IsAt s d v (xs ++ e ∷ []) × (acts_of s (xs ++ e ∷ []) ≡ acts_of s xs ++ acts)
goes_on s c d u v acts xs e at h =
    let k : finish s (run_at c (u ++ e ∷ []) []) ≡ finish s (resumed (run_of s xs) (e ∷ [])) = ap (λ (x : Core). finish s (run_at x (u ++ e ∷ []) [])) at.core ∙ ap (λ (x : List Event). finish s (run_at (run_of s xs).core (x ++ e ∷ []) [])) at.rest in
    let r : run_of s (xs ++ e ∷ []) ≡ after (run_of s xs).acts (run_at d v acts) = run_resumed s xs (e ∷ []) ∙ ap (after (run_of s xs).acts) (sym (h ∙ k)) in
    (record { core = sym (ap (λ (x : Run). x.core) r); rest = sym (ap (λ (x : Run). x.untaken) r) }, ap (λ (x : Run). x.acts) r)

-- what starting gives
pub starts_at : (s : Service) (c d : Core) (u v : List Event) (acts : List Act) → c ≡ fresh_core → u ≡ [] → run_at d v acts ≡ finish s (run_at c u []) → IsAt s d v [] × (acts ≡ acts_of s [])
starts_at s c d u v acts hc hu h =
    let r : run_at d v acts ≡ run_of s [] = h ∙ (ap (λ (x : Core). finish s (run_at x u [])) hc ∙ (ap (λ (x : List Event). finish s (run_at fresh_core x [])) hu ∙ sym (run_finish s []))) in
    (record { core = ap (λ (x : Run). x.core) r; rest = ap (λ (x : Run). x.untaken) r }, ap (λ (x : Run). x.acts) r)
