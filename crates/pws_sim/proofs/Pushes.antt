-- One more push.
use Rattle.std.proofs.Common.{◌≡◌, ℕ, zero, suc, ◌+◌, ◌-◌, ◌<◌, ◌≤◌, false, cond, [], ◌∷◌, length, nat_lt, Option, Some, None, refl, ◌∙◌, ap, arith, length-append}
use Rattle.std.proofs.lemmas.Bool.Decides.{nat_tests}
use Rattle.pws_event.specs.Lists.{placed}
use Rattle.pws_event.specs.declared.events.Event.TheVariants as event
use Rattle.pws_event.specs.Requests.{RequestFields}
use Rattle.pws_sim.specs.Replica.{ReplicaState, last_in, kept_with, if_taken, next_of, push, pushes, after_next}

pub pushes_zero : (s : ReplicaState) → pushes 0 s ≡ s
unfolding pushes
pushes_zero s = refl

pub pushes_done : (n : ℕ) (s : ReplicaState) → next_of s ≡ None → pushes n s ≡ s
unfolding pushes
pushes_done zero s h = refl
pushes_done (suc n) s h = ap (λ (o : Option RequestFields). after_next o s (λ a. pushes n (push s a))) h

pub pushes_suc : (n : ℕ) (s : ReplicaState) (a : RequestFields) → next_of s ≡ Some a → pushes (suc n) s ≡ pushes n (push s a)
unfolding pushes
pushes_suc n s a e = ap (λ (o : Option RequestFields). after_next o s (λ b. pushes n (push s b))) e

pub pushes_more : (n : ℕ) (s : ReplicaState) (a : RequestFields) → 0 < n → next_of s ≡ Some a → pushes n s ≡ pushes (n - 1) (push s a)
pushes_more zero s a h e = absurd (omega arith)
pushes_more (suc n) s a h e = let k : suc n - 1 ≡ n = omega arith in rw k (pushes_suc n s a e)

pub pushes_spent : (n : ℕ) (s : ReplicaState) → n ≡ 0 → pushes n s ≡ s
pushes_spent n s e = rw e (pushes_zero s)

full : (s : ReplicaState) → 32 ≤ length s.places → next_of s ≡ None
full s h = let no : nat_lt (length s.places) 32 ≡ false = grind (arith, nat_tests) in ap (λ b. cond b (if_taken s.places (kept_with (last_in s.places + 1) s.kept)) None) no

longer : (s : ReplicaState) (r : RequestFields) → length (push s r).places ≡ length s.places + 1
unfolding push
longer s r = length-append s.places (placed s.places (event.Request r) ∷ [])

end_by : (n : ℕ) (s : ReplicaState) (o : Option RequestFields) → next_of s ≡ o → 32 ≤ length s.places + n → next_of (pushes n s) ≡ None
end_by n s None e h = ap next_of (pushes_done n s e) ∙ e
end_by zero s (Some r) e h = ap next_of (pushes_zero s) ∙ full s (omega arith)
end_by (suc n) s (Some r) e h = ap next_of (pushes_suc n s r e) ∙ end_by n (push s r) (next_of (push s r)) refl (omega (arith, longer s r, h))

-- where there are as many turns as places that are left, no request is left to push
pub pushes_end : (n : ℕ) (s : ReplicaState) → 32 ≤ length s.places + n → next_of (pushes n s) ≡ None
pushes_end n s h = end_by n s (next_of s) refl h
