-- The least number of a call that waits.
use Rattle.std.proofs.Common.{◌≡◌, ℕ, zero, suc, ◌+◌, ◌-◌, ◌<◌, ◌≤◌, Bool, true, false, List, find, Some, None, refl, sym, ◌∙◌, ap, arith, cond, add-zero, zero-add}
use Rattle.std.specs.List.{range_with_len}
use Rattle.std.specs.Option.{unwrap_or}
use Rattle.std.proofs.lemmas.Bool.Decides.{nat_tests}
use Rattle.pws_base.specs.Replicas.{is_other}
use Rattle.pws_event.specs.Effects.{waits, low_out}
use Rattle.pws_event.specs.Histories.{Past, with_call}
use Rattle.pws_event.specs.Counters.{Counters, IsCounters, HasTaken, counter_of, is_waiting, least_waiting, after_call}
use Rattle.pws_event.proofs.Waiting.{called_more}

-- the first of n numbers from a on that passes, and the number behind them where none does
abbrev pub first_of : (ℕ → Bool) → ℕ → ℕ → ℕ → ℕ
first_of p a n none = unwrap_or (find p (range_with_len a n)) none

apart_by : (p : ℕ → Bool) (a x : ℕ) → p a ≡ false → a ≤ x → p x ≡ true → a ≡ x → ⊥
apart_by p a x e l t s = absurd (cc)

apart : (p : ℕ → Bool) (a x : ℕ) → p a ≡ false → a ≤ x → p x ≡ true → a + 1 ≤ x
apart p a x e l t = let other : a ≡ x → ⊥ = apart_by p a x e l t in omega (arith, other)

first_by : (p : ℕ → Bool) (a n none x : ℕ) (b : Bool) → p a ≡ b → a ≤ x → x < a + suc n → p x ≡ true → ((x : ℕ) → a + 1 ≤ x → x < a + 1 + n → p x ≡ true → first_of p (a + 1) n none ≤ x) → unwrap_or (cond b (Some a) (find p (range_with_len (a + 1) n))) none ≤ x
first_by p a n none x true e l k t more = l
first_by p a n none x false e l k t more = more x (apart p a x e l t) (omega arith) t

-- it is at most each that passes
first_least : (p : ℕ → Bool) (a n none x : ℕ) → a ≤ x → x < a + n → p x ≡ true → first_of p a n none ≤ x
first_least p a zero none x l k t = absurd (omega arith)
first_least p a (suc n) none x l k t = first_by p a n none x (p a) refl l k t (first_least p (a + 1) n none)

-- the slots' number is at most each that waits
pub least_below : (c : Counters) (called number : ℕ) → IsCounters c → is_waiting c.waiting called number ≡ true → least_waiting c called ≤ number
least_below c called number s w =
    let l = counter_of c.called called 0 in
    let in_window = s.window called number w in
    first_least (is_waiting c.waiting called) (l - 15) (l + 1 - (l - 15)) (l + 1) number (omega (arith, in_window)) (omega (arith, in_window)) w

skip_first : (p : ℕ → Bool) (a n none : ℕ) → p a ≡ false → first_of p a (suc n) none ≡ first_of p (a + 1) n none
skip_first p a n none e = ap (λ b. unwrap_or (cond b (Some a) (find p (range_with_len (a + 1) n))) none) e

-- numbers that don't pass may be left out
skip : (p : ℕ → Bool) (k a n none : ℕ) → ((x : ℕ) → a ≤ x → x < a + k → p x ≡ false) → first_of p a (k + n) none ≡ first_of p (a + k) n none
skip p zero a n none none_passes = rw (add-zero, zero-add) refl
skip p (suc k) a n none none_passes =
    let s : suc k + n ≡ suc (k + n) = omega arith in
    let b : a + 1 + k ≡ a + suc k = omega arith in
    ap (λ m. first_of p a m none) s ∙ (skip_first p a (k + n) none (none_passes a (omega arith) (omega arith)) ∙ (skip p k (a + 1) n none (λ x l m. none_passes x (omega arith) (omega arith)) ∙ ap (λ a. first_of p a n none) b))

same_find : (p q : ℕ → Bool) (a n : ℕ) → ((x : ℕ) → p x ≡ q x) → find p (range_with_len a n) ≡ find q (range_with_len a n)
same_find p q a zero same = refl
same_find p q a (suc n) same = ap (λ b. cond b (Some a) (find p (range_with_len (a + 1) n))) (same a) ∙ ap (λ o. cond (q a) (Some a) o) (same_find p q (a + 1) n same)

same_first : (p q : ℕ → Bool) (a n none : ℕ) → ((x : ℕ) → p x ≡ q x) → first_of p a n none ≡ first_of q a n none
same_first p q a n none same = ap (λ o. unwrap_or o none) (same_find p q a n same)

not_in_window : (c : Counters) (called x : ℕ) → IsCounters c → x < counter_of c.called called 0 - 15 → (b : Bool) → is_waiting c.waiting called x ≡ b → is_waiting c.waiting called x ≡ false
not_in_window c called x s l true w = absurd (omega (arith, s.window called x w, l))
not_in_window c called x s l false w = w

zero_never : (slots : List ℕ) (called : ℕ) → is_waiting slots called 0 ≡ false
zero_never slots called = grind (arith, nat_tests)

positive : (slots : List ℕ) (called x : ℕ) → is_waiting slots called x ≡ true → x ≡ 0 → ⊥
positive slots called x w z = let none : is_waiting slots called x ≡ false = ap (is_waiting slots called) z ∙ zero_never slots called in cc

-- the least number that waits is that of the past
pub low_out_same : (c : Counters) (past : Past) (called : ℕ) → IsCounters c → HasTaken c past → least_waiting c called ≡ low_out past.acts past.effects called
low_out_same c past called s h =
    let p = is_waiting c.waiting called in
    let l = counter_of c.called called 0 in
    let whole : l + 1 ≡ l - 15 + (l + 1 - (l - 15)) = omega arith in
    let after : 0 + (l - 15) ≡ l - 15 = omega arith in
    let one_more : l + 1 ≡ suc l = omega arith in
    let from_zero : first_of p 0 (l + 1) (l + 1) ≡ least_waiting c called =
    ap (λ m. first_of p 0 m (l + 1)) whole ∙ (skip p (l - 15) 0 (l + 1 - (l - 15)) (l + 1) (λ x a k. not_in_window c called x s (omega arith) (p x) refl) ∙ ap (λ a. first_of p a (l + 1 - (l - 15)) (l + 1)) after) in
    let from_one : first_of p 0 (l + 1) (l + 1) ≡ first_of p 1 l (l + 1) = ap (λ m. first_of p 0 m (l + 1)) one_more ∙ skip_first p 0 l (l + 1) (zero_never c.waiting called) in
    sym from_zero ∙ (from_one ∙ (same_first p (waits past.acts past.effects called) 1 l (l + 1) (λ n. h.calls.waiting called n) ∙ ap (λ l. first_of (waits past.acts past.effects called) 1 l (l + 1)) (h.calls.last called)))

none_waits : (c : Counters) (called x : ℕ) → IsCounters c → counter_of c.called called 0 ≡ 0 → (b : Bool) → is_waiting c.waiting called x ≡ b → is_waiting c.waiting called x ≡ false
none_waits c called x s z true w = absurd (positive c.waiting called x w (omega (arith, s.window called x w, z)))
none_waits c called x s z false w = w

-- a group that isn't called has the number 1
pub low_out_none : (c : Counters) (called : ℕ) → IsCounters c → is_other c.me c.layout called ≡ false → least_waiting c called ≡ 1
low_out_none c called s o =
    let z : counter_of c.called called 0 ≡ 0 = (s.none called o).2 in
    let p = is_waiting c.waiting called in
    ap (λ l. first_of p (l - 15) (l + 1 - (l - 15)) (l + 1)) z ∙ ap (λ b. unwrap_or (cond b (Some 0) None) 1) (zero_never c.waiting called)

-- one more call
pub call_more : (c : Counters) (past : Past) (called number : ℕ) → IsCounters c → called < 16 → number ≡ counter_of c.called called 0 + 1 → number < least_waiting c called + 16 → HasTaken c past → HasTaken (after_call c called number) (record past { acts = with_call called number past.acts })
call_more c past called number s k next room h = record {
  requests = h.requests;
  calls = called_more c.called c.waiting past called number s.calls.0 s.calls.1 k next (λ n w. (omega (arith, (s.window called n w).0, next), omega (arith, least_below c called n s w, room))) h.calls;
  asks = record { answered = h.asks.answered; asked = h.asks.asked; ask = h.asks.ask };
  clock = h.clock;
}

-- the search for the least number, from a number on: it is found, or it comes later, or none is left
pub first_here : (p : ℕ → Bool) (a end none : ℕ) → a < end → p a ≡ true → first_of p a (end - a) none ≡ a
first_here p a end none l t =
    let s : end - a ≡ suc (end - (a + 1)) = omega arith in
    ap (λ n. first_of p a n none) s ∙ ap (λ b. unwrap_or (cond b (Some a) (find p (range_with_len (a + 1) (end - (a + 1))))) none) t

pub first_later : (p : ℕ → Bool) (a end none : ℕ) → a < end → p a ≡ false → first_of p a (end - a) none ≡ first_of p (a + 1) (end - (a + 1)) none
first_later p a end none l t =
    let s : end - a ≡ suc (end - (a + 1)) = omega arith in
    ap (λ n. first_of p a n none) s ∙ skip_first p a (end - (a + 1)) none t

pub first_none : (p : ℕ → Bool) (a end none : ℕ) → end ≤ a → first_of p a (end - a) none ≡ none
first_none p a end none l = let s : end - a ≡ 0 = omega arith in ap (λ n. first_of p a n none) s
