-- What the counters keep, whatever is taken or noted.
use Rattle.std.proofs.Common.{◌≡◌, ℕ, ◌+◌, zero, suc, ◌<◌, ◌≤◌, Bool, true, false, not, ◌&&◌, ◌||◌, ◌%◌, List, length, get_or, replicate, refl, sym, ◌∙◌, ap, arith, nat_eq, nat_lt, cond, None}
use Rattle.std.proofs.Math.ListN.{set}
use Rattle.std.proofs.lemmas.List.{length-set, get_or-replicate}
use Rattle.std.proofs.lemmas.Bool.Decides.{nat_tests}
use Rattle.pws_base.specs.Replicas.{is_other}
use Rattle.pws_event.specs.Histories.{nothing}
use Rattle.pws_event.specs.Counters.{Counters, IsCounters, HasTaken, counter_of, slot_of, is_own, is_waiting, CanCall}
use Rattle.pws_event.proofs.Latest.{counter_written, written}
use Rattle.pws_event.proofs.Waiting.{zero_slot, mod_small, after_answer as slots_after_answer, after_call as slots_after_call}
use Rattle.pws_event.proofs.Outgoing.{least_below}

all_same : (n x k : ℕ) → k < n → get_or (replicate n x) k 0 ≡ x
all_same n x k l = get_or-replicate n k x 0 l

zeros : (n k : ℕ) → get_or {A = ℕ} (replicate n 0) k 0 ≡ 0
zeros zero k = refl
zeros (suc n) zero = refl
zeros (suc n) (suc k) = zeros n k

counter_same : (x k : ℕ) (b : Bool) → nat_lt k 16 ≡ b → cond b (get_or (replicate 16 x) k 0) x ≡ x
counter_same x k true e = all_same 16 x k (grind (arith, nat_tests))
counter_same x k false e = refl

fresh_counter : (x k : ℕ) → counter_of (replicate 16 x) k x ≡ x
fresh_counter x k = counter_same x k (nat_lt k 16) refl

fresh_waiting : (g n : ℕ) → is_waiting (replicate 256 0) g n ≡ false
fresh_waiting g n = ap (λ x. nat_lt g 16 && not (nat_eq n 0) && nat_eq x n) (zeros 256 (slot_of g n)) ∙ zero_slot g n

-- before the first step
pub fresh : (me : ℕ) (layout : List ℕ) → HasTaken (record { me = me; layout = layout; last = replicate 16 0; low = replicate 16 1; called = replicate 16 0; waiting = replicate 256 0; answered = 0; ask = None; clock = 0 }) nothing
fresh me layout = record {
  requests = record { last = λ k. fresh_counter 0 k; low = λ k. fresh_counter 1 k };
  calls = record { last = λ k. fresh_counter 0 k; waiting = λ g n. fresh_waiting g n; answered = λ g n a. absurd (cc) };
  asks = record { answered = refl; asked = refl; ask = refl };
  clock = refl;
}

never_fresh : (g n : ℕ) (b : Bool) → is_waiting (replicate 256 0) g n ≡ true → ⊥
never_fresh g n b w = let none = fresh_waiting g n in cc

pub fresh_counters : (me : ℕ) (layout : List ℕ) → me < length layout → length layout ≤ 16 → IsCounters (record { me = me; layout = layout; last = replicate 16 0; low = replicate 16 1; called = replicate 16 0; waiting = replicate 256 0; answered = 0; ask = None; clock = 0 })
fresh_counters me layout own few = record {
  callers = (refl, refl);
  calls = (refl, refl);
  groups = few;
  own = own;
  small = λ k. omega (arith, zeros 16 k);
  few = λ k. omega (arith, zeros 16 k);
  least = λ k. omega (arith, fresh_counter 1 k);
  low = λ k. omega (arith, fresh_counter 1 k);
  near = λ k. omega (arith, fresh_counter 0 k, fresh_counter 1 k);
  window = λ g n w. absurd (never_fresh g n true w);
  clean = λ k. ap (is_own k) (zeros 256 k);
  answered = omega arith;
  none = λ g o. (fresh_counter 0 g, fresh_counter 1 g, fresh_counter 0 g);
}

own_window : (slots : List ℕ) (called number g n : ℕ) → (is_waiting slots called n ≡ true → (n < number) × (number < n + 16)) → nat_eq called g ≡ true → (b : Bool) → nat_eq number n ≡ b → cond b true (is_waiting slots g n) ≡ true → (n ≤ number) × (number < n + 16)
own_window slots called number g n free e true m w = let same : number ≡ n = grind (arith, nat_tests) in (omega (arith, same), omega (arith, same))
own_window slots called number g n free e false m w =
    let group : g ≡ called = grind (arith, nat_tests) in
    let h = free (ap (λ g. is_waiting slots g n) (sym group) ∙ w) in
    (omega (arith, h.0), h.1)

window_by : (slots numbers : List ℕ) (called number g n : ℕ) → length numbers ≡ 16 → length slots ≡ 256 → called < 16 → number ≡ counter_of numbers called 0 + 1
    → ((n : ℕ) → is_waiting slots called n ≡ true → (n < number) × (number < n + 16)) → ((g n : ℕ) → is_waiting slots g n ≡ true → (n ≤ counter_of numbers g 0) × (counter_of numbers g 0 < n + 16))
    → (b : Bool) → nat_eq called g ≡ b → cond (b && nat_eq number n) true (is_waiting slots g n) ≡ true → (n ≤ cond b number (counter_of numbers g 0)) × (cond b number (counter_of numbers g 0) < n + 16)
window_by slots numbers called number g n a size k next free window true e w = own_window slots called number g n (free n) e (nat_eq number n) refl w
window_by slots numbers called number g n a size k next free window false e w = window g n w

call_window : (slots numbers : List ℕ) (called number g n : ℕ) → length numbers ≡ 16 → length slots ≡ 256 → called < 16 → number ≡ counter_of numbers called 0 + 1
    → ((n : ℕ) → is_waiting slots called n ≡ true → (n < number) × (number < n + 16)) → ((g n : ℕ) → is_waiting slots g n ≡ true → (n ≤ counter_of numbers g 0) × (counter_of numbers g 0 < n + 16))
    → is_waiting (set slots (slot_of called number) number) g n ≡ true → (n ≤ counter_of (set numbers called number) g 0) × (counter_of (set numbers called number) g 0 < n + 16)
call_window slots numbers called number g n a size k next free window w =
    let at = counter_written numbers called g number 0 a k in
    let h = window_by slots numbers called number g n a size k next free window (nat_eq called g) refl (sym (slots_after_call slots called number g n size k (omega (arith, next)) (free n)) ∙ w) in
    (omega (arith, at, h.0), omega (arith, at, h.1))

not_called_by : (me : ℕ) (layout : List ℕ) (called g : ℕ) → is_other me layout called ≡ true → is_other me layout g ≡ false → (b : Bool) → nat_eq called g ≡ b → nat_eq called g ≡ false
not_called_by me layout called g o n true e = let same : called ≡ g = grind (arith, nat_tests) in absurd (let h = ap (is_other me layout) same in cc)
not_called_by me layout called g o n false e = e

not_called : (me : ℕ) (layout : List ℕ) (called g : ℕ) → is_other me layout called ≡ true → is_other me layout g ≡ false → nat_eq called g ≡ false
not_called me layout called g o n = not_called_by me layout called g o n (nat_eq called g) refl

pub other_small : (me : ℕ) (layout : List ℕ) (called : ℕ) → is_other me layout called ≡ true → length layout ≤ 16 → called < 16
other_small me layout called o l = grind (arith, nat_tests)

few_by : (numbers : List ℕ) (called g number : ℕ) → called < length numbers → number ≤ 1000000 → get_or numbers g 0 ≤ 1000000 → (b : Bool) → nat_eq called g ≡ b → get_or (set numbers called number) g 0 ≤ 1000000
few_by numbers called g number k small l true e = let at = written numbers called g number k in let own = ap (λ b. cond b number (get_or numbers g 0)) e in omega (arith, at, own, small)
few_by numbers called g number k small l false e = let at = written numbers called g number k in let own = ap (λ b. cond b number (get_or numbers g 0)) e in omega (arith, at, own, l)

-- ---- each slot has its own number

own_rest : (called number k : ℕ) → k ≡ slot_of called number → number % 16 ≡ k % 16
own_rest called number k e = omega (arith, e, mod_small number)

own_test : (z : Bool) (a b : ℕ) → a ≡ b → (z || nat_eq a b) ≡ true
own_test true a b e = refl
own_test false a b e = grind (arith, nat_tests, e)

own_number : (called number k : ℕ) → k ≡ slot_of called number → is_own k number ≡ true
own_number called number k e = own_test (nat_eq number 0) (number % 16) (k % 16) (own_rest called number k e)

eq_at : (i k : ℕ) → nat_eq i k ≡ true → k ≡ i
eq_at i k e = grind (arith, nat_tests)

-- so it is after a write of nothing, or of the slot's own number
clean_by : (slots : List ℕ) (i k y : ℕ) → i < length slots → (k ≡ i → is_own k y ≡ true) → is_own k (get_or slots k 0) ≡ true → (b : Bool) → nat_eq i k ≡ b → is_own k (get_or (set slots i y) k 0) ≡ true
clean_by slots i k y l new old true e = ap (is_own k) (written slots i k y l ∙ ap (λ b. cond b y (get_or slots k 0)) e) ∙ new (eq_at i k e)
clean_by slots i k y l new old false e = ap (is_own k) (written slots i k y l ∙ ap (λ b. cond b y (get_or slots k 0)) e) ∙ old

-- one more answer
still : (b w : Bool) → cond b false w ≡ true → w ≡ true
still true w h = absurd (let i : ◌≡◌ {A = Bool} false true = h in cc)
still false w h = h

waiting_small : (slots : List ℕ) (called number : ℕ) → is_waiting slots called number ≡ true → called < 16
waiting_small slots called number w = grind (arith, nat_tests, w)

pub answer_kept : (c : Counters) (called number : ℕ) → IsCounters c → is_waiting c.waiting called number ≡ true → IsCounters (record c { waiting = set c.waiting (slot_of called number) 0 })
answer_kept c called number s w =
    let k : called < 16 = waiting_small c.waiting called number w in
    record {
      callers = s.callers;
      calls = (s.calls.0, length-set c.waiting (slot_of called number) 0 ∙ s.calls.1);
      groups = s.groups;
      own = s.own;
      small = s.small;
      few = s.few;
      least = s.least;
      low = s.low;
      near = s.near;
      window = λ g n v. s.window g n (still (nat_eq called g && nat_eq number n) (is_waiting c.waiting g n) (sym (slots_after_answer c.waiting called number g n s.calls.1 k w) ∙ v));
      clean = λ i. clean_by c.waiting (slot_of called number) i 0 (omega (arith, mod_small number, k, s.calls.1)) (λ e. refl) (s.clean i) (nat_eq (slot_of called number) i) refl;
      answered = s.answered;
      none = s.none;
    }

-- one more call
pub call_kept : (c : Counters) (called number : ℕ) → IsCounters c → CanCall c called number → IsCounters (record c { called = set c.called called number; waiting = set c.waiting (slot_of called number) number })
call_kept c called number s can =
    let o = can.other in
    let next = can.next in
    let room = can.room in
    let small = can.small in
    let k : called < 16 = other_small c.me c.layout called o s.groups in
    record {
      callers = s.callers;
      calls = (length-set c.called called number ∙ s.calls.0, length-set c.waiting (slot_of called number) number ∙ s.calls.1);
      groups = s.groups;
      own = s.own;
      small = s.small;
      least = s.least;
      low = s.low;
      near = s.near;
      clean = λ i. clean_by c.waiting (slot_of called number) i number (omega (arith, mod_small number, k, s.calls.1)) (own_number called number i) (s.clean i) (nat_eq (slot_of called number) i) refl;
      few = λ g. few_by c.called called g number (omega (arith, k, s.calls.0)) small (s.few g) (nat_eq called g) refl;
      window = λ g n w. call_window c.waiting c.called called number g n s.calls.0 s.calls.1 k next (λ n w. (omega (arith, (s.window called n w).0, next), omega (arith, least_below c called n s w, room))) s.window w;
      answered = s.answered;
      none = λ g n. ((s.none g n).0, (s.none g n).1, counter_written c.called called g number 0 s.calls.0 k ∙ (ap (λ b. cond b number (counter_of c.called g 0)) (not_called c.me c.layout called g o n) ∙ (s.none g n).2));
    }

pub few_groups : (layout : List ℕ) (n : ℕ) → n ≡ length layout → n ≤ 16 → length layout ≤ 16
few_groups layout n e l = omega (arith, e, l)
