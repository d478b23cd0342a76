-- The slots of the calls that wait.
use Rattle.std.proofs.Common.{◌≡◌, ◌≢◌, ◌⊎◌, inl, inr, ℕ, ◌+◌, ◌%◌, ◌<◌, ◌≤◌, Bool, true, false, not, ◌&&◌, ◌||◌, List, [], ◌∷◌, ◌++◌, length, get_or, refl, sym, ◌∙◌, ap, arith, nat_eq, nat_lt, cond}
use Rattle.std.proofs.Math.ListN.{set}
use Rattle.std.proofs.Math.Bool.{or-false}
use Rattle.std.specs.List.{list_any}
use Rattle.std.proofs.lemmas.Grind.{fold-append, get_or-set_at}
use Rattle.std.proofs.lemmas.List.{get_or-set_other}
use Rattle.std.proofs.lemmas.List.Folds.{list_any-append}
use Rattle.std.proofs.lemmas.Bool.{cases_eq}
use Rattle.std.proofs.lemmas.Bool.Decides.{nat_tests}
use Rattle.pws_event.specs.declared.events.Event.{Event}
use Rattle.pws_event.specs.Effects.{Call, is_call, answers, is_answered, last_call}
use Rattle.pws_event.specs.Histories.{Past, with_call}
use Rattle.pws_event.specs.Counters.{counter_of, slot_of, is_waiting, CountsCalls}
use Rattle.pws_event.proofs.Latest.{counter_written}

pub mod_small : (n : ℕ) → n % 16 < 16
mod_small n = omega arith

-- two calls of different slots, of one slot
pub slot_apart : (waiting : List ℕ) (called number value g n : ℕ) → slot_of g n ≢ slot_of called number → is_waiting (set waiting (slot_of called number) value) g n ≡ is_waiting waiting g n
slot_apart waiting called number value g n h = ap (λ x. nat_lt g 16 && not (nat_eq n 0) && nat_eq x n) (get_or-set_other waiting (slot_of called number) (slot_of g n) value 0 h)

pub slot_same : (waiting : List ℕ) (called number value g n : ℕ) → length waiting ≡ 256 → called < 16 → slot_of g n ≡ slot_of called number → is_waiting (set waiting (slot_of called number) value) g n ≡ (nat_lt g 16 && not (nat_eq n 0) && nat_eq value n)
slot_same waiting called number value g n size k e =
    let small : slot_of called number < length waiting = omega (arith, mod_small number) in
    ap (λ x. nat_lt g 16 && not (nat_eq n 0) && nat_eq x n) (get_or-set_at waiting (slot_of called number) (slot_of g n) value 0 e small)

pub same_call : (called number g n : ℕ) → slot_of g n ≡ slot_of called number → (g ≡ called) × (n % 16 ≡ number % 16)
same_call called number g n e = (omega (arith, mod_small n, mod_small number), omega (arith, mod_small n, mod_small number))

pub close : (n number : ℕ) → n % 16 ≡ number % 16 → n < number → number < n + 16 → ⊥
close n number e a b = omega arith

-- the number of the last call after one more
last_after : (calls : List Call) (called number g : ℕ) → last_call (calls ++ record { called = called; number = number } ∷ []) g ≡ cond (nat_eq called g) number (last_call calls g)
last_after calls called number g = fold-append (λ last (c : Call). cond (nat_eq c.called g) c.number last) 0 calls (record { called = called; number = number } ∷ [])

called_after : (calls : List Call) (called number g n : ℕ) → list_any (is_call g n) (calls ++ record { called = called; number = number } ∷ []) ≡ (list_any (is_call g n) calls || (nat_eq called g && nat_eq number n))
called_after calls called number g n = list_any-append (is_call g n) calls (record { called = called; number = number } ∷ []) ∙ ap (λ b. list_any (is_call g n) calls || b) (or-false (nat_eq called g && nat_eq number n))

answered_after : (fx : List Event) (e : Event) (g n : ℕ) → is_answered g n (fx ++ e ∷ []) ≡ (is_answered g n fx || answers g n e)
answered_after fx e g n = list_any-append (answers g n) fx (e ∷ []) ∙ ap (λ b. is_answered g n fx || b) (or-false (answers g n e))

waits_answered : (called answered : Bool) → (called && not (answered || true)) ≡ false
waits_answered true true = refl
waits_answered true false = refl
waits_answered false true = refl
waits_answered false false = refl

not_waiting : (g16 n0 : Bool) → (g16 && n0 && false) ≡ false
not_waiting true true = refl
not_waiting true false = refl
not_waiting false true = refl
not_waiting false false = refl

-- a number that another stands for in its slot doesn't wait
displaced : (slots : List ℕ) (called number n : ℕ) → is_waiting slots called number ≡ true → slot_of called n ≡ slot_of called number → (n ≡ number → ⊥) → is_waiting slots called n ≡ false
displaced slots called number n w e other =
    let stands : get_or slots (slot_of called number) 0 ≡ number = grind (arith, nat_tests) in
    let at : get_or slots (slot_of called n) 0 ≡ number = ap (λ i. get_or slots i 0) e ∙ stands in
    let apart : nat_eq (get_or slots (slot_of called n) 0) n ≡ false = grind (arith, nat_tests) in
    ap (λ b. nat_lt called 16 && not (nat_eq n 0) && b) apart ∙ not_waiting (nat_lt called 16) (not (nat_eq n 0))

pub zero_slot : (g n : ℕ) → (nat_lt g 16 && not (nat_eq n 0) && nat_eq 0 n) ≡ false
zero_slot g n = grind (arith, nat_tests)

not_both_by : (called number g n : ℕ) → (slot_of g n ≡ slot_of called number → ⊥) → (a b : Bool) → nat_eq called g ≡ a → nat_eq number n ≡ b → (a && b) ≡ false
not_both_by called number g n h true true x y =
    let group : called ≡ g = grind (arith, nat_tests) in
    let own : number ≡ n = grind (arith, nat_tests) in
    absurd (h (ap (λ g. slot_of g n) (sym group) ∙ ap (slot_of called) (sym own)))
not_both_by called number g n h true false x y = refl
not_both_by called number g n h false b x y = refl

not_both : (called number g n : ℕ) → (slot_of g n ≡ slot_of called number → ⊥) → (nat_eq called g && nat_eq number n) ≡ false
not_both called number g n h = not_both_by called number g n h (nat_eq called g) (nat_eq number n) refl refl

both : (called number g n : ℕ) → (nat_eq called g && nat_eq number n) ≡ true → n ≡ number
both called number g n h = grind (arith, nat_tests)

not_other : (called number g n : ℕ) → (nat_eq called g && nat_eq number n) ≡ false → g ≡ called → n ≡ number → ⊥
not_other called number g n h a b = grind (arith, nat_tests)

-- the slots after an answer
after_answer_by : (slots : List ℕ) (called number g n : ℕ) (b : Bool) → length slots ≡ 256 → called < 16 → is_waiting slots called number ≡ true → (nat_eq called g && nat_eq number n) ≡ b → (slot_of g n ≡ slot_of called number) ⊎ (slot_of g n ≡ slot_of called number → ⊥) → is_waiting (set slots (slot_of called number) 0) g n ≡ cond b false (is_waiting slots g n)
after_answer_by slots called number g n b size k w e (inr apart) =
    let other : (nat_eq called g && nat_eq number n) ≡ false = not_both called number g n apart in
    let none : b ≡ false = sym e ∙ other in
    slot_apart slots called number 0 g n apart ∙ ap (λ b. cond b false (is_waiting slots g n)) (sym none)
after_answer_by slots called number g n true size k w e (inl same) = slot_same slots called number 0 g n size k same ∙ zero_slot g n
after_answer_by slots called number g n false size k w e (inl same) =
    let group : g ≡ called = (same_call called number g n same).0 in
    let other : n ≡ number → ⊥ = λ m. not_other called number g n e group m in
    let here : slot_of called n ≡ slot_of called number = ap (λ g. slot_of g n) (sym group) ∙ same in
    slot_same slots called number 0 g n size k same ∙ (zero_slot g n ∙ sym (ap (λ g. is_waiting slots g n) group ∙ displaced slots called number n w here other))

pub after_answer : (slots : List ℕ) (called number g n : ℕ) → length slots ≡ 256 → called < 16 → is_waiting slots called number ≡ true → is_waiting (set slots (slot_of called number) 0) g n ≡ cond (nat_eq called g && nat_eq number n) false (is_waiting slots g n)
after_answer slots called number g n size k w = after_answer_by slots called number g n (nat_eq called g && nat_eq number n) size k w refl (cases_eq (slot_of g n) (slot_of called number))

own_slot : (called number : ℕ) → called < 16 → 1 ≤ number → (nat_lt called 16 && not (nat_eq number 0) && nat_eq number number) ≡ true
own_slot called number k p = grind (arith, nat_tests)

-- a number that isn't among the sixteen before the next stands in another slot, or doesn't wait
free_slot : (slots : List ℕ) (called number n : ℕ) → (is_waiting slots called n ≡ true → (n < number) × (number < n + 16)) → n % 16 ≡ number % 16 → (b : Bool) → is_waiting slots called n ≡ b → is_waiting slots called n ≡ false
free_slot slots called number n free e true w = absurd (close n number e (free w).0 (free w).1)
free_slot slots called number n free e false w = w

other_slot : (g n number : ℕ) → (n ≡ number → ⊥) → (nat_lt g 16 && not (nat_eq n 0) && nat_eq number n) ≡ false
other_slot g n number h =
    let apart : nat_eq number n ≡ false = grind (arith, nat_tests) in
    ap (λ b. nat_lt g 16 && not (nat_eq n 0) && b) apart ∙ not_waiting (nat_lt g 16) (not (nat_eq n 0))

-- the slots after a call
after_call_by : (slots : List ℕ) (called number g n : ℕ) (b : Bool) → length slots ≡ 256 → called < 16 → 1 ≤ number → (is_waiting slots called n ≡ true → (n < number) × (number < n + 16)) → (nat_eq called g && nat_eq number n) ≡ b → (slot_of g n ≡ slot_of called number) ⊎ (slot_of g n ≡ slot_of called number → ⊥) → is_waiting (set slots (slot_of called number) number) g n ≡ cond b true (is_waiting slots g n)
after_call_by slots called number g n b size k p free e (inr apart) =
    let other : (nat_eq called g && nat_eq number n) ≡ false = not_both called number g n apart in
    let none : b ≡ false = sym e ∙ other in
    slot_apart slots called number number g n apart ∙ ap (λ b. cond b true (is_waiting slots g n)) (sym none)
after_call_by slots called number g n true size k p free e (inl same) =
    let group : g ≡ called = (same_call called number g n same).0 in
    let own : n ≡ number = both called number g n e in
    slot_same slots called number number g n size k same ∙ (ap (λ m. nat_lt g 16 && not (nat_eq m 0) && nat_eq number m) own ∙ (ap (λ g. nat_lt g 16 && not (nat_eq number 0) && nat_eq number number) group ∙ own_slot called number k p))
after_call_by slots called number g n false size k p free e (inl same) =
    let group : g ≡ called = (same_call called number g n same).0 in
    let other : n ≡ number → ⊥ = λ m. not_other called number g n e group m in
    let same_rest : n % 16 ≡ number % 16 = (same_call called number g n same).1 in
    slot_same slots called number number g n size k same ∙ (other_slot g n number other ∙ sym (ap (λ g. is_waiting slots g n) group ∙ free_slot slots called number n free same_rest (is_waiting slots called n) refl))

pub after_call : (slots : List ℕ) (called number g n : ℕ) → length slots ≡ 256 → called < 16 → 1 ≤ number → (is_waiting slots called n ≡ true → (n < number) × (number < n + 16)) → is_waiting (set slots (slot_of called number) number) g n ≡ cond (nat_eq called g && nat_eq number n) true (is_waiting slots g n)
after_call slots called number g n size k p free = after_call_by slots called number g n (nat_eq called g && nat_eq number n) size k p free refl (cases_eq (slot_of g n) (slot_of called number))

answered_waits : (called answered b w : Bool) → w ≡ (called && not answered) → cond b false w ≡ (called && not (answered || b))
answered_waits called answered true w e = sym (waits_answered called answered)
answered_waits called answered false w e = e ∙ ap (λ a. called && not a) (sym (or-false answered))

called_waits : (called answered b w : Bool) → w ≡ (called && not answered) → (b ≡ true → answered ≡ false) → cond b true w ≡ ((called || b) && not answered)
called_waits true answered true w e free = ap (λ a. not a) (sym (free refl))
called_waits false answered true w e free = ap (λ a. not a) (sym (free refl))
called_waits called answered false w e free = e ∙ ap (λ a. a && not answered) (sym (or-false called))

answered_before : (last : ℕ → ℕ) (called number g n : ℕ) (answered : Bool) → number ≤ last called → (answered ≡ true → n ≤ last g) → (answered || (nat_eq called g && nat_eq number n)) ≡ true → n ≤ last g
answered_before last called number g n true l h a = h refl
answered_before last called number g n false l h a =
    let group : g ≡ called = grind (arith, nat_tests) in
    let own : n ≡ number = both called number g n a in
    omega (arith, ap last group, own, l)

unanswered : (past : Past) (called number g n : ℕ) → (nat_eq called g && nat_eq number n) ≡ true → last_call past.acts.calls called < number → (is_answered g n past.effects ≡ true → n ≤ last_call past.acts.calls g) → (a : Bool) → is_answered g n past.effects ≡ a → is_answered g n past.effects ≡ false
unanswered past called number g n b l h false e = e
unanswered past called number g n b l h true e =
    let group : g ≡ called = grind (arith, nat_tests) in
    let own : n ≡ number = both called number g n b in
    absurd (omega (arith, h e, ap (last_call past.acts.calls) group, own, l))

below_by : (calls : List Call) (called number g n : ℕ) → last_call calls called < number → n ≤ last_call calls g → (b : Bool) → nat_eq called g ≡ b → n ≤ cond b number (last_call calls g)
below_by calls called number g n l h true e = let group : g ≡ called = grind (arith, nat_tests) in omega (arith, ap (last_call calls) group, l, h)
below_by calls called number g n l h false e = h

below_last : (calls : List Call) (called number g n : ℕ) → last_call calls called < number → n ≤ last_call calls g → n ≤ last_call (calls ++ record { called = called; number = number } ∷ []) g
below_last calls called number g n l h = rw (last_after calls called number g) (below_by calls called number g n l h (nat_eq called g) refl)

-- one more effect that answers a call that waits
pub answered_more : (numbers slots : List ℕ) (past : Past) (e : Event) (called number : ℕ) → length slots ≡ 256 → called < 16 → is_waiting slots called number ≡ true → number ≤ counter_of numbers called 0 → ((g n : ℕ) → answers g n e ≡ (nat_eq called g && nat_eq number n)) → CountsCalls numbers slots past → CountsCalls numbers (set slots (slot_of called number) 0) (record past { effects = past.effects ++ e ∷ [] })
answered_more numbers slots past e called number size k w l same h = record {
  last = h.last;
  waiting = λ g n. after_answer slots called number g n size k w ∙ (answered_waits (list_any (is_call g n) past.acts.calls) (is_answered g n past.effects) (nat_eq called g && nat_eq number n) (is_waiting slots g n) (h.waiting g n) ∙ ap (λ b. list_any (is_call g n) past.acts.calls && not b) (sym (answered_after past.effects e g n ∙ ap (λ b. is_answered g n past.effects || b) (same g n))));
  answered = λ g n a. answered_before (last_call past.acts.calls) called number g n (is_answered g n past.effects) (omega (arith, h.last called)) (h.answered g n) (ap (λ b. is_answered g n past.effects || b) (sym (same g n)) ∙ (sym (answered_after past.effects e g n) ∙ a));
}

-- one more effect that answers no call
pub calls_same : (numbers slots : List ℕ) (past : Past) (e : Event) → ((g n : ℕ) → answers g n e ≡ false) → CountsCalls numbers slots past → CountsCalls numbers slots (record past { effects = past.effects ++ e ∷ [] })
calls_same numbers slots past e none h =
    let same : (g n : ℕ) → is_answered g n (past.effects ++ e ∷ []) ≡ is_answered g n past.effects = λ g n. answered_after past.effects e g n ∙ (ap (λ b. is_answered g n past.effects || b) (none g n) ∙ or-false (is_answered g n past.effects)) in
    record {
      last = h.last;
      waiting = λ g n. h.waiting g n ∙ ap (λ b. list_any (is_call g n) past.acts.calls && not b) (sym (same g n));
      answered = λ g n a. h.answered g n (sym (same g n) ∙ a);
    }

-- one more call
pub called_more : (numbers slots : List ℕ) (past : Past) (called number : ℕ) → length numbers ≡ 16 → length slots ≡ 256 → called < 16 → number ≡ counter_of numbers called 0 + 1 → ((n : ℕ) → is_waiting slots called n ≡ true → (n < number) × (number < n + 16)) → CountsCalls numbers slots past → CountsCalls (set numbers called number) (set slots (slot_of called number) number) (record past { acts = with_call called number past.acts })
called_more numbers slots past called number sixteen size k next free h = record {
  last = λ g. counter_written numbers called g number 0 sixteen k ∙ (ap (cond (nat_eq called g) number) (h.last g) ∙ sym (last_after past.acts.calls called number g));
  waiting = λ g n. after_call slots called number g n size k (omega (arith, next)) (free n) ∙ (called_waits (list_any (is_call g n) past.acts.calls) (is_answered g n past.effects) (nat_eq called g && nat_eq number n) (is_waiting slots g n) (h.waiting g n) (λ b. unanswered past called number g n b (omega (arith, next, h.last called)) (h.answered g n) (is_answered g n past.effects) refl) ∙ ap (λ b. b && not (is_answered g n past.effects)) (sym (called_after past.acts.calls called number g n)));
  answered = λ g n a. below_last past.acts.calls called number g n (omega (arith, next, h.last called)) (h.answered g n a);
}
