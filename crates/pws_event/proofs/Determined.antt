-- Counters that are those of a past are determined by it.
use Rattle.std.proofs.Common.{◌≡◌, ℕ, zero, suc, ◌+◌, ◌%◌, ◌/◌, ◌<◌, ◌==◌, Bool, true, false, not, ◌&&◌, cond, nat_eq, nat_lt, List, [], ◌∷◌, length, map, slice_get, slice_index, find, Option, Some, None, refl, sym, ◌∙◌, ap, subst, arith}
use Rattle.std.specs.List.{range_with_len, list_any}
use Rattle.std.specs.Option.{option_map, option_map_or}
use Rattle.std.proofs.lemmas.Bool.Decides.{nat_tests}
use Rattle.pws_event.specs.declared.readings.Sort.{Sort}
use Rattle.pws_event.specs.Effects.{Call, is_call, last_of, low_of, last_call, waits, is_answered, answered_asks}
use Rattle.pws_event.specs.Counters.{Counters, IsCounters, HasTaken, counter_of, slot_of, is_own, is_waiting}
use Rattle.pws_event.specs.Histories.{Past}
use Rattle.pws_event.specs.Determined.{is_in_slot, number_in, all_groups, counters_of}

-- a list is what a function gives for its indices
tabled : (f : ℕ → ℕ) (xs : List ℕ) (k n : ℕ) → length xs ≡ n → ((i : ℕ) → i < n → slice_index xs i ≡ f (k + i)) → xs ≡ map f (range_with_len k n)
tabled f [] k zero l h = refl
tabled f [] k (suc n) l h = absurd (omega (arith, l))
tabled f (x ∷ xs) k zero l h = absurd (omega (arith, l))
tabled f (x ∷ xs) k (suc n) l h =
    let first : x ≡ f k = h 0 (omega arith) ∙ ap f (omega arith) in
    let rest : xs ≡ map f (range_with_len (k + 1) n) = tabled f xs (k + 1) n (omega (arith, l)) (λ i b. h (suc i) (omega (arith, b)) ∙ ap f (omega arith)) in
    rw (← first, ← rest) refl

small_is : (i : ℕ) → i < 16 → nat_lt i 16 ≡ true
small_is i b = grind (arith, nat_tests)

counter_is : (xs : List ℕ) (none i : ℕ) → i < 16 → counter_of xs i none ≡ slice_index xs i
counter_is xs none i b = let e = small_is i b in rw e refl

counted_16 : (xs : List ℕ) (none : ℕ) (f : ℕ → ℕ) → length xs ≡ 16 → ((g : ℕ) → counter_of xs g none ≡ f g) → xs ≡ map f all_groups
counted_16 xs none f l h = tabled f xs 0 16 l (λ i b. sym (counter_is xs none i b) ∙ h i ∙ ap f (omega arith))

no_true : {A : Type 0} → ◌≡◌ {A = Bool} false true → A
no_true h = absurd (cc)

-- what waits by the slots stands in its slot
stands : (slots : List ℕ) (called number : ℕ) → is_waiting slots called number ≡ true → slice_index slots (slot_of called number) ≡ number
stands slots called number h = grind (arith, nat_tests, h)

both_if : (a b : Bool) → a && b ≡ true → (a ≡ true) × (b ≡ true)
both_if true true h = (refl, refl)
both_if true false h = no_true h
both_if false b h = no_true h

-- the first call that a test takes passes it; where none is taken, no call passes
some_is : (x c : Call) → Some x ≡ Some c → x ≡ c
some_is x c h = cc

some_none : {A : Type 0} (x : Call) → ◌≡◌ {A = Option Call} (Some x) None → A
some_none x h = absurd (cc)

found_by : (b : Bool) (p : Call → Bool) (x c : Call) (o : Option Call) → p x ≡ b → cond b (Some x) o ≡ Some c → (o ≡ Some c → p c ≡ true) → p c ≡ true
found_by true p x c o e h more = subst (λ y. p y ≡ true) (some_is x c h) e
found_by false p x c o e h more = more h

none_some : {A : Type 0} (x : Call) → ◌≡◌ {A = Option Call} None (Some x) → A
none_some x h = absurd (cc)

found_passes : (p : Call → Bool) (cs : List Call) (c : Call) → find p cs ≡ Some c → p c ≡ true
found_passes p [] c h = none_some c h
found_passes p (x ∷ cs) c h = found_by (p x) p x c (find p cs) refl h (found_passes p cs c)

not_taken : (b : Bool) (x : Call) (o : Option Call) → cond b (Some x) o ≡ None → (b ≡ false) × (o ≡ None)
not_taken true x o h = some_none x h
not_taken false x o h = (refl, h)

is_false : (b : Bool) → (b ≡ true → false ≡ true) → b ≡ false
is_false true h = sym (h refl)
is_false false h = refl

none_passes : (p q : Call → Bool) (cs : List Call) → ((c : Call) → q c ≡ true → p c ≡ true) → find p cs ≡ None → list_any q cs ≡ false
none_passes p q [] h n = refl
none_passes p q (x ∷ cs) h n =
    let o = not_taken (p x) x (find p cs) n in
    let here : q x ≡ false = is_false (q x) (λ e. sym o.0 ∙ h x e) in
    rw (here) (none_passes p q cs h o.1)

eq_is : (a b : ℕ) → nat_eq a b ≡ true → a ≡ b
eq_is a b h = grind (arith, nat_tests, h)

is_eq : (a b : ℕ) → a ≡ b → nat_eq a b ≡ true
is_eq a b h = grind (arith, nat_tests, h)

slot_found : (c : Counters) (past : Past) (i : ℕ) (d : Call) → HasTaken c past → is_in_slot past i d ≡ true → slice_index c.waiting i ≡ d.number
slot_found c past i d h p =
    let parts = both_if (slot_of d.called d.number == i) (waits past.acts past.effects d.called d.number) p in
    let at : slot_of d.called d.number ≡ i = eq_is (slot_of d.called d.number) i parts.0 in
    subst (λ j. slice_index c.waiting j ≡ d.number) at (stands c.waiting d.called d.number (h.calls.waiting d.called d.number ∙ parts.1))

calls_in_slot : (past : Past) (i called v : ℕ) → slot_of called v ≡ i → waits past.acts past.effects called v ≡ true → (d : Call) → is_call called v d ≡ true → is_in_slot past i d ≡ true
calls_in_slot past i called v at w d q =
    let parts = both_if (d.called == called) (d.number == v) q in
    let a : d.called ≡ called = eq_is d.called called parts.0 in
    let b : d.number ≡ v = eq_is d.number v parts.1 in
    rw (a, b, w, is_eq (slot_of called v) i at) refl

waiting_if : (slots : List ℕ) (called v i : ℕ) → called < 16 → nat_eq v 0 ≡ false → slot_of called v ≡ i → slice_index slots i ≡ v → is_waiting slots called v ≡ true
waiting_if slots called v i s n at here =
    rw (small_is called s, n, at, here, is_eq v v refl) refl

empty_if : (c : Counters) (past : Past) (i called v : ℕ) (b : Bool) → HasTaken c past → find (is_in_slot past i) past.acts.calls ≡ None → called < 16 → slot_of called v ≡ i → slice_index c.waiting i ≡ v → nat_eq v 0 ≡ b → v ≡ 0
empty_if c past i called v true h n s at here e = eq_is v 0 e
empty_if c past i called v false h n s at here e =
    let w : waits past.acts past.effects called v ≡ true = sym (h.calls.waiting called v) ∙ waiting_if c.waiting called v i s e at here in
    let made = both_if (list_any (is_call called v) past.acts.calls) (not (is_answered called v past.effects)) w in
    let none = none_passes (is_in_slot past i) (is_call called v) past.acts.calls (calls_in_slot past i called v at w) n in
    no_true (sym none ∙ made.0)

-- the group whose slot this is
group_at : (i v : ℕ) → i < 256 → v % 16 ≡ i % 16 → (called : ℕ) × (called < 16) × (slot_of called v ≡ i)
group_at i v b e = (i / 16, omega (arith, b), omega (arith, e))

own_is : (i v : ℕ) → is_own i v ≡ true → nat_eq v 0 ≡ false → v % 16 ≡ i % 16
own_is i v h n = grind (arith, nat_tests, h, n)

empty_by : (c : Counters) (past : Past) (i v : ℕ) (b : Bool) → HasTaken c past → i < 256 → find (is_in_slot past i) past.acts.calls ≡ None → slice_index c.waiting i ≡ v → is_own i v ≡ true → nat_eq v 0 ≡ b → v ≡ 0
empty_by c past i v true h b n here own e = eq_is v 0 e
empty_by c past i v false h b n here own e =
    let g = group_at i v b (own_is i v own e) in
    empty_if c past i g.0 v false h n g.1 g.2 here e

slot_is : (c : Counters) (past : Past) (i : ℕ) (o : Option Call) → IsCounters c → HasTaken c past → i < 256 → find (is_in_slot past i) past.acts.calls ≡ o → slice_index c.waiting i ≡ option_map_or (λ (d : Call). d.number) o 0
slot_is c past i (Some d) ok h b f = slot_found c past i d h (found_passes (is_in_slot past i) past.acts.calls d f)
slot_is c past i None ok h b f = empty_by c past i (slice_index c.waiting i) (nat_eq (slice_index c.waiting i) 0) h b f refl (ok.clean i) refl

ask_is : (s : Option Sort) (n : ℕ) → s ≡ option_map (λ (w : ℕ × Sort). w.1) (option_map (λ x. (n, x)) s)
ask_is None n = refl
ask_is (Some x) n = refl

same_counters : (me : ℕ) (layout a a' b b' d d' w w' : List ℕ) (n n' : ℕ) (s s' : Option Sort) (t t' : ℕ) → a ≡ a' → b ≡ b' → d ≡ d' → w ≡ w' → n ≡ n' → s ≡ s' → t ≡ t'
    → ◌≡◌ {A = Counters} (record { me = me; layout = layout; last = a; low = b; called = d; waiting = w; answered = n; ask = s; clock = t })
    (record { me = me; layout = layout; last = a'; low = b'; called = d'; waiting = w'; answered = n'; ask = s'; clock = t' })
same_counters me layout a a' b b' d d' w w' n n' s s' t t' ea eb ed ew en es et = rw (ea, eb, ed, ew, en, es, et) refl

pub determined : (c : Counters) (past : Past) → IsCounters c → HasTaken c past → c ≡ counters_of c.me c.layout past
unfolding counters_of
determined c past ok h =
    same_counters c.me c.layout c.last _ c.low _ c.called _ c.waiting _ c.answered _ c.ask _ c.clock _
    (counted_16 c.last 0 (λ g. last_of g past.effects) ok.callers.0 h.requests.last)
    (counted_16 c.low 1 (λ g. low_of g past.effects) ok.callers.1 h.requests.low)
    (counted_16 c.called 0 (last_call past.acts.calls) ok.calls.0 h.calls.last)
    (tabled (number_in past) c.waiting 0 256 ok.calls.1 (λ i b. slot_is c past i (find (is_in_slot past i) past.acts.calls) ok h b refl ∙ ap (number_in past) (omega arith)))
    h.asks.answered
    (h.asks.ask ∙ ap (slice_get past.acts.asks) h.asks.answered ∙ ask_is (slice_get past.acts.asks (answered_asks past.effects)) (answered_asks past.effects + 1))
    h.clock

pub one_each : (c d : Counters) (past : Past) → IsCounters c → IsCounters d → c.me ≡ d.me → c.layout ≡ d.layout → HasTaken c past → HasTaken d past → c ≡ d
one_each c d past ok other me layout h g = determined c past ok h ∙ (ap (λ m. counters_of m c.layout past) me ∙ (ap (λ l. counters_of d.me l past) layout ∙ sym (determined d past other g)))
