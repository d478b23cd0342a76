-- No ask waits where one more is lawful.
use Rattle.std.proofs.Common.{◌≡◌, ◌⊎◌, inl, inr, ℕ, zero, suc, ◌+◌, ◌<◌, ◌≤◌, ◌==◌, Bool, true, false, ◌&&◌, ◌||◌, cond, nat_eq, List, [], ◌∷◌, ◌++◌, length, slice_get, Option, Some, None, refl, sym, ◌∙◌, ap, arith, append_assoc, length-append}
use Rattle.std.specs.List.{list_any, filter_map, count_by}
use Rattle.std.specs.Option.{option_map, option_map_or}
use Rattle.std.proofs.lemmas.List.{append-nil}
use Rattle.std.proofs.lemmas.List.Elements.{filter_map-append}
use Rattle.std.proofs.lemmas.List.Folds.{list_any-append}
use Rattle.std.proofs.lemmas.List.Sums.{sum_by-append}
use Rattle.std.proofs.lemmas.Bool.Decides.{nat_tests}
use Rattle.pws_event.specs.declared.events.Event.{Event}
use Rattle.pws_event.specs.declared.events.Event.TheVariants as event
use Rattle.pws_event.specs.declared.readings.Sort.{Sort}
use Rattle.pws_event.specs.declared.readings.Sort.TheVariants as sort
use Rattle.pws_event.specs.Effects.{is_sort, answers_ask, answered_asks, ask_waits, waiting_ask}
use Rattle.pws_event.specs.Counters.{Counters, HasTaken, waiting_count}
use Rattle.pws_service.specs.declared.acts.Act.{Act}
use Rattle.pws_service.specs.declared.acts.Act.TheVariants as act
use Rattle.pws_service.specs.Effects.{ask_in, noted, takes_effect_after, InTurn}
use Rattle.pws_service.specs.Lawful.{is_clock, is_random}
use Rattle.pws_service.specs.Lawful.{is_ask, is_clock_ask, is_random_ask, AskAfter, LawfulAsks, IsLawfulAsk}
use Rattle.pws_service.specs.Noting.{led}

count_cons : {A : Type 0} (p : A → Bool) (x : A) (xs : List A) → count_by p (x ∷ xs) ≡ cond (p x) 1 0 + count_by p xs
count_cons p x xs = let t = sum_by-append (λ y. cond (p y) 1 0) (x ∷ []) xs in t ∙ omega arith

-- as many asks were noted as acts are asks
asked_count : (acts : List Act) → length (filter_map ask_in acts) ≡ count_by is_ask acts
asked_count [] = refl
asked_count (act.Call called number low body timeout ∷ acts) = omega (arith, asked_count acts, count_cons is_ask (act.Call called number low body timeout) acts)
asked_count (act.Reply caller number body ∷ acts) = omega (arith, asked_count acts, count_cons is_ask (act.Reply caller number body) acts)
asked_count (act.AskClock ask ∷ acts) = omega (arith, asked_count acts, count_cons is_ask (act.AskClock ask) acts)
asked_count (act.AskRandom ask ∷ acts) = omega (arith, asked_count acts, count_cons is_ask (act.AskRandom ask) acts)
asked_count (act.Halted ∷ acts) = omega (arith, asked_count acts, count_cons is_ask act.Halted acts)

-- ---- each number up to the count was asked for

abbrev Asked : ℕ → List Act → Type 0
Asked k acts = (list_any (is_clock_ask k) acts ≡ true) ⊎ (list_any (is_random_ask k) acts ≡ true)

or_right : (b : Bool) → (b || true) ≡ true
or_right true = refl
or_right false = refl

or_true : (a b : Bool) → (a || b) ≡ true → (a ≡ true) ⊎ (b ≡ true)
or_true true b h = inl refl
or_true false b h = inr h

any_before : {A : Type 0} (p : A → Bool) (xs ys : List A) → list_any p xs ≡ true → list_any p (xs ++ ys) ≡ true
any_before p xs ys h = rw (list_any-append p xs ys, h) refl

any_last : {A : Type 0} (p : A → Bool) (xs : List A) (y : A) → p y ≡ true → list_any p (xs ++ y ∷ []) ≡ true
any_last p xs y h = rw (list_any-append p xs (y ∷ []), h) (or_right (list_any p xs))

asked_before : (k : ℕ) (acts : List Act) (a : Act) → Asked k acts → Asked k (acts ++ a ∷ [])
asked_before k acts a (inl h) = inl (any_before (is_clock_ask k) acts (a ∷ []) h)
asked_before k acts a (inr h) = inr (any_before (is_random_ask k) acts (a ∷ []) h)

split_by : (k n : ℕ) (b : Bool) → nat_eq k (n + 1) ≡ b → k ≤ n + 1 → (k ≤ n) ⊎ (nat_eq (n + 1) k ≡ true)
split_by k n true e h = inr (grind (arith, nat_tests))
split_by k n false e h = inl (grind (arith, nat_tests))

count_more : (acts : List Act) (a : Act) → count_by is_ask (acts ++ a ∷ []) ≡ count_by is_ask acts + (0 + cond (is_ask a) 1 0)
count_more acts a = sum_by-append (λ (x : Act). cond (is_ask x) 1 0) acts (a ∷ [])

quiet : (acts : List Act) (a : Act) → is_ask a ≡ false → ((k : ℕ) → 1 ≤ k → k ≤ count_by is_ask acts → Asked k acts) → (k : ℕ) → 1 ≤ k → k ≤ count_by is_ask (acts ++ a ∷ []) → Asked k (acts ++ a ∷ [])
quiet acts a n all k l h =
    let c : count_by is_ask (acts ++ a ∷ []) ≡ count_by is_ask acts + (0 + 0) = count_more acts a ∙ ap (λ b. count_by is_ask acts + (0 + cond b 1 0)) n in
    asked_before k acts a (all k l (omega (arith, c, h)))

one_more : (es : List Event) (acts : List Act) (a : Act) → AskAfter es acts a → ((k : ℕ) → 1 ≤ k → k ≤ count_by is_ask acts → Asked k acts) → (k : ℕ) → 1 ≤ k → k ≤ count_by is_ask (acts ++ a ∷ []) → Asked k (acts ++ a ∷ [])
one_more es acts (act.Call called number low body timeout) f all k l h = quiet acts (act.Call called number low body timeout) refl all k l h
one_more es acts (act.Reply caller number body) f all k l h = quiet acts (act.Reply caller number body) refl all k l h
one_more es acts (act.AskClock ask) f all k l h = elim (split_by k (count_by is_ask acts) (nat_eq k (count_by is_ask acts + 1)) refl (omega (arith, count_more acts (act.AskClock ask), h))) [
  | inl m ↦ asked_before k acts (act.AskClock ask) (all k l m)
  | inr m ↦ inl (any_last (is_clock_ask k) acts (act.AskClock ask) (ap (λ (n : ℕ). nat_eq n k) f.number ∙ m))
]
one_more es acts (act.AskRandom ask) f all k l h = elim (split_by k (count_by is_ask acts) (nat_eq k (count_by is_ask acts + 1)) refl (omega (arith, count_more acts (act.AskRandom ask), h))) [
  | inl m ↦ asked_before k acts (act.AskRandom ask) (all k l m)
  | inr m ↦ inr (any_last (is_random_ask k) acts (act.AskRandom ask) (ap (λ (n : ℕ). nat_eq n k) f.number ∙ m))
]
one_more es acts act.Halted f all k l h = quiet acts act.Halted refl all k l h

all_asked : (es : List Event) (before acts : List Act) → LawfulAsks es before acts → ((k : ℕ) → 1 ≤ k → k ≤ count_by is_ask before → Asked k before) → (k : ℕ) → 1 ≤ k → k ≤ count_by is_ask (before ++ acts) → Asked k (before ++ acts)
all_asked es before [] l all = rw (append-nil before) all
all_asked es before (a ∷ acts) l all = rw (← append_assoc before (a ∷ []) acts) (all_asked es (before ++ a ∷ []) acts l.1 (one_more es before a l.0 all))

-- ---- an answer that took effect in turn counts

number_at : (n ask : ℕ) (b : Bool) → (nat_eq (n + 1) ask && b) ≡ true → ask ≡ n + 1
number_at n ask b h = grind (arith, nat_tests)

number_of : (n ask : ℕ) (s : Sort) (o : Option Sort) → option_map_or (λ (w : ℕ × Sort). nat_eq w.0 ask && is_sort w.1 s) (option_map (λ t. (n + 1, t)) o) false ≡ true → ask ≡ n + 1
number_of n ask s None h = let i : ◌≡◌ {A = Bool} false true = h in absurd (cc)
number_of n ask s (Some t) h = number_at n ask (is_sort t s) h

-- an event that answers the ask of this number in turn
abbrev InPlace : ℕ → List Event → Event → Type 0
InPlace k before e = (k ≡ answered_asks before + 1) × (answers_ask e ≡ true)

clock_in_place : (me : ℕ) (layout : List ℕ) (acts : List Act) (before : List Event) (k : ℕ) (e : Event) → takes_effect_after me layout acts before e ≡ true → is_clock k e ≡ true → InPlace k before e
clock_in_place me layout acts before k event.Null t h = let i : ◌≡◌ {A = Bool} false true = h in absurd (cc)
clock_in_place me layout acts before k (event.Request r) t h = let i : ◌≡◌ {A = Bool} false true = h in absurd (cc)
clock_in_place me layout acts before k (event.Reply r) t h = let i : ◌≡◌ {A = Bool} false true = h in absurd (cc)
clock_in_place me layout acts before k (event.Abort a) t h = let i : ◌≡◌ {A = Bool} false true = h in absurd (cc)
clock_in_place me layout acts before k (event.Clock c) t h = let n = number_of (answered_asks before) c.ask sort.Clock (slice_get (noted acts).asks (answered_asks before)) t in (grind (arith, nat_tests), refl)
clock_in_place me layout acts before k (event.Random r) t h = let i : ◌≡◌ {A = Bool} false true = h in absurd (cc)

random_in_place : (me : ℕ) (layout : List ℕ) (acts : List Act) (before : List Event) (k : ℕ) (e : Event) → takes_effect_after me layout acts before e ≡ true → is_random k e ≡ true → InPlace k before e
random_in_place me layout acts before k event.Null t h = let i : ◌≡◌ {A = Bool} false true = h in absurd (cc)
random_in_place me layout acts before k (event.Request r) t h = let i : ◌≡◌ {A = Bool} false true = h in absurd (cc)
random_in_place me layout acts before k (event.Reply r) t h = let i : ◌≡◌ {A = Bool} false true = h in absurd (cc)
random_in_place me layout acts before k (event.Abort a) t h = let i : ◌≡◌ {A = Bool} false true = h in absurd (cc)
random_in_place me layout acts before k (event.Clock c) t h = let i : ◌≡◌ {A = Bool} false true = h in absurd (cc)
random_in_place me layout acts before k (event.Random r) t h = let n = number_of (answered_asks before) r.ask sort.Random (slice_get (noted acts).asks (answered_asks before)) t in (grind (arith, nat_tests), refl)

counted : (k : ℕ) (before : List Event) (e : Event) (es : List Event) → InPlace k before e → k ≤ answered_asks (before ++ e ∷ es)
counted k before e es p =
    let c = sum_by-append (λ (x : Event). cond (answers_ask x) 1 0) before (e ∷ es) in
    let d : answered_asks (e ∷ es) ≡ 1 + answered_asks es = count_cons answers_ask e es ∙ ap (λ b. cond b 1 0 + answered_asks es) p.1 in
    omega (arith, c, d, p.0)

in_turn_counts : (me : ℕ) (layout : List ℕ) (serve : List Event → List Act) (k : ℕ) (p : Event → Bool) (before es : List Event)
    → ((before : List Event) (e : Event) → takes_effect_after me layout (serve before) before e ≡ true → p e ≡ true → InPlace k before e)
    → InTurn me layout serve before es → list_any p es ≡ true → k ≤ answered_asks (before ++ es)
in_turn_counts me layout serve k p before [] f t h = let i : ◌≡◌ {A = Bool} false true = h in absurd (cc)
in_turn_counts me layout serve k p before (e ∷ es) f t h = elim (or_true (p e) (list_any p es) h) [
  | inl a ↦ counted k before e es (f before e t.0 a)
  | inr a ↦ rw (← append_assoc before (e ∷ []) es) (in_turn_counts me layout serve k p (before ++ e ∷ []) es f t.1 a)
]

ask_none : (size count : ℕ) (o : Option Sort) → size ≡ count + waiting_count o → size ≤ count → o ≡ None
ask_none size count None h l = refl
ask_none size count (Some s) h l = absurd (omega (arith, h, l))

where_some : (n m : ℕ) → (1 ≤ n → n ≤ m) → n ≤ m
where_some zero m f = omega arith
where_some (suc n) m f = f (omega arith)

asked_answered : (me : ℕ) (layout : List ℕ) (serve : List Event → List Act) (es : List Event) (before : List Act) (ask k : ℕ) → InTurn me layout serve [] es → IsLawfulAsk es before ask → Asked k before → k ≤ answered_asks es
asked_answered me layout serve es before ask k t l (inl h) = in_turn_counts me layout serve k (is_clock k) [] es (λ fx e. clock_in_place me layout (serve fx) fx k e) t (l.clocks k h)
asked_answered me layout serve es before ask k t l (inr h) = in_turn_counts me layout serve k (is_random k) [] es (λ fx e. random_in_place me layout (serve fx) fx k e) t (l.randoms k h)

none_asked : (k : ℕ) → 1 ≤ k → k ≤ 0 → Asked k []
none_asked k l h = absurd (omega arith)

pub may_ask : (c : Counters) (serve : List Event → List Act) (es : List Event) (before : List Act) (ask : ℕ) → HasTaken c (led before es) → InTurn c.me c.layout serve [] es → LawfulAsks es [] before → IsLawfulAsk es before ask → c.ask ≡ None
unfolding noted
may_ask c serve es before ask h t asks l =
    let n = count_by is_ask before in
    let some : 1 ≤ n → n ≤ answered_asks es = λ m. asked_answered c.me c.layout serve es before ask n t l (all_asked es [] before asks none_asked n m (omega arith)) in
    let few : n ≤ answered_asks es = where_some n (answered_asks es) some in
    ask_none (length (filter_map ask_in before)) c.answered c.ask h.asks.asked (omega (arith, asked_count before, few, h.asks.answered))
