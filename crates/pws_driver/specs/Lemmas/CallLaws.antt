-- The calls of a run are lawful. It is here for the proofs alone.
use Rattle.std.proofs.Common.{◌≡◌, ◌≢◌, ◌⊎◌, inl, inr, ℕ, ◌+◌, ◌<◌, ◌≤◌, Bool, true, false, ◌||◌, cond, max, nat_eq, List, [], ◌∷◌, ◌++◌, length, slice_index, slice_set, refl, sym, ◌∙◌, ap, arith, append_assoc}
use Rattle.std.specs.List.{list_any}
use Rattle.std.proofs.lemmas.Bool.Decides.{nat_tests}
use Rattle.std.proofs.lemmas.Grind.{get_or-set_at}
use Rattle.std.proofs.lemmas.List.{append-nil, get_or-set_other, length-set}
use Rattle.std.proofs.lemmas.List.Folds.{list_any-append}
use Rattle.std.proofs.lemmas.List.Sums.{fold-append, sum_by-append}
use Rattle.pws_service.specs.declared.keys.Key.{Key}
use Rattle.pws_event.specs.declared.events.Event.{Event}
use Rattle.pws_service.specs.declared.acts.Act.{Act}
use Rattle.pws_service.specs.declared.acts.Act.TheVariants as act
use Rattle.pws_service.specs.Keys.{same_key}
use Rattle.pws_driver.specs.Keys.{has_key, without}
use Rattle.pws_driver.specs.Lemmas.KeyLists.{low_among, Rising, same_groups, has_added, has_kept, has_new, has_without, has_others, low_at_least, low_at_most, rising_added, rising_without, or_true, key_same, low_least_in}
use Rattle.pws_service.specs.Lawful.{is_call, is_answer, to_group, calls_to, after_call, greatest_low, IsLawfulCall, CallAfter, LawfulCalls}

-- ---- acts, one more

pub calls_more : (g : ℕ) (acts : List Act) (a : Act) → calls_to g (acts ++ a ∷ []) ≡ calls_to g acts + cond (to_group g a) 1 0
calls_more g acts a = sum_by-append (λ x. cond (to_group g x) 1 0) acts (a ∷ []) ∙ omega arith

pub greatest_more : (g : ℕ) (acts : List Act) (a : Act) → greatest_low g (acts ++ a ∷ []) ≡ after_call g (greatest_low g acts) a
greatest_more g acts a = fold-append (after_call g) 0 acts (a ∷ [])

pub lawful_more : (me : ℕ) (layout : List ℕ) (effects : List Event) (before acts : List Act) (a : Act) → LawfulCalls me layout effects before acts → CallAfter me layout effects (before ++ acts) a → LawfulCalls me layout effects before (acts ++ a ∷ [])
lawful_more me layout effects before [] a l h = (rw (← append-nil before) h, tt)
lawful_more me layout effects before (b ∷ acts) a l h = (l.0, lawful_more me layout effects (before ++ b ∷ []) acts a l.1 (rw (append_assoc before (b ∷ []) acts) h))

pub any_more : {X : Type 0} (test : X → Bool) (xs : List X) (x : X) → list_any test (xs ++ x ∷ []) ≡ true → (list_any test xs ≡ true) ⊎ (test x ≡ true)
any_more test xs x h = elim (or_true (list_any test xs) (test x || false) (sym (list_any-append test xs (x ∷ [])) ∙ h)) [
  | inl a ↦ inl a
  | inr b ↦ elim (or_true (test x) false b) [ inl c ↦ inr c | inr d ↦ let i : ◌≡◌ {A = Bool} false true = d in absurd (cc) ]
]

any_before : {X : Type 0} (test : X → Bool) (xs : List X) (x : X) → test x ≡ false → list_any test (xs ++ x ∷ []) ≡ true → list_any test xs ≡ true
any_before test xs x f h = elim (any_more test xs x h) [ inl a ↦ a | inr b ↦ let i : ◌≡◌ {A = Bool} false true = sym f ∙ b in absurd (cc) ]

-- ---- what a run keeps of its calls

pub record CallsKept (me : ℕ) (layout : List ℕ) (effects : List Event) (called : List ℕ) (pending : List Key) (acts : List Act) : Type 0 where
  pub lawful : LawfulCalls me layout effects [] acts
  pub long : length called ≡ 16
  pub counts : (g : ℕ) → g < 16 → slice_index called g ≡ calls_to g acts
  pub answered : (k : Key) → list_any (is_call k) acts ≡ true → (has_key pending k ≡ true) ⊎ (list_any (is_answer k) effects ≡ true)
  pub within : (k : Key) → has_key pending k ≡ true → (1 ≤ k.number) × (k.number ≤ calls_to k.group acts)
  pub rising : Rising pending
  pub lows : (g : ℕ) → greatest_low g acts ≤ low_among pending g (calls_to g acts + 1)

-- an act that is no call
quiet_kept : (me : ℕ) (layout : List ℕ) (effects : List Event) (called : List ℕ) (pending : List Key) (acts : List Act) (a : Act) → ((g : ℕ) → to_group g a ≡ false) → ((g n : ℕ) → after_call g n a ≡ n) → ((k : Key) → is_call k a ≡ false) → CallAfter me layout effects acts a → CallsKept me layout effects called pending acts → CallsKept me layout effects called pending (acts ++ a ∷ [])
quiet_kept me layout effects called pending acts a hg ha hc l c =
    let same : (g : ℕ) → calls_to g (acts ++ a ∷ []) ≡ calls_to g acts = λ g. calls_more g acts a ∙ rw (hg g) (omega arith) in
    record {
      lawful = lawful_more me layout effects [] acts a c.lawful l;
      long = c.long;
      counts = λ g h. c.counts g h ∙ sym (same g);
      answered = λ k h. c.answered k (any_before (is_call k) acts a (hc k) h);
      within = λ k h. rw (same k.group) (c.within k h);
      rising = c.rising;
      lows = λ g. rw (same g, greatest_more g acts a, ha g (greatest_low g acts)) (c.lows g);
    }

pub halted_kept : (me : ℕ) (layout : List ℕ) (effects : List Event) (called : List ℕ) (pending : List Key) (acts : List Act) → CallsKept me layout effects called pending acts → CallsKept me layout effects called pending (acts ++ act.Halted ∷ [])
halted_kept me layout effects called pending acts c = quiet_kept me layout effects called pending acts act.Halted (λ g. refl) (λ g n. refl) (λ k. refl) tt c

pub ask_kept :
    (me : ℕ) (layout : List ℕ) (effects : List Event) (called : List ℕ) (pending : List Key) (acts : List Act) (ask : ℕ) → CallsKept me layout effects called pending acts → CallsKept me layout effects called pending (acts ++ act.AskClock ask ∷ [])
ask_kept me layout effects called pending acts ask c = quiet_kept me layout effects called pending acts (act.AskClock ask) (λ g. refl) (λ g n. refl) (λ k. refl) tt c

pub seed_ask_kept : (me : ℕ) (layout : List ℕ) (effects : List Event) (called : List ℕ) (pending : List Key) (acts : List Act) (ask : ℕ) → CallsKept me layout effects called pending acts → CallsKept me layout effects called pending (acts ++ act.AskRandom ask ∷ [])
seed_ask_kept me layout effects called pending acts ask c = quiet_kept me layout effects called pending acts (act.AskRandom ask) (λ g. refl) (λ g n. refl) (λ k. refl) tt c

pub reply_kept : (me : ℕ) (layout : List ℕ) (effects : List Event) (called : List ℕ) (pending : List Key) (acts : List Act) (k : Key) (body : List ℕ) → CallsKept me layout effects called pending acts → CallsKept me layout effects called pending (acts ++ act.Reply k.group k.number body ∷ [])
reply_kept me layout effects called pending acts k body c = quiet_kept me layout effects called pending acts (act.Reply k.group k.number body) (λ g. refl) (λ g n. refl) (λ k. refl) tt c

within_in : (me : ℕ) (layout : List ℕ) (effects : List Event) (called : List ℕ) (pending : List Key) (acts : List Act) (g : ℕ) (j : Key) → CallsKept me layout effects called pending acts → has_key pending j ≡ true → j.group ≡ g → j.number ≤ calls_to g acts
within_in me layout effects called pending acts g j c h e = let w = c.within j h in omega (arith, w.1, ap (λ (x : ℕ). calls_to x acts) e)

lows_without : (me : ℕ) (layout : List ℕ) (effects : List Event) (called : List ℕ) (pending : List Key) (acts : List Act) (k : Key) (g : ℕ) → CallsKept me layout effects called pending acts → greatest_low g acts ≤ low_among (without k pending) g (calls_to g acts + 1)
lows_without me layout effects called pending acts k g c =
    let l = c.lows g in
    let most = low_at_most pending g (calls_to g acts + 1) (λ j h e. let w = within_in me layout effects called pending acts g j c h e in omega arith) in
    low_at_least (without k pending) g (calls_to g acts + 1) (greatest_low g acts)
    (λ j h e. let v = low_least_in pending g (calls_to g acts + 1) j e c.rising (has_without k pending j h) in omega arith)
    (omega arith)

-- an answer that is among the effects
pub answer_kept : (me : ℕ) (layout : List ℕ) (effects : List Event) (called : List ℕ) (pending : List Key) (acts : List Act) (k : Key) → list_any (is_answer k) effects ≡ true → CallsKept me layout effects called pending acts → CallsKept me layout effects called (without k pending) acts
answer_kept me layout effects called pending acts k e c =
    record {
      lawful = c.lawful;
      long = c.long;
      counts = c.counts;
      answered = λ j h. elim (c.answered j h) [
        | inl p ↦ elim (has_others k pending j p) [ inl s ↦ inr (ap (λ (q : Key). list_any (is_answer q) effects) (key_same j k s) ∙ e) | inr q ↦ inl q ]
        | inr p ↦ inr p
      ];
      within = λ j h. c.within j (has_without k pending j h);
      rising = rising_without k pending c.rising;
      lows = λ g. lows_without me layout effects called pending acts k g c;
    }

counts_by : (called : List ℕ) (acts : List Act) (k : Key) (low : ℕ) (body : List ℕ) (ms g : ℕ) (b : Bool) → nat_eq k.group g ≡ b → k.group < length called → k.number ≡ calls_to k.group acts + 1 → slice_index called g ≡ calls_to g acts → slice_index (slice_set called k.group k.number) g ≡ calls_to g acts + cond b 1 0
counts_by called acts k low body ms g true e h n c =
    let f : g ≡ k.group = grind (arith, nat_tests) in
    get_or-set_at called k.group g k.number 0 f h ∙ (n ∙ omega (arith, ap (λ (x : ℕ). calls_to x acts) f))
counts_by called acts k low body ms g false e h n c =
    let f : g ≢ k.group = grind (arith, nat_tests) in
    get_or-set_other called k.group g k.number 0 f ∙ omega (arith, c)

within_by : (acts : List Act) (k : Key) (low : ℕ) (body : List ℕ) (ms : ℕ) (j : Key) → k.number ≡ calls_to k.group acts + 1 → same_key j k ≡ true → (1 ≤ j.number) × (j.number ≤ calls_to j.group (acts ++ act.Call k.group k.number low body ms ∷ []))
within_by acts k low body ms j n s =
    let e = same_groups j k s in
    let m = calls_more j.group acts (act.Call k.group k.number low body ms) in
    let t : nat_eq k.group j.group ≡ true = grind (arith, nat_tests) in
    let v = rw t at m in
    let q = ap (λ (x : ℕ). calls_to x acts) e.0 in
    (omega arith, omega arith)

lows_by : (me : ℕ) (layout : List ℕ) (effects : List Event) (called : List ℕ) (pending : List Key) (acts : List Act) (k : Key) (low g : ℕ) (b : Bool) → nat_eq k.group g ≡ b → k.number ≡ calls_to k.group acts + 1 → low ≡ low_among pending k.group k.number → CallsKept me layout effects called pending acts → cond b (max (greatest_low g acts) low) (greatest_low g acts) ≤ low_among (pending ++ k ∷ []) g (calls_to g acts + cond b 1 0 + 1)
lows_by me layout effects called pending acts k low g true e n el c =
    let f : k.group ≡ g = grind (arith, nat_tests) in
    let q : k.number ≡ calls_to g acts + 1 = n ∙ omega (arith, ap (λ (x : ℕ). calls_to x acts) f) in
    let lo : low ≡ low_among pending g (calls_to g acts + 1) = el ∙ (ap (λ (x : ℕ). low_among pending x k.number) f ∙ ap (low_among pending g) q) in
    let l = c.lows g in
    let most = low_at_most pending g (calls_to g acts + 1) (λ j h i. let w = within_in me layout effects called pending acts g j c h i in omega arith) in
    low_at_least (pending ++ k ∷ []) g (calls_to g acts + 1 + 1) (max (greatest_low g acts) low)
    (λ j h i. elim (has_added pending k j h) [
      | inl a ↦ let v = low_least_in pending g (calls_to g acts + 1) j i c.rising a in omega arith
      | inr a ↦ let s = same_groups j k a in omega (arith, s.1)
    ])
    (omega arith)
lows_by me layout effects called pending acts k low g false e n el c =
    let l = c.lows g in
    let most = low_at_most pending g (calls_to g acts + 1) (λ j h i. let w = within_in me layout effects called pending acts g j c h i in omega arith) in
    let z : calls_to g acts + 0 + 1 ≡ calls_to g acts + 1 = omega arith in
    rw z (low_at_least (pending ++ k ∷ []) g (calls_to g acts + 1) (greatest_low g acts)
    (λ j h i. elim (has_added pending k j h) [
      | inl a ↦ let v = low_least_in pending g (calls_to g acts + 1) j i c.rising a in omega arith
      | inr a ↦ let s = same_groups j k a in let t : nat_eq k.group g ≡ true = grind (arith, nat_tests) in absurd (cc)
    ])
    (omega arith))

-- a call
pub call_kept : (me : ℕ) (layout : List ℕ) (effects : List Event) (called : List ℕ) (pending : List Key) (acts : List Act) (k : Key) (low : ℕ) (body : List ℕ) (ms : ℕ) → length layout ≤ 16
    → k.number ≡ slice_index called k.group + 1 → low ≡ low_among pending k.group k.number
    → k.group < length layout → nat_eq k.group me ≡ false → k.number ≤ 1000000 → k.number < low + 16 → length body ≤ 32768
    → CallsKept me layout effects called pending acts → CallsKept me layout effects (slice_set called k.group k.number) (pending ++ k ∷ []) (acts ++ act.Call k.group k.number low body ms ∷ [])
call_kept me layout effects called pending acts k low body ms few en el hg ho hm hw hs c =
    let small : k.group < 16 = omega arith in
    let n : k.number ≡ calls_to k.group acts + 1 = en ∙ ap (λ (x : ℕ). x + 1) (c.counts k.group small) in
    let more : (g : ℕ) → calls_to g (acts ++ act.Call k.group k.number low body ms ∷ []) ≡ calls_to g acts + cond (nat_eq k.group g) 1 0 = λ g. calls_more g acts (act.Call k.group k.number low body ms) in
    let a : Act = act.Call k.group k.number low body ms in
    let own : low_among pending k.group k.number ≤ k.number = low_at_most pending k.group k.number (λ j h e. let w = within_in me layout effects called pending acts k.group j c h e in omega arith) in
    let first : 1 ≤ low_among pending k.group k.number = low_at_least pending k.group k.number 1 (λ j h e. (c.within j h).0) (omega arith) in
    let call : IsLawfulCall me layout effects acts k low body = record {
      group = hg;
      other = ho;
      number = n;
      most = hm;
      low_from = omega arith;
      low_own = omega arith;
      low_waiting = λ j e p q. elim (c.answered j p) [
        | inl x ↦ let v = low_least_in pending k.group k.number j e c.rising x in omega arith
        | inr x ↦ let i : ◌≡◌ {A = Bool} false true = sym q ∙ x in absurd (cc)
      ];
      low_rises = let l = c.lows k.group in let w = ap (low_among pending k.group) n in omega arith;
      window = hw;
      size = hs;
    } in
    record {
      lawful = lawful_more me layout effects [] acts a c.lawful call;
      long = length-set called k.group k.number ∙ c.long;
      counts = λ g h. counts_by called acts k low body ms g (nat_eq k.group g) refl (omega (arith, c.long)) n (c.counts g h) ∙ sym (more g);
      answered = λ j h. elim (any_more (is_call j) acts a h) [
        | inl x ↦ elim (c.answered j x) [ inl y ↦ inl (has_kept pending k j y) | inr y ↦ inr y ]
        | inr x ↦ inl (has_new pending k j x)
      ];
      within = λ j h. elim (has_added pending k j h) [
        | inl x ↦ let w = c.within j x in ((w.0), omega (arith, w.1, more j.group))
        | inr x ↦ within_by acts k low body ms j n x
      ];
      rising = rising_added pending k c.rising (λ j h e. let w = within_in me layout effects called pending acts k.group j c h e in omega arith);
      lows = λ g. rw (more g, greatest_more g acts a) (lows_by me layout effects called pending acts k low g (nat_eq k.group g) refl n el c);
    }
