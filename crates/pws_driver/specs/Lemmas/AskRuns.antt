-- The asks of a run are lawful. It is here for the proofs alone.
use Rattle.std.proofs.Common.{◌≡◌, ◌⊎◌, inl, inr, ℕ, ◌+◌, ◌<◌, ◌≤◌, Bool, true, false, cond, nat_eq, List, [], ◌∷◌, ◌++◌, Option, Some, None, refl, sym, ◌∙◌, ap, arith, append_assoc}
use Rattle.std.specs.List.{list_any, count_by}
use Rattle.std.proofs.lemmas.Bool.Decides.{nat_tests}
use Rattle.std.proofs.lemmas.List.{append-nil}
use Rattle.std.proofs.lemmas.List.Sums.{sum_by-append}
use Rattle.pws_event.specs.declared.events.Event.{Event}
use Rattle.pws_service.specs.declared.acts.Act.{Act}
use Rattle.pws_service.specs.declared.acts.Act.TheVariants as act
use Rattle.pws_driver.specs.declared.cores.Mode.{Mode}
use Rattle.pws_driver.specs.declared.cores.Mode.TheVariants as mode
use Rattle.pws_driver.specs.declared.cores.Core.{Core}
use Rattle.pws_driver.specs.Services.{Service}
use Rattle.pws_service.specs.Lawful.{is_clock_ask, is_random_ask, is_ask, IsLawfulAsk, AskAfter, LawfulAsks}
use Rattle.pws_driver.specs.Moves.{Moved, quiet, halted}
use Rattle.pws_driver.specs.Instructions.{begin, counted}
use Rattle.pws_service.specs.Lawful.{is_clock, is_random}
use Rattle.pws_driver.specs.Takings.{wants, takes, ready_in, is_ready}
use Rattle.pws_driver.specs.Runs.{first_of, enough, fresh, fresh_core, acts_of}
use Rattle.pws_driver.specs.Lemmas.Firsts.{Picked, picked_in, picked_wanted, or_right}
use Rattle.pws_driver.specs.Lemmas.Cases.{Instructed, Taken, begin_holds, takes_holds}
use Rattle.pws_driver.specs.Lemmas.Kept.{steps_hold}
use Rattle.pws_driver.specs.Lemmas.CallLaws.{any_more}

abbrev waits_for_clock : Mode → Bool
waits_for_clock mode.Ready = false
waits_for_clock (mode.Waiting w) = false
waits_for_clock (mode.AskingClock d) = true
waits_for_clock mode.AskingSeed = false
waits_for_clock mode.Halted = false

abbrev waits_for_seed : Mode → Bool
waits_for_seed mode.Ready = false
waits_for_seed (mode.Waiting w) = false
waits_for_seed (mode.AskingClock d) = false
waits_for_seed mode.AskingSeed = true
waits_for_seed mode.Halted = false

-- an ask that was given is answered, or is the last one and waits
abbrev Answered : (ℕ → Act → Bool) → (ℕ → Event → Bool) → List Event → Bool → ℕ → List Act → Type 0
Answered asked told xs waiting n acts = (k : ℕ) → list_any (asked k) acts ≡ true → (list_any (told k) xs ≡ true) ⊎ ((waiting ≡ true) × (k ≡ n))

-- each ask that was given is answered
abbrev AllAnswered : (ℕ → Act → Bool) → (ℕ → Event → Bool) → List Event → List Act → Type 0
AllAnswered asked told xs acts = (k : ℕ) → list_any (asked k) acts ≡ true → list_any (told k) xs ≡ true

record AsksKept (xs : List Event) (m : Mode) (n : ℕ) (u : List Event) (acts : List Act) : Type 0 where
  lawful : LawfulAsks xs [] acts
  count : n ≡ count_by is_ask acts
  clocks : Answered is_clock_ask is_clock xs (waits_for_clock m) n acts
  randoms : Answered is_random_ask is_random xs (waits_for_seed m) n acts
  within : (t : Event → Bool) → list_any t u ≡ true → list_any t xs ≡ true

abbrev J : List Event → Core → List Event → List Act → Type 0
J xs c u acts = AsksKept xs c.mode c.asks u acts

abbrev K : List Event → List Event → List Act → Moved → Type 0
K xs u acts m = J xs m.core u (acts ++ m.acts)

asks_more : (xs : List Event) (before acts : List Act) (a : Act) → LawfulAsks xs before acts → AskAfter xs (before ++ acts) a → LawfulAsks xs before (acts ++ a ∷ [])
asks_more xs before [] a l h = (rw (← append-nil before) h, tt)
asks_more xs before (b ∷ acts) a l h = (l.0, asks_more xs (before ++ b ∷ []) acts a l.1 (rw (append_assoc before (b ∷ []) acts) h))

count_more : (acts : List Act) (a : Act) → count_by is_ask (acts ++ a ∷ []) ≡ count_by is_ask acts + cond (is_ask a) 1 0
count_more acts a = sum_by-append (λ x. cond (is_ask x) 1 0) acts (a ∷ []) ∙ omega arith

-- ---- answered asks

all_answered : (asked : ℕ → Act → Bool) (told : ℕ → Event → Bool) (xs : List Event) (waiting : Bool) (n : ℕ) (acts : List Act) → waiting ≡ false → Answered asked told xs waiting n acts → AllAnswered asked told xs acts
all_answered asked told xs waiting n acts r c k h = elim (c k h) [ inl a ↦ a | inr a ↦ let i : ◌≡◌ {A = Bool} false true = sym r ∙ a.0 in absurd (cc) ]

still : (asked : ℕ → Act → Bool) (told : ℕ → Event → Bool) (xs : List Event) (waiting : Bool) (n : ℕ) (acts : List Act) → AllAnswered asked told xs acts → Answered asked told xs waiting n acts
still asked told xs waiting n acts h k a = inl (h k a)

-- one more act that is none of these asks
other : (asked : ℕ → Act → Bool) (told : ℕ → Event → Bool) (xs : List Event) (waiting : Bool) (n : ℕ) (acts : List Act) (a : Act) → ((k : ℕ) → asked k a ≡ false) → Answered asked told xs waiting n acts → Answered asked told xs waiting n (acts ++ a ∷ [])
other asked told xs waiting n acts a f c k h = elim (any_more (asked k) acts a h) [
  | inl b ↦ c k b
  | inr b ↦ let i : ◌≡◌ {A = Bool} false true = sym (f k) ∙ b in absurd (cc)
]

clock_now : (xs : List Event) (n : ℕ) (acts : List Act) → AllAnswered is_clock_ask is_clock xs acts → Answered is_clock_ask is_clock xs true n (acts ++ act.AskClock n ∷ [])
clock_now xs n acts c k h = elim (any_more (is_clock_ask k) acts (act.AskClock n) h) [
  | inl b ↦ inl (c k b)
  | inr b ↦ let i : k ≡ n = grind (arith, nat_tests) in inr (refl, i)
]

random_now : (xs : List Event) (n : ℕ) (acts : List Act) → AllAnswered is_random_ask is_random xs acts → Answered is_random_ask is_random xs true n (acts ++ act.AskRandom n ∷ [])
random_now xs n acts c k h = elim (any_more (is_random_ask k) acts (act.AskRandom n) h) [
  | inl b ↦ inl (c k b)
  | inr b ↦ let i : k ≡ n = grind (arith, nat_tests) in inr (refl, i)
]

-- the answer for which the script waited
read_now : (asked : ℕ → Act → Bool) (told : ℕ → Event → Bool) (xs : List Event) (waiting : Bool) (n : ℕ) (acts : List Act) → list_any (told n) xs ≡ true → Answered asked told xs waiting n acts → AllAnswered asked told xs acts
read_now asked told xs waiting n acts r c k h = elim (c k h) [ inl a ↦ a | inr a ↦ ap (λ (x : ℕ). list_any (told x) xs) a.1 ∙ r ]

-- ---- moves

-- in a mode that waits for no ask
record Idle (m : Mode) : Type 0 where
  clock : waits_for_clock m ≡ false
  seed : waits_for_seed m ≡ false

-- another mode
moded : (xs u : List Event) (m w : Mode) (n : ℕ) (acts : List Act) → Idle m → AsksKept xs m n u acts → AsksKept xs w n u acts
moded xs u m w n acts i c = record {
  lawful = c.lawful;
  count = c.count;
  clocks = still is_clock_ask is_clock xs (waits_for_clock w) n acts (all_answered is_clock_ask is_clock xs (waits_for_clock m) n acts i.clock c.clocks);
  randoms = still is_random_ask is_random xs (waits_for_seed w) n acts (all_answered is_random_ask is_random xs (waits_for_seed m) n acts i.seed c.randoms);
  within = c.within;
}

-- an act that asks for nothing
acted : (xs u : List Event) (m : Mode) (n : ℕ) (acts : List Act) (a : Act) → is_ask a ≡ false → ((k : ℕ) → is_clock_ask k a ≡ false) → ((k : ℕ) → is_random_ask k a ≡ false) → AskAfter xs acts a → AsksKept xs m n u acts → AsksKept xs m n u (acts ++ a ∷ [])
acted xs u m n acts a q f g l c = record {
  lawful = asks_more xs [] acts a c.lawful l;
  count = c.count ∙ sym (count_more acts a ∙ rw q (omega arith));
  clocks = other is_clock_ask is_clock xs (waits_for_clock m) n acts a f c.clocks;
  randoms = other is_random_ask is_random xs (waits_for_seed m) n acts a g c.randoms;
  within = c.within;
}

next_ask : (xs : List Event) (m : Mode) (n : ℕ) (u : List Event) (acts : List Act) → Idle m → n < 1000000 → AsksKept xs m n u acts → IsLawfulAsk xs acts (n + 1)
next_ask xs m n u acts i few c = record {
  number = ap (λ (x : ℕ). x + 1) c.count;
  most = omega (arith, few);
  clocks = all_answered is_clock_ask is_clock xs (waits_for_clock m) n acts i.clock c.clocks;
  randoms = all_answered is_random_ask is_random xs (waits_for_seed m) n acts i.seed c.randoms;
}

asked_clock : (xs u : List Event) (m : Mode) (d n : ℕ) (acts : List Act) → Idle m → n < 1000000 → AsksKept xs m n u acts → AsksKept xs (mode.AskingClock d) (n + 1) u (acts ++ act.AskClock (n + 1) ∷ [])
asked_clock xs u m d n acts i few c =
    let l = next_ask xs m n u acts i few c in
    record {
      lawful = asks_more xs [] acts (act.AskClock (n + 1)) c.lawful l;
      count = omega (arith, c.count, count_more acts (act.AskClock (n + 1)));
      clocks = clock_now xs (n + 1) acts l.clocks;
      randoms = other is_random_ask is_random xs false (n + 1) acts (act.AskClock (n + 1)) (λ k. refl) (still is_random_ask is_random xs false (n + 1) acts l.randoms);
      within = c.within;
    }

asked_seed : (xs u : List Event) (m : Mode) (n : ℕ) (acts : List Act) → Idle m → n < 1000000 → AsksKept xs m n u acts → AsksKept xs mode.AskingSeed (n + 1) u (acts ++ act.AskRandom (n + 1) ∷ [])
asked_seed xs u m n acts i few c =
    let l = next_ask xs m n u acts i few c in
    record {
      lawful = asks_more xs [] acts (act.AskRandom (n + 1)) c.lawful l;
      count = omega (arith, c.count, count_more acts (act.AskRandom (n + 1)));
      clocks = other is_clock_ask is_clock xs false (n + 1) acts (act.AskRandom (n + 1)) (λ k. refl) (still is_clock_ask is_clock xs false (n + 1) acts l.clocks);
      randoms = random_now xs (n + 1) acts l.randoms;
      within = c.within;
    }

quiet_at : (xs u : List Event) (acts : List Act) (c : Core) → J xs c u acts → K xs u acts (quiet c)
quiet_at xs u acts c k = rw (append-nil acts) k

moded_at : (xs u : List Event) (acts : List Act) (c : Core) (w : Mode) → Idle c.mode → J xs c u acts → K xs u acts (quiet (record c { mode = w }))
moded_at xs u acts c w i k = quiet_at xs u acts (record c { mode = w }) (moded xs u c.mode w c.asks acts i k)

halted_at : (xs u : List Event) (acts : List Act) (c : Core) → Idle c.mode → J xs c u acts → K xs u acts (halted c)
halted_at xs u acts c i k = acted xs u mode.Halted c.asks acts act.Halted refl (λ j. refl) (λ j. refl) tt (moded xs u c.mode mode.Halted c.asks acts i k)

replied_at : (xs u : List Event) (acts : List Act) (c : Core) (caller number : ℕ) (body : List ℕ) → J xs c u acts → J xs c u (acts ++ act.Reply caller number body ∷ [])
replied_at xs u acts c caller number body k = acted xs u c.mode c.asks acts (act.Reply caller number body) refl (λ j. refl) (λ j. refl) tt k

instructed : (s : Service) (xs u : List Event) (acts : List Act) (c : Core) → Idle c.mode → J xs c u acts → Instructed (K xs u acts) s c
instructed s xs u acts c i k = record {
  halts = halted_at xs u acts c i k;
  goes_on = λ registers line stream. quiet_at xs u acts c k;
  waits = λ w. moded_at xs u acts c (mode.Waiting w) i k;
  calls = λ d g ms n text body e may made. acted xs u c.mode c.asks acts _ refl (λ j. refl) (λ j. refl) tt k;
  replies = λ key message text has. replied_at xs u acts c key.group key.number _ k;
  asks_clock = λ d few. asked_clock xs u c.mode d c.asks acts i few k;
  asks_seed = λ few. asked_seed xs u c.mode c.asks acts i few k;
}

idle_at : (m : Mode) (w : Mode) → m ≡ w → Idle w → Idle m
idle_at m w e i = record { clock = ap waits_for_clock e ∙ i.clock; seed = ap waits_for_seed e ∙ i.seed }

-- the agreed time was taken
clock_at : (xs u : List Event) (m : Mode) (d n : ℕ) (acts : List Act) → m ≡ mode.AskingClock d → list_any (is_clock n) xs ≡ true → AsksKept xs m n u acts → AsksKept xs mode.Ready n u acts
clock_at xs u m d n acts e r c = record {
  lawful = c.lawful;
  count = c.count;
  clocks = still is_clock_ask is_clock xs false n acts (read_now is_clock_ask is_clock xs (waits_for_clock m) n acts r c.clocks);
  randoms = still is_random_ask is_random xs false n acts (all_answered is_random_ask is_random xs (waits_for_seed m) n acts (ap waits_for_seed e) c.randoms);
  within = c.within;
}

-- the agreed seed was taken
seed_at : (xs u : List Event) (m : Mode) (n : ℕ) (acts : List Act) → m ≡ mode.AskingSeed → list_any (is_random n) xs ≡ true → AsksKept xs m n u acts → AsksKept xs mode.Ready n u acts
seed_at xs u m n acts e r c = record {
  lawful = c.lawful;
  count = c.count;
  clocks = still is_clock_ask is_clock xs false n acts (all_answered is_clock_ask is_clock xs (waits_for_clock m) n acts (ap waits_for_clock e) c.clocks);
  randoms = still is_random_ask is_random xs false n acts (read_now is_random_ask is_random xs (waits_for_seed m) n acts r c.randoms);
  within = c.within;
}

taken : (s : Service) (xs u : List Event) (acts : List Act) (c : Core) (e : Event) → ((t : Event → Bool) → t e ≡ true → list_any t xs ≡ true) → J xs c u acts → Taken (K xs u acts) s c e
taken s xs u acts c e f k = record {
  nothing = quiet_at xs u acts c k;
  request = λ w r registers m i. moded_at xs u acts c mode.Ready (idle_at c.mode (mode.Waiting w) m (record { clock = refl; seed = refl })) k;
  refused = λ w r fault m i h. replied_at xs u acts c r.caller r.number fault k;
  answer = λ w key registers m a. moded_at xs u acts c mode.Ready (idle_at c.mode (mode.Waiting w) m (record { clock = refl; seed = refl })) k;
  clock = λ d now registers m a. quiet_at xs u acts (record c { mode = mode.Ready }) (clock_at xs u c.mode d c.asks acts m (f (is_clock c.asks) a) k);
  seed = λ stream m a. quiet_at xs u acts (record c { mode = mode.Ready }) (seed_at xs u c.mode c.asks acts m (f (is_random c.asks) a) k);
  told = λ r m i. replied_at xs u acts c r.caller r.number _ k;
}

idle_ready : (m : Mode) → ready_in m ≡ true → Idle m
idle_ready mode.Ready h = record { clock = refl; seed = refl }
idle_ready (mode.Waiting w) h = record { clock = refl; seed = refl }
idle_ready (mode.AskingClock d) h = let i : ◌≡◌ {A = Bool} false true = h in absurd (cc)
idle_ready mode.AskingSeed h = let i : ◌≡◌ {A = Bool} false true = h in absurd (cc)
idle_ready mode.Halted h = record { clock = refl; seed = refl }

begin_at : (s : Service) (xs : List Event) (c : Core) (u : List Event) (acts : List Act) → is_ready c ≡ true → J xs c u acts → J xs (begin s c).core u (acts ++ (begin s c).acts)
unfolding is_ready
begin_at s xs c u acts h k =
    let i = idle_ready c.mode h in
    begin_holds (K xs u acts) s c (halted_at xs u acts c i k) (λ some. instructed s xs u acts (counted c) i k)

takes_at : (s : Service) (xs : List Event) (c : Core) (u : List Event) (acts : List Act) (q : Picked) → first_of (wants c) u ≡ Some q → J xs c u acts → J xs (takes s c q.0).core q.1 (acts ++ (takes s c q.0).acts)
takes_at s xs c u acts q e k =
    let rest : AsksKept xs c.mode c.asks q.1 acts = record {
      lawful = k.lawful;
      count = k.count;
      clocks = k.clocks;
      randoms = k.randoms;
      within = λ t a. k.within t (picked_in (wants c) u q e t (rw a (or_right (t q.0))));
    } in
    takes_holds (K xs q.1 acts) s c q.0 (picked_wanted (wants c) u q e) (taken s xs q.1 acts c q.0 (λ t a. k.within t (picked_in (wants c) u q e t (rw a refl))) rest)

fresh_at : (xs : List Event) → J xs fresh_core xs []
unfolding fresh_core
fresh_at xs = record {
  lawful = tt;
  count = refl;
  clocks = λ k h. let i : ◌≡◌ {A = Bool} false true = h in absurd (cc);
  randoms = λ k h. let i : ◌≡◌ {A = Bool} false true = h in absurd (cc);
  within = λ t h. h;
}

-- the asks of a script are lawful
pub asks_lawful : (s : Service) (xs : List Event) → LawfulAsks xs [] (acts_of s xs)
asks_lawful s xs = (steps_hold (J xs) s (enough xs) (fresh xs) (begin_at s xs) (takes_at s xs) (fresh_at xs)).lawful
