-- The calls of a run are lawful. It is here for the proofs alone.
use Rattle.std.proofs.Common.{◌≡◌, ℕ, zero, suc, ◌+◌, ◌<◌, ◌≤◌, Bool, true, false, not, ◌&&◌, nat_eq, nat_lt, nat_le, List, [], ◌∷◌, ◌++◌, length, slice_index, replicate, Option, Some, refl, ap, subst, arith}
use Rattle.std.specs.List.{list_any}
use Rattle.std.proofs.lemmas.Bool.Decides.{nat_tests}
use Rattle.std.proofs.lemmas.List.{append-nil}
use Rattle.pws_event.specs.declared.events.Event.{Event}
use Rattle.pws_service.specs.declared.keys.Key.{Key}
use Rattle.pws_service.specs.declared.acts.Act.{Act}
use Rattle.pws_driver.specs.declared.cores.Core.{Core}
use Rattle.pws_driver.specs.Envelopes.{TextsFit}
use Rattle.pws_driver.specs.Services.{Service}
use Rattle.pws_driver.specs.Keys.{without}
use Rattle.pws_service.specs.Lawful.{is_answer, LawfulCalls}
use Rattle.pws_driver.specs.Moves.{Moved, quiet, halted}
use Rattle.pws_driver.specs.Instructions.{begin, counted, low_of, may_call, called_with}
use Rattle.pws_driver.specs.Takings.{wants, takes, is_ready}
use Rattle.pws_driver.specs.Runs.{first_of, enough, fresh, fresh_core, acts_of}
use Rattle.pws_driver.specs.Lemmas.Firsts.{Picked, picked_in, picked_wanted, or_right}
use Rattle.pws_driver.specs.Lemmas.Cases.{Instructed, Taken, begin_holds, takes_holds}
use Rattle.pws_driver.specs.Lemmas.Kept.{steps_hold}
use Rattle.pws_driver.specs.Lemmas.CallLaws.{CallsKept, halted_kept, ask_kept, seed_ask_kept, reply_kept, answer_kept, call_kept}

abbrev KeptAt : Service → List Event → List Act → Core → Type 0
KeptAt s xs acts c = CallsKept s.me s.layout xs c.called c.pending acts

abbrev Kept : Service → List Event → List Act → Moved → Type 0
Kept s xs acts m = KeptAt s xs (acts ++ m.acts) m.core

quiet_at : (s : Service) (xs : List Event) (acts : List Act) (c : Core) → KeptAt s xs acts c → Kept s xs acts (quiet c)
quiet_at s xs acts c k = rw (append-nil acts) k

halted_at : (s : Service) (xs : List Event) (acts : List Act) (c : Core) → KeptAt s xs acts c → Kept s xs acts (halted c)
halted_at s xs acts c k = halted_kept s.me s.layout xs c.called c.pending acts k

record MayParts (me count g n low : ℕ) : Type 0 where
  group : g < count
  other : nat_eq g me ≡ false
  most : n ≤ 1000000
  window : n < low + 16

may_parts : (me count g n low : ℕ) → (nat_lt g count && not (nat_eq g me) && nat_le n 1000000 && nat_lt n (low + 16)) ≡ true → MayParts me count g n low
may_parts me count g n low h = record { group = grind (arith, nat_tests); other = grind (arith, nat_tests); most = grind (arith, nat_tests); window = grind (arith, nat_tests) }

call_at : (s : Service) (xs : List Event) (acts : List Act) (c : Core) (d g ms n : ℕ) (body : List ℕ) → length s.layout ≤ 16 → n ≡ slice_index c.called g + 1 → may_call s g n (low_of c g n) ≡ true → length body ≤ 32768 → KeptAt s xs acts c → Kept s xs acts (called_with c d g n (low_of c g n) body ms)
call_at s xs acts c d g ms n body few en h size k =
    let m = may_parts s.me (length s.layout) g n (low_of c g n) h in
    call_kept s.me s.layout xs c.called c.pending acts (record { group = g; number = n }) (low_of c g n) body ms few en refl m.group m.other m.most m.window size k

instructed : (s : Service) (xs : List Event) (acts : List Act) (c : Core) → length s.layout ≤ 16 → TextsFit s.words → KeptAt s xs acts c → Instructed (Kept s xs acts) s c
instructed s xs acts c few f k = record {
  halts = halted_at s xs acts c k;
  goes_on = λ registers line stream. quiet_at s xs acts c k;
  waits = λ w. quiet_at s xs acts c k;
  calls = λ d g ms n text body e may made. call_at s xs acts c d g ms n body few e may (f.call s.me (record { group = g; number = n }) text body made) k;
  replies = λ key message text has. reply_kept s.me s.layout xs c.called c.pending acts key _ k;
  asks_clock = λ d room. ask_kept s.me s.layout xs c.called c.pending acts (c.asks + 1) k;
  asks_seed = λ room. seed_ask_kept s.me s.layout xs c.called c.pending acts (c.asks + 1) k;
}

taken : (s : Service) (xs : List Event) (acts : List Act) (c : Core) (e : Event) → ((k : Key) → is_answer k e ≡ true → list_any (is_answer k) xs ≡ true) → KeptAt s xs acts c → Taken (Kept s xs acts) s c e
taken s xs acts c e within k = record {
  nothing = quiet_at s xs acts c k;
  request = λ w r registers m i. quiet_at s xs acts c k;
  refused = λ w r fault m i f. reply_kept s.me s.layout xs c.called c.pending acts (record { group = r.caller; number = r.number }) fault k;
  answer = λ w key registers m a. quiet_at s xs acts (record c { pending = without key c.pending }) (answer_kept s.me s.layout xs c.called c.pending acts key (within key a) k);
  clock = λ d now registers m a. quiet_at s xs acts c k;
  seed = λ stream m a. quiet_at s xs acts c k;
  told = λ r m i. reply_kept s.me s.layout xs c.called c.pending acts (record { group = r.caller; number = r.number }) _ k;
}

-- what a run keeps: the calls are lawful, and what is untaken stands in the list
record KeptRun (s : Service) (xs : List Event) (c : Core) (untaken : List Event) (acts : List Act) : Type 0 where
  calls : KeptAt s xs acts c
  within : (t : Event → Bool) → list_any t untaken ≡ true → list_any t xs ≡ true

begin_at : (s : Service) (xs : List Event) (c : Core) (u : List Event) (acts : List Act) → length s.layout ≤ 16 → TextsFit s.words → KeptRun s xs c u acts → KeptRun s xs (begin s c).core u (acts ++ (begin s c).acts)
begin_at s xs c u acts few f k =
    record { calls = begin_holds (Kept s xs acts) s c (halted_at s xs acts c k.calls) (λ some. instructed s xs acts (counted c) few f k.calls); within = k.within }

takes_at : (s : Service) (xs : List Event) (c : Core) (u : List Event) (acts : List Act) (q : Picked) → first_of (wants c) u ≡ Some q → KeptRun s xs c u acts → KeptRun s xs (takes s c q.0).core q.1 (acts ++ (takes s c q.0).acts)
takes_at s xs c u acts q e k =
    record {
      calls = takes_holds (Kept s xs acts) s c q.0 (picked_wanted (wants c) u q e) (taken s xs acts c q.0 (λ j a. k.within (is_answer j) (picked_in (wants c) u q e (is_answer j) (rw a refl))) k.calls);
      within = λ t a. k.within t (picked_in (wants c) u q e t (rw a (or_right (t q.0))));
    }

zero_at : (n g : ℕ) → slice_index (replicate n 0) g ≡ 0
zero_at zero g = refl
zero_at (suc n) zero = refl
zero_at (suc n) (suc g) = zero_at n g

fresh_kept : (s : Service) (xs : List Event) → KeptRun s xs fresh_core xs []
unfolding fresh_core
fresh_kept s xs = record {
  calls = record { lawful = tt; long = refl; counts = λ g h. zero_at 16 g; answered = λ j h. let i : ◌≡◌ {A = Bool} false true = h in absurd (cc); within = λ j h. let i : ◌≡◌ {A = Bool} false true = h in absurd (cc); rising = tt; lows = λ g. omega arith };
  within = λ t h. h;
}

-- the calls of a script on any effects are lawful
pub calls_lawful : (s : Service) (xs : List Event) → length s.layout ≤ 16 → TextsFit s.words → LawfulCalls s.me s.layout xs [] (acts_of s xs)
calls_lawful s xs few f = (steps_hold (KeptRun s xs) s (enough xs) (fresh xs) (λ c u acts h k. begin_at s xs c u acts few f k) (takes_at s xs) (fresh_kept s xs)).calls.lawful

-- the same, where the group and the layout are these
pub calls_lawful_where : (s : Service) (me : ℕ) (layout : List ℕ) (xs : List Event) → length s.layout ≤ 16 → TextsFit s.words → (s.me ≡ me) × (s.layout ≡ layout) → LawfulCalls me layout xs [] (acts_of s xs)
calls_lawful_where s me layout xs few fit f =
    let P : ℕ → Type 0 = λ n. LawfulCalls n layout xs [] (acts_of s xs) in
    let Q : List ℕ → Type 0 = λ l. LawfulCalls s.me l xs [] (acts_of s xs) in
    subst P f.0 (subst Q f.1 (calls_lawful s xs few fit))
