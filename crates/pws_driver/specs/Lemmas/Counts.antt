-- How many instructions may still be started: each one leaves fewer, and a taking gives back at most all of them. It is here for the proofs alone.
use Rattle.std.proofs.Common.{◌≡◌, ℕ, ◌+◌, ◌-◌, ◌<◌, ◌≤◌, Bool, true, false, refl, arith}
use Rattle.pws_event.specs.declared.events.Event.{Event}
use Rattle.pws_driver.specs.declared.cores.Mode.{Mode}
use Rattle.pws_driver.specs.declared.cores.Mode.TheVariants as mode
use Rattle.pws_driver.specs.declared.cores.Core.{Core}
use Rattle.pws_driver.specs.Services.{Service}
use Rattle.pws_driver.specs.Moves.{Moved, budget}
use Rattle.pws_driver.specs.Instructions.{begin, counted}
use Rattle.pws_driver.specs.Takings.{wants, takes, ready_in, is_ready}
use Rattle.pws_driver.specs.Runs.{weight_ready}
use Rattle.pws_driver.specs.Lemmas.Cases.{Instructed, Taken, begin_holds, takes_holds}

pub weight_ready_small : (b : Bool) → weight_ready b ≤ 1
weight_ready_small true = omega arith
weight_ready_small false = omega arith

abbrev Falls : Core → Moved → Type 0
Falls c m = m.core.left + weight_ready (ready_in m.core.mode) + 1 ≤ c.left + 1

-- one instruction fewer
fewer : (n : ℕ) (m : Mode) → 0 < n → n - 1 + weight_ready (ready_in m) + 1 ≤ n + 1
fewer n m h = let w = weight_ready_small (ready_in m) in omega (arith, h, w)

instructed : (s : Service) (c : Core) → 0 < c.left → Instructed (Falls c) s (counted c)
instructed s c h = record {
  halts = fewer c.left mode.Halted h;
  goes_on = λ registers line stream. fewer c.left c.mode h;
  waits = λ w. fewer c.left (mode.Waiting w) h;
  calls = λ d g ms n text body e may made. fewer c.left c.mode h;
  replies = λ k message text has. fewer c.left c.mode h;
  asks_clock = λ d few. fewer c.left (mode.AskingClock d) h;
  asks_seed = λ few. fewer c.left mode.AskingSeed h;
}

halts_falls : (c : Core) → c.left + 0 + 1 ≤ c.left + 1
halts_falls c = omega arith

-- an instruction leaves fewer
pub begin_falls : (s : Service) (c : Core) → is_ready c ≡ true → (begin s c).core.left + weight_ready (is_ready (begin s c).core) + 1 ≤ c.left + weight_ready (is_ready c)
unfolding is_ready
begin_falls s c h = rw h (begin_holds (Falls c) s c (halts_falls c) (instructed s c))

abbrev Within : Core → Moved → Type 0
Within c m = m.core.left ≤ c.left + budget

whole : (n : ℕ) → budget ≤ n + budget
whole n = omega arith

same_left : (n : ℕ) → n ≤ n + budget
same_left n = omega arith

taken : (s : Service) (c : Core) (e : Event) → Taken (Within c) s c e
taken s c e = record {
  nothing = same_left c.left;
  request = λ w r registers m i. whole c.left;
  refused = λ w r fault m i f. whole c.left;
  answer = λ w k registers m a. whole c.left;
  clock = λ d now registers m a. whole c.left;
  seed = λ stream m a. whole c.left;
  told = λ r m i. same_left c.left;
}

-- a taking gives back at most all of them
pub takes_within : (s : Service) (c : Core) (e : Event) → wants c e ≡ true → (takes s c e).core.left + weight_ready (is_ready (takes s c e).core) ≤ c.left + budget + 1
takes_within s c e w =
    let l = takes_holds (Within c) s c e w (taken s c e) in
    let r = weight_ready_small (is_ready (takes s c e).core) in
    omega (arith, l, r)
