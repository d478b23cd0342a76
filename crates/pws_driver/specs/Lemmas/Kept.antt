-- What each instruction and each taking keeps, each run keeps. It is here for the proofs alone.
use Rattle.std.proofs.Common.{◌≡◌, ℕ, zero, suc, Bool, true, false, List, ◌++◌, Option, Some, None, refl}
use Rattle.pws_event.specs.declared.events.Event.{Event}
use Rattle.pws_service.specs.declared.acts.Act.{Act}
use Rattle.pws_driver.specs.declared.cores.Core.{Core}
use Rattle.pws_driver.specs.Services.{Service}
use Rattle.pws_driver.specs.Instructions.{begin}
use Rattle.pws_driver.specs.Takings.{wants, takes, is_ready}
use Rattle.pws_driver.specs.Runs.{Run, first_of, step, steps}
use Rattle.pws_driver.specs.Lemmas.Firsts.{Picked}

step_holds : (J : Core → List Event → List Act → Type 0) (s : Service) (r : Run) (b : Bool) (o : Option Picked) → is_ready r.core ≡ b → first_of (wants r.core) r.untaken ≡ o
    → ((c : Core) (u : List Event) (acts : List Act) → is_ready c ≡ true → J c u acts → J (begin s c).core u (acts ++ (begin s c).acts))
    → ((c : Core) (u : List Event) (acts : List Act) (q : Picked) → first_of (wants c) u ≡ Some q → J c u acts → J (takes s c q.0).core q.1 (acts ++ (takes s c q.0).acts))
    → J r.core r.untaken r.acts → J (step s r).core (step s r).untaken (step s r).acts
unfolding step
step_holds J s r true o h e f g k = rw h (f r.core r.untaken r.acts h k)
step_holds J s r false None h e f g k = rw (h, e) k
step_holds J s r false (Some q) h e f g k = rw (h, e) (g r.core r.untaken r.acts q e k)

pub steps_hold : (J : Core → List Event → List Act → Type 0) (s : Service) (n : ℕ) (r : Run)
    → ((c : Core) (u : List Event) (acts : List Act) → is_ready c ≡ true → J c u acts → J (begin s c).core u (acts ++ (begin s c).acts))
    → ((c : Core) (u : List Event) (acts : List Act) (q : Picked) → first_of (wants c) u ≡ Some q → J c u acts → J (takes s c q.0).core q.1 (acts ++ (takes s c q.0).acts))
    → J r.core r.untaken r.acts → J (steps s n r).core (steps s n r).untaken (steps s n r).acts
unfolding steps
steps_hold J s zero r f g k = k
steps_hold J s (suc n) r f g k = steps_hold J s n (step s r) f g (step_holds J s r (is_ready r.core) (first_of (wants r.core) r.untaken) refl refl f g k)
