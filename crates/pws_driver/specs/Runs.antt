-- One run of a script from its start over a whole list of effects; this project's own rules.
use Rattle.std.specs.Prelude.{◌≡◌, ℕ, zero, suc, ◌+◌, ◌*◌, Bool, if◌then◌else◌, List, [], ◌∷◌, ◌++◌, length, Option, Some, None, replicate}
use Rattle.std.specs.Option.{option_map}
use Rattle.pws_event.specs.declared.events.Event.{Event}
use Rattle.pws_service.specs.declared.acts.Act.{Act}
use Rattle.pws_driver.specs.declared.cores.Mode.TheVariants as mode
use Rattle.pws_driver.specs.declared.cores.Core.{Core}
use Rattle.pws_driver.specs.Services.{Service}
use Rattle.pws_driver.specs.Zeros.{zeros}
use Rattle.pws_driver.specs.Moves.{Moved, budget}
use Rattle.pws_driver.specs.Instructions.{begin}
use Rattle.pws_driver.specs.Takings.{wants, takes, is_ready}

-- a run: the script's state, the effects that it hasn't taken, and its acts so far
pub record Run : Type 0 where
  pub core : Core
  pub untaken : List Event
  pub acts : List Act

abbrev pub run_at : Core → List Event → List Act → Run
run_at c untaken acts = record { core = c; untaken = untaken; acts = acts }

-- the first event of a list and the others, one more before them
abbrev pub behind : Event → (Event × List Event) → (Event × List Event)
behind e p = (p.0, e ∷ p.1)

-- the first event that passes, and the others
abbrev pub first_of : (Event → Bool) → List Event → Option (Event × List Event)
first_of test [] = None
first_of test (e ∷ es) = if test e then Some (e, es) else option_map (behind e) (first_of test es)

abbrev pub moved : Moved → List Event → List Act → Run
moved m untaken acts = record { core = m.core; untaken = untaken; acts = acts ++ m.acts }

-- a run whose wait finds nothing stays as it is
abbrev pub taken : Service → Run → Option (Event × List Event) → Run
taken s r None = r
taken s r (Some q) = moved (takes s r.core q.0) q.1 r.acts

-- an instruction, or the first untaken event that is wanted
unfoldable pub step : Service → Run → Run
step s r = if is_ready r.core then moved (begin s r.core) r.untaken r.acts else taken s r (first_of (wants r.core) r.untaken)

unfoldable pub steps : Service → ℕ → Run → Run
steps s zero r = r
steps s (suc n) r = steps s n (step s r)

-- as many steps as there can be: at each taking the instructions are counted anew
unfoldable pub enough : List Event → ℕ
enough effects = (budget + 2) * (length effects + 1)

unfoldable pub fresh_core : Core
fresh_core = record { mode = mode.Ready; line = 0; left = budget; registers = zeros; called = replicate 16 0; pending = []; open_requests = []; asks = 0; clock = 0; stream = None }

abbrev pub fresh : List Event → Run
fresh effects = record { core = fresh_core; untaken = effects; acts = [] }

-- the whole run
abbrev pub run_of : Service → List Event → Run
run_of s effects = steps s (enough effects) (fresh effects)

-- the acts of a script on a list of effects
abbrev pub acts_of : Service → List Event → List Act
acts_of s effects = (run_of s effects).acts

-- a run to which no step adds anything
abbrev pub IsOver : Service → Run → Type 0
IsOver s r = step s r ≡ r

-- with more effects at the end of the list
abbrev pub more : List Event → Run → Run
more ys r = record r { untaken = r.untaken ++ ys }

-- with acts before
abbrev pub after : List Act → Run → Run
after before r = record r { acts = before ++ r.acts }

abbrev pub weight_ready : Bool → ℕ
weight_ready b = if b then 1 else 0

-- a bound on the steps that are left
unfoldable pub weight : Run → ℕ
weight r = (budget + 2) * length r.untaken + r.core.left + weight_ready (is_ready r.core)

-- the run to its end
unfoldable pub finish : Service → Run → Run
finish s r = steps s (weight r) r

-- a run that ended, given more effects, with no act yet
abbrev pub resumed : Run → List Event → Run
resumed r ys = record { core = r.core; untaken = r.untaken ++ ys; acts = [] }

-- the state is the one at which the run on these effects ended
pub record IsAt (s : Service) (c : Core) (untaken effects : List Event) : Type 0 where
  pub core : c ≡ (run_of s effects).core
  pub rest : untaken ≡ (run_of s effects).untaken
