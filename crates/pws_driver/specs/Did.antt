-- What the parts of the runner answer.
use Rattle.std.specs.Prelude.{◌≡◌, List, [], ◌∷◌, ◌++◌, Option, Some, None}
use Rattle.pws_event.specs.declared.events.Event.{Event}
use Rattle.pws_service.specs.declared.acts.Act.{Act}
use Rattle.pws_driver.specs.declared.cores.Core.{Core}
use Rattle.pws_driver.specs.declared.instructions.Done.{Done}
use Rattle.pws_driver.specs.declared.instructions.Done.TheVariants.{Fault, Quiet, Acted}
use Rattle.pws_script.specs.declared.instructions.Instruction.{Instruction}
use Rattle.pws_script.specs.declared.instructions.Instruction.TheVariants as line
use Rattle.pws_driver.specs.declared.machines.Machine.{Machine}
use Rattle.pws_driver.specs.declared.programs.Program.{Program}
use Rattle.pws_driver.specs.Envelopes.{EnvelopeWords}
use Rattle.pws_driver.specs.Services.{Service, service_of}
use Rattle.pws_driver.specs.Runs.{acts_of, IsAt}
use Rattle.pws_driver.specs.Moves.{Moved, quiet}
use Rattle.pws_driver.specs.Instructions.{add_by, sub_by, less_by, same_by, join_by, field_by}

-- an instruction did what is wanted; a fault changes nothing
abbrev pub Did : Done → Core → Core → Option Moved → Type 0
Did Fault old new wanted = (wanted ≡ None) × (new ≡ old)
Did Quiet old new wanted = wanted ≡ Some (quiet new)
Did (Acted a) old new wanted = wanted ≡ Some (record { core = new; acts = a ∷ [] })

-- a whole move, whose acts went to the end of a list
pub record DidMove (m : Moved) (left : Core) (before behind : List Act) : Type 0 where
  pub core : left ≡ m.core
  pub acts : behind ≡ before ++ m.acts

-- a suspended script is where the run of the program on these effects ended
abbrev pub HasRun : EnvelopeWords → Program → Machine → List Event → Type 0
HasRun words p m es = IsAt (service_of words p) m.core m.untaken es

-- what one effect more brings
abbrev pub BringsActs : EnvelopeWords → Program → List Event → Event → List Act → Type 0
BringsActs words p es e acts = acts_of (service_of words p) (es ++ e ∷ []) ≡ acts_of (service_of words p) es ++ acts

-- the first event that is wanted was taken out
abbrev pub TookFirst : Option Event → List Event → List Event → Option (Event × List Event) → Type 0
TookFirst (Some e) old new wanted = wanted ≡ Some (e, new)
TookFirst None old new wanted = (wanted ≡ None) × (new ≡ old)

-- what an instruction that computes a value comes to; any other is none of these
abbrev pub computed : Service → Core → Instruction → Option Moved
computed s c (line.Add d a b) = add_by c d a b
computed s c (line.Sub d a b) = sub_by c d a b
computed s c (line.Less d a b) = less_by c d a b
computed s c (line.Same d a b) = same_by s c d a b
computed s c (line.Join d a b) = join_by c d a b
computed s c (line.Field d m name) = field_by s c d m name
computed s c (line.Set d l) = None
computed s c (line.Jump l a) = None
computed s c (line.Receive r m) = None
computed s c (line.Call d g t ms) = None
computed s c (line.Await m r) = None
computed s c (line.AwaitAny d m among) = None
computed s c (line.Next d m) = None
computed s c (line.Reply r t) = None
computed s c (line.Clock d) = None
computed s c line.Seed = None
computed s c (line.Draw d n) = None
computed s c line.Stop = None
