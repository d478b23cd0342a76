-- What follows from the definition of runs; this project's own.
use Rattle.std.specs.Prelude.{◌≡◌, ◌≤◌, List, [], ◌++◌, length}
use Rattle.pws_base.specs.Limits.{max_groups}
use Rattle.pws_event.specs.declared.events.Event.{Event}
use Rattle.pws_service.specs.declared.acts.Act.{Act}
use Rattle.pws_driver.specs.Envelopes.{TextsFit}
use Rattle.pws_driver.specs.Services.{Service}
use Rattle.pws_driver.specs.Runs.{acts_of, run_of, finish, resumed, after, IsOver}
use Rattle.pws_service.specs.Drivers.{IsPrefix}
use Rattle.pws_service.specs.Effects.{InTurn}
use Rattle.pws_service.specs.Lawful.{LawfulCalls, LawfulReplies, LawfulAsks}

-- nothing more could be done at the end of a run
abbrev pub RunsEnd : Type 0
RunsEnd = (s : Service) (effects : List Event) → IsOver s (run_of s effects)

-- the run on a longer list goes on from where the run on the shorter one ended
abbrev pub RunsGoOn : Type 0
RunsGoOn = (s : Service) (earlier later : List Event) → run_of s (earlier ++ later) ≡ after (run_of s earlier).acts (finish s (resumed (run_of s earlier) later))

-- the acts on a prefix of the effects are a prefix of the acts on the whole
abbrev pub ActsGrow : Type 0
ActsGrow = (s : Service) (earlier later : List Event) → IsPrefix (acts_of s earlier) (acts_of s (earlier ++ later))

-- in a layout of as many groups as there can be
abbrev pub CallsAreLawful : Type 0
CallsAreLawful = (s : Service) (effects : List Event) → length s.layout ≤ max_groups → TextsFit s.words → LawfulCalls s.me s.layout effects [] (acts_of s effects)

-- where each effect took effect in turn
abbrev pub RepliesAreLawful : Type 0
RepliesAreLawful = (s : Service) (effects : List Event) → TextsFit s.words → InTurn s.me s.layout (acts_of s) [] effects → LawfulReplies effects [] (acts_of s effects)

abbrev pub AsksAreLawful : Type 0
AsksAreLawful = (s : Service) (effects : List Event) → LawfulAsks effects [] (acts_of s effects)
