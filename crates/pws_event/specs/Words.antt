-- The words for events; this project's own.
use Rattle.std.specs.Prelude.{ℕ, List, ◌++◌, codes, decimal}
use Rattle.pws_event.specs.declared.events.Event.{Event}
use Rattle.pws_event.specs.declared.events.Event.TheVariants as event

-- a request, with its caller's group, or an answer to a call, with the called group; and the number
abbrev pub call_words : List ℕ → ℕ → ℕ → List ℕ
call_words kind group number = kind ++ codes " " ++ decimal group ++ codes " " ++ decimal number

-- what an event is; an answer to an ask has its number
abbrev pub event_words : Event → List ℕ
event_words event.Null = codes "null"
event_words (event.Request r) = call_words (codes "request") r.caller r.number
event_words (event.Reply r) = call_words (codes "reply") r.called r.number
event_words (event.Abort a) = call_words (codes "abort") a.called a.number
event_words (event.Clock c) = codes "clock " ++ decimal c.ask
event_words (event.Random r) = codes "random " ++ decimal r.ask
