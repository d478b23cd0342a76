use Rattle.std.proofs.Common.{sym, subst}
use Rattle.pws_event.specs.Effects.{Acts}
use Rattle.pws_event.specs.Counters.{HasTaken}
use Rattle.pws_service.proofs.Noted.{call_noted, clock_noted, random_noted, reply_noted, halt_noted}
use Rattle.pws_service.proofs.noting.note_act.Goals as goal

pub returns-in-Call-clause-taken : goal.returns-in-Call-clause-taken
returns-in-Call-clause-taken c es before h =
    rw (c.in-Call.is, call_noted before c.in-Call.called c.in-Call.number c.in-Call.low c.in-Call.body c.in-Call.timeout) (c.call.ensures.taken _ h)

pub returns-in-Reply-clause-taken : goal.returns-in-Reply-clause-taken
returns-in-Reply-clause-taken c es before h = rw (c.in-Reply.is, reply_noted before c.in-Reply.caller c.in-Reply.number c.in-Reply.body) h

pub returns-in-AskClock-clause-taken : goal.returns-in-AskClock-clause-taken
returns-in-AskClock-clause-taken c es before h = rw (c.in-AskClock.is, clock_noted before c.in-AskClock.ask) (c.ask.ensures.taken _ h)

pub returns-in-AskRandom-clause-taken : goal.returns-in-AskRandom-clause-taken
returns-in-AskRandom-clause-taken c es before h = rw (c.in-AskRandom.is, random_noted before c.in-AskRandom.ask) (c.ask-in-AskRandom.ensures.taken _ h)

pub returns-in-Halted-clause-taken : goal.returns-in-Halted-clause-taken
returns-in-Halted-clause-taken c es before h = rw (c.in-Halted.is, halt_noted before) h
