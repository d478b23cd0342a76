use Rattle.pws_event.proofs.Same.{clocks_decide, randoms_decide}
use Rattle.pws_event.proofs.events.Event.is_same.Goals as goal

pub returns-in-Clock-Clock : goal.returns-in-Clock-Clock
returns-in-Clock-Clock c = rw (c.in-Clock-Clock.is-0, c.in-Clock-Clock.is-1, c.eq-in-Clock-Clock.ensures) (clocks_decide c.in-Clock-Clock.clock c.in-Clock-Clock.second)

pub returns-in-Random-Random : goal.returns-in-Random-Random
returns-in-Random-Random c = rw (c.in-Random-Random.is-0, c.in-Random-Random.is-1, c.eq-in-Random-Random.ensures) (randoms_decide c.in-Random-Random.random c.in-Random-Random.second)
