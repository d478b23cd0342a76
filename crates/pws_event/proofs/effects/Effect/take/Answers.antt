use Rattle.pws_event.proofs.Counted.{event_more}
use Rattle.pws_event.proofs.effects.Effect.take.Goals as goal

pub returns-clause-taken : goal.returns-clause-taken
returns-clause-taken c = λ past h. rw c.step.ensures.taken (event_more c.args.self.now past c.args.event.now c.step.ensures.counters c.step.ensures.lawful h)
