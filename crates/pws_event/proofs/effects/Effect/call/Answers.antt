use Rattle.pws_event.proofs.Preserved.{other_small}
use Rattle.pws_event.proofs.Outgoing.{call_more}
use Rattle.pws_event.proofs.effects.Effect.call.Goals as goal

pub returns-clause-taken : goal.returns-clause-taken
returns-clause-taken c = λ past h. rw c.note_call.ensures.noted (call_more c.args.self.now past c.args.called c.args.number c.note_call.ensures.counters (other_small c.args.self.now.me c.args.self.now.layout c.args.called c.requires.other c.note_call.ensures.counters.groups) c.requires.next c.requires.room h)
