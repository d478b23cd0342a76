use Rattle.std.proofs.Common.{◌∙◌, sym}
use Rattle.pws_evidence.proofs.ProposingAnswers.{waiting_small}
use Rattle.pws_evidence.proofs.stores.Evidence.answer_for.Goals as goal

pub reply_for-requires-clause-number_to : goal.reply_for-requires-clause-number_to
reply_for-requires-clause-number_to c = waiting_small c.args.asked.now c.args.called c.args.number c.me-me.ensures.lawful (sym c.waits.ensures.counter ∙ c.if-not-waits.false)

pub abort_for-requires-clause-number_to : goal.abort_for-requires-clause-number_to
abort_for-requires-clause-number_to c = waiting_small c.args.asked.now c.args.called c.args.number c.me-me.ensures.lawful (sym c.waits.ensures.counter ∙ c.if-not-waits.false)
