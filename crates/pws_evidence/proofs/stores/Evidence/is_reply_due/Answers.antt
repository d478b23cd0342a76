use Rattle.std.proofs.Common.{◌∙◌, sym}
use Rattle.pws_evidence.proofs.ProposingAnswers.{held_reply}
use Rattle.pws_evidence.proofs.stores.Evidence.is_reply_due.Goals as goal

pub returns-in-Some : goal.returns-in-Some
returns-in-Some c =
    c.is_reply_said.ensures ∙ held_reply c.args.self.now c.args.called c.args.number c.args.digest.now _ c.in-Some.ensures.lawful (sym c.in-Some.ensures.value)
