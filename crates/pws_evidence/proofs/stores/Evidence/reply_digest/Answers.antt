use Rattle.std.proofs.Common.{◌∙◌, ap}
use Rattle.std.specs.Option.{option_and_then}
use Rattle.pws_evidence.specs.Proposed.{reply_under}
use Rattle.pws_evidence.proofs.Bettered.{digest_tells}
use Rattle.pws_evidence.proofs.stores.Evidence.reply_digest.Goals as goal

pub returns-in-Some : goal.returns-in-Some
returns-in-Some c =
    ap (option_and_then (reply_under c.args.self.now c.args.sender.group c.args.number)) c.reply_digest.ensures
    ∙ digest_tells c.args.self.now c.args.sender.group c.args.sender.index c.args.number _ c.in-Some.ensures.lawful c.in-Some.ensures.value
