use Rattle.std.proofs.Common.{Option, subst}
use Rattle.std.specs.Option.{option_and_then}
use Rattle.pws_msg.specs.declared.contents.Content.{Content}
use Rattle.pws_protocol.specs.Candidates.{request_in, is_due}
use Rattle.pws_evidence.specs.Proposed.{IsBetter}
use Rattle.pws_evidence.proofs.stores.Evidence.is_due_request.Goals as goal

pub returns-in-Some : goal.returns-in-Some
returns-in-Some c =
    subst (λ (o : Option Content). IsBetter (is_due c.args.self.now c.args.asked.now) (option_and_then (request_in c.args.sender.group) o) c.args.best.now c.is_due_statement.result)
    c.in-Some.ensures.value c.is_due_statement.ensures
