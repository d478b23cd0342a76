use Rattle.std.proofs.Common.{subst, sym, IsTrue}
use Rattle.pws_tree.specs.Trees.{Tree}
use Rattle.pws_soap.specs.Made.{has_few_levels}
use Rattle.pws_addr.proofs.Messages.{message_low}
use Rattle.pws_addr.proofs.envelopes.message_text.Goals as goal

pub around-requires : goal.around-requires
around-requires c = subst (λ (t : Tree). IsTrue (has_few_levels t)) (sym c.in_ok-message.ensures) (message_low c.args.local.now c.args.text.now)
