use Rattle.pws_addr.specs.Envelopes.{call_local}
use Rattle.pws_addr.proofs.Messages.{call_named}
use Rattle.pws_addr.proofs.envelopes.call_text.Goals as goal

pub message_text-requires : goal.message_text-requires
unfolding call_local
message_text-requires c = call_named
