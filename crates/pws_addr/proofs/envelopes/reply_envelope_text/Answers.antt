use Rattle.pws_addr.specs.Envelopes.{reply_local}
use Rattle.pws_addr.proofs.Messages.{reply_named}
use Rattle.pws_addr.proofs.envelopes.reply_envelope_text.Goals as goal

pub message_text-requires : goal.message_text-requires
unfolding reply_local
message_text-requires c = reply_named
