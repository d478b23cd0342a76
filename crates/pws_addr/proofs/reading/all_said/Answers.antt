use Rattle.std.proofs.Common.{refl}
use Rattle.pws_addr.proofs.Printable.{printable_xml}
use Rattle.pws_addr.proofs.reading.all_said.Goals as goal

pub text_or-to-requires-clause-default : goal.text_or-to-requires-clause-default
text_or-to-requires-clause-default c = printable_xml _ refl

pub text_or-action-requires-clause-default : goal.text_or-action-requires-clause-default
text_or-action-requires-clause-default c = printable_xml _ refl
