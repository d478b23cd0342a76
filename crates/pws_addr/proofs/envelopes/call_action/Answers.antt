use Rattle.std.proofs.Common.{refl}
use Rattle.pws_addr.proofs.Printable.{printable_xml}
use Rattle.pws_addr.proofs.envelopes.call_action.Goals as goal

pub from_str-requires : goal.from_str-requires
from_str-requires c = printable_xml _ refl
