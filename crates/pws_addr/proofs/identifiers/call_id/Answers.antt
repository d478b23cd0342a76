use Rattle.std.proofs.Common.{◌≡◌, subst, IsTrue, rules, sym}
use Rattle.pws_tree.specs.Characters.{is_xml_text}
use Rattle.pws_addr.specs.Identifiers.{call_word, call_id}
use Rattle.pws_addr.proofs.Printable.{call_xml}
use Rattle.pws_addr.proofs.identifiers.call_id.Goals as goal

pub from_str-requires : goal.from_str-requires
unfolding call_word
from_str-requires c =
    let e : c.as_str.result.now ≡ call_id c.args.caller c.args.called c.args.number = search rules in
    subst (λ t. IsTrue (is_xml_text t)) (sym e) (call_xml c.args.caller c.args.called c.args.number)
