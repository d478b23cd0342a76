use Rattle.std.proofs.Common.{◌≡◌, subst, IsTrue, rules, sym}
use Rattle.pws_tree.specs.Characters.{is_xml_text}
use Rattle.pws_addr.specs.Identifiers.{group_word, group_address}
use Rattle.pws_addr.proofs.Printable.{group_xml}
use Rattle.pws_addr.proofs.identifiers.group_address.Goals as goal

pub from_str-requires : goal.from_str-requires
unfolding group_word
from_str-requires c =
    let e : c.as_str.result.now ≡ group_address c.args.group = search rules in
    subst (λ t. IsTrue (is_xml_text t)) (sym e) (group_xml c.args.group)
