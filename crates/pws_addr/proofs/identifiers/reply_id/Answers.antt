use Rattle.std.proofs.Common.{◌≡◌, subst, IsTrue, rules, sym}
use Rattle.pws_tree.specs.Characters.{is_xml_text}
use Rattle.pws_addr.specs.Identifiers.{reply_word, reply_id}
use Rattle.pws_addr.proofs.Printable.{reply_xml}
use Rattle.pws_addr.proofs.identifiers.reply_id.Goals as goal

pub from_str-requires : goal.from_str-requires
unfolding reply_word
from_str-requires c =
    let e : c.as_str.result.now ≡ reply_id c.args.called c.args.caller c.args.number = search rules in
    subst (λ t. IsTrue (is_xml_text t)) (sym e) (reply_xml c.args.called c.args.caller c.args.number)
