use Rattle.std.proofs.Common.{◌≡◌, ◌∙◌, sym, ap, subst, IsTrue, List, ℕ, rules}
use Rattle.std.specs.Prelude.{Some}
use Rattle.std.specs.Str.{IsUtf8}
use Rattle.pws_tree.specs.Characters.{is_xml_text}
use Rattle.pws_soap.specs.White.{trim}
use Rattle.pws_addr.specs.Reading.{only_text}
use Rattle.pws_addr.proofs.Said.{trim_xml, text_lawful}
use Rattle.pws_addr.proofs.reading.text_said.Goals as goal

pub returns-clause-lawful : goal.returns-clause-lawful
returns-clause-lawful c =
    let said : Some c.in_ok-text.text.now ≡ only_text c.args.element.now.children = search rules in
    let whole : IsTrue (is_xml_text c.in_ok-text.text.now) = text_lawful c.args.element.now c.in_ok-text.text.now c.depth-lawful.ensures.lawful said in
    let e : c.trim.result.now ≡ trim c.in_ok-text.text.now = c.trim.ensures ∙ ap trim c.as_str.ensures in
    let kept : IsUtf8 (trim c.in_ok-text.text.now) = subst (λ (x : List ℕ). IsUtf8 x) e c.trim.utf8 in
    c.some_text.ensures.lawful (subst (λ (x : List ℕ). IsTrue (is_xml_text x)) (sym e) (trim_xml c.in_ok-text.text.now kept whole))
