use Rattle.std.proofs.Common.{◌≡◌, sym, subst, IsTrue, List, ℕ, rules, refl}
use Rattle.std.specs.Prelude.{Some, find}
use Rattle.pws_tree.specs.Characters.{is_xml_text}
use Rattle.pws_addr.specs.Reading.{is_relationship}
use Rattle.pws_addr.proofs.Printable.{printable_xml}
use Rattle.pws_addr.proofs.Said.{value_xml}
use Rattle.pws_addr.proofs.reading.kind_said.Goals as goal

pub returns-in-Some-clause-lawful : goal.returns-in-Some-clause-lawful
returns-in-Some-clause-lawful c =
    let said : Some c.in-Some.attr.now ≡ find is_relationship c.args.block.now.attrs = search rules in
    let e : c.as_str.result.now ≡ c.in-Some.attr.now.value = search rules in
    subst (λ (x : List ℕ). IsTrue (is_xml_text x)) (sym e) (value_xml c.args.block.now c.in-Some.attr.now c.depth-lawful.ensures.lawful said)

pub returns-in-None-clause-lawful : goal.returns-in-None-clause-lawful
returns-in-None-clause-lawful c = printable_xml _ refl
