use Rattle.std.proofs.Common.{◌≡◌, subst, IsTrue, rules, sym, List, [], ◌∷◌}
use Rattle.std.specs.List.{list_all}
use Rattle.pws_tree.specs.Names.{is_lawful_attr}
use Rattle.pws_tree.specs.declared.texts.Attr.{Attr}
use Rattle.pws_addr.specs.Blocks.{relationship}
use Rattle.pws_addr.proofs.Lawful.{relationships_lawful}
use Rattle.pws_addr.proofs.putting.kind_attrs.Goals as goal

pub returns-clause-lawful : goal.returns-clause-lawful
returns-clause-lawful c =
    let e : c.in_ok-vec.field-0.items ≡ relationship c.args.kind.now ∷ [] = search rules in
    subst (λ (x : List Attr). IsTrue (list_all is_lawful_attr x)) (sym e) (relationships_lawful c.args.kind.now (search rules))
