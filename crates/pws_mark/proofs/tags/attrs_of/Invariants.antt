use Rattle.std.proofs.Common.{◌≡◌, take}
use Rattle.pws_mark.specs.States.{read_attrs}
use Rattle.pws_mark.proofs.tags.attrs_of.Given as goal

abbrev pub invariant-loop-attribute : goal.invariant-loop-attribute
invariant-loop-attribute l = l.attrs ≡ read_attrs l.inside (take l.attribute-index l.attributes)
