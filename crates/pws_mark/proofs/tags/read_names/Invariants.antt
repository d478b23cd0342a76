use Rattle.std.proofs.Common.{◌≡◌, take, map}
use Rattle.pws_mark.specs.Noted.{read_name}
use Rattle.pws_mark.proofs.tags.read_names.Given as goal

abbrev pub invariant-loop-attribute : goal.invariant-loop-attribute
invariant-loop-attribute l = l.names ≡ map (λ a. read_name l.inside a.name) (take l.attribute-index l.attributes)
