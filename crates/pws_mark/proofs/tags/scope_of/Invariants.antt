use Rattle.std.proofs.Common.{◌≡◌, take}
use Rattle.pws_mark.specs.Scopes.{own_bound}
use Rattle.pws_mark.proofs.tags.scope_of.Given as goal

abbrev pub invariant-loop-attribute : goal.invariant-loop-attribute
invariant-loop-attribute l = l.scope ≡ own_bound (take l.attribute-index l.attributes)
