use Rattle.std.proofs.Common.{◌≡◌, ◌++◌, map, take}
use Rattle.pws_addr.specs.Blocks.{relation_block}
use Rattle.pws_addr.proofs.putting.push_relations.Given as goal

abbrev pub invariant-loop-relation : goal.invariant-loop-relation
invariant-loop-relation l = l.blocks.items ≡ l.initial.blocks.items ++ map relation_block (take l.relation-index l.relations)
