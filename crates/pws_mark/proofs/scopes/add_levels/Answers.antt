use Rattle.std.proofs.Common.{◌∙◌, ap, if◌then◌else◌, [], ◌∷◌, ◌++◌}
use Rattle.std.specs.Str.{bytes_eq}
use Rattle.pws_mark.specs.Levels.{levels_at, declared_at}
use Rattle.pws_mark.proofs.Levels.{added_step, added_all}
use Rattle.pws_mark.proofs.Walks.{drop_from_item}
use Rattle.pws_mark.proofs.scopes.add_levels.Goals as goal

pub loop-item-preserved : goal.loop-item-preserved
loop-item-preserved c = λ prefix.
    added_step c.args.level c.args.declared.now c.loop-item.item-index c.item-item.result prefix (levels_at c.loop-item.levels prefix) (levels_at c.add_level.new.levels prefix) (levels_at c.args.levels.now prefix ++ declared_at c.args.level c.args.declared.now prefix)
    (drop_from_item c.args.declared.now c.loop-item.item-index c.item-item.result c.item-item.is c.loop-item-test.true)
    (c.in_ok-add_level.ensures prefix ∙ ap (λ p. if bytes_eq p prefix then levels_at c.loop-item.levels prefix ++ c.args.level ∷ [] else levels_at c.loop-item.levels prefix) c.as_slice.ensures)
    (c.loop-item.invariant prefix)

pub returns : goal.returns
returns c = λ prefix.
    added_all c.args.level c.args.declared.now c.loop-item.item-index prefix (levels_at c.loop-item.levels prefix) (levels_at c.args.levels.now prefix ++ declared_at c.args.level c.args.declared.now prefix) c.loop-item-test.false (c.loop-item.invariant prefix)
