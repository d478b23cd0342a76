use Rattle.std.proofs.Common.{◌∙◌, ap, if◌then◌else◌}
use Rattle.std.specs.Str.{bytes_eq}
use Rattle.pws_mark.specs.Levels.{levels_at, without_last}
use Rattle.pws_mark.proofs.Levels.{dropped_step}
use Rattle.pws_mark.proofs.Walks.{drop_from_item}
use Rattle.pws_mark.proofs.scopes.drop_levels.Goals as goal

pub loop-item-preserved : goal.loop-item-preserved
loop-item-preserved c = λ prefix rest level h.
    dropped_step level c.args.declared.now c.loop-item.item-index c.item-item.result prefix (levels_at c.loop-item.levels prefix) (levels_at c.drop_level.new.levels prefix) rest
    (drop_from_item c.args.declared.now c.loop-item.item-index c.item-item.result c.item-item.is c.loop-item-test.true)
    (c.drop_level.ensures prefix ∙ ap (λ p. if bytes_eq p prefix then without_last (levels_at c.loop-item.levels prefix) else levels_at c.loop-item.levels prefix) c.as_slice.ensures)
    (c.loop-item.invariant prefix rest level h)
