use Rattle.std.proofs.Common.{◌∙◌, sym, ap}
use Rattle.std.specs.Cmp.{nat_cmp_total}
use Rattle.std.specs.Ordering.{nat_cmp}
use Rattle.std.specs.FinMap.{FinMap, nat_cmp-IsAntisymmetric, entries}
use Rattle.pws_places.proofs.TreeMaps.{entries_are}
use Rattle.pws_voter.proofs.maps.ByReplica.iter.Goals as goal

pub returns : goal.returns
returns g c = c.iter.ensures.rest ∙ (sym (entries_are nat_cmp_total nat_cmp-IsAntisymmetric c.self.inside.rows.entries c.iter.ensures.ordered) ∙ ap (λ (m : FinMap nat_cmp _). entries m) c.self.view_is)
