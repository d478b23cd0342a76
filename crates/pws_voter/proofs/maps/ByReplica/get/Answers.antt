use Rattle.std.proofs.Common.{◌∙◌, sym, ap}
use Rattle.std.specs.Cmp.{nat_cmp_total}
use Rattle.std.specs.Ordering.{nat_cmp}
use Rattle.std.specs.FinMap.{FinMap, get}
use Rattle.pws_places.proofs.TreeMaps.{get_is}
use Rattle.pws_voter.proofs.maps.ByReplica.get.Goals as goal

pub returns : goal.returns
returns g c = c.get.ensures.value ∙ (sym (get_is nat_cmp_total c.self.inside.rows.entries c.args.index) ∙ ap (λ (m : FinMap nat_cmp _). get m c.args.index) c.self.view_is)
