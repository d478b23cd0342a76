use Rattle.std.proofs.Common.{◌∙◌, sym, ap}
use Rattle.std.specs.Cmp.{nat_cmp_total}
use Rattle.std.specs.Ordering.{nat_cmp}
use Rattle.std.specs.FinMap.{FinMap, nat_cmp-IsAntisymmetric, len}
use Rattle.pws_places.proofs.TreeMaps.{count_is}
use Rattle.pws_voter.proofs.maps.Chains.count.Goals as goal

pub returns : goal.returns
returns c = c.len.ensures.len ∙ (sym (count_is nat_cmp_total nat_cmp-IsAntisymmetric c.self.inside.rows.entries c.len.ensures.ordered) ∙ ap (λ (m : FinMap nat_cmp _). len m) c.self.view_is)
