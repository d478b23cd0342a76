use Rattle.std.proofs.Common.{◌∙◌, ap}
use Rattle.std.specs.Cmp.{nat_cmp_total}
use Rattle.std.specs.Ordering.{nat_cmp}
use Rattle.std.specs.FinMap.{FinMap, nat_cmp-IsAntisymmetric, insert}
use Rattle.pws_places.proofs.TreeMaps.{inserted}
use Rattle.pws_voter.proofs.maps.ByReplica.put.Goals as goal

pub returns : goal.returns
returns g c =
    inserted nat_cmp_total nat_cmp-IsAntisymmetric c.self.inside.rows.entries c.insert.new.self.entries c.args.index c.args.row c.in_ok-_before.ensures.updates.0
    ∙ ap (λ (m : FinMap nat_cmp _). insert m c.args.index c.args.row) c.self.view_is
