use Rattle.std.proofs.Common.{◌∙◌, ap}
use Rattle.std.specs.Cmp.Lexicographic.{nat_list_cmp_total, slice_cmp}
use Rattle.std.specs.Ordering.{nat_cmp}
use Rattle.std.specs.FinMap.{FinMap, nat_cmp-IsAntisymmetric, slice_cmp-IsAntisymmetric, insert}
use Rattle.pws_places.proofs.TreeMaps.{inserted}
use Rattle.pws_voter.proofs.texts.Texts.put.Goals as goal

pub returns : goal.returns
returns c =
    inserted nat_list_cmp_total (slice_cmp-IsAntisymmetric nat_cmp-IsAntisymmetric) c.self.inside.rows.entries c.insert.new.self.entries c.args.digest.now c.args.event c.in_ok-_before.ensures.updates.0
    ∙ ap (λ (m : FinMap (slice_cmp nat_cmp) _). insert m c.args.digest.now c.args.event) c.self.view_is
