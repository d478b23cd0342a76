use Rattle.std.proofs.Common.{◌∙◌, sym, ap}
use Rattle.std.specs.Cmp.Lexicographic.{nat_list_cmp_total}
use Rattle.std.specs.FinMap.{nat_cmp-IsAntisymmetric, slice_cmp-IsAntisymmetric, len}
use Rattle.pws_places.specs.DigestMaps.{DigestMap}
use Rattle.pws_places.proofs.TreeMaps.{count_is}
use Rattle.pws_places.proofs.digests.Digests.count.Goals as goal

pub returns-clause-value : goal.returns-clause-value
returns-clause-value g c =
    c.len.ensures.len ∙ (sym (count_is nat_list_cmp_total (slice_cmp-IsAntisymmetric nat_cmp-IsAntisymmetric) c.self.inside.rows.entries c.len.ensures.ordered)
    ∙ ap (λ (m : DigestMap _). len m.rows) c.self.view_is)
