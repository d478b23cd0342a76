use Rattle.std.proofs.Common.{◌∙◌, sym, ap}
use Rattle.std.specs.Cmp.Lexicographic.{nat_list_cmp_total}
use Rattle.std.specs.FinMap.{nat_cmp-IsAntisymmetric, slice_cmp-IsAntisymmetric, entries}
use Rattle.pws_places.specs.DigestMaps.{DigestMap}
use Rattle.pws_places.proofs.TreeMaps.{entries_are}
use Rattle.pws_places.proofs.digests.Digests.iter.Goals as goal

pub returns : goal.returns
returns g c =
    c.iter.ensures.rest ∙ (sym (entries_are nat_list_cmp_total (slice_cmp-IsAntisymmetric nat_cmp-IsAntisymmetric) c.self.inside.rows.entries c.iter.ensures.ordered)
    ∙ ap (λ (m : DigestMap _). entries m.rows) c.self.view_is)
