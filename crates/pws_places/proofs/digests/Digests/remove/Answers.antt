use Rattle.std.proofs.Common.{◌∙◌, sym, ap}
use Rattle.std.specs.Cmp.Lexicographic.{nat_list_cmp_total}
use Rattle.std.specs.FinMap.{nat_cmp-IsAntisymmetric, slice_cmp-IsAntisymmetric, get}
use Rattle.pws_places.specs.DigestMaps.{DigestMap, without_digest}
use Rattle.pws_places.proofs.TreeMaps.{get_is, removed}
use Rattle.pws_places.proofs.digests.Digests.remove.Goals as goal

pub returns-clause-value : goal.returns-clause-value
returns-clause-value g c = c.remove.ensures.value ∙ (sym (get_is nat_list_cmp_total c.self.inside.rows.entries c.args.digest.now) ∙ ap (λ (m : DigestMap _). get m.rows c.args.digest.now) c.self.view_is)

pub returns-clause-map : goal.returns-clause-map
returns-clause-map g c =
    ap (λ rows. record { most = c.self.inside.most; rows = rows }) (removed nat_list_cmp_total (slice_cmp-IsAntisymmetric nat_cmp-IsAntisymmetric) c.self.inside.rows.entries c.remove.new.self.entries c.args.digest.now c.remove.ensures.updates.0)
    ∙ ap (λ (m : DigestMap _). without_digest m c.args.digest.now) c.self.view_is
