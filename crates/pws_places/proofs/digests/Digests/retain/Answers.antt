use Rattle.std.proofs.Common.{◌∙◌, ap, rules}
use Rattle.std.specs.Cmp.Lexicographic.{nat_list_cmp_total}
use Rattle.std.specs.FinMap.{nat_cmp-IsAntisymmetric, slice_cmp-IsAntisymmetric, from_entries}
use Rattle.std.proofs.lemmas.Map.Made.{filter_same_pairs}
use Rattle.pws_places.specs.DigestMaps.{DigestMap, with_passing}
use Rattle.pws_places.proofs.TreeMaps.{kept}
use Rattle.pws_places.proofs.digests.Digests.retain.Goals as goal

pub returns : goal.returns
returns g c =
    let passes = g.N.DigestTest.passes c.args.test.now in
    let es = c.self.inside.rows.entries in
    ap (λ rows. record { most = c.self.inside.most; rows = rows })
    (ap from_entries (filter_same_pairs _ (λ e. passes e.0) _ (λ k v b w f' t. search rules) es c.retain.new.self.entries c.retain.ensures.filtered)
    ∙ kept nat_list_cmp_total (slice_cmp-IsAntisymmetric nat_cmp-IsAntisymmetric) passes es)
    ∙ ap (λ (m : DigestMap _). with_passing passes m) c.self.view_is
