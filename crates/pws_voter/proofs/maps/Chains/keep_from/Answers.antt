use Rattle.std.proofs.Common.{◌∙◌, ap, rules, nat_le}
use Rattle.std.specs.Cmp.{nat_cmp_total}
use Rattle.std.specs.Ordering.{nat_cmp}
use Rattle.std.specs.FinMap.{FinMap, nat_cmp-IsAntisymmetric, from_entries, retain_keys}
use Rattle.std.proofs.lemmas.Map.Made.{filter_same_pairs}
use Rattle.pws_places.proofs.TreeMaps.{kept}
use Rattle.pws_voter.proofs.maps.Chains.keep_from.Goals as goal

pub returns : goal.returns
returns c =
    let passes = nat_le c.args.low in
    let es = c.self.inside.rows.entries in
    ap from_entries (filter_same_pairs _ (λ e. passes e.0) _ (λ k v b w f' t. search rules) es c.retain.new.self.entries c.retain.ensures.filtered)
    ∙ (kept nat_cmp_total nat_cmp-IsAntisymmetric passes es ∙ ap (λ (m : FinMap nat_cmp _). retain_keys m passes) c.self.view_is)
