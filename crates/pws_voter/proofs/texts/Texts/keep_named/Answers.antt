use Rattle.std.proofs.Common.{◌∙◌, ap, rules}
use Rattle.std.specs.Cmp.Lexicographic.{nat_list_cmp_total, slice_cmp}
use Rattle.std.specs.Ordering.{nat_cmp}
use Rattle.std.specs.FinMap.{FinMap, nat_cmp-IsAntisymmetric, slice_cmp-IsAntisymmetric, from_entries, retain_keys}
use Rattle.std.proofs.lemmas.Map.Made.{filter_same_pairs}
use Rattle.pws_places.proofs.TreeMaps.{kept}
use Rattle.pws_voter.specs.Windows.{are_named}
use Rattle.pws_voter.proofs.texts.Texts.keep_named.Goals as goal

pub returns : goal.returns
returns c =
    let passes = are_named c.args.slots.now.rows c.args.pre_prepared.now c.args.slots.now.low c.args.choice.now in
    let es = c.self.inside.rows.entries in
    ap from_entries (filter_same_pairs _ (λ e. passes e.0) _ (λ k v b w f' t. search rules) es c.retain.new.self.entries c.retain.ensures.filtered)
    ∙ (kept nat_list_cmp_total (slice_cmp-IsAntisymmetric nat_cmp-IsAntisymmetric) passes es ∙ ap (λ (m : FinMap (slice_cmp nat_cmp) _). retain_keys m passes) c.self.view_is)
