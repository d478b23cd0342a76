use Rattle.std.proofs.Common.{◌∙◌, sym, ap}
use Rattle.std.specs.Cmp.Lexicographic.{nat_list_cmp_total, slice_cmp}
use Rattle.std.specs.Ordering.{nat_cmp}
use Rattle.std.specs.FinMap.{FinMap, get}
use Rattle.pws_places.proofs.TreeMaps.{get_is}
use Rattle.pws_voter.proofs.texts.Texts.get.Goals as goal

pub returns : goal.returns
returns c = c.get.ensures.value ∙ (sym (get_is nat_list_cmp_total c.self.inside.rows.entries c.args.digest.now) ∙ ap (λ (m : FinMap (slice_cmp nat_cmp) _). get m c.args.digest.now) c.self.view_is)
