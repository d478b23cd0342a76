use Rattle.std.proofs.Common.{◌∙◌, sym, ap}
use Rattle.std.specs.Cmp.Lexicographic.{nat_list_cmp_total}
use Rattle.std.specs.FinMap.{get}
use Rattle.pws_places.specs.DigestMaps.{DigestMap}
use Rattle.pws_places.proofs.TreeMaps.{get_is}
use Rattle.pws_places.proofs.digests.Digests.get.Goals as goal

pub returns : goal.returns
returns g c = c.get.ensures.value ∙ (sym (get_is nat_list_cmp_total c.self.inside.rows.entries c.args.digest.now) ∙ ap (λ (m : DigestMap _). get m.rows c.args.digest.now) c.self.view_is)
