use Rattle.std.proofs.Common.{[], append_assoc}
use Rattle.pws_auth.specs.Hmac.{hmac}
use Rattle.pws_auth.proofs.codes.hmac_of_pieces.Goals as goal

pub returns : goal.returns
unfolding hmac
returns c =
    let inner = c.finalize.ensures _ (c.update-3.ensures _ (c.update-2.ensures _ (c.update.ensures [] c.new-inner.ensures))) in
    let outer = c.finalize-2.ensures _ (c.update-5.ensures _ (c.update-4.ensures [] c.new-outer.ensures)) in
    cc (simp append_assoc at inner, outer)
