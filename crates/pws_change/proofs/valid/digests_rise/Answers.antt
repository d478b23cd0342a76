use Rattle.std.proofs.Common.{rules}
use Rattle.std.proofs.lemmas.Fn.{always_returns_same}
use Rattle.pws_msg.specs.declared.changes.Seen.{Seen}
use Rattle.pws_change.specs.Rising.{is_digest_below}
use Rattle.pws_change.proofs.Orders.{below_trans}
use Rattle.pws_change.proofs.Rises.{rises_is}
use Rattle.pws_change.proofs.valid.digests_rise.Goals as goal

pub returns : goal.returns
returns c =
    rises_is (λ (a b : Seen). is_digest_below a.digest b.digest) (λ x y z h k. below_trans x.digest y.digest z.digest h k) c.args.digests.now _
    (c.is_sorted_by.ensures.cases (λ a b. is_digest_below a.digest b.digest) (always_returns_same _ _ _ (λ a r f' k. search rules)))
