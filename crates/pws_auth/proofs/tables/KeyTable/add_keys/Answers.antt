use Rattle.std.proofs.Common.{◌∙◌, ap, get_or, take}
use Rattle.pws_auth.specs.Tags.{seed_key}
use Rattle.pws_auth.specs.Keys.{key_for}
use Rattle.pws_auth.specs.Steps.{added_pair, added_by_seed}
use Rattle.pws_auth.proofs.Puts.{put_is}
use Rattle.pws_auth.proofs.Seeds.{added_more}
use Rattle.pws_auth.proofs.tables.KeyTable.add_keys.Goals as goal

pub loop-other-preserved : goal.loop-other-preserved
loop-other-preserved c =
    let old = c.loop-other.self in
    let x = c.args.member in
    let y = get_or c.args.others.now c.loop-other.other-index (record { group = 0; index = 0 }) in
    record {
      layout = c.in_ok-put.ensures.layout ∙ c.loop-other.invariant.layout;
      keys = λ a b.
          put_is old c.put.new.self x y c.of-pair.result c.seed_key.result c.of-pair.ensures c.in_ok-put.ensures.keys a b
          ∙ (ap (λ o. added_pair x y c.seed_key.result a b o) (c.loop-other.invariant.keys a b)
          ∙ (ap (λ k. added_pair x y k a b (added_by_seed c.args.seed.now x (take c.loop-other.other-index c.args.others.now) a b (key_for c.args.self.now a b))) (c.seed_key.ensures ∙ ap (seed_key c.args.seed.now) c.of-pair.ensures)
          ∙ added_more c.args.seed.now x c.args.others.now c.loop-other.other-index _ a b (key_for c.args.self.now a b) c.loop-other-test.true));
    }
