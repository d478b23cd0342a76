use Rattle.std.proofs.Common.{sym, arith}
use Rattle.pws_auth.specs.Keys.{tag_for}
use Rattle.pws_auth.proofs.Found.{can_seal_at, rising_more, few_made}
use Rattle.pws_auth.proofs.tables.KeyTable.seal.Goals as goal

pub tag_for-requires : goal.tag_for-requires
tag_for-requires c = can_seal_at c.args.self.now c.args.sender c.args.group c.in-Some.shape c.loop-index.index c.requires (sym c.in-Some.ensures) (omega arith)

pub loop-index-preserved : goal.loop-index-preserved
loop-index-preserved c =
    rising_more (λ index. tag_for c.args.self.now c.args.sender c.args.content.now (record { group = c.args.group; index = index })) c.loop-index.index
    c.loop-index.tags c.push.new.self c.tag_for.result c.loop-index.invariant (c.tag_for.ensures c.args.content.now c.digest-digest.ensures) c.in_ok-push.ensures.ok

pub returns-clause-few : goal.returns-clause-few
returns-clause-few c =
    few_made (λ index. tag_for c.args.self.now c.args.sender c.args.content.now (record { group = c.args.group; index = index }))
    c.loop-index.index _ c.loop-index.tags c.loop-index.invariant c.loop-index.auto.index-end c.n-index-end.ensures.few
