use Rattle.std.proofs.Common.{◌∙◌, ap, ℕ, List}
use Rattle.std.specs.List.{list_any}
use Rattle.pws_event.specs.declared.readings.Share.{Share}
use Rattle.pws_evidence.specs.Counted.{names_kept, share_stated}
use Rattle.pws_evidence.proofs.Quorums.{any_made}
use Rattle.pws_evidence.proofs.stores.Evidence.is_share_named.Goals as goal

pub returns : goal.returns
returns c =
    let e = c.args.self.now in
    c.any_share_kept.ensures
    ∙ (ap (λ (xs : List Share). list_any (λ (x : Share). names_kept e c.ask.result c.args.index (share_stated x)) xs) c.shares.ensures.value
    ∙ (ap (λ (a : ℕ). list_any (λ (x : Share). names_kept e a c.args.index (share_stated x)) c.args.random.now.shares) c.ask.ensures.value
    ∙ any_made share_stated (names_kept e c.args.random.now.ask c.args.index) c.args.random.now.shares))
