use Rattle.std.proofs.Common.{◌≡◌, ◌∙◌, ap, ℕ, List, length, arith}
use Rattle.std.specs.Prelude.{slice_index}
use Rattle.std.specs.List.{list_all}
use Rattle.pws_base.specs.Shapes.{quorum_of}
use Rattle.pws_event.specs.declared.readings.Share.{Share}
use Rattle.pws_protocol.specs.Evidence.{is_kept}
use Rattle.pws_protocol.specs.Support.{is_read}
use Rattle.pws_evidence.specs.Counted.{share_stated}
use Rattle.pws_evidence.proofs.Quorums.{read_then}
use Rattle.pws_evidence.proofs.stores.Evidence.are_shares_read.Goals as goal

pub returns-then-shares-quorum : goal.returns-then-shares-quorum
returns-then-shares-quorum c =
    let e = c.args.self.now in
    let f = slice_index e.layout e.group in
    let same : length c.shares-shares.result.now ≡ length c.args.random.now.shares = ap (λ (xs : List Share). length xs) c.shares-shares.ensures.value in
    let whole : length c.args.random.now.shares ≡ quorum_of (slice_index e.layout e.group) = omega (arith, same, c.if-shares-quorum.true, c.quorum.ensures.value) in
    c.all_shares_read.ensures
    ∙ (ap (λ (xs : List Share). list_all (λ (x : Share). is_read (is_kept e) f e.group c.ask.result (share_stated x)) xs) c.shares-shares.ensures.value
    ∙ (ap (λ (a : ℕ). list_all (λ (x : Share). is_read (is_kept e) f e.group a (share_stated x)) c.args.random.now.shares) c.ask.ensures.value
    ∙ read_then share_stated (is_kept e) f e.group c.args.random.now.ask c.args.random.now.shares c.shares-shares.ensures.lawful.indices whole))
