use Rattle.std.proofs.Common.{◌≡◌, ◌∙◌, ap, take, length, arith}
use Rattle.pws_evidence.proofs.ProposingReadings.{times_lawful}
use Rattle.pws_evidence.proofs.stores.Evidence.clock_for.Goals as goal

pub new-requires : goal.new-requires
new-requires c =
    let many : length c.truncate.new.self.items ≡ c.quorum-quorum.result = omega (arith, c.truncate.new.self.ok.0, c.len.ensures, c.if-len-quorum.true) in
    times_lawful c.args.self.now c.args.ask c.quorum-quorum.result c.from_vec-readings.result c.group-group.ensures.lawful c.quorum-quorum.ensures.value c.quorum-quorum.ensures.few
    (c.from_vec-readings.ensures ∙ (c.truncate.ensures.items ∙ ap (take c.quorum-quorum.result) c.in_ok-times.ensures)) (ap length c.from_vec-readings.ensures ∙ many)
