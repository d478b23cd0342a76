use Rattle.std.proofs.Common.{◌≡◌, ◌∙◌, ap, ℕ, List, length, arith}
use Rattle.std.specs.Prelude.{slice_index}
use Rattle.std.specs.List.{list_all}
use Rattle.pws_base.specs.Shapes.{quorum_of}
use Rattle.pws_event.specs.declared.readings.Reading.{Reading}
use Rattle.pws_protocol.specs.Evidence.{is_kept}
use Rattle.pws_protocol.specs.Support.{is_read}
use Rattle.pws_evidence.specs.Counted.{time_stated}
use Rattle.pws_evidence.proofs.Quorums.{read_then}
use Rattle.pws_evidence.proofs.stores.Evidence.are_times_read.Goals as goal

pub returns-then-readings-quorum : goal.returns-then-readings-quorum
returns-then-readings-quorum c =
    let e = c.args.self.now in
    let f = slice_index e.layout e.group in
    let same : length c.readings-readings.result.now ≡ length c.args.clock.now.readings = ap (λ (xs : List Reading). length xs) c.readings-readings.ensures.value in
    let whole : length c.args.clock.now.readings ≡ quorum_of (slice_index e.layout e.group) = omega (arith, same, c.if-readings-quorum.true, c.quorum.ensures.value) in
    c.all_times_read.ensures
    ∙ (ap (λ (xs : List Reading). list_all (λ (x : Reading). is_read (is_kept e) f e.group c.ask.result (time_stated x)) xs) c.readings-readings.ensures.value
    ∙ (ap (λ (a : ℕ). list_all (λ (x : Reading). is_read (is_kept e) f e.group a (time_stated x)) c.args.clock.now.readings) c.ask.ensures.value
    ∙ read_then time_stated (is_kept e) f e.group c.args.clock.now.ask c.args.clock.now.readings c.readings-readings.ensures.lawful.indices whole))
