use Rattle.std.proofs.Common.{◌∙◌, ap, ℕ, List}
use Rattle.std.specs.List.{list_any}
use Rattle.pws_event.specs.declared.readings.Reading.{Reading}
use Rattle.pws_evidence.specs.Counted.{names_kept, time_stated}
use Rattle.pws_evidence.proofs.Quorums.{any_made}
use Rattle.pws_evidence.proofs.stores.Evidence.is_time_named.Goals as goal

pub returns : goal.returns
returns c =
    let e = c.args.self.now in
    c.any_time_kept.ensures
    ∙ (ap (λ (xs : List Reading). list_any (λ (x : Reading). names_kept e c.ask.result c.args.index (time_stated x)) xs) c.readings.ensures.value
    ∙ (ap (λ (a : ℕ). list_any (λ (x : Reading). names_kept e a c.args.index (time_stated x)) c.args.clock.now.readings) c.ask.ensures.value
    ∙ any_made time_stated (names_kept e c.args.clock.now.ask c.args.index) c.args.clock.now.readings))
