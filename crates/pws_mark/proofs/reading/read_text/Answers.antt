use Rattle.std.proofs.Common.{◌∙◌, sym, subst}
use Rattle.pws_mark.specs.Frames.{MayBuild}
use Rattle.pws_mark.specs.ReaderLaws.{Builds}
use Rattle.pws_mark.proofs.TextsRead.{stops_so, stops_short, refused_whole, may_build, means_whole}
use Rattle.pws_mark.proofs.reading.read_text.Goals as goal

pub returns-then-not-is_whole : goal.returns-then-not-is_whole
returns-then-not-is_whole c =
    stops_short c.args.text.now c.in_ok-scan.scan c.into_least.result c.stand-stand.result c.stopped-error.result c.utf8.text c.requires c.in_ok-scan.ensures
    c.stand-stand.ensures (sym c.if-not-is_whole.ensures) c.into_least.ensures
    (stops_so c.args.text.now c.as_bytes.result.now c.at-at.result c.in_ok-scan.scan.state.at 0 c.into_least.result c.stand-stand.result c.stopped-error.result c.as_bytes.ensures.value c.at-at.ensures.value c.stopped-error.ensures)

pub build-requires : goal.build-requires
build-requires c =
    subst MayBuild (sym c.into_events-events.ensures) (may_build c.args.text.now c.in_ok-scan.scan c.utf8.text c.in_ok-scan.ensures (sym c.if-not-is_whole.ensures) (sym c.error-error.ensures ∙ c.in-None.is))

pub returns-in-Some : goal.returns-in-Some
returns-in-Some c =
    refused_whole c.args.text.now c.in_ok-scan.scan c.in-Some.error c.utf8.text c.requires c.in_ok-scan.ensures (sym c.if-not-is_whole.ensures) (sym c.error-error.ensures ∙ c.in-Some.is)

pub returns-in_ok-build-in-None : goal.returns-in_ok-build-in-None
returns-in_ok-build-in-None c =
    let t = c.in_ok-build-in-None.field-0 in
    means_whole c.args.text.now c.in_ok-scan.scan t c.utf8.text c.requires c.in_ok-scan.ensures (sym c.if-not-is_whole.ensures) (sym c.error-error.ensures ∙ c.in-None.is)
    (subst (λ es. Builds es t) c.into_events-events.ensures c.in_ok-build-in-None.ensures)
