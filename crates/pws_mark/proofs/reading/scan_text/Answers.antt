use Rattle.std.proofs.Common.{◌∙◌, ap}
use Rattle.std.proofs.lemmas.Str.{IsUtf8-past_char}
use Rattle.std.specs.Str.{chars}
use Rattle.std.specs.Str.Iter.{chars_rest}
use Rattle.pws_mark.proofs.TextsRead.{stops_so, begins_loop, goes_on, fits, stops_at, all_taken, shared_fits, taken_shares, fails_by, goes_by}
use Rattle.pws_mark.proofs.reading.scan_text.Goals as goal

pub loop-c-init : goal.loop-c-init
loop-c-init c = begins_loop c.args.text.now (chars_rest c.into_iter-c-iterator.result) c.in_ok-scan.scan c.utf8.text (ap chars_rest c.into_iter-c-iterator.ensures.into_iter_gives ∙ c.chars-c-items.ensures.rest) c.in_ok-scan.ensures

pub step-requires : goal.step-requires
step-requires c = fits c.args.text.now (chars_rest c.loop-c.c-iterator) (chars_rest c.next.new.self) c.in-Some.c c.loop-c.scan c.utf8.text c.requires c.loop-c.invariant.0 c.in-Some.ensures.steps.0 c.loop-c.invariant.1

pub stopped-error-requires : goal.stopped-error-requires
stopped-error-requires c =
    let fails = fails_by c.loop-c.scan c.step.new.self c.in-Some.c c.in_ok-step.field-0 c.if-not-branch.true c.in_ok-step.ensures in
    shared_fits c.args.text.now (chars_rest c.loop-c.c-iterator) (chars_rest c.next.new.self) c.in-Some.c c.shared-count.result c.at-at.result c.loop-c.scan c.utf8.text c.requires c.loop-c.invariant.0 c.in-Some.ensures.steps.0 c.loop-c.invariant.1 c.at-at.ensures.value
    (taken_shares (chars c.args.text.now) (chars (chars_rest c.loop-c.c-iterator)) c.in-Some.c c.shared-count.result c.loop-c.scan c.stand-stand.result c.loop-c.invariant.1 c.stand-stand.ensures fails.0 c.shared-count.ensures)

pub returns-then-not-branch : goal.returns-then-not-branch
returns-then-not-branch c =
    let fails = fails_by c.loop-c.scan c.step.new.self c.in-Some.c c.in_ok-step.field-0 c.if-not-branch.true c.in_ok-step.ensures in
    stops_at c.args.text.now (chars_rest c.loop-c.c-iterator) (chars_rest c.next.new.self) c.in-Some.c c.shared-count.result c.loop-c.scan c.into_least.result c.stand-stand.result c.stopped-error.result c.utf8.text c.requires c.loop-c.invariant.0 c.in-Some.ensures.steps.0 c.loop-c.invariant.1
    c.stand-stand.ensures fails.0
    (taken_shares (chars c.args.text.now) (chars (chars_rest c.loop-c.c-iterator)) c.in-Some.c c.shared-count.result c.loop-c.scan c.stand-stand.result c.loop-c.invariant.1 c.stand-stand.ensures fails.0 c.shared-count.ensures)
    (c.into_least.ensures ∙ fails.1)
    (stops_so c.args.text.now c.as_bytes.result.now c.at-at.result c.loop-c.scan.state.at c.shared-count.result c.into_least.result c.stand-stand.result c.stopped-error.result c.as_bytes.ensures.value c.at-at.ensures.value c.stopped-error.ensures)

pub loop-c-preserved : goal.loop-c-preserved
loop-c-preserved c = (
  IsUtf8-past_char _ _ c.in-Some.c c.loop-c.invariant.0 c.in-Some.ensures.steps.0,
  goes_on (chars c.args.text.now) (chars_rest c.loop-c.c-iterator) (chars_rest c.next.new.self) c.in-Some.c c.loop-c.scan c.step.new.self c.loop-c.invariant.0 c.in-Some.ensures.steps.0 c.loop-c.invariant.1 (goes_by c.loop-c.scan c.step.new.self c.in-Some.c c.in_ok-step.field-0 c.if-not-branch.false c.in_ok-step.ensures),
)

pub returns : goal.returns
returns c = all_taken (chars c.args.text.now) (chars_rest c.loop-c.c-iterator) c.loop-c.scan c.in-None.ensures.steps.0.0 c.loop-c.invariant.1
