use Rattle.std.proofs.Common.{subst}
use Rattle.std.specs.Vec.Iter.{into_iter_items}
use Rattle.pws_mark.specs.Frames.{Takes}
use Rattle.pws_mark.proofs.Built.{may_begin, goes_on, ends, not_over}
use Rattle.pws_mark.proofs.building.build.Goals as goal

pub take-requires : goal.take-requires
take-requires c = may_begin c.args.events (into_iter_items c.loop-event.event-iterator) c.in-Some.event (into_iter_items c.next.new.self) c.loop-event.frames.frames.items c.requires c.loop-event.invariant.2 c.in-Some.ensures.steps.0

pub returns-in-Some-2 : goal.returns-in-Some-2
returns-in-Some-2 c =
    ends c.args.events (into_iter_items c.loop-event.event-iterator) c.in-Some.event (into_iter_items c.next.new.self) c.loop-event.frames.frames.items c.take.new.self.frames.items c.in-Some-2.element c.requires c.loop-event.invariant.2 c.in-Some.ensures.steps.0
    (subst (λ e. Takes c.loop-event.frames.frames.items c.in-Some.event e c.take.new.self.frames.items) c.in-Some-2.is c.in_ok-element.ensures)

pub loop-event-preserved : goal.loop-event-preserved
loop-event-preserved c = (
  tt,
  tt,
  goes_on c.args.events (into_iter_items c.loop-event.event-iterator) c.in-Some.event (into_iter_items c.next.new.self) c.loop-event.frames.frames.items c.take.new.self.frames.items c.loop-event.invariant.2 c.in-Some.ensures.steps.0
      (subst (λ e. Takes c.loop-event.frames.frames.items c.in-Some.event e c.take.new.self.frames.items) c.in_default.is c.in_ok-element.ensures),
)

pub unreachable-requires : goal.unreachable-requires
unreachable-requires c = not_over c.args.events (into_iter_items c.loop-event.event-iterator) c.loop-event.frames.frames.items _ c.requires c.loop-event.invariant.2 c.loop-event.event-iterator.rest.ok.0 c.in-None.ensures.steps.0
