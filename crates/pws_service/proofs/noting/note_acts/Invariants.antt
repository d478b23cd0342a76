use Rattle.std.proofs.Common.{◌≡◌, List, ◌++◌, take, drop}
use Rattle.pws_event.specs.declared.events.Event.{Event}
use Rattle.pws_event.specs.Counters.{HasTaken}
use Rattle.pws_service.specs.declared.acts.Act.{Act}
use Rattle.pws_service.specs.Noting.{led, CanNote}
use Rattle.pws_service.proofs.noting.note_acts.Given as goal

abbrev pub invariant-loop-act : goal.invariant-loop-act
invariant-loop-act l = record {
  can : CanNote l.effect (drop l.act-index l.acts);
  taken : (es : List Event) (before : List Act) → HasTaken l.fn.effect (led before es) → HasTaken l.effect (led (before ++ take l.act-index l.acts) es);
  me : l.effect.me ≡ l.fn.effect.me;
  layout : l.effect.layout ≡ l.fn.effect.layout;
}
