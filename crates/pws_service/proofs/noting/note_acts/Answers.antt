use Rattle.std.proofs.Common.{◌∙◌}
use Rattle.pws_service.proofs.Turns.{first_at, rest_at, led_at}
use Rattle.pws_service.proofs.noting.note_acts.Goals as goal

pub note_act-requires : goal.note_act-requires
note_act-requires c = first_at c.loop-act.effect c.args.acts.now c.loop-act.act-index c.act-item.result c.loop-act-test.true c.act-item.is c.loop-act.invariant.can

pub loop-act-preserved : goal.loop-act-preserved
loop-act-preserved c = record {
  can = rest_at c.loop-act.effect c.note_act.new.effect c.args.acts.now c.loop-act.act-index c.act-item.result c.loop-act-test.true c.act-item.is c.loop-act.invariant.can c.note_act.ensures.taken c.note_act.ensures.me c.note_act.ensures.layout;
  taken = led_at c.args.effect.now c.loop-act.effect c.note_act.new.effect c.args.acts.now c.loop-act.act-index c.act-item.result c.loop-act-test.true c.act-item.is c.loop-act.invariant.taken c.note_act.ensures.taken;
  me = c.note_act.ensures.me ∙ c.loop-act.invariant.me;
  layout = c.note_act.ensures.layout ∙ c.loop-act.invariant.layout;
}
