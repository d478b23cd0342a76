use Rattle.std.proofs.Common.{◌≡◌, sym, ◌∙◌, ap, List, [], ◌∷◌, ◌++◌}
use Rattle.pws_service.specs.declared.acts.Act.{Act}
use Rattle.pws_service.specs.Effects.{takes_effect_after, InTurn}
use Rattle.pws_service.specs.Noting.{led}
use Rattle.pws_service.proofs.EffectLaws.{in_turn_more}
use Rattle.pws_service.proofs.Led.{took, void, led_took, can_note_by, acts_void, acts_took, is_led_void, is_led_took}
use Rattle.pws_service.proofs.leading.take.Goals as goal

pub note_acts-requires : goal.note_acts-requires
note_acts-requires g c =
    let p = g.D.Driver.program c.args.driver.now in
    let serve = g.D.Driver.acts p in
    let n = c.args.effect.now in
    let m = c.take.new.self in
    let es = c.requires.0 in
    let l = c.requires.2 in
    let e = c.args.event.now in
    let more = es ++ e ∷ [] in
    let b = took (takes_effect_after n.me n.layout (serve es) es e) (c.in-Taken.ensures.answer (led (serve es) es) l.counters) in
    let turn : InTurn m.me m.layout serve [] more = rw (c.take.ensures.me, c.take.ensures.layout) (in_turn_more n.me n.layout serve es e l.turn b) in
    let fits : g.D.Driver.fits p m.me m.layout = rw (c.take.ensures.me, c.take.ensures.layout) c.requires.1 in
    let goes_on : serve more ≡ serve es ++ c.as_slice.result.now = c.in_ok-acts-in-Taken.ensures.acts es l.driver ∙ ap (λ (x : List Act). serve es ++ x) (sym c.as_slice.ensures.value) in
    can_note_by m serve more (serve es) c.as_slice.result.now (serve more) (led_took m (serve es) es e _ b (c.take.ensures.taken (led (serve es) es) l.counters)) turn goes_on
    (g.met.D.Driver.lawful_calls p m.me m.layout more fits turn)
    (g.met.D.Driver.lawful_asks p m.me m.layout more fits turn)

pub returns-in-Void-clause-acts : goal.returns-in-Void-clause-acts
returns-in-Void-clause-acts g c es l =
    let serve = g.D.Driver.acts (g.D.Driver.program c.args.driver.now) in
    let n = c.args.effect.now in
    acts_void serve es c.args.event.now _ (takes_effect_after n.me n.layout (serve es) es c.args.event.now) (void _ (c.in-Void.ensures.answer (led (serve es) es) l.counters)) c.new.ensures.items

pub returns-in-Void-clause-led : goal.returns-in-Void-clause-led
returns-in-Void-clause-led g c es l =
    let serve = g.D.Driver.acts (g.D.Driver.program c.args.driver.now) in
    let n = c.args.effect.now in
    is_led_void _ serve n c.take.new.self es c.args.event.now (takes_effect_after n.me n.layout (serve es) es c.args.event.now) (void _ (c.in-Void.ensures.answer (led (serve es) es) l.counters)) c.take.ensures.me c.take.ensures.layout l (c.take.ensures.taken (led (serve es) es) l.counters)

pub returns-in_ok-acts-in-Taken-clause-acts : goal.returns-in_ok-acts-in-Taken-clause-acts
returns-in_ok-acts-in-Taken-clause-acts g c es l =
    let serve = g.D.Driver.acts (g.D.Driver.program c.args.driver.now) in
    let n = c.args.effect.now in
    let b = took (takes_effect_after n.me n.layout (serve es) es c.args.event.now) (c.in-Taken.ensures.answer (led (serve es) es) l.counters) in
    acts_took serve es c.args.event.now _ _ b (c.in_ok-acts-in-Taken.ensures.acts es l.driver)

pub returns-in_ok-acts-in-Taken-clause-led : goal.returns-in_ok-acts-in-Taken-clause-led
returns-in_ok-acts-in-Taken-clause-led g c es l =
    let serve = g.D.Driver.acts (g.D.Driver.program c.args.driver.now) in
    let n = c.args.effect.now in
    let m = c.take.new.self in
    let d = c.note_acts.new.effect in
    let e = c.args.event.now in
    let more = es ++ e ∷ [] in
    let b = took (takes_effect_after n.me n.layout (serve es) es e) (c.in-Taken.ensures.answer (led (serve es) es) l.counters) in
    let goes_on : serve more ≡ serve es ++ c.as_slice.result.now = c.in_ok-acts-in-Taken.ensures.acts es l.driver ∙ ap (λ (x : List Act). serve es ++ x) (sym c.as_slice.ensures.value) in
    let counted = c.note_acts.ensures.taken more (serve es) (led_took m (serve es) es e _ b (c.take.ensures.taken (led (serve es) es) l.counters)) in
    let turn : InTurn d.me d.layout serve [] more = rw (c.note_acts.ensures.me, c.note_acts.ensures.layout, c.take.ensures.me, c.take.ensures.layout) (in_turn_more n.me n.layout serve es e l.turn b) in
    is_led_took _ serve d es e c.as_slice.result.now _ b (c.in_ok-acts-in-Taken.ensures.taken es l.driver) goes_on counted turn
