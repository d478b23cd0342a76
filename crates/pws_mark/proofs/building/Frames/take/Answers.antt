use Rattle.std.proofs.Common.{ap, ◌∙◌}
use Rattle.pws_mark.specs.Frames.{around}
use Rattle.pws_mark.proofs.Built.{took_open, took_text, took_qualified}
use Rattle.pws_mark.proofs.building.Frames.take.Goals as goal
use Rattle.pws_mark.proofs.building.Frames.take.Goals.{in-Open+in_ok-push-in-Open, in-Text+in_ok-add-in-Text, in-Qualified+in_ok-add-in-Qualified}

pub returns : goal.returns
returns c = elim c.match-event.branch [
  | in-Open+in_ok-push-in-Open w ↦ took_open c.args.self.now.frames.items c.match-event.self.frames.items c.args.event w.in-Open.name w.in-Open.attrs w.new.result w.in-Open.is w.new.ensures (ap (λ s. s.frames.items) w.self-is ∙ w.in_ok-push-in-Open.ensures.items)
  | in-Text+in_ok-add-in-Text w ↦ took_text c.args.self.now.frames.items c.match-event.self.frames.items c.args.event w.in-Text.text w.in-Text.is (λ stack. ap (λ s. around s.frames.items stack) w.self-is ∙ w.in_ok-add-in-Text.ensures stack)
  | in-Qualified+in_ok-add-in-Qualified w ↦ took_qualified c.args.self.now.frames.items c.match-event.self.frames.items c.args.event w.in-Qualified.name w.in-Qualified.is (λ stack. ap (λ s. around s.frames.items stack) w.self-is ∙ w.in_ok-add-in-Qualified.ensures stack)
]
