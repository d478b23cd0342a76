use Rattle.pws_mark.proofs.Built.{added}
use Rattle.pws_mark.proofs.building.Frames.add.Goals as goal

pub returns : goal.returns
returns c = added c.args.self.now.frames.items c.in-Some.frame.now c.args.node c.push.new.self _ c.requires c.args.self.now.frames.ok.0 c.in-Some.ensures.value c.in_ok-push.ensures.ok
