use Rattle.pws_msg.specs.Frames.{IsRest}
use Rattle.pws_msg.proofs.Streams.{rest_of_begun}
use Rattle.std.proofs.Common.{subst}
use Rattle.pws_msg.proofs.frames.Rest.is_rest.Goals as goal

pub returns : goal.returns
returns c = subst IsRest c.self.view_is (rest_of_begun _ _ _ c.self.invariant)
