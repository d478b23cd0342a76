use Rattle.pws_msg.proofs.Unique.{streams_are_one, breaks_are_one}
use Rattle.pws_msg.proofs.laws.streams_are_one.Goals as goal

pub returns : goal.returns
returns c = record { streams = streams_are_one; breaks = breaks_are_one }
