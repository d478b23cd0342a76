use Rattle.pws_msg.proofs.Unique.{no_stream_is_broken as law}
use Rattle.pws_msg.proofs.laws.no_stream_is_broken.Goals as goal

pub returns : goal.returns
returns c = law
