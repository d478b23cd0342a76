use Rattle.pws_msg.proofs.ContentsExact.{contents_differ as law}
use Rattle.pws_msg.proofs.laws.contents_differ.Goals as goal

pub returns : goal.returns
returns c = law
