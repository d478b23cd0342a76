use Rattle.pws_msg.proofs.WholePackets.{write_complete}
use Rattle.pws_msg.proofs.laws.packets_write_back.Goals as goal

pub returns : goal.returns
returns c = write_complete
