use Rattle.pws_msg.proofs.WholePackets.{read_complete}
use Rattle.pws_msg.proofs.laws.packets_read_back.Goals as goal

pub returns : goal.returns
returns c = read_complete
