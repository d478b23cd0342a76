use Rattle.pws_msg.proofs.WholePackets.{answer_spelled}
use Rattle.pws_msg.proofs.packet_reading.read_packet.Goals as goal

pub returns-clause-spells : goal.returns-clause-spells
returns-clause-spells c = answer_spelled c.args.bytes.now c.take_whole.result c.are_bytes.ensures c.take_whole.ensures
