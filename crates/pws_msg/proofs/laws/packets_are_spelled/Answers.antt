use Rattle.pws_msg.proofs.WholePackets.{reads_spelled, no_text_spells_two, each_is_spelled, one_spelling}
use Rattle.pws_msg.proofs.laws.packets_are_spelled.Goals as goal

pub returns : goal.returns
returns c = record { reads = reads_spelled; packets = no_text_spells_two; spelled = each_is_spelled; spellings = one_spelling }
