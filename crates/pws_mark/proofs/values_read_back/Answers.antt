use Rattle.pws_mark.proofs.ValueReadBack as read
use Rattle.pws_mark.proofs.values_read_back.Goals as goal

pub returns : goal.returns
returns c = read.values_read_back
