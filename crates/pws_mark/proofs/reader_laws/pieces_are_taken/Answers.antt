use Rattle.pws_mark.proofs.TakesPieces.{pieces_are_taken}
use Rattle.pws_mark.proofs.reader_laws.pieces_are_taken.Goals as goal

pub returns : goal.returns
returns c = pieces_are_taken
