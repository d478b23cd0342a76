use Rattle.pws_mark.proofs.Spelled.{document_spelled}
use Rattle.pws_mark.proofs.reader_laws.writes_spell.Goals as goal

pub returns : goal.returns
returns c = document_spelled
