use Rattle.pws_mark.proofs.WrittenUtf8.{spelled_utf8}
use Rattle.pws_mark.proofs.laws.texts_are_utf8.Goals as goal

pub returns : goal.returns
returns c = λ bytes text. spelled_utf8 text.0 bytes text.1
