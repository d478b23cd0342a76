use Rattle.pws_mark.proofs.LawfulMeaning.{meanings}
use Rattle.pws_mark.proofs.laws.meanings_are_lawful.Goals as goal

pub returns : goal.returns
returns c = meanings
