use Rattle.pws_mark.proofs.Scalars.{no_char}
use Rattle.pws_mark.proofs.references.char_at.Goals as goal

pub returns-in_default-2 : goal.returns-in_default-2
returns-in_default-2 c = no_char c.args.number c.in_default.ensures.cases
