use Rattle.pws_addr.proofs.Said.{many_no_text}
use Rattle.pws_addr.proofs.reading.only_text.Goals as goal

pub returns-then-children-ne1 : goal.returns-then-children-ne1
returns-then-children-ne1 c = many_no_text _ c.if-children-ne1.true
