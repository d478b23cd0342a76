use Rattle.std.proofs.Common.{◌≡◌, true, false, sym}
use Rattle.pws_script.proofs.TextLemmas.{is_text_other, refused_text}
use Rattle.pws_script.proofs.quotes.text_from.Goals as goal

pub returns : goal.returns
returns c = refused_text c.args.bytes.items (sym (is_text_other c.args.bytes.items (λ u. let wrong : false ≡ true = c.in-Err.ensures.succeeds u in absurd (cc))))
