use Rattle.std.proofs.Common.{ap, ◌∙◌, sym, subst}
use Rattle.pws_script.specs.Reading.{words_of, text_set_in}
use Rattle.pws_script.specs.Steps.{Gives, words_or_text_at}
use Rattle.pws_script.proofs.WordLemmas.{line_at_utf8, line_at_other}
use Rattle.pws_script.proofs.lines.read_line.Goals as goal

pub returns-in-Ok : goal.returns-in-Ok
returns-in-Ok c =
    subst (λ wanted. Gives (λ i. i) c.read_utf8.result wanted)
    (ap (λ l. words_or_text_at c.args.lines c.args.ended (words_of l) (text_set_in (words_of l))) c.in-Ok.ensures.cases.0 ∙ sym (line_at_utf8 c.args.lines c.args.ended c.args.bytes.now c.in-Ok.ensures.cases.1))
    c.read_utf8.ensures

pub returns-in-Err : goal.returns-in-Err
returns-in-Err c = line_at_other c.args.lines c.args.ended c.args.bytes.now c.in-Err.ensures.cases.0
