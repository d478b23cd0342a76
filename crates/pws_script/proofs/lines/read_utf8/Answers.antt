use Rattle.std.proofs.Common.{ap, ◌∙◌}
use Rattle.pws_script.proofs.WordLemmas.{texts}
use Rattle.pws_script.proofs.PieceLemmas.{words_are_words}
use Rattle.pws_script.proofs.lines.read_utf8.Goals as goal

pub read_words-requires : goal.read_words-requires
read_words-requires c = words_are_words c.deref-in-None.result.now c.args.line.now c.requires (ap texts c.deref-in-None.ensures.value ∙ c.in_ok-words.ensures)
