use Rattle.std.proofs.Common.{◌∙◌}
use Rattle.pws_script.proofs.NumberLemmas.{register_of_other}
use Rattle.pws_script.proofs.numbers.read_register.Goals as goal

pub returns-in_err-digits : goal.returns-in_err-digits
unfolding lib.Utf8.encode
returns-in_err-digits c = c.from_residual.ensures ∙ register_of_other c.args.word.now c.in_err-digits.ensures.cases
