use Rattle.std.proofs.Common.{◌≡◌, ◌∙◌, true}
use Rattle.pws_script.specs.Numbers.{is_decimal}
use Rattle.pws_script.proofs.NumberLemmas.{number_parsed}
use Rattle.pws_script.proofs.numbers.read_number.Goals as goal

pub returns-then-is_decimal : goal.returns-then-is_decimal
returns-then-is_decimal c =
    let test : is_decimal c.args.word.now ≡ true = cc in
    c.ok.ensures.value ∙ number_parsed c.args.word.now c.parse.result test c.parse.ensures.value.0
