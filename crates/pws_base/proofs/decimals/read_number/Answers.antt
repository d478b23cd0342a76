use Rattle.std.proofs.Common.{◌≡◌, ◌∙◌, ap, true}
use Rattle.pws_base.specs.Decimals.{is_decimal, number_of}
use Rattle.pws_base.proofs.DecimalLemmas.{number_parsed}
use Rattle.pws_base.proofs.decimals.read_number.Goals as goal

pub returns-then-is_decimal : goal.returns-then-is_decimal
returns-then-is_decimal c =
    let test : is_decimal c.args.word.now ≡ true = cc in
    let same = c.digits_of.ensures in
    c.ok.ensures.value ∙ (number_parsed c.digits_of.result.now c.parse.result (ap is_decimal same ∙ test) c.parse.ensures.value.0 ∙ ap number_of same)
