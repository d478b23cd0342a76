use Rattle.std.proofs.Common.{sym, ◌∙◌}
use Rattle.pws_script.proofs.WordLemmas.{three_up, past_two, text_set_found}
use Rattle.pws_script.proofs.lines.text_set.Goals as goal

pub split_at-requires : goal.split_at-requires
split_at-requires c =
    let t = three_up c.args.words.now c.args.line.now _ c.in-len3-up.len_at_least c.requires in
    past_two _ _ t.rest c.args.line.now t.whole

pub returns-in-len3-up : goal.returns-in-len3-up
returns-in-len3-up c =
    text_set_found c.args.words.now c.args.line.now _ c.split_at.result.1.now c.in-len3-up.len_at_least c.requires (sym c.is_set.ensures ∙ c.if-is_set.true) (sym c.is_quoted.ensures ∙ c.if-is_quoted.true) c.split_at.ensures.back
