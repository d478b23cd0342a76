use Rattle.std.proofs.Common.{◌≡◌, ◌∙◌, ◌-◌, ◌++◌, ap, arith, option_to_list}
use Rattle.std.specs.List.{filter_map, range_with_len}
use Rattle.pws_protocol.specs.Candidates.{answer_for, answers_from}
use Rattle.pws_evidence.proofs.Ranged.{options_put}
use Rattle.pws_evidence.proofs.stores.Evidence.put_answers.Goals as goal

pub loop-number-preserved : goal.loop-number-preserved
loop-number-preserved c =
    options_put (answer_for c.args.self.now c.args.asked.now c.args.called) c.low_out-least.result c.loop-number.number c.args.events.now.items c.loop-number.events.items c.push_some.new.items.items
    c.loop-number.auto.number c.loop-number.invariant
    (c.in_ok-push_some.ensures ∙ ap (λ o. c.loop-number.events.items ++ option_to_list o) c.in_ok-answer_for.ensures)

pub returns : goal.returns
unfolding answers_from
returns c =
    let old = c.args.events.now.items in
    let made = answer_for c.args.self.now c.args.asked.now c.args.called in
    let all : c.loop-number.number - c.low_out-least.result ≡ 16 = omega arith in
    c.loop-number.invariant
    ∙ (ap (λ k. old ++ filter_map made (range_with_len c.low_out-least.result k)) all
    ∙ ap (λ m. old ++ filter_map made (range_with_len m 16)) c.low_out-least.ensures.counter)
