use Rattle.std.proofs.Common.{◌≡◌, ◌+◌, ◌∙◌, ap}
use Rattle.std.proofs.Math.Facts.{Fits-of_lt}
use Rattle.pws_protocol.proofs.Keyed.{keys_are_ordered}
use Rattle.pws_protocol.specs.Held.{content_size}
use Rattle.pws_evidence.proofs.Compared.{in_order}
use Rattle.pws_evidence.proofs.Summed.{all_of, one_more, whole_is, add_fits, add_same, at_end}
use Rattle.pws_evidence.proofs.holding.statements_held.Goals as goal

pub overflow_add-total : goal.overflow_add-total
overflow_add-total c =
    let size = content_size in
    let all = c.args.statements.now.entries in
    let before = c.next_back.new.self in
    let one = c.in-Some.statement.now in
    let split : all_of size c.loop-key.left ≡ all_of size before + size one = ap (all_of size) c.in-Some.ensures.steps ∙ one_more size before c.in-Some._key.now one in
    Fits-of_lt (add_fits (all_of size all) (all_of size c.loop-key.left) (all_of size before) (size one) c.loop-key.total _ _ c.loop-key.invariant split
    (whole_is keys_are_ordered.statements keys_are_ordered.statements_exact size all (in_order all c.iter-left.ensures.ordered)) c.requires c.statement_length-total.ensures)

pub loop-key-preserved : goal.loop-key-preserved
loop-key-preserved c =
    let size = content_size in
    let all = c.args.statements.now.entries in
    let before = c.next_back.new.self in
    let one = c.in-Some.statement.now in
    let split : all_of size c.loop-key.left ≡ all_of size before + size one = ap (all_of size) c.in-Some.ensures.steps ∙ one_more size before c.in-Some._key.now one in
    add_same (all_of size all) (all_of size c.loop-key.left) (all_of size before) (size one) c.loop-key.total _ c.loop-key.invariant split c.statement_length-total.ensures

pub returns : goal.returns
returns c =
    let size = content_size in
    let all = c.args.statements.now.entries in
    at_end (all_of size all) c.loop-key.total _ (c.loop-key.invariant ∙ ap (λ es. all_of size es + c.loop-key.total) c.in_default.ensures.steps.0)
    (whole_is keys_are_ordered.statements keys_are_ordered.statements_exact size all (in_order all c.iter-left.ensures.ordered))
