use Rattle.std.proofs.Common.{◌≡◌, ℕ, ◌+◌, List, length, ◌∙◌, ap}
use Rattle.std.proofs.Math.Facts.{Fits-of_lt}
use Rattle.pws_protocol.proofs.Keyed.{keys_are_ordered}
use Rattle.pws_evidence.proofs.Summed.{all_of, one_more, whole_is, add_fits, part_fits, add_same, at_end}
use Rattle.pws_evidence.proofs.holding.bodies_held.Goals as goal

pub overflow_add-total-in-Some : goal.overflow_add-total-in-Some
overflow_add-total-in-Some c =
    let size : List ℕ → ℕ = λ b. 32 + length b in
    let all = c.args.bodies.now.entries in
    let before = c.next_back.new.self in
    let one = c.in-Some.body.now in
    let split : all_of size c.loop-key.left ≡ all_of size before + size one = ap (all_of size) c.in-Some.ensures.steps ∙ one_more size before c.in-Some._key.now one in
    Fits-of_lt (add_fits (all_of size all) (all_of size c.loop-key.left) (all_of size before) (size one) c.loop-key.total _ _ c.loop-key.invariant split
    (whole_is keys_are_ordered.bodies keys_are_ordered.bodies_exact size all c.iter-left.ensures.ordered) c.requires (ap (λ n. 32 + n) c.len.ensures))

pub overflow_add-total : goal.overflow_add-total
overflow_add-total c =
    let size : List ℕ → ℕ = λ b. 32 + length b in
    let all = c.args.bodies.now.entries in
    let before = c.next_back.new.self in
    let one = c.in-Some.body.now in
    let split : all_of size c.loop-key.left ≡ all_of size before + size one = ap (all_of size) c.in-Some.ensures.steps ∙ one_more size before c.in-Some._key.now one in
    Fits-of_lt (part_fits (all_of size all) (all_of size c.loop-key.left) (all_of size before) (size one) c.loop-key.total _ _ c.loop-key.invariant split
    (whole_is keys_are_ordered.bodies keys_are_ordered.bodies_exact size all c.iter-left.ensures.ordered) c.requires (ap (λ n. 32 + n) c.len.ensures))

pub loop-key-preserved : goal.loop-key-preserved
loop-key-preserved c =
    let size : List ℕ → ℕ = λ b. 32 + length b in
    let all = c.args.bodies.now.entries in
    let before = c.next_back.new.self in
    let one = c.in-Some.body.now in
    let split : all_of size c.loop-key.left ≡ all_of size before + size one = ap (all_of size) c.in-Some.ensures.steps ∙ one_more size before c.in-Some._key.now one in
    add_same (all_of size all) (all_of size c.loop-key.left) (all_of size before) (size one) c.loop-key.total _ c.loop-key.invariant split (ap (λ n. 32 + n) c.len.ensures)

pub returns : goal.returns
returns c =
    let size : List ℕ → ℕ = λ b. 32 + length b in
    let all = c.args.bodies.now.entries in
    at_end (all_of size all) c.loop-key.total _ (c.loop-key.invariant ∙ ap (λ es. all_of size es + c.loop-key.total) c.in_default.ensures.steps.0)
    (whole_is keys_are_ordered.bodies keys_are_ordered.bodies_exact size all c.iter-left.ensures.ordered)
