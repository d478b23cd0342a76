use Rattle.std.proofs.Common.{◌≡◌, ◌+◌, ◌/◌, ◌%◌, cond, length, is_some, ◌∙◌, sym, ap, arith}
use Rattle.pws_votes.specs.Votes.{key}
use Rattle.pws_votes.specs.MaskBooks.{kind_at, key_at, vote_in, listed}
use Rattle.pws_votes.proofs.Numbered.{listed_none, listed_more, listed_few, len_is}
use Rattle.pws_votes.proofs.mask_book.count_votes.Goals.{then-is_some, else-is_some}
use Rattle.pws_votes.proofs.mask_book.count_votes.Goals as goal

pub loop-i-init : goal.loop-i-init
loop-i-init c = sym (listed_none c.args.tallies.now.prepares.low (vote_in c.args.shape c.args.tallies.now))

pub overflow_add-count : goal.overflow_add-count
overflow_add-count c =
    let few = listed_few c.args.tallies.now.prepares.low (vote_in c.args.shape c.args.tallies.now) c.loop-i.i in
    let same = c.loop-i.invariant in
    let test = c.loop-i-test.true in
    omega arith

pub loop-i-preserved : goal.loop-i-preserved
loop-i-preserved c =
    let f = c.args.shape in
    let t = c.args.tallies.now in
    let low = t.prepares.low in
    let i = c.loop-i.i in
    let n = length (listed low (vote_in f t) i) in
    let tested : is_some (vote_in f t (key_at low i)) ≡ c.is_some.result =
    ap (λ l. is_some (vote_in f t (key (kind_at (i / 320)) (l + 1 + i % 320 / 10) (i % 10)))) (sym c.low-low.ensures.value)
    ∙ (ap (λ k. is_some (vote_in f t (key k (c.low-low.result + 1 + i % 320 / 10) (i % 10)))) (sym c.kind_at.ensures)
    ∙ (ap is_some (sym c.vote_in.ensures) ∙ sym c.is_some.ensures)) in
    elim c.if-is_some.branch [
      | then-is_some w ↦ w.count-is ∙ (ap (λ m. m + 1) c.loop-i.invariant ∙ sym (listed_more low (vote_in f t) i ∙ ap (λ b. n + cond b 1 0) (tested ∙ w.if-is_some.true)))
      | else-is_some w ↦ w.count-is ∙ (c.loop-i.invariant ∙ ((let z : n ≡ n + 0 = omega arith in z) ∙ sym (listed_more low (vote_in f t) i ∙ ap (λ b. n + cond b 1 0) (tested ∙ w.if-is_some.false))))
    ]

pub returns : goal.returns
returns c =
    let f = c.args.shape in
    let t = c.args.tallies.now in
    let test = c.loop-i-test.false in
    let end = c.loop-i.auto.i-end in
    c.loop-i.invariant ∙ (ap (λ n. length (listed t.prepares.low (vote_in f t) n)) (let z : c.loop-i.i ≡ 960 = omega arith in z) ∙ sym (len_is f t))
