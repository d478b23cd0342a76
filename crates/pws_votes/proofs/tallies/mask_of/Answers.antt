use Rattle.std.proofs.Common.{get_or, ◌||◌, ◌∙◌, sym, ap}
use Rattle.pws_votes.specs.Masks.{is_for, free_row}
use Rattle.pws_votes.proofs.MaskLemmas.{any_more}
use Rattle.pws_votes.proofs.tallies.mask_of.Goals as goal

pub loop-i-preserved : goal.loop-i-preserved
loop-i-preserved c = λ v.
    let rows = c.args.rows.now in
    let i = c.loop-i.i in
    c.with_row-mask.ensures v
    ∙ (ap (λ b. b || is_for c.args.digest.now v (get_or rows i free_row)) (c.loop-i.invariant v) ∙ sym (any_more (is_for c.args.digest.now v) rows i free_row c.loop-i-test.true))
