use Rattle.std.proofs.Common.{◌∙◌, ap, arith}
use Rattle.pws_votes.specs.Masks.{Tallied, has_voter, is_said}
use Rattle.pws_votes.proofs.MaskLemmas.{is_for_said, same_count}
use Rattle.pws_votes.proofs.tallies.Tally.matching.Goals as goal

pub returns-clause-value : goal.returns-clause-value
returns-clause-value c =
    let d = c.args.digest.now in
    let few = c.requires in
    c.count_voters.ensures.value
    ∙ same_count c.args.n (has_voter c.mask_of.result) (λ v. is_said c.args.self.now v d) (λ v l.
    c.mask_of.ensures v ∙ (is_for_said c.self.inside.rows v d c.self.invariant (omega arith) ∙ ap (λ (m : Tallied). is_said m v d) c.self.view_is))
