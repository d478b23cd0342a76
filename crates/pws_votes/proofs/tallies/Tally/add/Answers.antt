use Rattle.std.proofs.Common.{◌∙◌, sym, ap}
use Rattle.std.specs.FinMap.{get, insert}
use Rattle.pws_votes.specs.Masks.{Tallied}
use Rattle.pws_votes.proofs.MaskLemmas.{get_is, still_tally, added}
use Rattle.pws_votes.proofs.tallies.Tally.add.Goals as goal

pub row_for-i-requires-clause-none : goal.row_for-i-requires-clause-none
row_for-i-requires-clause-none c = sym (get_is c.self.inside.rows c.args.voter c.requires.few) ∙ (ap (λ (m : Tallied). get m c.args.voter) c.self.view_is ∙ c.requires.none)

pub invariant_of-self : goal.invariant_of-self
invariant_of-self c = still_tally c.self.inside.rows c.row_for-i.result.0 c.row_for-i.result.1 c.args.voter c.args.digest.now c.self.invariant c.row_for-i.ensures

pub returns : goal.returns
returns c =
    added c.self.inside.rows c.row_for-i.result.0 c.row_for-i.result.1 c.args.voter c.args.digest.now c.requires.few c.self.invariant c.row_for-i.ensures
    ∙ ap (λ (m : Tallied). insert m c.args.voter c.args.digest.now) c.self.view_is
