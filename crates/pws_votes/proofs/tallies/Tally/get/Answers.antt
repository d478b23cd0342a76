use Rattle.std.proofs.Common.{◌∙◌, sym, ap}
use Rattle.std.specs.FinMap.{get}
use Rattle.pws_votes.specs.Masks.{Tallied}
use Rattle.pws_votes.proofs.MaskLemmas.{get_is}
use Rattle.pws_votes.proofs.tallies.Tally.get.Goals as goal

pub returns : goal.returns
returns c = c.said_in.ensures ∙ (sym (get_is c.self.inside.rows c.args.voter c.requires) ∙ ap (λ (m : Tallied). get m c.args.voter) c.self.view_is)
