use Rattle.std.proofs.Common.{refl}
use Rattle.pws_votes.proofs.MaskLemmas.{free_is}
use Rattle.pws_votes.proofs.tallies.Tally.new.Goals as goal

pub returns : goal.returns
returns c = free_is _ (record { whole = refl; free = refl })
