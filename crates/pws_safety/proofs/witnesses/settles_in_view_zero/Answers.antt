use Rattle.pws_safety.proofs.FirstRun.{witness_is_trusted, settles_in_view_zero}
use Rattle.pws_safety.proofs.witnesses.settles_in_view_zero.Goals as goal

pub returns : goal.returns
returns c = record { trusted = witness_is_trusted; settles = settles_in_view_zero }
