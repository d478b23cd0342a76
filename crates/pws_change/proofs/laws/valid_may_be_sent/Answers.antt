use Rattle.pws_change.proofs.Sending as sending
use Rattle.pws_change.proofs.laws.valid_may_be_sent.Goals as goal

pub returns : goal.returns
returns c = record { change = sending.valid_may_be_sent; new_view = sending.agreed_may_be_sent }
