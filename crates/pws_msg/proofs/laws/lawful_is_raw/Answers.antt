use Rattle.pws_msg.proofs.Raw.{lawful_is_raw as law}
use Rattle.pws_msg.proofs.laws.lawful_is_raw.Goals as goal

pub returns : goal.returns
returns c = law
