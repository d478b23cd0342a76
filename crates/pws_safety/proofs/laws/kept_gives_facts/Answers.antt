use Rattle.pws_safety.proofs.Group.{kept_gives_facts}
use Rattle.pws_safety.proofs.laws.kept_gives_facts.Goals as goal

pub returns : goal.returns
returns c = kept_gives_facts
