use Rattle.std.proofs.Common.{arith}
use Rattle.pws_safety.proofs.Counted.{meet, meet_correct, some_correct}
use Rattle.pws_safety.proofs.laws.quorums_meet.Goals as goal

pub returns-clause-two : goal.returns-clause-two
returns-clause-two c f compromised one other few p q = meet_correct _ _ _ f compromised one other few p q (omega arith)

pub returns-clause-weak : goal.returns-clause-weak
returns-clause-weak c f quorum weak p q = meet _ _ _ quorum weak p q (omega arith)

pub returns-clause-correct : goal.returns-clause-correct
returns-clause-correct c f compromised weak few p = some_correct _ f compromised weak few (omega (arith, p))
