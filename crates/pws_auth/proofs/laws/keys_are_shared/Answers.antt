use Rattle.pws_auth.proofs.Shared as both
use Rattle.pws_auth.proofs.laws.keys_are_shared.Goals as goal

pub returns-clause-shared : goal.returns-clause-shared
returns-clause-shared c = both.shared

pub returns-clause-alone : goal.returns-clause-alone
returns-clause-alone c = both.alone
