use Rattle.std.proofs.Common.{◌≤◌, ℕ, List, length, subst, sym}
use Rattle.pws_addr.proofs.Fitting.{bare_faults_fit}
use Rattle.pws_addr.proofs.envelopes.bare_fault_text.Goals as goal

pub returns-clause-fits : goal.returns-clause-fits
returns-clause-fits c = subst (λ (t : List ℕ). length t ≤ 32768) (sym c.in_ok-text.ensures) (bare_faults_fit c.args.cause)
