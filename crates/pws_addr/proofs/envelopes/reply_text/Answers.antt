use Rattle.std.proofs.Common.{◌≤◌, ℕ, List, length, subst, sym}
use Rattle.std.specs.Option.{option_copied}
use Rattle.pws_addr.proofs.Fitting.{replies_fit}
use Rattle.pws_addr.proofs.envelopes.reply_text.Goals as goal

pub returns-clause-fits : goal.returns-clause-fits
returns-clause-fits c =
    subst (λ (t : List ℕ). length t ≤ 32768) (sym c.in_ok-written.ensures)
    (replies_fit c.args.me c.args.caller c.args.number (option_copied c.args.addressing) c.args.text.now)
