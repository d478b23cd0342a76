use Rattle.std.proofs.Common.{◌≡◌, ◌&&◌, ◌||◌, true, false, ◌∙◌, sym, ap}
use Rattle.std.specs.Str.{bytes_eq}
use Rattle.pws_votes.specs.Masks.{has_voter}
use Rattle.pws_votes.proofs.MaskLemmas.{has_or, or_none}
use Rattle.pws_votes.proofs.tallies.with_voters.Goals as goal

pub returns-then-eq : goal.returns-then-eq
returns-then-eq c = λ v.
    let d = c.args.digest.now in
    let r = c.args.row.now in
    let test : bytes_eq r.digest d ≡ true = ap (λ x. bytes_eq x d) (sym c.as_slice.ensures) ∙ (ap (bytes_eq c.as_slice.result.now) (sym c.as_slice-2.ensures) ∙ (sym c.eq.ensures ∙ c.if-eq.true)) in
    has_or c.args.mask r.voters v ∙ ap (λ b. has_voter c.args.mask v || (b && has_voter r.voters v)) (sym test)

pub returns-else-eq : goal.returns-else-eq
returns-else-eq c = λ v.
    let d = c.args.digest.now in
    let r = c.args.row.now in
    let test : bytes_eq r.digest d ≡ false = ap (λ x. bytes_eq x d) (sym c.as_slice.ensures) ∙ (ap (bytes_eq c.as_slice.result.now) (sym c.as_slice-2.ensures) ∙ (sym c.eq.ensures ∙ c.if-eq.false)) in
    sym (or_none (has_voter c.args.mask v)) ∙ ap (λ b. has_voter c.args.mask v || (b && has_voter r.voters v)) (sym test)
