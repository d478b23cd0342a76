-- What fits before a slot is prepared fits after it.
use Rattle.std.proofs.Common.{ℕ, true, refl, sym, subst, arith}
use Rattle.pws_event.specs.Counters.{Counters}
use Rattle.pws_votes.specs.declared.kinds.VoteKind.TheVariants as kind
use Rattle.pws_protocol.specs.States.{State, Slot}
use Rattle.pws_protocol.specs.Actions as act
use Rattle.pws_protocol.specs.Doing.{did}
use Rattle.pws_voter_laws.specs.Enabled.{IsEnabled}
use Rattle.pws_voter_laws.proofs.Fields.{slot_fits, other_fits}
use Rattle.pws_voter_laws.proofs.Parts.{Whole}
use Rattle.pws_voter_laws.proofs.Tests.{prepare_is_open}
use Rattle.pws_voter_laws.proofs.Updates.{prepare_is}

pub prepare_fits : (s : State) (asked : Counters) (p : ℕ) → Whole s → IsEnabled s asked (act.Prepare p) → Whole (did s (act.Prepare p)).state
prepare_fits s asked p f h =
    let o = prepare_is_open s p h in
    let t = o.2.0 in
    let y = f.slots p t o.2.1 in
    let new : Slot = record t { is_prepared = true } in
    let a = slot_fits s f p t new o.0 o.2.1 refl (λ c. refl) in
    subst Whole (sym (prepare_is s p t o.2.1)) (other_fits _ a kind.Commit p t.digest (omega arith) y.0.2 y.3)
