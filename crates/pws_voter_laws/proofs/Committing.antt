-- What fits before a slot is committed fits after it.
use Rattle.std.proofs.Common.{ℕ, true, refl, sym, subst}
use Rattle.pws_event.specs.Counters.{Counters}
use Rattle.pws_protocol.specs.States.{State, Slot}
use Rattle.pws_protocol.specs.Actions as act
use Rattle.pws_protocol.specs.Doing.{did}
use Rattle.pws_voter_laws.specs.Enabled.{IsEnabled}
use Rattle.pws_voter_laws.proofs.Fields.{slot_fits}
use Rattle.pws_voter_laws.proofs.Parts.{Whole}
use Rattle.pws_voter_laws.proofs.Tests.{commit_is_open}
use Rattle.pws_voter_laws.proofs.Updates.{commit_is}

pub commit_fits : (s : State) (asked : Counters) (p : ℕ) → Whole s → IsEnabled s asked (act.Commit p) → Whole (did s (act.Commit p)).state
commit_fits s asked p f h =
    let o = commit_is_open s p h in
    let t = o.2.0 in
    let new : Slot = record t { is_committed = true } in
    subst Whole (sym (commit_is s p t o.2.1)) (slot_fits s f p t new o.0 o.2.1 refl (λ c. o.2.2))
