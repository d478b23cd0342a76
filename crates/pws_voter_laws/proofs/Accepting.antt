-- What fits before a pending event is accepted fits after it.
use Rattle.std.proofs.Common.{ℕ, sym, subst, arith}
use Rattle.sha2.proofs.Facts256.{length-sha256}
use Rattle.pws_event.specs.Events.{digest_of, event_text}
use Rattle.pws_event.specs.Counters.{Counters}
use Rattle.pws_votes.specs.declared.kinds.VoteKind.TheVariants as kind
use Rattle.pws_protocol.specs.States.{State}
use Rattle.pws_protocol.specs.Actions as act
use Rattle.pws_protocol.specs.Doing.{did}
use Rattle.pws_voter_laws.specs.Enabled.{IsEnabled}
use Rattle.pws_voter_laws.proofs.Fields.{accepted_fits, text_fits, other_fits}
use Rattle.pws_voter_laws.proofs.Parts.{Whole}
use Rattle.pws_voter_laws.proofs.Tests.{accept_is_open}
use Rattle.pws_voter_laws.proofs.Updates.{accept_is}

pub accept_fits : (s : State) (asked : Counters) (p : ℕ) → Whole s → IsEnabled s asked (act.Accept p) → Whole (did s (act.Accept p)).state
accept_fits s asked p f h =
    let o = accept_is_open s p h in
    let e = o.2.0 in
    let x = f.pending p e o.2.1 in
    let a = accepted_fits s f p (digest_of e) o.0 x.0 (length-sha256 (event_text e)) in
    let b = text_fits _ a e x.4 in
    subst Whole (sym (accept_is s p e o.2.1)) (other_fits _ b kind.Prepare p (digest_of e) (omega arith) x.0.2 (length-sha256 (event_text e)))
