-- What fits before a change is acknowledged fits after it.
use Rattle.std.proofs.Common.{ℕ, sym, subst, arith}
use Rattle.std.specs.FinMap.{insert}
use Rattle.sha2.proofs.Facts256.{length-sha256}
use Rattle.pws_event.specs.Counters.{Counters}
use Rattle.pws_msg.specs.declared.contents.Content.TheVariants as content
use Rattle.pws_msg.specs.Contents.{content_text}
use Rattle.pws_msg.specs.Rows.{IsDigest}
use Rattle.pws_protocol.specs.States.{State}
use Rattle.pws_protocol.specs.Gathered.{acks_of}
use Rattle.pws_protocol.specs.Actions as act
use Rattle.pws_protocol.specs.Doing.{did}
use Rattle.pws_voter_laws.specs.Enabled.{IsEnabled}
use Rattle.pws_voter_laws.proofs.Fields.{acks_fits, more_acks}
use Rattle.pws_voter_laws.proofs.Parts.{Whole}
use Rattle.pws_voter_laws.proofs.Tests.{ne_is, ack_is_open}
use Rattle.pws_voter_laws.proofs.Updates.{ack_is}

pub ack_fits : (s : State) (asked : Counters) (j : ℕ) → Whole s → IsEnabled s asked (act.Ack j) → Whole (did s (act.Ack j)).state
ack_fits s asked j f h =
    let o = ack_is_open s j h.1 in
    let long : IsDigest o.2.0.digest = subst IsDigest (sym (f.heard j o.2.0 o.2.1).3) (length-sha256 (content_text (content.ViewChange o.2.0.change))) in
    let member = o.1 in
    let small = f.who.1 in
    subst Whole (sym (ack_is s j o.2.0 o.2.1)) (acks_fits s f (insert s.acks s.me.index (insert (acks_of s s.me.index) j o.2.0.digest)) (more_acks s f s.me.index j o.2.0.digest f.who.0 (omega (arith, member, small)) long) (ne_is s.me.f 0 h.0))
