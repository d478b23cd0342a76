use Rattle.std.proofs.Common.{◌≡◌, ◌∙◌, ℕ, List, subst, ap, IfOk}
use Rattle.std.specs.Option.{option_copied}
use Rattle.pws_mark.specs.Canonical.{canonical}
use Rattle.pws_soap.specs.Envelopes.{Enveloped, root_of}
use Rattle.pws_soap.specs.Faults.{Faulted, fault_tree, envelope_around}
use Rattle.pws_soap.specs.Made.{with_headers}
use Rattle.pws_addr.specs.Blocks.{blocks_of}
use Rattle.pws_addr.specs.Causes.{fault_of}
use Rattle.pws_addr.specs.Envelopes.{fault_envelope_text}
use Rattle.pws_addr.specs.declared.headers.Addressing.{Addressing}
use Rattle.pws_addr.proofs.envelopes.fault_envelope_text.Goals as goal

pub returns : goal.returns
returns c =
    let around : c.in_ok-envelope.envelope ≡ envelope_around (fault_tree (fault_of c.args.cause)) =
    c.in_ok-envelope.ensures ∙ ap (λ (f : Faulted). envelope_around (fault_tree f)) c.in_ok-fault.ensures in
    let whole : canonical (root_of (with_headers c.in_ok-envelope.envelope (blocks_of c.in_ok-addressing.addressing))) ≡ fault_envelope_text c.args.me c.args.caller c.args.number (option_copied c.args.addressing) c.args.cause =
    ap (λ (e : Enveloped). canonical (root_of (with_headers e (blocks_of c.in_ok-addressing.addressing)))) around
    ∙ ap (λ (a : Addressing). canonical (root_of (with_headers (envelope_around (fault_tree (fault_of c.args.cause))) (blocks_of a)))) c.in_ok-addressing.ensures in
    subst (λ (z : List ℕ). IfOk c.addressed_text.result (λ text. text ≡ z)) whole c.addressed_text.ensures
