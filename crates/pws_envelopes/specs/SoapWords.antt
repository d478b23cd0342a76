-- What the texts of envelopes mean to a service; this project's own rules over SOAP 1.2 and WS-Addressing 1.0.
use Rattle.std.specs.Prelude.{◌≡◌, ℕ, Bool, true, false, List, [], Option, Some, None, is_some}
use Rattle.std.specs.Option.{option_map, option_map_or}
use Rattle.std.specs.Result.{result_ok}
use Rattle.std.specs.Str.{bytes_eq}
use Rattle.pws_tree.specs.Trees.{Tree}
use Rattle.pws_mark.specs.Canonical.{canonical}
use Rattle.pws_mark.specs.TreeOf.{tree_of}
use Rattle.pws_soap.specs.Envelopes.{Enveloped, envelope_of, root_of}
use Rattle.pws_addr.specs.Causes.{refusal_of, addressing_in}
use Rattle.pws_addr.specs.Envelopes.{call_text, fault_text, reply_text, bare_fault_text}
use Rattle.pws_addr.specs.declared.causes.Cause.{Cause}
use Rattle.pws_addr.specs.declared.causes.Cause.TheVariants as cause
use Rattle.pws_addr.specs.declared.causes.Request.{Request}
use Rattle.pws_addr.specs.declared.causes.Request.TheVariants as request
use Rattle.pws_addr.specs.declared.headers.Addressing.{Addressing}
use Rattle.pws_driver.specs.Envelopes.{EnvelopeWords}
use Rattle.pws_envelopes.specs.Fields.{field_of}

-- ---- what is known of a text, by the tree that it stands for

abbrev pub envelope_in : Option Tree → Option Enveloped
envelope_in None = None
envelope_in (Some t) = result_ok (envelope_of t)

abbrev pub addressing_by : Option Tree → Option Addressing
addressing_by None = None
addressing_by (Some t) = addressing_in (envelope_of t)

-- why a request is refused, None where it is an envelope with readable addressing
abbrev pub cause_by : Option Tree → Option Cause
cause_by None = Some cause.BadEnvelope
cause_by (Some t) = refusal_of (envelope_of t)

-- the envelope that a text is, where it is one
abbrev pub envelope_at : List ℕ → Option Enveloped
envelope_at text = envelope_in (tree_of text)

-- its addressing, where that is readable
abbrev pub addressing_at : List ℕ → Option Addressing
addressing_at text = addressing_by (tree_of text)

abbrev pub cause_at : List ℕ → Option Cause
cause_at text = cause_by (tree_of text)

-- ---- messages

-- the texts of a field of a message, nothing where it is no envelope
abbrev pub field_in : Option Enveloped → List ℕ → List ℕ
field_in None name = []
field_in (Some e) name = field_of e.body name

-- the text by which an envelope is written; two messages are the same where they are written alike
abbrev pub written_of : Option Enveloped → Option (List ℕ)
written_of None = None
written_of (Some e) = Some (canonical (root_of e))

abbrev pub same_text : Option (List ℕ) → Option (List ℕ) → Bool
same_text None None = true
same_text None (Some t) = false
same_text (Some s) None = false
same_text (Some s) (Some t) = bytes_eq s t

-- ---- what a service makes of them

abbrev pub soap_words : EnvelopeWords
soap_words = record {
  call_text = λ me key text. call_text me key.group key.number text;
  refusal_of = λ me key body. option_map (fault_text me key.group key.number None) (cause_at body);
  reply_text = λ me key message text. reply_text me key.group key.number (addressing_at message) text;
  halted_text = λ me key body. fault_text me key.group key.number (addressing_at body) cause.Halted;
  is_readable = λ body. is_some (envelope_at body);
  unreadable = bare_fault_text cause.UnreadableReply;
  timed_out = bare_fault_text cause.TimedOut;
  same_message = λ message other. same_text (written_of (envelope_at message)) (written_of (envelope_at other));
  field_text = λ message name. field_in (envelope_at message) name;
}

-- what a text says as a request
abbrev pub IsRequestAt : List ℕ → Request → Type 0
IsRequestAt text (request.Readable a) = (addressing_at text ≡ Some a) × (cause_at text ≡ None)
IsRequestAt text (request.Refused c) = (addressing_at text ≡ None) × (cause_at text ≡ Some c)
