-- The envelopes that drivers make: calls, replies and faults; they are this project's own. The action of a fault is from
-- WS-Addressing 1.0 SOAP Binding, section 6; that all faults have this one is this project's own.
use Rattle.std.specs.Prelude.{ℕ, Bool, nat_le, if◌then◌else◌, List, [], length, codes, Option, Some, None}
use Rattle.pws_tree.specs.Trees.{Tree, Nodes, NoNode}
use Rattle.pws_tree.specs.declared.texts.Name.{Name}
use Rattle.pws_mark.specs.Canonical.{canonical}
use Rattle.pws_soap.specs.Envelopes.{Enveloped, element_then, root_of}
use Rattle.pws_soap.specs.Faults.{text_nodes, fault_tree, envelope_around}
use Rattle.pws_addr.specs.Blocks.{blocks_of}
use Rattle.pws_addr.specs.Causes.{fault_of}
use Rattle.pws_addr.specs.Headers.{anonymous}
use Rattle.pws_addr.specs.Identifiers.{group_address, call_id, reply_id}
use Rattle.pws_addr.specs.Replies.{reply_action, reply_of}
use Rattle.pws_addr.specs.declared.causes.Cause.{Cause}
use Rattle.pws_addr.specs.declared.causes.Cause.TheVariants as cause
use Rattle.pws_addr.specs.declared.headers.Addressing.{Addressing}

unfoldable pub service_space : List ℕ
service_space = codes "urn:pws"

unfoldable pub call_action : List ℕ
call_action = codes "urn:pws:call"

unfoldable pub fault_action : List ℕ
fault_action = codes "http://www.w3.org/2005/08/addressing/soap/fault"

unfoldable pub call_local : List ℕ
call_local = codes "call"

unfoldable pub reply_local : List ℕ
reply_local = codes "reply"

unfoldable pub text_local : List ℕ
text_local = codes "text"

abbrev pub service_name : List ℕ → Name
service_name local = record { space = service_space; local = local }

abbrev pub service_tree : List ℕ → Nodes → Tree
service_tree local children = record { name = service_name local; attrs = []; children = children }

-- an element with one child `text`
abbrev pub message_tree : List ℕ → List ℕ → Tree
message_tree local text = service_tree local (element_then (service_tree text_local (text_nodes text)) NoNode)

-- an envelope with this addressing round one element, and its text
abbrev pub addressed : Addressing → Tree → Enveloped
addressed a t = record { headers = blocks_of a; body = element_then t NoNode }

abbrev pub envelope_text : Addressing → Tree → List ℕ
envelope_text a t = canonical (root_of (addressed a t))

-- a body has at most 32,768 bytes
abbrev pub fits : List ℕ → Bool
fits text = nat_le (length text) 32768

abbrev pub call_addressing : ℕ → ℕ → ℕ → Addressing
call_addressing me called number = record {
  to = group_address called;
  action = call_action;
  message_id = Some (call_id me called number);
  relates_to = [];
  reply_to = Some (group_address me);
  from = None;
  fault_to = None;
}

abbrev pub call_envelope_text : ℕ → ℕ → ℕ → List ℕ → List ℕ
call_envelope_text me called number text = envelope_text (call_addressing me called number) (message_tree call_local text)

-- the call of the group me with this number and text, None where it is too long
unfoldable pub call_text : ℕ → ℕ → ℕ → List ℕ → Option (List ℕ)
call_text me called number text =
    if fits (call_envelope_text me called number text) then Some (call_envelope_text me called number text) else None

-- where an answer goes: by the request's addressing, and without it to the anonymous address
abbrev pub answer_to : Option Addressing → Addressing
answer_to None = record {
  to = anonymous;
  action = reply_action;
  message_id = None;
  relates_to = [];
  reply_to = None;
  from = None;
  fault_to = None;
}
answer_to (Some a) = reply_of a

-- the reply of the group me to a caller's request with this number
abbrev pub reply_addressing : ℕ → ℕ → ℕ → Option Addressing → Addressing
reply_addressing me caller number addressing = record (answer_to addressing) { message_id = Some (reply_id me caller number) }

-- a fault in its place has another action
abbrev pub fault_addressing : ℕ → ℕ → ℕ → Option Addressing → Addressing
fault_addressing me caller number addressing = record (reply_addressing me caller number addressing) { action = fault_action }

abbrev pub fault_envelope_text : ℕ → ℕ → ℕ → Option Addressing → Cause → List ℕ
fault_envelope_text me caller number addressing c = envelope_text (fault_addressing me caller number addressing) (fault_tree (fault_of c))

-- the fault that answers a request; where it would be too long it is addressed as if the request had no addressing
unfoldable pub fault_text : ℕ → ℕ → ℕ → Option Addressing → Cause → List ℕ
fault_text me caller number addressing c =
    if fits (fault_envelope_text me caller number addressing c) then fault_envelope_text me caller number addressing c
    else fault_envelope_text me caller number None c

abbrev pub reply_envelope_text : ℕ → ℕ → ℕ → Option Addressing → List ℕ → List ℕ
reply_envelope_text me caller number addressing text = envelope_text (reply_addressing me caller number addressing) (message_tree reply_local text)

-- the reply with this text; where it would be too long a fault, addressed as if the request had no addressing
unfoldable pub reply_text : ℕ → ℕ → ℕ → Option Addressing → List ℕ → List ℕ
reply_text me caller number addressing text =
    if fits (reply_envelope_text me caller number addressing text) then reply_envelope_text me caller number addressing text
    else fault_envelope_text me caller number None cause.ReplyTooLong

-- a fault that no request is answered with stands without header blocks
unfoldable pub bare_fault_text : Cause → List ℕ
bare_fault_text c = canonical (root_of (envelope_around (fault_tree (fault_of c))))
