-- What the texts of envelopes mean to a service. A message is the text of an envelope: that of a request or reply as it
-- came, or that of a fault made here.
use Rattle.std.specs.Prelude.{◌≡◌, ℕ, ◌≤◌, Bool, List, length, Option, Some}
use Rattle.pws_base.specs.Limits.{max_body}
use Rattle.pws_service.specs.declared.keys.Key.{Key}

pub record EnvelopeWords : Type 0 where
  -- the text of a call of the group me, of which the key names the called group, with a text in its body; None where it
  -- would be longer than a body may be
  pub call_text : ℕ → Key → List ℕ → Option (List ℕ)
  -- the text of the fault that answers a request with this body to the group me, or None where the body is an envelope
  -- with readable addressing; the key names the caller
  pub refusal_of : ℕ → Key → List ℕ → Option (List ℕ)
  -- the text of the reply of the group me to a request with this message, with a text in its body, or of the fault in its
  -- place where it would be longer than a body may be
  pub reply_text : ℕ → Key → List ℕ → List ℕ → List ℕ
  -- the text of the fault by which a halted service answers a request with this body
  pub halted_text : ℕ → Key → List ℕ → List ℕ
  -- whether the body of a reply is an envelope
  pub is_readable : List ℕ → Bool
  -- the message of a reply that isn't readable, and that of an aborted call
  pub unreadable : List ℕ
  pub timed_out : List ℕ
  -- whether two messages are the same tree
  pub same_message : List ℕ → List ℕ → Bool
  -- the texts within the first child of this name of the first element of a message's body, joined
  pub field_text : List ℕ → List ℕ → List ℕ

-- what is made here fits into a body, which has at most 32,768 bytes
pub record TextsFit (words : EnvelopeWords) : Type 0 where
  pub call : (me : ℕ) (key : Key) (text body : List ℕ) → words.call_text me key text ≡ Some body → length body ≤ max_body
  pub refusal : (me : ℕ) (key : Key) (request body : List ℕ) → words.refusal_of me key request ≡ Some body → length body ≤ max_body
  pub reply : (me : ℕ) (key : Key) (message text : List ℕ) → length (words.reply_text me key message text) ≤ max_body
  pub halted : (me : ℕ) (key : Key) (request : List ℕ) → length (words.halted_text me key request) ≤ max_body
