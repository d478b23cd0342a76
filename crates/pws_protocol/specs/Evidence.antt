-- The store of evidence: the first statement of each replica about each request, call or ask, and the bodies of replies;
-- this project's own.
use Rattle.std.specs.Prelude.{ℕ, ◌+◌, ◌==◌, ◌&&◌, not, Bool, false, nat_lt, nat_le, is_some, if◌then◌else◌, List, Option, Some, None}
use Rattle.std.specs.Option.{option_map_or}
use Rattle.std.specs.Str.{bytes_eq}
use Rattle.std.specs.FinMap.{FinMap, empty, get, contains_key, insert, retain_keys}
use Rattle.sha2.specs.Sha256.{sha256}
use Rattle.pws_base.specs.declared.shapes.ReplicaId.{ReplicaId}
use Rattle.pws_base.specs.Limits.{call_window}
use Rattle.pws_base.specs.Replicas.{is_other}
use Rattle.pws_event.specs.Counters.{Counters, counter_of, least_waiting}
use Rattle.pws_msg.specs.declared.readings.ReadingValue.{ReadingValue}
use Rattle.pws_msg.specs.declared.readings.ReadingValue.TheVariants as value
use Rattle.pws_msg.specs.declared.contents.Content.{Content}
use Rattle.pws_msg.specs.declared.contents.Content.TheVariants as content
use Rattle.pws_msg.specs.Statements.{OwnRequestFields, ReplyNoteFields, CallNameFields, OwnReadingFields}
use Rattle.pws_votes.specs.declared.kinds.Vote.{Vote}
use Rattle.pws_votes.specs.declared.kinds.Vote.TheVariants.{Kept, Outside, Already}
use Rattle.pws_protocol.specs.declared.keys.Matter.{Matter}
use Rattle.pws_protocol.specs.declared.keys.Matter.TheVariants.{Requested, Replied, Expired, Read}
use Rattle.pws_protocol.specs.declared.keys.StatementKey.{StatementKey}
use Rattle.pws_protocol.specs.declared.keys.BodyKey.{BodyKey}
use Rattle.pws_protocol.specs.Keys.{statement_key, statement_cmp, body_key, body_cmp}

-- what a replica of this group of this layout has heard: the first statements, and the bodies of replies
pub record Evidence : Type 0 where
  pub group : ℕ
  pub layout : List ℕ
  pub statements : FinMap statement_cmp Content
  pub bodies : FinMap body_cmp (List ℕ)

-- nothing was heard yet
abbrev pub no_evidence : ℕ → List ℕ → Evidence
no_evidence group layout = record { group = group; layout = layout; statements = empty; bodies = empty }

-- what a content is evidence of in this group, if of anything: a reply only where it answers a call of this group
abbrev pub matter_of : ℕ → ReplicaId → Content → Option Matter
matter_of group sender (content.Request r) = Some (Requested sender.group r.number)
matter_of group sender (content.Reply r) = if r.caller == group then Some (Replied sender.group r.number) else None
matter_of group sender (content.Expired n) = Some (Expired n.called n.number)
matter_of group sender (content.Reading r) = Some (Read r.ask)
matter_of group sender _ = None

-- whether a number is one of the sixteen from the least on
abbrev pub is_open : ℕ → ℕ → Bool
is_open least number = nat_le least number && nat_lt number (least + call_window)

-- whether the called group is another of the layout, and the number is one of the sixteen from the least that waits on
abbrev pub is_call_inside : Evidence → Counters → ℕ → ℕ → Bool
is_call_inside e asked called number = is_other e.group e.layout called && is_open (least_waiting asked called) number

-- whether a matter is inside: of a caller the sixteen requests after the last that took effect, of a called group the
-- sixteen calls from the least that waits on, and the sixteen asks after those that were answered
unfoldable pub is_inside : Evidence → Counters → Matter → Bool
is_inside e asked (Requested caller number) = is_open (counter_of asked.last caller 0 + 1) number
is_inside e asked (Replied called number) = is_call_inside e asked called number
is_inside e asked (Expired called number) = is_call_inside e asked called number
is_inside e asked (Read ask) = is_open (asked.answered + 1) ask

-- the evidence without what is no longer inside
unfoldable pub settled : Evidence → Counters → Evidence
settled e asked = record e {
  statements = retain_keys e.statements (λ k. is_inside e asked k.matter);
  bodies = retain_keys e.bodies (λ k. is_inside e asked (Replied k.called k.number));
}

-- whether two readings are one
abbrev pub same_value : ReadingValue → ReadingValue → Bool
same_value (value.Time a) (value.Time b) = a == b
same_value (value.Share a) (value.Share b) = bytes_eq a b
same_value _ _ = false

-- whether a statement is this request
abbrev pub is_request : OwnRequestFields → Content → Bool
is_request a (content.Request b) = a.number == b.number && (a.low == b.low && bytes_eq a.body b.body)
is_request a _ = false

-- whether a statement is this reply
abbrev pub is_reply : ReplyNoteFields → Content → Bool
is_reply a (content.Reply b) = a.caller == b.caller && (a.number == b.number && bytes_eq a.digest b.digest)
is_reply a _ = false

-- whether a statement says that this call expired
abbrev pub is_expired : CallNameFields → Content → Bool
is_expired a (content.Expired b) = a.called == b.called && a.number == b.number
is_expired a _ = false

-- whether a statement is this reading
abbrev pub is_reading : OwnReadingFields → Content → Bool
is_reading a (content.Reading b) = a.ask == b.ask && same_value a.value b.value
is_reading a _ = false

-- whether two statements are one
unfoldable pub same_statement : Content → Content → Bool
same_statement (content.Request a) b = is_request a b
same_statement (content.Reply a) b = is_reply a b
same_statement (content.Expired a) b = is_expired a b
same_statement (content.Reading a) b = is_reading a b
same_statement _ b = false

-- the statement that is kept of a replica about a matter
abbrev pub first_of : Evidence → ReplicaId → Matter → Option Content
first_of e sender m = get e.statements (statement_key sender m)

-- whether exactly this statement is kept of a replica
unfoldable pub is_kept : Evidence → ReplicaId → Content → Bool
is_kept e sender c =
    option_map_or (λ m. option_map_or (λ first. same_statement first c) (first_of e sender m) false) (matter_of e.group sender c) false

-- under which key a body is to be held: of a reply that tells its digest, where it isn't held yet
abbrev pub new_body : Evidence → ReplicaId → Content → List ℕ → Option BodyKey
new_body e sender (content.Reply r) body =
    if bytes_eq (sha256 body) r.digest && not (contains_key e.bodies (body_key sender.group r.number r.digest))
    then Some (body_key sender.group r.number r.digest)
    else None
new_body e sender _ body = None

-- the evidence with a body, where there is a key for it
abbrev pub with_body : Evidence → Option BodyKey → List ℕ → Evidence
with_body e None body = e
with_body e (Some k) body = record e { bodies = insert e.bodies k body }

-- the evidence with a statement under its key
abbrev pub with_statement : Evidence → StatementKey → Content → Evidence
with_statement e k c = record e { statements = insert e.statements k c }

-- the evidence after a statement, and how it was answered
pub record Noted : Type 0 where
  pub evidence : Evidence
  pub answer : Vote

-- the evidence and the answer
abbrev pub noted : Evidence → Vote → Noted
noted e answer = record { evidence = e; answer = answer }

-- a statement that is inside, after the one that is kept of its sender about the matter: a first one is kept, and the
-- same one again only for its body
unfoldable pub note_after : Option Content → Evidence → StatementKey → Content → Option BodyKey → List ℕ → Noted
note_after None e k c new body = noted (with_body (with_statement e k c) new body) Kept
note_after (Some first) e k c new body = if same_statement first c && is_some new then noted (with_body e new body) Kept else noted e Already

-- a statement about a matter, if it is about one
abbrev pub note_about : Option Matter → Evidence → Counters → ReplicaId → Content → List ℕ → Noted
note_about None e asked sender c body = noted e Outside
note_about (Some m) e asked sender c body =
    if is_inside e asked m
    then note_after (first_of e sender m) e (statement_key sender m) c (new_body e sender c body) body
    else noted e Outside

-- a statement is heard, with the body of its packet, empty where that has none
unfoldable pub note : Evidence → Counters → ReplicaId → Content → List ℕ → Noted
note e asked sender c body = note_about (matter_of e.group sender c) e asked sender c body
