-- What a packet says: the bytes that spell it, and its ranges; this project's own format.
use Rattle.std.specs.Prelude.{◌≡◌, ℕ, List, [], ◌∷◌, ◌++◌}
use Rattle.sha2.specs.Sha256.{sha256}
use Rattle.pws_event.specs.Events.{event_text, IsEvent}
use Rattle.pws_msg.specs.Rows.{IsDigest, digest_text}
use Rattle.pws_msg.specs.Reported.{IsViewChange, IsNewView}
use Rattle.pws_msg.specs.Statements.{IsCallName, IsChangeName, IsDecidedEvent, IsOwnReading, IsOwnRequest, IsPlaceDigest, IsPlaceVote, IsProposal, IsReplyNote, IsWantedPlace}
use Rattle.pws_msg.specs.StatementTexts.{call_name_text, change_name_text, decided_event_text, new_view_text, own_reading_text, own_request_text, place_digest_text, place_vote_text, proposal_text, reply_note_text, view_change_text, wanted_place_text}
use Rattle.pws_msg.specs.Kinds.{kind_byte}
use Rattle.pws_msg.specs.declared.kinds.Kind.{Kind}
use Rattle.pws_msg.specs.declared.kinds.Kind.TheVariants as kind
use Rattle.pws_msg.specs.declared.contents.Content.{Content}
use Rattle.pws_msg.specs.declared.contents.Content.TheVariants as content

-- its kind
abbrev pub kind_of : Content → Kind
kind_of (content.Request r) = kind.Request
kind_of (content.Reply r) = kind.Reply
kind_of (content.Part r) = kind.Part
kind_of (content.Expired n) = kind.Expired
kind_of (content.Reading r) = kind.Reading
kind_of (content.PrePrepare p) = kind.PrePrepare
kind_of (content.Prepare v) = kind.Prepare
kind_of (content.Commit v) = kind.Commit
kind_of (content.Checkpoint d) = kind.Checkpoint
kind_of (content.ViewChange c) = kind.ViewChange
kind_of (content.Ack n) = kind.Ack
kind_of (content.NewView v) = kind.NewView
kind_of (content.Relay n) = kind.Relay
kind_of (content.Fetch w) = kind.Fetch
kind_of (content.Done d) = kind.Done
kind_of (content.Need digest) = kind.Need
kind_of (content.Give e) = kind.Give

-- the bytes of its fields, in order
abbrev pub fields_text : Content → List ℕ
fields_text (content.Request r) = own_request_text r
fields_text (content.Reply r) = reply_note_text r
fields_text (content.Part r) = reply_note_text r
fields_text (content.Expired n) = call_name_text n
fields_text (content.Reading r) = own_reading_text r
fields_text (content.PrePrepare p) = proposal_text p
fields_text (content.Prepare v) = place_vote_text v
fields_text (content.Commit v) = place_vote_text v
fields_text (content.Checkpoint d) = place_digest_text d
fields_text (content.ViewChange c) = view_change_text c
fields_text (content.Ack n) = change_name_text n
fields_text (content.NewView v) = new_view_text v
fields_text (content.Relay n) = change_name_text n
fields_text (content.Fetch w) = wanted_place_text w
fields_text (content.Done d) = decided_event_text d
fields_text (content.Need digest) = digest_text digest
fields_text (content.Give e) = event_text e

-- the one spelling of a content: the byte of its kind, and then its fields
abbrev pub content_text : Content → List ℕ
content_text c = (kind_byte (kind_of c) ∷ []) ++ fields_text c

-- its fields are in range
abbrev pub IsContent : Content → Type 0
IsContent (content.Request r) = IsOwnRequest r
IsContent (content.Reply r) = IsReplyNote r
IsContent (content.Part r) = IsReplyNote r
IsContent (content.Expired n) = IsCallName n
IsContent (content.Reading r) = IsOwnReading r
IsContent (content.PrePrepare p) = IsProposal p
IsContent (content.Prepare v) = IsPlaceVote v
IsContent (content.Commit v) = IsPlaceVote v
IsContent (content.Checkpoint d) = IsPlaceDigest d
IsContent (content.ViewChange c) = IsViewChange c
IsContent (content.Ack n) = IsChangeName n
IsContent (content.NewView v) = IsNewView v
IsContent (content.Relay n) = IsChangeName n
IsContent (content.Fetch w) = IsWantedPlace w
IsContent (content.Done d) = IsDecidedEvent d
IsContent (content.Need digest) = IsDigest digest
IsContent (content.Give e) = IsEvent e

-- the bytes spell the content: they are its text, and its fields are in range
abbrev pub SpellsContent : Content → List ℕ → Type 0
SpellsContent c bytes = IsContent c × (bytes ≡ content_text c)

-- the digest of a content, the SHA-256 of its spelling
abbrev pub content_digest_of : Content → List ℕ
content_digest_of c = sha256 (content_text c)
