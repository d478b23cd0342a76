-- What the reading of a content gives, field by field; this project's own.
use Rattle.std.specs.Prelude.{◌==◌, if◌then◌else◌, Option, Some, None, Result, Ok, Err}
use Rattle.pws_base.specs.declared.fields.FaultKind.TheVariants.{Kind}
use Rattle.pws_base.specs.declared.fields.FieldFault.{FieldFault}
use Rattle.pws_base.specs.Fields.{Unread, ◌>>=◌, u8_field, digest_field, ended}
use Rattle.pws_event.specs.EventFields.{event_at}
use Rattle.pws_msg.specs.StatementFields.{call_name_at, change_name_at, decided_event_at, new_view_at, own_reading_at, own_request_at, place_digest_at, place_vote_at, proposal_at, reply_note_at, view_change_at, wanted_place_at}
use Rattle.pws_msg.specs.Kinds.{kind_byte, kind_with}
use Rattle.pws_msg.specs.declared.kinds.Kind.{Kind as ContentKind}
use Rattle.pws_msg.specs.declared.kinds.Kind.TheVariants as kind
use Rattle.pws_msg.specs.declared.contents.Content.{Content}
use Rattle.pws_msg.specs.declared.contents.Content.TheVariants as content

-- the content that is made of what was read
abbrev pub said : {A : Type 0} → (A → Content) → Result (A × Unread) FieldFault → Result (Content × Unread) FieldFault
said make read = do
  fields ← read
  Ok (make fields.0, fields.1)

-- the fields of a content of this kind
unfoldable pub fields_at : ContentKind → Unread → Result (Content × Unread) FieldFault
fields_at kind.Request u = said content.Request (own_request_at u)
fields_at kind.Reply u = said content.Reply (reply_note_at u)
fields_at kind.Part u = said content.Part (reply_note_at u)
fields_at kind.Expired u = said content.Expired (call_name_at u)
fields_at kind.Reading u = said content.Reading (own_reading_at u)
fields_at kind.PrePrepare u = said content.PrePrepare (proposal_at u)
fields_at kind.Prepare u = said content.Prepare (place_vote_at u)
fields_at kind.Commit u = said content.Commit (place_vote_at u)
fields_at kind.Checkpoint u = said content.Checkpoint (place_digest_at u)
fields_at kind.ViewChange u = said content.ViewChange (view_change_at u)
fields_at kind.Ack u = said content.Ack (change_name_at u)
fields_at kind.NewView u = said content.NewView (new_view_at u)
fields_at kind.Relay u = said content.Relay (change_name_at u)
fields_at kind.Fetch u = said content.Fetch (wanted_place_at u)
fields_at kind.Done u = said content.Done (decided_event_at u)
fields_at kind.Need u = said content.Need (digest_field u)
fields_at kind.Give u = said content.Give (event_at u)

-- the byte of the kind isn't that of a content, or not that of the content that is to stand here
abbrev pub unknown_kind : Unread → FieldFault
unknown_kind u = record { kind = Kind; at = u.at }

-- a kind, where its byte is that of one
abbrev pub known_kind : Option ContentKind → Unread → Unread → Result (ContentKind × Unread) FieldFault
known_kind (Some k) before after = Ok (k, after)
known_kind None before after = Err (unknown_kind before)

unfoldable pub kind_field : Unread → Result (ContentKind × Unread) FieldFault
kind_field u = do
  byte ← u8_field u
  known_kind (kind_with byte.0) u byte.1

-- a content that ends where the bytes do
unfoldable pub content_of : Unread → Result Content FieldFault
content_of u = do
  k ← kind_field u
  c ← fields_at k.0 k.1
  ended c

-- the fields of a content that is to be of this kind, with the byte of its kind
unfoldable pub wanted_at : ContentKind → Unread → Result (Content × Unread) FieldFault
wanted_at wanted u = do
  byte ← u8_field u
  if byte.0 == kind_byte wanted then fields_at wanted byte.1 else Err (unknown_kind u)

-- a content that is to be of this kind, and ends where the bytes do
unfoldable pub content_of_kind : ContentKind → Unread → Result Content FieldFault
content_of_kind wanted u = do
  c ← wanted_at wanted u
  ended c
