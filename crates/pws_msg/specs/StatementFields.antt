-- What the reading of a statement gives, field by field; this project's own.
use Rattle.std.specs.Prelude.{ℕ, ◌==◌, if◌then◌else◌, List, Result, Ok, Err}
use Rattle.pws_base.specs.declared.fields.FieldFault.{FieldFault}
use Rattle.pws_base.specs.Fields.{Unread, ◌>>=◌, u64_field, digest_field, u8_within, group_field, index_field, number_field, view_field, body_field}
use Rattle.pws_event.specs.EventFields.{event_at}
use Rattle.pws_msg.specs.declared.changes.ViewChange.{ViewChange}
use Rattle.pws_msg.specs.declared.changes.NewView.{NewView}
use Rattle.pws_msg.specs.declared.readings.ReadingValue.{ReadingValue}
use Rattle.pws_msg.specs.declared.readings.ReadingValue.TheVariants as value
use Rattle.pws_msg.specs.RowFields.{counted_at, checkpoint_at, p_row_at, q_row_at, named_at}
use Rattle.pws_msg.specs.Statements.{OwnRequestFields, ReplyNoteFields, CallNameFields, OwnReadingFields, ProposalFields, PlaceVoteFields, PlaceDigestFields, ChangeNameFields, WantedPlaceFields, DecidedEventFields}
use Rattle.pws_msg.specs.Wire.{most_checkpoints, most_rows, most_named, most_chosen}

-- a time or a share, by its sort
unfoldable pub time_at : Unread → Result (ReadingValue × Unread) FieldFault
time_at u = do
  ms ← u64_field u
  Ok (value.Time ms.0, ms.1)

unfoldable pub share_at : Unread → Result (ReadingValue × Unread) FieldFault
share_at u = do
  share ← digest_field u
  Ok (value.Share share.0, share.1)

unfoldable pub reading_value_at : Unread → Result (ReadingValue × Unread) FieldFault
reading_value_at u = do
  sort ← u8_within 0 1 u
  if sort.0 == 0 then time_at sort.1 else share_at sort.1

unfoldable pub own_request_at : Unread → Result (OwnRequestFields × Unread) FieldFault
own_request_at u = do
  number ← number_field u
  low ← number_field number.1
  body ← body_field low.1
  Ok (record { number = number.0; low = low.0; body = body.0 }, body.1)

unfoldable pub reply_note_at : Unread → Result (ReplyNoteFields × Unread) FieldFault
reply_note_at u = do
  caller ← group_field u
  number ← number_field caller.1
  digest ← digest_field number.1
  Ok (record { caller = caller.0; number = number.0; digest = digest.0 }, digest.1)

unfoldable pub call_name_at : Unread → Result (CallNameFields × Unread) FieldFault
call_name_at u = do
  called ← group_field u
  number ← number_field called.1
  Ok (record { called = called.0; number = number.0 }, number.1)

unfoldable pub own_reading_at : Unread → Result (OwnReadingFields × Unread) FieldFault
own_reading_at u = do
  ask ← number_field u
  value ← reading_value_at ask.1
  Ok (record { ask = ask.0; value = value.0 }, value.1)

unfoldable pub proposal_at : Unread → Result (ProposalFields × Unread) FieldFault
proposal_at u = do
  view ← view_field u
  place ← number_field view.1
  event ← event_at place.1
  Ok (record { view = view.0; place = place.0; event = event.0 }, event.1)

unfoldable pub place_vote_at : Unread → Result (PlaceVoteFields × Unread) FieldFault
place_vote_at u = do
  view ← view_field u
  place ← number_field view.1
  digest ← digest_field place.1
  Ok (record { view = view.0; place = place.0; digest = digest.0 }, digest.1)

unfoldable pub place_digest_at : Unread → Result (PlaceDigestFields × Unread) FieldFault
place_digest_at u = do
  place ← number_field u
  digest ← digest_field place.1
  Ok (record { place = place.0; digest = digest.0 }, digest.1)

unfoldable pub change_name_at : Unread → Result (ChangeNameFields × Unread) FieldFault
change_name_at u = do
  view ← view_field u
  index ← index_field view.1
  digest ← digest_field index.1
  Ok (record { view = view.0; index = index.0; digest = digest.0 }, digest.1)

unfoldable pub wanted_place_at : Unread → Result (WantedPlaceFields × Unread) FieldFault
wanted_place_at u = do
  place ← number_field u
  Ok (record { place = place.0 }, place.1)

unfoldable pub decided_event_at : Unread → Result (DecidedEventFields × Unread) FieldFault
decided_event_at u = do
  place ← number_field u
  event ← event_at place.1
  Ok (record { place = place.0; event = event.0 }, event.1)

unfoldable pub view_change_at : Unread → Result (ViewChange × Unread) FieldFault
view_change_at u = do
  view ← view_field u
  low ← view_field view.1
  checkpoints ← counted_at checkpoint_at 1 most_checkpoints low.1
  prepared ← counted_at p_row_at 0 most_rows checkpoints.1
  pre_prepared ← counted_at q_row_at 0 most_rows prepared.1
  Ok (record { view = view.0; low = low.0; checkpoints = checkpoints.0; prepared = prepared.0; pre_prepared = pre_prepared.0 }, pre_prepared.1)

unfoldable pub new_view_at : Unread → Result (NewView × Unread) FieldFault
new_view_at u = do
  view ← view_field u
  named ← counted_at named_at 1 most_named view.1
  place ← view_field named.1
  digest ← digest_field place.1
  chosen ← counted_at digest_field 0 most_chosen digest.1
  Ok (record { view = view.0; named = named.0; choice = record { place = place.0; digest = digest.0; chosen = chosen.0 } }, chosen.1)
