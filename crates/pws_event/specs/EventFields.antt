-- What the reading of an event's text gives, field by field; this project's own.
use Rattle.std.specs.Prelude.{ℕ, zero, suc, ◌+◌, ◌==◌, if◌then◌else◌, List, [], ◌∷◌, Result, Ok, Err}
use Rattle.pws_base.specs.declared.fields.FaultKind.TheVariants.{Kind, Range}
use Rattle.pws_base.specs.declared.fields.FieldFault.{FieldFault}
use Rattle.pws_base.specs.Fields.{Unread, unread, ◌>>=◌, refused, u8_field, u64_field, digest_field, u8_within, group_field, number_field, body_field, ended}
use Rattle.pws_event.specs.Readings.{is_count}
use Rattle.pws_event.specs.declared.readings.Reading.{Reading}
use Rattle.pws_event.specs.declared.readings.Share.{Share}
use Rattle.pws_event.specs.declared.events.Event.{Event}
use Rattle.pws_event.specs.declared.events.Event.TheVariants as event

unfoldable pub request_at : Unread → Result (Event × Unread) FieldFault
request_at u = do
  caller ← group_field u
  number ← number_field caller.1
  low ← number_field number.1
  body ← body_field low.1
  Ok (event.Request (record { caller = caller.0; number = number.0; low = low.0; body = body.0 }), body.1)

unfoldable pub reply_at : Unread → Result (Event × Unread) FieldFault
reply_at u = do
  called ← group_field u
  number ← number_field called.1
  body ← body_field number.1
  Ok (event.Reply (record { called = called.0; number = number.0; body = body.0 }), body.1)

unfoldable pub abort_at : Unread → Result (Event × Unread) FieldFault
abort_at u = do
  called ← group_field u
  number ← number_field called.1
  Ok (event.Abort (record { called = called.0; number = number.0 }), number.1)

-- how many readings or shares follow; Range where there can't be so many
abbrev pub count_field : Unread → Result (ℕ × Unread) FieldFault
count_field u = do
  count ← u8_field u
  if is_count count.0 then Ok count else refused Range u

-- a reading, a share, whose index is at least this
unfoldable pub reading_at : ℕ → Unread → Result (Reading × Unread) FieldFault
reading_at least u = do
  index ← u8_within least 9 u
  ms ← u64_field index.1
  Ok (record { index = index.0; ms = ms.0 }, ms.1)

unfoldable pub share_at : ℕ → Unread → Result (Share × Unread) FieldFault
share_at least u = do
  index ← u8_within least 9 u
  bytes ← digest_field index.1
  Ok (record { index = index.0; bytes = bytes.0 }, bytes.1)

-- so many readings or shares, one after the other, each read by item_at; the index of each is above that of the one
-- before, and the first is at least this
unfoldable pub rising_at : {A : Type 0} → (ℕ → Unread → Result (A × Unread) FieldFault) → (A → ℕ) → ℕ → ℕ → Unread → Result (List A × Unread) FieldFault
rising_at item_at index zero least u = Ok ([], u)
rising_at item_at index (suc n) least u = do
  first ← item_at least u
  more ← rising_at item_at index n (index first.0 + 1) first.1
  Ok (first.0 ∷ more.0, more.1)

abbrev pub readings_at : ℕ → Unread → Result (List Reading × Unread) FieldFault
readings_at count u = rising_at reading_at (λ r. r.index) count 0 u

abbrev pub shares_at : ℕ → Unread → Result (List Share × Unread) FieldFault
shares_at count u = rising_at share_at (λ s. s.index) count 0 u

unfoldable pub clock_at : Unread → Result (Event × Unread) FieldFault
clock_at u = do
  ask ← number_field u
  count ← count_field ask.1
  readings ← readings_at count.0 count.1
  Ok (event.Clock (record { ask = ask.0; readings = readings.0 }), readings.1)

unfoldable pub random_at : Unread → Result (Event × Unread) FieldFault
random_at u = do
  ask ← number_field u
  count ← count_field ask.1
  shares ← shares_at count.0 count.1
  Ok (event.Random (record { ask = ask.0; shares = shares.0 }), shares.1)

-- the fields of an event of this kind, or this fault where no event has the kind
unfoldable pub kind_at : ℕ → FieldFault → Unread → Result (Event × Unread) FieldFault
kind_at kind unknown u =
    if kind == 0 then Ok (event.Null, u)
    else if kind == 1 then request_at u
    else if kind == 2 then reply_at u
    else if kind == 3 then abort_at u
    else if kind == 4 then clock_at u
    else if kind == 5 then random_at u
    else Err unknown

-- the kind in one byte and the fields; Kind at that byte where no event has the kind
unfoldable pub event_at : Unread → Result (Event × Unread) FieldFault
event_at u = do
  kind ← u8_field u
  kind_at kind.0 (record { kind = Kind; at = u.at }) kind.1

-- the event that a text spells, or why it spells none
unfoldable pub event_of : List ℕ → Result Event FieldFault
event_of text = do
  e ← event_at (unread text)
  ended e
