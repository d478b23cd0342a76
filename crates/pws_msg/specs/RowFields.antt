-- What the reading of rows gives, field by field; this project's own.
use Rattle.std.specs.Prelude.{ℕ, zero, suc, List, [], ◌∷◌, Result, Ok, Err}
use Rattle.pws_base.specs.declared.fields.FieldFault.{FieldFault}
use Rattle.pws_base.specs.Fields.{Unread, ◌>>=◌, digest_field, u8_within, index_field, number_field, view_field}
use Rattle.pws_msg.specs.declared.changes.Checkpoint.{Checkpoint}
use Rattle.pws_msg.specs.declared.changes.PRow.{PRow}
use Rattle.pws_msg.specs.declared.changes.Seen.{Seen}
use Rattle.pws_msg.specs.declared.changes.QRow.{QRow}
use Rattle.pws_msg.specs.declared.changes.Named.{Named}
use Rattle.pws_msg.specs.Wire.{most_digests}

-- so many rows, one after the other, each read by row_at
unfoldable pub rows_at : {A : Type 0} → (Unread → Result (A × Unread) FieldFault) → ℕ → Unread → Result (List A × Unread) FieldFault
rows_at row_at zero u = Ok ([], u)
rows_at row_at (suc n) u = do
  first ← row_at u
  more ← rows_at row_at n first.1
  Ok (first.0 ∷ more.0, more.1)

-- rows after their count in one byte, which is from low to high
unfoldable pub counted_at : {A : Type 0} → (Unread → Result (A × Unread) FieldFault) → ℕ → ℕ → Unread → Result (List A × Unread) FieldFault
counted_at row_at low high u = do
  count ← u8_within low high u
  rows_at row_at count.0 count.1

unfoldable pub checkpoint_at : Unread → Result (Checkpoint × Unread) FieldFault
checkpoint_at u = do
  place ← view_field u
  digest ← digest_field place.1
  Ok (record { place = place.0; digest = digest.0 }, digest.1)

unfoldable pub p_row_at : Unread → Result (PRow × Unread) FieldFault
p_row_at u = do
  place ← number_field u
  digest ← digest_field place.1
  view ← view_field digest.1
  Ok (record { place = place.0; digest = digest.0; view = view.0 }, view.1)

unfoldable pub seen_at : Unread → Result (Seen × Unread) FieldFault
seen_at u = do
  digest ← digest_field u
  view ← view_field digest.1
  Ok (record { digest = digest.0; view = view.0 }, view.1)

unfoldable pub q_row_at : Unread → Result (QRow × Unread) FieldFault
q_row_at u = do
  place ← number_field u
  digests ← counted_at seen_at 1 most_digests place.1
  Ok (record { place = place.0; digests = digests.0 }, digests.1)

unfoldable pub named_at : Unread → Result (Named × Unread) FieldFault
named_at u = do
  index ← index_field u
  digest ← digest_field index.1
  Ok (record { index = index.0; digest = digest.0 }, digest.1)
