-- What the reading of a packet gives, field by field; this project's own.
use Rattle.std.specs.Prelude.{◌≡◌, ℕ, ◌==◌, ◌&&◌, Bool, nat_lt, if◌then◌else◌, List, length, slice_index, Option, Some, None, Result, Ok, Err}
use Rattle.pws_base.specs.declared.fields.FieldFault.{FieldFault}
use Rattle.pws_base.specs.Fields.{Unread, unread, ◌>>=◌, refused, bytes_field, u8_field, u32_field, digest_field, u8_within, group_field, index_field, body_field, ended}
use Rattle.pws_base.specs.declared.shapes.ReplicaId.{ReplicaId}
use Rattle.pws_msg.specs.RowFields.{counted_at}
use Rattle.pws_msg.specs.ContentFields.{content_of, content_of_kind}
use Rattle.pws_msg.specs.Packets.{VoucherFields, PacketFields}
use Rattle.pws_msg.specs.Rules.{rule_of}
use Rattle.pws_msg.specs.declared.kinds.Kind.{Kind}
use Rattle.pws_msg.specs.declared.contents.Content.{Content}
use Rattle.pws_msg.specs.PacketFaults.{packet_error_of}
use Rattle.pws_msg.specs.declared.errors.PacketFault.TheVariants as packet_fault
use Rattle.pws_msg.specs.declared.errors.PacketError.{PacketError}
use Rattle.pws_msg.specs.declared.errors.PacketReadError.{PacketReadError}
use Rattle.pws_msg.specs.declared.errors.PacketReadError.TheVariants as read_error
use Rattle.pws_base.specs.Limits.{max_packet}
use Rattle.pws_msg.specs.Wire.{wire_version, most_tags}

-- a sender: its group, and its index
unfoldable pub sender_at : Unread → Result (ReplicaId × Unread) FieldFault
sender_at u = do
  group ← group_field u
  index ← index_field group.1
  Ok (record { group = group.0; index = index.0 }, index.1)

-- the bytes of a content, after their length, as a text of their own at its place; the length is checked against the
-- bytes that are left
unfoldable pub part_at : Unread → Result (Unread × Unread) FieldFault
part_at u = do
  size ← u32_field u
  bytes ← bytes_field size.0 size.1
  Ok (record { left = bytes.0; at = size.1.at }, bytes.1)

-- a content after its length
unfoldable pub sized_at : (Unread → Result Content FieldFault) → Unread → Result (Content × Unread) FieldFault
sized_at read u = do
  part ← part_at u
  c ← read part.0
  Ok (c, part.1)

-- at most ten tags after their count
abbrev pub tags_at : Unread → Result (List (List ℕ) × Unread) FieldFault
tags_at u = counted_at digest_field 0 most_tags u

-- a voucher whose content is to be of this kind
unfoldable pub voucher_at : Kind → Unread → Result (VoucherFields × Unread) FieldFault
voucher_at kind u = do
  sender ← sender_at u
  c ← sized_at (content_of_kind kind) sender.1
  tags ← tags_at c.1
  Ok (record { sender = sender.0; content = c.0; tags = tags.0 }, tags.1)

-- a body, where there is to be one
unfoldable pub bodies_at : ℕ → Unread → Result (Option (List ℕ) × Unread) FieldFault
bodies_at bodies u = do
  flag ← u8_within bodies bodies u
  if flag.0 == 0 then Ok (None, flag.1) else (do
    body ← body_field flag.1
    Ok (Some body.0, body.1))

-- the fields of a packet behind its version
unfoldable pub packet_at : Unread → Result (PacketFields × Unread) FieldFault
packet_at u = do
  sender ← sender_at u
  receiver ← group_field sender.1
  c ← sized_at content_of receiver.1
  tags ← tags_at c.1
  body ← bodies_at (rule_of c.0).bodies tags.1
  vouchers ← counted_at (voucher_at (rule_of c.0).kind) (rule_of c.0).least (rule_of c.0).most body.1
  Ok (record { sender = sender.0; receiver = receiver.0; content = c.0; tags = tags.0; body = body.0; vouchers = vouchers.0 }, vouchers.1)

-- a step of a packet that reads fields
abbrev pub in_packet : {A : Type 0} → Result A FieldFault → Result A PacketError
in_packet (Ok x) = Ok x
in_packet (Err e) = Err (packet_error_of e)

-- goes on where a step of a packet isn't refused
abbrev pub onward : {A B : Type 0} → Result A PacketError → (A → Result B PacketError) → Result B PacketError
onward (Ok x) f = f x
onward (Err e) f = Err e

-- the letters PWS
abbrev pub is_magic : List ℕ → Bool
is_magic m = slice_index m 0 == 80 && slice_index m 1 == 87 && slice_index m 2 == 83

-- PWS: Short where three bytes aren't there, and else Magic where they are others
unfoldable pub magic_at : Unread → Result Unread PacketError
magic_at u = onward (in_packet (bytes_field 3 u)) (λ m. if is_magic m.0 then Ok m.1 else Err (record { kind = packet_fault.Magic; at = u.at }))

-- the version, 1
unfoldable pub version_at : Unread → Result Unread PacketError
version_at u = onward (in_packet (u8_field u)) (λ v. if v.0 == wire_version then Ok v.1 else Err (record { kind = packet_fault.Version; at = u.at }))

-- the packet that the bytes spell, or the first refusal: a text that is too long comes first, and then each field in
-- its order
unfoldable pub packet_of : List ℕ → Result PacketFields PacketError
packet_of bytes =
    if nat_lt max_packet (length bytes) then Err (record { kind = packet_fault.Long; at = max_packet })
    else onward (magic_at (unread bytes)) (λ m. onward (version_at m) (λ v. in_packet (packet_at v >>= ended)))

-- the answer is the packet or its refusal, or the want of memory
abbrev pub GivesPacket : Result PacketFields PacketReadError → Result PacketFields PacketError → Type 0
GivesPacket (Ok p) read = read ≡ Ok p
GivesPacket (Err (read_error.Refused e)) read = read ≡ Err e
GivesPacket (Err read_error.Memory) read = Unit {0}

-- the answer of a step at the head
abbrev pub GivesHead : {A : Type 0} → Result A PacketError → Unread → Result Unread PacketError → Type 0
GivesHead (Ok x) new read = read ≡ Ok new
GivesHead (Err e) new read = read ≡ Err e
