-- The text of a packet whose parts needn't be lawful, as a compromised replica may send one; this project's own format.
-- It is the text of a packet with any bytes in the place of a content, and with any body and any vouchers.
use Rattle.std.specs.Prelude.{◌≡◌, ℕ, ◌<◌, ◌^◌, List, [], ◌∷◌, ◌++◌, length, All, Option, Some, None, IfSome, map}
use Rattle.pws_base.specs.Texts.{sized_text}
use Rattle.pws_msg.specs.StatementTexts.{counted_text}
use Rattle.pws_msg.specs.Contents.{content_text}
use Rattle.pws_msg.specs.Packets.{VoucherFields, PacketFields, magic, sender_text, tags_text, body_text}
use Rattle.pws_msg.specs.Wire.{wire_version}
use Rattle.pws_msg.specs.declared.raw_packets.RawVoucher.{RawVoucher}
use Rattle.pws_msg.specs.declared.raw_packets.RawPacket.{RawPacket}

-- the sender, the bytes of the content after their length, and the tags
abbrev pub raw_voucher_text : RawVoucher → List ℕ
raw_voucher_text v = sender_text v.sender ++ sized_text v.content ++ tags_text v.tags

-- PWS, the version 1, the sender, the receivers' group, the bytes of the content after their length, the tags, the body
-- and the vouchers
abbrev pub raw_packet_text : RawPacket → List ℕ
raw_packet_text p = magic ++ (wire_version ∷ []) ++ sender_text p.sender ++ (p.receiver ∷ []) ++ sized_text p.content ++ tags_text p.tags ++ body_text p.body ++ counted_text raw_voucher_text p.vouchers

-- each length fits four bytes, and each count one
pub record RawVoucherFits (v : RawVoucher) : Type 0 where
  pub content : length v.content < 2 ^ 32
  pub tags : length v.tags < 256

pub record RawPacketFits (p : RawPacket) : Type 0 where
  pub content : length p.content < 2 ^ 32
  pub tags : length p.tags < 256
  pub body : IfSome p.body (λ b. length b < 2 ^ 32)
  pub few : length p.vouchers < 256
  pub vouchers : All RawVoucherFits p.vouchers

-- a lawful packet with the bytes of its contents in their place
abbrev pub raw_voucher_of : VoucherFields → RawVoucher
raw_voucher_of v = record { sender = v.sender; content = content_text v.content; tags = v.tags }

abbrev pub raw_packet_of : PacketFields → RawPacket
raw_packet_of p = record { sender = p.sender; receiver = p.receiver; content = content_text p.content; tags = p.tags; body = p.body; vouchers = map raw_voucher_of p.vouchers }
