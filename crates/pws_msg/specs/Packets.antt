-- Packets: the bytes that spell one, and its ranges; this project's own format.
use Rattle.std.specs.Prelude.{◌≡◌, ℕ, ◌≤◌, List, [], ◌∷◌, ◌++◌, length, All, Option, Some, None, IfSome, option_to_list}
use Rattle.std.specs.List.{flat_map}
use Rattle.pws_base.specs.Texts.{sized_text}
use Rattle.pws_base.specs.declared.shapes.ReplicaId.{ReplicaId}
use Rattle.pws_msg.specs.Rows.{IsDigest, digest_text}
use Rattle.pws_msg.specs.StatementTexts.{counted_text}
use Rattle.pws_msg.specs.Contents.{IsContent, kind_of, content_text}
use Rattle.pws_msg.specs.declared.kinds.Kind.{Kind}
use Rattle.pws_msg.specs.declared.contents.Content.{Content}
use Rattle.pws_msg.specs.declared.rules.AttachmentRule.{AttachmentRule}
use Rattle.pws_msg.specs.Rules.{rule_of}
use Rattle.pws_msg.specs.Wire.{wire_version, most_tags}

-- a replica that says something, what it says, and a tag for each of those that hear it
pub record VoucherFields : Type 0 where
  pub sender : ReplicaId
  pub content : Content
  pub tags : List (List ℕ)

-- a statement with its sender, its receivers' group and its tags, and what is attached: a body, and vouchers
pub record PacketFields : Type 0 where
  pub sender : ReplicaId
  pub receiver : ℕ
  pub content : Content
  pub tags : List (List ℕ)
  pub body : Option (List ℕ)
  pub vouchers : List VoucherFields

-- a group, 0 to 15, and an index, 0 to 9
pub record IsSender (s : ReplicaId) : Type 0 where
  pub group : s.group ≤ 15
  pub index : s.index ≤ 9

-- at most ten tags of 32 bytes
pub record IsTags (tags : List (List ℕ)) : Type 0 where
  pub few : length tags ≤ most_tags
  pub each : All IsDigest tags

pub record IsVoucher (v : VoucherFields) : Type 0 where
  pub sender : IsSender v.sender
  pub content : IsContent v.content
  pub tags : IsTags v.tags

-- a voucher of this kind
pub record IsVoucherOf (kind : Kind) (v : VoucherFields) : Type 0 where
  pub voucher : IsVoucher v
  pub same : kind_of v.content ≡ kind

-- what is attached is as the rule has it
pub record IsAttachment (rule : AttachmentRule) (body : Option (List ℕ)) (vouchers : List VoucherFields) : Type 0 where
  pub bodies : length (option_to_list body) ≡ rule.bodies
  pub short : IfSome body (λ b. length b ≤ 32768)
  pub least : rule.least ≤ length vouchers
  pub most : length vouchers ≤ rule.most
  pub kinds : All (IsVoucherOf rule.kind) vouchers

-- so much of it as a caller has to know: the vouchers' own fields are in range by their type
pub record Fits (rule : AttachmentRule) (body : Option (List ℕ)) (vouchers : List VoucherFields) : Type 0 where
  pub bodies : length (option_to_list body) ≡ rule.bodies
  pub short : IfSome body (λ b. length b ≤ 32768)
  pub least : rule.least ≤ length vouchers
  pub most : length vouchers ≤ rule.most
  pub kinds : All (λ v. kind_of v.content ≡ rule.kind) vouchers

pub record IsPacket (p : PacketFields) : Type 0 where
  pub sender : IsSender p.sender
  pub receiver : p.receiver ≤ 15
  pub content : IsContent p.content
  pub tags : IsTags p.tags
  pub attached : IsAttachment (rule_of p.content) p.body p.vouchers

-- the sender's group and index
abbrev pub sender_text : ReplicaId → List ℕ
sender_text s = (s.group ∷ []) ++ (s.index ∷ [])

-- tags after their count
abbrev pub tags_text : List (List ℕ) → List ℕ
tags_text tags = counted_text digest_text tags

-- the sender, the content after its length, and the tags
abbrev pub voucher_text : VoucherFields → List ℕ
voucher_text v = sender_text v.sender ++ sized_text (content_text v.content) ++ tags_text v.tags

-- a flag, 1 and the body after its length, or 0 alone
abbrev pub body_text : Option (List ℕ) → List ℕ
body_text (Some body) = (1 ∷ []) ++ sized_text body
body_text None = 0 ∷ []

-- the letters PWS
abbrev pub magic : List ℕ
magic = 80 ∷ 87 ∷ 83 ∷ []

-- the one spelling of a packet: PWS, the version 1, the sender, the receivers' group, the content after its length,
-- the tags, the body and the vouchers
abbrev pub packet_text : PacketFields → List ℕ
packet_text p = magic ++ (wire_version ∷ []) ++ sender_text p.sender ++ (p.receiver ∷ []) ++ sized_text (content_text p.content) ++ tags_text p.tags ++ body_text p.body ++ counted_text voucher_text p.vouchers
