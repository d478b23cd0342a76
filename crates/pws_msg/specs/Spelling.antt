-- The relation of packets and the bytes that spell them; this project's own format.
use Rattle.std.specs.Prelude.{◌≡◌, ℕ, ◌≤◌, List, [], ◌∷◌, ◌++◌, Result, Ok, Err}
use Rattle.pws_base.specs.Texts.{sized_text}
use Rattle.pws_msg.specs.StatementTexts.{counted_text}
use Rattle.pws_msg.specs.Contents.{SpellsContent}
use Rattle.pws_msg.specs.Rules.{rule_of}
use Rattle.pws_msg.specs.Packets.{PacketFields, IsSender, IsTags, IsAttachment, magic, sender_text, tags_text, body_text, voucher_text}
use Rattle.pws_msg.specs.declared.errors.PacketReadError.{PacketReadError}
use Rattle.pws_msg.specs.declared.errors.PacketReadError.TheVariants as read_error
use Rattle.pws_msg.specs.Wire.{wire_version}

-- the bytes spell the packet, whose content these bytes spell: the letters PWS, the version 1, the sender, the
-- receivers' group, the content after its length, the tags, the body and the vouchers, each in its range
pub record SpellsSaying (p : PacketFields) (bytes said : List ℕ) : Type 0 where
  pub sender : IsSender p.sender
  pub receiver : p.receiver ≤ 15
  pub content : SpellsContent p.content said
  pub tags : IsTags p.tags
  pub attached : IsAttachment (rule_of p.content) p.body p.vouchers
  pub text : bytes ≡ magic ++ (wire_version ∷ []) ++ sender_text p.sender ++ (p.receiver ∷ []) ++ sized_text said ++ tags_text p.tags ++ body_text p.body ++ counted_text voucher_text p.vouchers

-- the bytes spell the packet
abbrev pub Spells : PacketFields → List ℕ → Type 0
Spells p bytes = (said : List ℕ) × SpellsSaying p bytes said

-- a packet is answered that the bytes spell, and a refusal only where they spell none
abbrev pub IsSpelled : List ℕ → Result PacketFields PacketReadError → Type 0
IsSpelled bytes (Ok p) = Spells p bytes
IsSpelled bytes (Err (read_error.Refused e)) = (p : PacketFields) → Spells p bytes → ⊥
IsSpelled bytes (Err read_error.Memory) = Unit {0}
