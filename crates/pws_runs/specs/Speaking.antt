-- Which statements a replica can be heard with in a world, and which inputs are forged; this project's own.
use Rattle.std.specs.Prelude.{ℕ, ◌==◌, ◌&&◌, ◌||◌, not, Bool, true, false, List}
use Rattle.std.specs.List.{list_any}
use Rattle.std.specs.Str.{bytes_eq}
use Rattle.pws_base.specs.declared.shapes.ReplicaId.{ReplicaId}
use Rattle.pws_base.specs.Replicas.{is_same}
use Rattle.pws_msg.specs.Contents.{content_text}
use Rattle.pws_msg.specs.Packets.{VoucherFields, PacketFields, packet_text}
use Rattle.pws_msg.specs.declared.contents.Content.{Content}
use Rattle.pws_msg.specs.declared.contents.Content.TheVariants as content
use Rattle.pws_runs.specs.ReplicaStates.{Input, Bytes, Opened, Tick}
use Rattle.pws_runs.specs.Saying.{says}
use Rattle.pws_runs.specs.Worlds.{Setting, WorldState, is_bad}

-- contents are one where their texts are
abbrev pub same_content : Content → Content → Bool
same_content a b = bytes_eq (content_text a) (content_text b)

-- whether it is a packet of the replica to this group with this outer content
abbrev is_outer : ℕ → ReplicaId → Content → PacketFields → Bool
is_outer group s c p = is_same p.sender s && (p.receiver == group && same_content p.content c)

-- whether a content is a PART
abbrev pub is_part : Content → Bool
is_part (content.Part r) = true
is_part _ = false

-- whether it is a voucher of the replica with this content
abbrev is_voucher : ReplicaId → Content → VoucherFields → Bool
is_voucher s c v = is_same v.sender s && same_content v.content c

-- whether it is a PART of the replica that holds its own voucher with this content
abbrev is_in_part : ReplicaId → Content → PacketFields → Bool
is_in_part s c p = is_part p.content && (is_same p.sender s && list_any (is_voucher s c) p.vouchers)

-- whether a replica can be heard with this content in this group: it is compromised, or it sent it there, or as the voucher
-- of its PART
unfoldable pub speaks : Setting → WorldState → ℕ → ReplicaId → Content → Bool
speaks e w group s c = is_bad e s || list_any (λ p. is_outer group s c p || is_in_part s c p) w.sent

-- whether bytes say something to me that their sender can't be heard with
unfoldable pub is_forged_text : Setting → WorldState → ReplicaId → List ℕ → Bool
is_forged_text e w me bytes = list_any (λ v. not (speaks e w me.group v.sender v.content)) (says e.keys me bytes)

-- whether an input is forged; a tick says nothing
abbrev pub is_forged : Setting → WorldState → ReplicaId → Input → Bool
is_forged e w me (Bytes bytes) = is_forged_text e w me bytes
is_forged e w me (Opened c) = is_forged_text e w me (packet_text c.packet)
is_forged e w me (Tick ms random) = false
