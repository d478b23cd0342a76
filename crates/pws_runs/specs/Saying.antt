-- Who says what by a packet: the statements whose tags verify. Tags are HMAC with SHA-256 (RFC 2104); the rest is this
-- project's own.
use Rattle.std.specs.Prelude.{ℕ, ◌&&◌, not, Bool, false, List, [], ◌∷◌, filter, slice_get, Result, Ok, Err}
use Rattle.std.specs.Option.{option_map_or}
use Rattle.pws_base.specs.declared.shapes.ReplicaId.{ReplicaId}
use Rattle.pws_base.specs.Shapes.{has_replica}
use Rattle.pws_base.specs.Replicas.{is_same}
use Rattle.pws_auth.specs.Keys.{Keys, is_tag}
use Rattle.pws_msg.specs.Contents.{content_text}
use Rattle.pws_msg.specs.Packets.{VoucherFields, PacketFields}
use Rattle.pws_msg.specs.PacketFields.{packet_of}
use Rattle.pws_msg.specs.declared.errors.PacketError.{PacketError}

-- the outer statement of a packet, in the form of a voucher: its sender, its content and its tags
abbrev pub outer : PacketFields → VoucherFields
outer p = record { sender = p.sender; content = p.content; tags = p.tags }

-- all that stands in a packet: the outer statement, and the vouchers
abbrev pub statements_of : PacketFields → List VoucherFields
statements_of p = outer p ∷ p.vouchers

-- whether the tag at my index is the sender's for me over this content
abbrev is_sealed : Keys → ReplicaId → VoucherFields → Bool
is_sealed keys me v = option_map_or (is_tag keys v.sender me (content_text v.content)) (slice_get v.tags me.index) false

-- whether a replica of the layout other than me says this to me
unfoldable pub verifies : Keys → ReplicaId → VoucherFields → Bool
verifies keys me v = has_replica keys.layout v.sender && (not (is_same v.sender me) && is_sealed keys me v)

-- what a packet says to me; bytes that spell none say nothing
abbrev pub said_by : Keys → ReplicaId → Result PacketFields PacketError → List VoucherFields
said_by keys me (Ok p) = filter (verifies keys me) (statements_of p)
said_by keys me (Err e) = []

-- what these bytes say to me: the statements in them that verify, each with its sender
unfoldable pub says : Keys → ReplicaId → List ℕ → List VoucherFields
says keys me bytes = said_by keys me (packet_of bytes)
