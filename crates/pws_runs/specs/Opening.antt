-- Which packets a replica opens, and why it refuses the others; this project's own rule.
use Rattle.std.specs.Prelude.{ℕ, ◌==◌, ◌&&◌, not, Bool, true, if◌then◌else◌, List, length, map, slice_index, Option, Some, None, Result, Ok, Err}
use Rattle.std.specs.Str.{bytes_eq}
use Rattle.sha2.specs.Sha256.{sha256}
use Rattle.pws_base.specs.declared.shapes.ReplicaId.{ReplicaId}
use Rattle.pws_base.specs.Shapes.{has_replica, size_of_group}
use Rattle.pws_base.specs.Replicas.{is_same}
use Rattle.pws_auth.specs.Keys.{Keys}
use Rattle.pws_msg.specs.declared.contents.Content.{Content}
use Rattle.pws_msg.specs.declared.contents.Content.TheVariants as content
use Rattle.pws_msg.specs.declared.errors.PacketError.{PacketError}
use Rattle.pws_msg.specs.Packets.{PacketFields}
use Rattle.pws_msg.specs.PacketFields.{packet_of}
use Rattle.pws_protocol.specs.Hearing.{Vouched}
use Rattle.pws_runs.specs.declared.errors.OpenError.{OpenError}
use Rattle.pws_runs.specs.declared.errors.OpenError.TheVariants as open_error
use Rattle.pws_runs.specs.Saying.{outer, verifies}

-- a packet that was opened, and beside each voucher whether its tag verified
pub record Checked : Type 0 where
  pub packet : PacketFields
  pub vouchers : List Vouched

-- whether a kind is said by a group, which is my own or isn't: REQ and REPLY come from other groups, all else from mine
abbrev pub is_said_by : Bool → Content → Bool
is_said_by own (content.Request r) = not own
is_said_by own (content.Reply r) = not own
is_said_by own _ = own

-- whether it is of a replica of the layout, for my group, with a tag for each of my group, of a kind that its group says
unfoldable pub is_known : Keys → ReplicaId → PacketFields → Bool
is_known keys me p =
    has_replica keys.layout p.sender
    && (p.receiver == me.group
    && (length p.tags == size_of_group (slice_index keys.layout me.group)
    && is_said_by (p.sender.group == me.group) p.content))

-- whether a body, where there is one, has the digest
abbrev pub has_digest : List ℕ → Option (List ℕ) → Bool
has_digest digest None = true
has_digest digest (Some body) = bytes_eq (sha256 body) digest

-- whether the body of a REPLY is the one that it tells of
abbrev pub has_its_body : Content → Option (List ℕ) → Bool
has_its_body (content.Reply r) body = has_digest r.digest body
has_its_body _ body = true

-- the packet with its vouchers verified
abbrev pub checked : Keys → ReplicaId → PacketFields → Checked
checked keys me p = record { packet = p; vouchers = map (λ v. record { voucher = v; is_verified = verifies keys me v }) p.vouchers }

-- a packet as it was read is opened, or is refused for the first of these reasons
unfoldable pub open_read : Keys → ReplicaId → Result PacketFields PacketError → Result Checked OpenError
open_read keys me (Err e) = Err (open_error.Packet e)
open_read keys me (Ok p) =
    if not (is_known keys me p) then Err open_error.Unknown
    else if is_same p.sender me then Err open_error.Own
    else if not (verifies keys me (outer p)) then Err open_error.Tag
    else if not (has_its_body p.content p.body) then Err open_error.Body
    else Ok (checked keys me p)

-- the checked packet that these bytes spell, or why they aren't opened
unfoldable pub opens : Keys → ReplicaId → List ℕ → Result Checked OpenError
opens keys me bytes = open_read keys me (packet_of bytes)
