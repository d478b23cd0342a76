-- What replicas said by their packets, as far as agreement goes, and their group in a world; in the terms of the safety
-- argument.
use Rattle.std.specs.Prelude.{ℕ, ◌==◌, ◌&&◌, ◌||◌, Bool, false, nat_le, if◌then◌else◌, List, length, slice_index, Option, None, Result, Ok, Err}
use Rattle.std.specs.List.{filter_map, list_any, list_all}
use Rattle.std.specs.Option.{option_map}
use Rattle.std.specs.Str.{bytes_eq}
use Rattle.sha2.specs.Sha256.{sha256}
use Rattle.pws_event.specs.declared.events.Event.{Event}
use Rattle.pws_base.specs.declared.fields.FieldFault.{FieldFault}
use Rattle.pws_event.specs.EventFields.{event_of}
use Rattle.pws_msg.specs.declared.changes.Checkpoint.{Checkpoint}
use Rattle.pws_msg.specs.declared.changes.PRow.{PRow}
use Rattle.pws_msg.specs.declared.changes.QRow.{QRow}
use Rattle.pws_msg.specs.declared.changes.Seen.{Seen}
use Rattle.pws_msg.specs.declared.changes.ViewChange.{ViewChange}
use Rattle.pws_msg.specs.declared.contents.Content.TheVariants as content
use Rattle.pws_msg.specs.Contents.{content_text, content_digest_of}
use Rattle.pws_msg.specs.Packets.{PacketFields}
use Rattle.pws_change.specs.Choices.{null_digest}
use Rattle.pws_msg.specs.Wire.{most_checkpoints, most_rows, most_digests}
use Rattle.pws_protocol.specs.Support.{supported_by}
use Rattle.pws_protocol.specs.Keys.{replica}
use Rattle.pws_safety.specs.Statement.{Statement}
use Rattle.pws_safety.specs.Contents.{statement_of}
use Rattle.pws_safety.specs.Statements.{Group, Sent}
use Rattle.pws_runs.specs.Worlds.{Setting, WorldState, is_bad}
use Rattle.pws_runs.specs.Speaking.{speaks}

-- ---- statements

-- what a packet from the group to itself says, with its sender's index
abbrev said_within : ℕ → PacketFields → Option (ℕ × Statement)
said_within group p =
    if p.sender.group == group && p.receiver == group then option_map (λ x. (p.sender.index, x)) (statement_of p.content) else None

-- all statements that the replicas of a group sent to it
unfoldable pub said_in : ℕ → List PacketFields → Sent
said_in group sent = filter_map (said_within group) sent

-- ---- events that are backed

-- whether an event is backed in a group: enough replicas said what supports it, each compromised one counted for it
abbrev pub is_backed : Setting → WorldState → ℕ → Event → Bool
is_backed e w group x = supported_by (speaks e w group) e.keys.layout group x

-- whether a text spells an event that is backed
abbrev pub spells_backed : Setting → WorldState → ℕ → Result Event FieldFault → Bool
spells_backed e w group (Ok x) = is_backed e w group x
spells_backed e w group (Err fault) = false

-- whether a digest is that of a backed event, among those whose texts are digested in the world; Null is always backed
unfoldable pub is_backed_digest : Setting → WorldState → ℕ → List ℕ → Bool
is_backed_digest e w group digest =
    bytes_eq digest null_digest || list_any (λ t. bytes_eq (sha256 t) digest && spells_backed e w group (event_of t)) w.texts

-- ---- view changes that occur

-- whether these are the 32 bytes of a digest
abbrev pub is_digest : List ℕ → Bool
is_digest digest = length digest == 32

-- whether a number is that of a place
abbrev pub is_place : ℕ → Bool
is_place place = nat_le 1 place && nat_le place 1000000

-- whether a checkpoint is in range
abbrev pub is_checkpoint : Checkpoint → Bool
is_checkpoint c = nat_le c.place 1000000 && is_digest c.digest

-- whether a row of P is
abbrev is_p_row : PRow → Bool
is_p_row r = is_place r.place && (is_digest r.digest && nat_le r.view 1000000)

-- whether a digest with its view is
abbrev pub is_seen : Seen → Bool
is_seen s = is_digest s.digest && nat_le s.view 1000000

-- whether a row of Q is
abbrev is_q_row : QRow → Bool
is_q_row r = is_place r.place && (nat_le 1 (length r.digests) && (nat_le (length r.digests) most_digests && list_all is_seen r.digests))

-- whether the fields of a view change are in range, so that its text is that of no other
unfoldable pub is_in_range : ViewChange → Bool
is_in_range c =
    nat_le c.view 1000000
    && (nat_le c.low 1000000
    && (nat_le 1 (length c.checkpoints)
    && (nat_le (length c.checkpoints) most_checkpoints
    && (nat_le (length c.prepared) most_rows
    && (nat_le (length c.pre_prepared) most_rows
    && (list_all is_checkpoint c.checkpoints && (list_all is_p_row c.prepared && list_all is_q_row c.pre_prepared)))))))

-- whether a view change is among those whose texts are digested in the world
unfoldable pub occurs_in : WorldState → ViewChange → Bool
occurs_in w c = is_in_range c && list_any (bytes_eq (content_text (content.ViewChange c))) w.texts

-- ---- the group

-- a group of the world, as the safety argument sees it
abbrev pub group_of : Setting → WorldState → ℕ → Group
group_of e w group = record {
  f = slice_index e.keys.layout group;
  compromised = λ i. is_bad e (replica group i);
  digest_of = λ c. content_digest_of (content.ViewChange c);
  occurs = occurs_in w;
  backed = is_backed_digest e w group;
}
