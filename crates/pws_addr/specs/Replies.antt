-- The addressing of a reply (WS-Addressing 1.0 Core, section 3.4). Its action, and that FaultTo isn't looked at, are this
-- project's own.
use Rattle.std.specs.Prelude.{ℕ, List, map, codes, None, unwrap_or}
use Rattle.std.specs.Option.{option_to_list}
use Rattle.pws_addr.specs.Headers.{anonymous, reply_relation}
use Rattle.pws_addr.specs.declared.headers.Relation.{Relation}
use Rattle.pws_addr.specs.declared.headers.Addressing.{Addressing}

unfoldable pub reply_action : List ℕ
reply_action = codes "urn:pws:reply"

-- the relation of a reply to the message of this identifier
abbrev pub in_reply : List ℕ → Relation
in_reply id = record { kind = reply_relation; id = id }

-- a reply goes to where replies are asked for, and relates to the message's identifier, where it has one
abbrev pub reply_of : Addressing → Addressing
reply_of a = record {
  to = unwrap_or a.reply_to anonymous;
  action = reply_action;
  message_id = None;
  relates_to = map in_reply (option_to_list a.message_id);
  reply_to = None;
  from = None;
  fault_to = None;
}
