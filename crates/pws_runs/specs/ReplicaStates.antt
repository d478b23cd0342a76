-- The state of a replica but for its service, what it is given, and what it puts out; this project's own.
use Rattle.std.specs.Prelude.{ℕ, Bool, false, List, [], slice_index, Option, None}
use Rattle.std.specs.declared.cmp.Ordering.{Ordering}
use Rattle.std.specs.Ordering.{nat_cmp, ordering_then}
use Rattle.std.specs.FinMap.{FinMap, empty}
use Rattle.std.specs.FinSet.{FinSet}
use Rattle.std.specs.FinSet as set
use Rattle.pws_base.specs.declared.shapes.ReplicaId.{ReplicaId}
use Rattle.pws_base.specs.Shapes.{size_of_group}
use Rattle.pws_auth.specs.Keys.{Keys}
use Rattle.pws_event.specs.declared.events.Event.{Event}
use Rattle.pws_event.specs.Lists.{PlacedEvent}
use Rattle.pws_service.specs.declared.acts.Act.{Act}
use Rattle.pws_service.specs.declared.keys.Key.{Key}
use Rattle.pws_msg.specs.Statements.{OwnReadingFields}
use Rattle.pws_msg.specs.Packets.{VoucherFields, PacketFields}
use Rattle.pws_protocol.specs.States.{State, start}
use Rattle.pws_runs.specs.declared.errors.Ignored.{Ignored}
use Rattle.pws_runs.specs.Opening.{Checked}

-- a call by the group at its other end, which is called or calls, and its number
abbrev pub call_key : ℕ → ℕ → Key
call_key group number = record { group = group; number = number }

-- calls are ordered by group, then by number
abbrev pub call_cmp : Key → Key → Ordering
call_cmp a b = ordering_then (nat_cmp a.group b.group) (nat_cmp a.number b.number)

-- a part of a bundle, as another replica of the group sent it
pub record Part : Type 0 where
  pub digest : List ℕ  -- of the body that it told
  pub voucher : VoucherFields  -- its REPLY for the caller's group, as it came

-- what the responder holds for a request
pub record Bundle : Type 0 where
  pub parts : FinMap nat_cmp Part  -- of the others, by sender
  pub is_sent : Bool  -- whether the bundle was sent

-- what a replica holds, but for its service: that is a function of the events in its list that took effect
pub record ReplicaState : Type 0 where
  pub me : ReplicaId
  pub keys : Keys  -- its keys, with the layout
  pub started : Bool  -- whether the service was started, which the first input does
  pub voter : State  -- its part in the agreement of the group
  pub places : List PlacedEvent  -- the event list
  pub first_ticks : FinMap call_cmp ℕ  -- by waiting call, the time in ms of the first tick that found it
  pub expired : FinSet call_cmp  -- the waiting calls whose timeout is over
  pub reading : Option OwnReadingFields  -- its reading for the waiting ask, of the first tick that found it
  pub bundles : FinMap call_cmp Bundle  -- by request, where it is the responder

-- the number f of the replica's group, and how many replicas the group has
abbrev pub own_f : ReplicaState → ℕ
own_f s = slice_index s.keys.layout s.me.group

-- how many replicas the group has
abbrev pub own_size : ReplicaState → ℕ
own_size s = size_of_group (own_f s)

-- before the first input
abbrev pub first_state : ReplicaId → Keys → ReplicaState
first_state me keys = record {
  me = me;
  keys = keys;
  started = false;
  voter = start (record { group = me.group; index = me.index; f = slice_index keys.layout me.group }) keys.layout;
  places = [];
  first_ticks = empty;
  expired = set.empty;
  reading = None;
  bundles = empty;
}

-- what a replica is given: bytes, a packet that was opened for it before, or a tick, with the time in ms and 32 random bytes
pub data Input : Type 0 where
  Bytes : (bytes : List ℕ) → Input
  Opened : Checked → Input
  Tick : (ms : ℕ) → (random : List ℕ) → Input

-- what it puts out: a packet to a group, or to one replica there; that an event was executed, and whether it took effect; an
-- act of its service; that an input was ignored
pub data Output : Type 0 where
  Send : (group : ℕ) → (to : Option ℕ) → PacketFields → Output
  Executed : (place : ℕ) → Event → (taken : Bool) → Output
  Acted : Act → Output
  PassedOver : Ignored → Output

-- a replica on the way through a step
pub record Run : Type 0 where
  pub state : ReplicaState
  pub effects : List Event  -- the events of its list that took effect
  pub outs : List Output  -- what was put out so far

-- a service as a function: its acts, from its start on, where these events took effect
abbrev pub Serve : Type 0
Serve = List Event → List Act
