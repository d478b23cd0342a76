-- A move of a world: one replica is given one input, and nobody else changes; this project's own.
use Rattle.std.specs.Prelude.{ℕ, ◌+◌, ◌-◌, ◌==◌, ◌++◌, Bool, nat_lt, if◌then◌else◌, List, slice_get, Option, Some, None}
use Rattle.std.specs.List.{filter_map}
use Rattle.std.specs.Option.{option_map}
use Rattle.std.specs.FinMap.{get, insert}
use Rattle.pws_base.specs.declared.shapes.ReplicaId.{ReplicaId}
use Rattle.pws_msg.specs.Packets.{PacketFields, packet_text}
use Rattle.pws_runs.specs.declared.errors.StepError.{StepError}
use Rattle.pws_runs.specs.declared.errors.StepError.TheVariants as step_error
use Rattle.pws_runs.specs.ReplicaStates.{ReplicaState, Input, Output, Send, Executed, Acted, PassedOver, Run}
use Rattle.pws_runs.specs.ReplicaStates as input
use Rattle.pws_runs.specs.Steps.{step}
use Rattle.pws_runs.specs.Worlds.{Setting, WorldState}
use Rattle.pws_runs.specs.Speaking.{is_forged}
use Rattle.pws_runs.specs.Digested.{step_texts, with_texts, has_collision, pool_size, pool_limit}

-- what a move gives to a replica: a tick; a packet of the sent list, by its number from 1; any bytes
pub data Move : Type 0 where
  Tick : (to : ReplicaId) → (ms : ℕ) → (random : List ℕ) → Move
  Give : (packet : ℕ) → (to : ReplicaId) → Move
  Bytes : (to : ReplicaId) → (bytes : List ℕ) → Move

-- to whom it is given
abbrev pub receiver : Move → ReplicaId
receiver (Tick to ms random) = to
receiver (Give packet to) = to
receiver (Bytes to bytes) = to

-- the sent packet of this number
abbrev pub packet_at : WorldState → ℕ → Option PacketFields
packet_at w packet = if packet == 0 then None else slice_get w.sent (packet - 1)

-- the input that a move gives, if the packet that it names was sent
abbrev pub input_of : WorldState → Move → Option Input
input_of w (Tick to ms random) = Some (input.Tick ms random)
input_of w (Give packet to) = option_map (λ p. input.Bytes (packet_text p)) (packet_at w packet)
input_of w (Bytes to bytes) = Some (input.Bytes bytes)

-- the packet that an output sends, if it does
abbrev pub sent_by : Output → Option PacketFields
sent_by (Send group to p) = Some p
sent_by (Executed place e taken) = None
sent_by (Acted a) = None
sent_by (PassedOver why) = None

-- the world after a replica's step: its state is the new one, and what it sent and digested is added
abbrev after_run : WorldState → ReplicaId → Input → Run → WorldState
after_run w to i r = record {
  replicas = insert w.replicas to r.state;
  sent = w.sent ++ filter_map sent_by r.outs;
  texts = with_texts w.texts (step_texts i r.state.places r.outs);
  steps = w.steps + 1;
}

-- the world after a replica is given an input
unfoldable pub world_after : Setting → WorldState → ReplicaId → ReplicaState → Input → WorldState
world_after e w to s i = after_run w to i (step (e.serve to.group) s i)

-- the refusals that the world before and after the move decide, in their order
abbrev refusal_after : Bool → WorldState → Option StepError
refusal_after forged v =
    if forged then Some step_error.Forged
    else if has_collision v.texts then Some step_error.Collision
    else if nat_lt pool_limit (pool_size v) then Some step_error.PoolFull
    else None

-- the refusals of a move: the receiver is no correct replica, the packet wasn't sent, and then those above
abbrev pub refusal_by : Setting → WorldState → ReplicaId → Option ReplicaState → Option Input → Option StepError
refusal_by e w to None i = Some step_error.NoReplica
refusal_by e w to (Some s) None = Some step_error.NoPacket
refusal_by e w to (Some s) (Some i) = refusal_after (is_forged e w to i) (world_after e w to s i)

-- why a move is refused, if it is
unfoldable pub refusal_of : Setting → WorldState → Move → Option StepError
refusal_of e w m = refusal_by e w (receiver m) (get w.replicas (receiver m)) (input_of w m)

-- a move that names no correct replica, or no packet, changes nothing
abbrev pub moved_by : Setting → WorldState → ReplicaId → Option ReplicaState → Option Input → WorldState
moved_by e w to None i = w
moved_by e w to (Some s) None = w
moved_by e w to (Some s) (Some i) = world_after e w to s i

-- the world after a move; whether the move is refused is `refusal_of`
unfoldable pub moved : Setting → WorldState → Move → WorldState
moved e w m = moved_by e w (receiver m) (get w.replicas (receiver m)) (input_of w m)

-- what a move comes to
pub data Outcome : Type 0 where
  Moved : WorldState → Outcome
  Refused : StepError → Outcome

-- the move is done unless it is refused
abbrev pub outcome_by : Option StepError → WorldState → Outcome
outcome_by None v = Moved v
outcome_by (Some why) v = Refused why

-- a step of a world
abbrev pub world_step : Setting → WorldState → Move → Outcome
world_step e w m = outcome_by (refusal_of e w m) (moved e w m)
