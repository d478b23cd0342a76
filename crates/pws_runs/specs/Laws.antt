-- What follows from the definitions.
use Rattle.std.specs.Prelude.{◌≡◌, ◌<◌, ◌⊎◌, ◌++◌, ℕ, true, List, [], ◌∷◌, Contains, slice_index, Some, None, Ok}
use Rattle.std.specs.Cmp.{IsTotalOrder}
use Rattle.std.specs.FinMap.{IsAntisymmetric, get}
use Rattle.pws_base.specs.declared.shapes.ReplicaId.{ReplicaId}
use Rattle.pws_auth.specs.Keys.{Keys}
use Rattle.pws_event.specs.declared.events.Event.{Event}
use Rattle.pws_msg.specs.Packets.{VoucherFields, PacketFields}
use Rattle.pws_protocol.specs.Hearing.{Vouched}
use Rattle.pws_runs.specs.declared.errors.Ignored.TheVariants as ignored
use Rattle.pws_runs.specs.declared.errors.OpenError.{OpenError}
use Rattle.pws_runs.specs.Saying.{outer, says}
use Rattle.pws_runs.specs.Opening.{Checked, opens}
use Rattle.pws_runs.specs.ReplicaStates.{ReplicaState, Input, Run, Serve, PassedOver, call_cmp}
use Rattle.pws_runs.specs.Calls.{own_effects}
use Rattle.pws_runs.specs.Steps.{step, step_with, run_from, started, put}
use Rattle.pws_runs.specs.Courses.{Course, unopened_of}
use Rattle.pws_runs.specs.Worlds.{Setting, WorldState}
use Rattle.pws_runs.specs.Speaking.{speaks}
use Rattle.pws_runs.specs.Moves.{Move, Bytes, receiver, moved, refusal_of}

-- ---- opening

-- what is opened is said: the outer statement, and each voucher that verified
abbrev pub OpenedIsSaid : Type 0
OpenedIsSaid =
    (keys : Keys) (me : ReplicaId) (bytes : List ℕ) (c : Checked) → opens keys me bytes ≡ Ok c
    → Contains (says keys me bytes) (outer c.packet)
    × ((v : Vouched) → Contains c.vouchers v → v.is_verified ≡ true → Contains (says keys me bytes) v.voucher)

-- ---- a step

-- calls are ordered, and only equal ones tie
pub record CallsAreOrdered : Type 0 where
  pub total : IsTotalOrder call_cmp
  pub exact : IsAntisymmetric call_cmp

-- each step is a course of phases
abbrev pub StepsAreCourses : Type 0
StepsAreCourses =
    (serve : Serve) (effects : List Event) (s : ReplicaState) (i : Input)
    → Course serve i (run_from s effects) (step_with serve effects s i)

-- the effects of a run are those of its replica's list
abbrev pub IsLed : Serve → Run → Type 0
IsLed serve r = r.effects ≡ own_effects serve r.state

-- the effects with which a step ends are those of the list that it leaves
abbrev pub EffectsStay : Type 0
EffectsStay = (serve : Serve) (s : ReplicaState) (i : Input) → IsLed serve (step serve s i)

-- where an input isn't opened a step starts the service, if it wasn't started, and says why; it does nothing else
abbrev pub UnopenedChangesNothing : Type 0
UnopenedChangesNothing =
    (serve : Serve) (effects : List Event) (s : ReplicaState) (i : Input) (why : OpenError)
    → unopened_of i (started serve (run_from s effects)).state ≡ Some why
    → step_with serve effects s i ≡ put (started serve (run_from s effects)) (PassedOver (ignored.Unopened why) ∷ [])

-- ---- moves

-- what bytes say to a replica, in a move that isn't refused, can be heard as their senders'
abbrev pub GivenIsSpoken : Type 0
GivenIsSpoken =
    (e : Setting) (w : WorldState) (to : ReplicaId) (bytes : List ℕ) → refusal_of e w (Bytes to bytes) ≡ None
    → (v : VoucherFields) → Contains (says e.keys to bytes) v → speaks e w to.group v.sender v.content ≡ true

-- a move changes the state of its receiver alone, and what was sent stays sent, in its order
pub record MovesChangeOne : Type 0 where
  pub others :
      (e : Setting) (w : WorldState) (m : Move) (r : ReplicaId) → (r ≡ receiver m → ⊥)
      → get (moved e w m).replicas r ≡ get w.replicas r
  pub sent : (e : Setting) (w : WorldState) (m : Move) → (more : List PacketFields) × ((moved e w m).sent ≡ w.sent ++ more)
