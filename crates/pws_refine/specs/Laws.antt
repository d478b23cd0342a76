-- Each action of a voter is a step of the voters of the safety argument, or none; this project's own.
use Rattle.std.specs.Prelude.{◌≡◌, ◌⊎◌, ℕ, ◌<◌, Bool, true, List, [], ◌++◌, Some}
use Rattle.std.specs.List.{Contains}
use Rattle.pws_base.specs.declared.shapes.ReplicaId.{ReplicaId}
use Rattle.pws_base.specs.Shapes.{weak_of}
use Rattle.pws_event.specs.declared.events.Event.{Event}
use Rattle.pws_event.specs.Events.{digest_of}
use Rattle.pws_msg.specs.declared.changes.ViewChange.{ViewChange}
use Rattle.pws_msg.specs.declared.contents.Content.{Content}
use Rattle.pws_msg.specs.declared.contents.Content.TheVariants as content
use Rattle.pws_event.specs.Counters.{Counters}
use Rattle.pws_change.specs.Valid.{IsValid}
use Rattle.pws_safety.specs.Statement.{Statement}
use Rattle.pws_safety.specs.Replicas.{AtLeast}
use Rattle.pws_safety.specs.Statements.{Sent, IsSettled, IsCorrect, size}
use Rattle.pws_safety.specs.Voters.{Core, new_core, Step}
use Rattle.pws_safety.specs.Runs.{IsTrusted, said_by, with_core}
use Rattle.pws_safety.specs.Kept.{GroupKeeps}
use Rattle.pws_protocol.specs.Keys.{replica}
use Rattle.pws_protocol.specs.Executed.{Placed, executed_in}
use Rattle.pws_protocol.specs.States.{State, start}
use Rattle.pws_protocol.specs.Actions.{Action, next_action}
use Rattle.pws_protocol.specs.Hearing.{SaidFields, heard}
use Rattle.pws_protocol.specs.Fits.{Fits, IsSaid, IsInput}
use Rattle.pws_protocol.specs.Ticks.{repeats}
use Rattle.pws_protocol.specs.Doing.{Reaction, did, noted, left_view, own_change}
use Rattle.pws_protocol.specs.Reactions.{Input, Reacts}
use Rattle.pws_refine.specs.Cores.{core_of, statements_in}
use Rattle.pws_refine.specs.Contexts.{Context, IsLawful, IsOf, IsInRun}
use Rattle.pws_refine.specs.Inputs.{IsTold, IsGiven}
use Rattle.pws_refine.specs.Links.{Links}
use Rattle.pws_refine.specs.Ready.{IsReady}

-- all stands on which a voter's actions rest: the state is the voter's, it is ready, and what it holds can be heard
pub record Stands (c : Context) (sent : Sent) (s : State) : Type 0 where
  pub is_of : IsOf c s
  pub ready : IsReady s
  pub links : Links c sent s

-- from one state to another is a step in which these statements are said, the newest first; or nothing is said, and the
-- core stays
abbrev pub IsStep : Context → Sent → State → List Statement → State → List Statement → Type 0
IsStep c sent s said t more =
    Step c.group sent c.me.index (core_of s said) (core_of t (more ++ said)) ⊎ ((more ≡ []) × (core_of t said ≡ core_of s said))

-- each action that is enabled is a step, where what goes out is part of the run
abbrev pub ActionsRefine : Type 0
ActionsRefine =
    (c : Context) (sent : Sent) (s : State) (said : List Statement) (asked : Counters) (a : Action)
    → IsLawful c → Stands c sent s → next_action s asked ≡ Some a → IsInRun c (did s a).outs
    → IsStep c sent s said (did s a).state (statements_in (did s a).outs)

-- after each action all stands on which the next one rests, with what was said by it
abbrev pub ActionsKeep : Type 0
ActionsKeep =
    (c : Context) (sent : Sent) (s : State) (asked : Counters) (a : Action)
    → IsLawful c → Stands c sent s → next_action s asked ≡ Some a → IsInRun c (did s a).outs
    → Stands c (said_by c.me.index (statements_in (did s a).outs) ++ sent) (did s a).state

-- what a voter that is ready reports as it moves to a later view is valid
abbrev pub OwnChangeIsValid : Type 0
OwnChangeIsValid = (s : State) (view : ℕ) → IsReady s → s.view < view → IsValid (own_change (left_view (noted s) view))

-- so the invariant of the group stands as a correct voter of it acts
abbrev pub ActionsKeepGroup : Type 0
ActionsKeepGroup =
    (c : Context) (cores : ℕ → Core) (sent : Sent) (s : State) (said : List Statement) (asked : Counters) (a : Action)
    → IsTrusted c.group → GroupKeeps c.group cores sent → IsCorrect c.group c.me.index → cores c.me.index ≡ core_of s said
    → IsLawful c → Stands c sent s → next_action s asked ≡ Some a → IsInRun c (did s a).outs
    → GroupKeeps
    c.group
    (with_core cores c.me.index (core_of (did s a).state (statements_in (did s a).outs ++ said)))
    (said_by c.me.index (statements_in (did s a).outs) ++ sent)

-- what is kept of a packet that wasn't forged leaves all that the actions rest on, and the core as it is, and says nothing
abbrev pub HearingKeeps : Type 0
HearingKeeps =
    (c : Context) (sent : Sent) (s : State) (asked : Counters) (x : SaidFields)
    → IsLawful c → Stands c sent s → IsSaid s x → IsTold c sent x
    → Stands c sent (heard s asked x).state
    × ((said : List Statement) → core_of (heard s asked x).state said ≡ core_of s said)
    × (statements_in (heard s asked x).outs ≡ [])

-- what a tick says again was said, where the voter's core is one of those that keep the invariant
abbrev pub TicksRepeat : Type 0
TicksRepeat =
    (c : Context) (cores : ℕ → Core) (sent : Sent) (s : State) (said : List Statement)
    → GroupKeeps c.group cores sent → IsCorrect c.group c.me.index → cores c.me.index ≡ core_of s said
    → IsLawful c → Stands c sent s
    → (x : Statement) → Contains (statements_in (repeats s)) x → Contains said x

-- why an event may be executed at a place: its digest is settled there, in some view; or f + 1 replicas can be heard to
-- say that they executed it there
abbrev pub IsDecided : Context → Sent → ℕ → Event → Type 0
IsDecided c sent place e =
    ((view : ℕ) × IsSettled c.group sent view place (digest_of e))
    ⊎ AtLeast (size c.group) (weak_of c.group.f) (λ k. c.speaks (replica c.me.group k) (content.Done (record { place = place; event = e })) ≡ true)

-- what a reaction carries on: the group keeps its invariant with what was newly said, the newest first, and all stands on
-- which the next reaction rests; what goes out was said before or now, and what is said now goes out; and what is executed
-- is decided
pub record Carried (c : Context) (cores : ℕ → Core) (sent : Sent) (said : List Statement) (r : Reaction) : Type 0 where
  pub more : List Statement
  pub keeps : GroupKeeps c.group (with_core cores c.me.index (core_of r.state (more ++ said))) (said_by c.me.index more ++ sent)
  pub stands : Stands c (said_by c.me.index more ++ sent) r.state
  pub out : (x : Statement) → Contains (statements_in r.outs) x → Contains (more ++ said) x
  pub new : (x : Statement) → Contains more x → Contains (statements_in r.outs) x
  pub executed : (x : Placed) → Contains (executed_in r.outs) x → IsDecided c (said_by c.me.index more ++ sent) x.place x.event

-- a whole reaction of a correct voter of a trusted group to an input that wasn't forged carries on, where what goes out
-- is part of the run
abbrev pub ReactionsRefine : Type 0
ReactionsRefine =
    (c : Context) (cores : ℕ → Core) (sent : Sent) (s : State) (said : List Statement) (asked : Counters) (input : Input) (r : Reaction)
    → IsTrusted c.group → GroupKeeps c.group cores sent → IsCorrect c.group c.me.index → cores c.me.index ≡ core_of s said
    → IsLawful c → Stands c sent s → IsInput s input → IsGiven c sent input → Reacts s asked input r → IsInRun c r.outs
    → Carried c cores sent said r

-- a context in which more can be heard, and more occurs and is backed
abbrev pub with_more : Context → (ViewChange → Bool) → (List ℕ → Bool) → (ReplicaId → Content → Bool) → (Event → Bool) → Context
with_more c occurs backed speaks occurs_event = record c {
  group = record c.group { occurs = occurs; backed = backed };
  speaks = speaks;
  occurs_event = occurs_event;
}

-- all stands as more is said and more occurs; so it does for a voter that is given nothing meanwhile
abbrev pub StandsAsMoreIsSaid : Type 0
StandsAsMoreIsSaid =
    (c : Context) (occurs : ViewChange → Bool) (backed : List ℕ → Bool) (speaks : ReplicaId → Content → Bool) (occurs_event : Event → Bool)
    (before after : Sent) (s : State)
    → ((v : ViewChange) → c.group.occurs v ≡ true → occurs v ≡ true)
    → ((r : ReplicaId) (x : Content) → c.speaks r x ≡ true → speaks r x ≡ true)
    → ((e : Event) → c.occurs_event e ≡ true → occurs_event e ≡ true)
    → ((k : ℕ) (x : Statement) → Contains before (k, x) → Contains after (k, x))
    → Stands c before s → Stands (with_more c occurs backed speaks occurs_event) after s

-- a voter that has heard nothing begins as those of the safety argument do, and all stands
abbrev pub StartStands : Type 0
StartStands = (c : Context) (sent : Sent) → (core_of (start c.me c.layout) [] ≡ new_core) × Stands c sent (start c.me c.layout)

-- a voter that fits is ready
abbrev pub FitsIsReady : Type 0
FitsIsReady = (s : State) → Fits s → IsReady s
