-- A voter that is alone in its group; this project's own. It sends nothing, so that the safety argument has nothing to say
-- of it; but what it executes is supported, since it proposed it itself.
use Rattle.std.specs.Prelude.{◌≡◌, ◌<◌, ℕ, Bool, true, List, Some, slice_get}
use Rattle.std.specs.List.{Contains}
use Rattle.std.specs.FinMap.{get}
use Rattle.pws_base.specs.declared.shapes.ReplicaId.{ReplicaId}
use Rattle.pws_base.specs.Shapes.{size_of_group}
use Rattle.pws_event.specs.declared.events.Event.{Event}
use Rattle.pws_event.specs.Counters.{Counters}
use Rattle.pws_msg.specs.declared.changes.ViewChange.{ViewChange}
use Rattle.pws_msg.specs.declared.contents.Content.{Content}
use Rattle.pws_safety.specs.Statements.{Sent}
use Rattle.pws_protocol.specs.Support.{supported_by}
use Rattle.pws_protocol.specs.States.{State, start}
use Rattle.pws_protocol.specs.Doing.{Reaction}
use Rattle.pws_protocol.specs.Reactions.{Input, Reacts}
use Rattle.pws_protocol.specs.Executed.{Placed, executed_in}
use Rattle.pws_protocol.specs.Fits.{FitsEvidence, IsInput}
use Rattle.pws_refine.specs.Contexts.{Context, IsOf}
use Rattle.pws_refine.specs.Inputs.{IsGiven}
use Rattle.pws_refine.specs.Links.{EvidenceLinks}
use Rattle.pws_refine.specs.Laws.{with_more}

-- a context of a group of one
pub record IsAloneThere (c : Context) : Type 0 where
  pub f : c.me.f ≡ 0
  pub member : c.me.index < size_of_group c.me.f
  pub shape : slice_get c.layout c.me.group ≡ Some c.me.f

-- whether an event is supported by what can be heard
abbrev pub IsSupported : Context → Event → Type 0
IsSupported c e = supported_by c.speaks c.layout c.me.group e ≡ true

-- all on which its actions rest: the state is the voter's, active, with nothing pending; its evidence can be heard; and
-- each event that it holds is supported
pub record StandsAlone (c : Context) (s : State) : Type 0 where
  pub is_of : IsOf c s
  pub active : s.active ≡ true
  pub pending : (p : ℕ) (e : Event) → get s.pending p ≡ Some e → ⊥
  pub keys : FitsEvidence s.evidence
  pub evidence : EvidenceLinks c s.evidence.statements
  pub texts : (digest : List ℕ) (e : Event) → get s.texts digest ≡ Some e → IsSupported c e

-- a reaction of it to an input that wasn't forged leaves that, and executes supported events alone
abbrev pub AloneExecutesSupported : Type 0
AloneExecutesSupported =
    (c : Context) (sent : Sent) (s : State) (asked : Counters) (input : Input) (r : Reaction)
    → IsAloneThere c → StandsAlone c s → IsInput s input → IsGiven c sent input → Reacts s asked input r
    → StandsAlone c r.state × ((x : Placed) → Contains (executed_in r.outs) x → IsSupported c x.event)

-- so it is at the start
abbrev pub StartStandsAlone : Type 0
StartStandsAlone = (c : Context) → StandsAlone c (start c.me c.layout)

-- and it stays as others say more
abbrev pub AloneAsMoreIsSaid : Type 0
AloneAsMoreIsSaid =
    (c : Context) (occurs : ViewChange → Bool) (backed : List ℕ → Bool) (speaks : ReplicaId → Content → Bool) (occurs_event : Event → Bool) (s : State)
    → ((r : ReplicaId) (x : Content) → c.speaks r x ≡ true → speaks r x ≡ true)
    → StandsAlone c s → StandsAlone (with_more c occurs backed speaks occurs_event) s
