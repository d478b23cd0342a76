-- What follows from the definitions alone.
use Rattle.std.specs.Prelude.{◌≡◌, ◌<◌, ◌≤◌, slice_get, ◌⊎◌, IsTrue, ℕ, Bool, true, false, List, length, Some, suc, zero}
use Rattle.std.specs.Cmp.{IsTotalOrder}
use Rattle.std.specs.FinMap.{IsAntisymmetric}
use Rattle.std.specs.List.{list_all}
use Rattle.pws_base.specs.declared.shapes.ReplicaId.{ReplicaId}
use Rattle.pws_base.specs.Counts.{count_below}
use Rattle.pws_base.specs.Limits.{max_groups}
use Rattle.pws_base.specs.Shapes.{size_of_group}
use Rattle.pws_event.specs.Counters.{Counters}
use Rattle.pws_event.specs.declared.events.Event.{Event}
use Rattle.pws_msg.specs.declared.contents.Content.{Content}
use Rattle.pws_msg.specs.Contents.{IsContent}
use Rattle.pws_protocol.specs.Keys.{replica, statement_cmp, body_cmp}
use Rattle.pws_protocol.specs.Evidence.{Evidence, no_evidence, settled, note}
use Rattle.pws_protocol.specs.Support.{SaidBy, support_of, supported_by, supports}
use Rattle.pws_protocol.specs.Candidates.{candidates}
use Rattle.pws_protocol.specs.States.{Me, State, start}
use Rattle.pws_protocol.specs.Actions.{Action, next_action}
use Rattle.pws_protocol.specs.Doing.{Reaction}
use Rattle.pws_protocol.specs.Reactions.{Input, Reacts, react, begun, settled_state, turns, is_last, then_did}
use Rattle.pws_protocol.specs.Executed.{Advances, executed_in}
use Rattle.pws_protocol.specs.Fits.{Fits, FitsEvidence, IsInput}

-- the keys of evidence are ordered, and only equal ones tie
pub record KeysAreOrdered : Type 0 where
  pub statements : IsTotalOrder statement_cmp
  pub statements_exact : IsAntisymmetric statement_cmp
  pub bodies : IsTotalOrder body_cmp
  pub bodies_exact : IsAntisymmetric body_cmp

-- the more is said, the more is supported
abbrev pub MoreIsSupported : Type 0
MoreIsSupported =
    (says more : ReplicaId → Content → Bool) (layout : List ℕ) (group : ℕ) (x : Event)
    → ((r : ReplicaId) (c : Content) → says r c ≡ true → more r c ≡ true)
    → supported_by says layout group x ≡ true → supported_by more layout group x ≡ true

-- where a group has at most as many compromised replicas as it bears, what supports an event is said by one of its others
abbrev pub SupportIsHonest : Type 0
SupportIsHonest =
    (says : ReplicaId → Content → Bool) (layout : List ℕ) (group sayer f : ℕ) (c : Content) (x : Event) (is_compromised : ℕ → Bool)
    → support_of group x ≡ SaidBy sayer c → slice_get layout sayer ≡ Some f → count_below (size_of_group f) is_compromised ≤ f
    → supported_by says layout group x ≡ true
    → (i : ℕ) × (i < size_of_group f) × (is_compromised i ≡ false) × (says (replica sayer i) c ≡ true)

-- each candidate is supported
abbrev pub CandidatesAreSupported : Type 0
CandidatesAreSupported = (e : Evidence) (asked : Counters) → FitsEvidence e → IsTrue (list_all (supports e) (candidates e asked))

-- a store of evidence fits from its start on
abbrev pub EvidenceFits : Type 0
EvidenceFits =
    ((group : ℕ) (layout : List ℕ) → FitsEvidence (no_evidence group layout))
    × ((e : Evidence) (asked : Counters) → FitsEvidence e → FitsEvidence (settled e asked))
    × ((e : Evidence) (asked : Counters) (sender : ReplicaId) (c : Content) (body : List ℕ) → IsContent c → FitsEvidence e → FitsEvidence (note e asked sender c body).evidence)

-- a voter reacts in one way
abbrev pub ReactsInOneWay : Type 0
ReactsInOneWay = (s : State) (asked : Counters) (input : Input) (u v : Reaction) → Reacts s asked input u → Reacts s asked input v → u ≡ v

-- so many actions can be done one after another, none of them the last of a call
pub data Goes (asked : Counters) : ℕ → Reaction → Type 0 where
  none : (r : Reaction) → Goes asked zero r
  more : (n : ℕ) (r : Reaction) (a : Action) → next_action r.state asked ≡ Some a → is_last a ≡ false → Goes asked n (then_did r a) → Goes asked (suc n) r

-- the function gives what the relation has, unless all its turns are used up
abbrev pub ReactIsMet : Type 0
ReactIsMet =
    (s : State) (asked : Counters) (input : Input)
    → Reacts s asked input (react s asked input) ⊎ Goes asked turns (begun (settled_state s asked) asked input).reaction

-- a voter that has heard nothing fits, in a layout that there may be
abbrev pub StartFits : Type 0
StartFits =
    (me : Me) (layout : List ℕ) → me.index < size_of_group me.f → me.f ≤ 3 → slice_get layout me.group ≡ Some me.f → length layout ≤ max_groups
    → Fits (start me layout)

-- the evidence of a voter fits whatever it is given
abbrev pub EvidenceStaysFit : Type 0
EvidenceStaysFit = (s : State) (asked : Counters) (input : Input) → IsInput s input → FitsEvidence s.evidence → FitsEvidence (react s asked input).state.evidence

-- a reaction executes at most one event, at the next place, and its place and its chain go on by this one alone
abbrev pub ExecutesInOrder : Type 0
ExecutesInOrder = (s : State) (asked : Counters) (input : Input) → Advances s (react s asked input).state (executed_in (react s asked input).outs)
