-- The headline, as a statement of a world, and what is to be shown of all worlds; neither is proved yet.
use Rattle.std.specs.Prelude.{◌≡◌, ◌≤◌, ◌⊎◌, ℕ, true, List, Contains, length, Some}
use Rattle.pws_event.specs.declared.events.Event.TheVariants as event
use Rattle.pws_event.specs.Requests.{RequestFields}
use Rattle.pws_event.specs.Answers.{ReplyFields}
use Rattle.pws_event.specs.declared.events.Event.{Event}
use Rattle.pws_event.specs.Lists.{event_at}
use Rattle.pws_service.specs.Drivers.{IsPrefix}
use Rattle.pws_service.specs.declared.acts.Act.{Act}
use Rattle.pws_service.specs.declared.acts.Act.TheVariants as act
use Rattle.pws_runs.specs.ReplicaStates.{ReplicaState}
use Rattle.pws_runs.specs.Calls.{own_effects, took_effect}
use Rattle.pws_runs.specs.Worlds.{Setting, WorldState, IsSetting}
use Rattle.pws_runs.specs.Reached.{IsReached}
use Rattle.pws_runs.specs.Facts.{HasState, IsSoundGroup, KeptFacts}

-- the event lists of two correct replicas of a group are prefixes of one another
abbrev ListsArePrefixes : WorldState → ℕ → Type 0
ListsArePrefixes w group =
    (i j : ℕ) (s t : ReplicaState) → HasState w group i s → HasState w group j t
    → IsPrefix s.places t.places ⊎ IsPrefix t.places s.places

-- whether the event at a place of a group's list took effect
abbrev pub TookEffect : Setting → ℕ → ReplicaState → ℕ → Event → Type 0
TookEffect e group s place x =
    (event_at s.places place ≡ Some x) × (took_effect (e.serve group) group e.keys.layout s.places place ≡ true)

-- in a correct replica's list each request of a caller takes effect at no second place
abbrev RequestsTakeEffectOnce : Setting → WorldState → ℕ → Type 0
RequestsTakeEffectOnce e w group =
    (i p q : ℕ) (s : ReplicaState) (a b : RequestFields) → HasState w group i s → TookEffect e group s p (event.Request a)
    → TookEffect e group s q (event.Request b) → a.caller ≡ b.caller → a.number ≡ b.number → p ≡ q

-- a group's own event list gives an act: the longest one among those of its correct replicas does
pub record Gives (e : Setting) (w : WorldState) (group : ℕ) (a : Act) : Type 0 where
  pub index : ℕ
  pub state : ReplicaState
  pub has_it : HasState w group index state
  pub longest : (i : ℕ) (s : ReplicaState) → HasState w group i s → length s.places ≤ length state.places
  pub gives_it : Contains (e.serve group (own_effects (e.serve group) state)) a

-- each request that a correct replica of a group took from another sound group is a call that that group's service gives
abbrev RequestsAreCalls : Setting → WorldState → ℕ → Type 0
RequestsAreCalls e w group =
    (i place f : ℕ) (s : ReplicaState) (r : RequestFields) → HasState w group i s
    → TookEffect e group s place (event.Request r) → IsSoundGroup e r.caller f
    → (timeout : ℕ) × Gives e w r.caller (act.Call group r.number r.low r.body timeout)

-- and each reply is one that it gives
abbrev RepliesAreGiven : Setting → WorldState → ℕ → Type 0
RepliesAreGiven e w group =
    (i place f : ℕ) (s : ReplicaState) (r : ReplyFields) → HasState w group i s
    → TookEffect e group s place (event.Reply r) → IsSoundGroup e r.called f
    → Gives e w r.called (act.Reply group r.number r.body)

-- in each group with at most f compromised replicas any two correct replicas' event lists are prefixes of one another, each
-- caller's request takes effect at most once, at one place, and each request or reply taken from another such group is one
-- that that group's service gives on its own event list
pub record Headline (e : Setting) (w : WorldState) : Type 0 where
  pub lists : (group f : ℕ) → IsSoundGroup e group f → ListsArePrefixes w group
  pub once : (group f : ℕ) → IsSoundGroup e group f → RequestsTakeEffectOnce e w group
  pub requests : (group f : ℕ) → IsSoundGroup e group f → RequestsAreCalls e w group
  pub replies : (group f : ℕ) → IsSoundGroup e group f → RepliesAreGiven e w group

-- to be proved: the facts and the headline hold in each world that moves lead to
abbrev pub WorldsAgree : Type 0
WorldsAgree = (seed : List ℕ) (e : Setting) (w : WorldState) → IsSetting seed e → IsReached e w → KeptFacts e w × Headline e w
