-- What holds in every world that moves lead to, of each sound group: statements, which aren't proved yet. They speak of the
-- states that the correct replicas have and of all that they sent.
use Rattle.std.specs.Prelude.{◌≡◌, ◌+◌, ◌<◌, ◌≤◌, ◌⊎◌, ℕ, Bool, true, false, List, Contains, slice_get, Option, Some, None}
use Rattle.std.specs.FinMap.{get}
use Rattle.pws_base.specs.declared.shapes.ReplicaId.{ReplicaId}
use Rattle.pws_event.specs.declared.events.Event.{Event}
use Rattle.pws_event.specs.declared.events.Event.TheVariants as event
use Rattle.pws_event.specs.Events.{IsEvent, digest_of}
use Rattle.pws_event.specs.Lists.{PlacedEvent, at_place, event_at}
use Rattle.pws_service.specs.declared.keys.Key.{Key}
use Rattle.pws_msg.specs.declared.changes.PRow.{PRow}
use Rattle.pws_msg.specs.declared.changes.QRow.{QRow}
use Rattle.pws_msg.specs.declared.changes.Seen.{Seen}
use Rattle.pws_msg.specs.declared.changes.ViewChange.{ViewChange}
use Rattle.pws_msg.specs.declared.changes.NewView.{NewView}
use Rattle.pws_msg.specs.declared.contents.Content.{Content}
use Rattle.pws_msg.specs.declared.contents.Content.TheVariants as content
use Rattle.pws_msg.specs.Packets.{PacketFields}
use Rattle.pws_change.specs.Choices.{last_of}
use Rattle.pws_change.specs.Sets.{p_rows, q_rows}
use Rattle.pws_votes.specs.declared.kinds.VoteKind.TheVariants as kind
use Rattle.pws_votes.specs.Votes as votes
use Rattle.pws_protocol.specs.Keys.{replica}
use Rattle.pws_protocol.specs.declared.keys.StatementKey.{StatementKey}
use Rattle.pws_protocol.specs.States.{Slot, HeldChange, Relayed, primary}
use Rattle.pws_protocol.specs.Gathered.{ack_at}
use Rattle.pws_safety.specs.Statement.{Commit}
use Rattle.pws_safety.specs.Statement as say
use Rattle.pws_safety.specs.Statements.{Sent, Gives, StandsFor, IsSettled, IsCorrect}
use Rattle.pws_safety.specs.Facts as safe
use Rattle.pws_safety.specs.Kept.{HasGrounds}
use Rattle.pws_safety.specs.Agreement.{SettledStays}
use Rattle.pws_runs.specs.ReplicaStates.{ReplicaState, Part, Bundle}
use Rattle.pws_runs.specs.Worlds.{Setting, WorldState, is_sound}
use Rattle.pws_runs.specs.Speaking.{speaks}
use Rattle.pws_runs.specs.Statements.{said_in, group_of, is_backed}

-- a correct replica of a group, by its index, has this state
abbrev pub HasState : WorldState → ℕ → ℕ → ReplicaState → Type 0
HasState w group i s = get w.replicas (replica group i) ≡ Some s

-- ---- what is held was sent

-- what a replica holds as said by a replica, itself among them
pub data Holds (s : ReplicaState) : ReplicaId → Content → Type 0 where
  -- a statement of evidence
  statement : (k : StatementKey) (c : Content) → get s.voter.evidence.statements k ≡ Some c → Holds s k.sender c
  -- a proposal for a place
  proposal :
      (place : ℕ) (x : Event) → get s.voter.pending place ≡ Some x
      → Holds s (replica s.me.group (primary s.voter)) (content.PrePrepare (record { view = s.voter.view; place = place; event = x }))
  -- votes of the view, and for checkpoints
  prepare :
      (place i : ℕ) (digest : List ℕ) → get s.voter.book.votes (votes.key kind.Prepare place i) ≡ Some digest
      → Holds s (replica s.me.group i) (content.Prepare (record { view = s.voter.view; place = place; digest = digest }))
  commit :
      (place i : ℕ) (digest : List ℕ) → get s.voter.book.votes (votes.key kind.Commit place i) ≡ Some digest
      → Holds s (replica s.me.group i) (content.Commit (record { view = s.voter.view; place = place; digest = digest }))
  checkpoint :
      (place i : ℕ) (digest : List ℕ) → get s.voter.book.votes (votes.key kind.Checkpoint place i) ≡ Some digest
      → Holds s (replica s.me.group i) (content.Checkpoint (record { place = place; digest = digest }))
  -- a view change as heard from its sender, and one that was passed on with a tag that verified
  heard :
      (j : ℕ) (h : HeldChange) → get s.voter.heard j ≡ Some h
      → Holds s (replica s.me.group j) (content.ViewChange h.change)
  relayed :
      (j : ℕ) (h : Relayed) → get s.voter.relayed j ≡ Some h → h.is_verified ≡ true
      → Holds s (replica s.me.group j) (content.ViewChange h.change)
  -- an acknowledgement of i, of the view change of j
  ack :
      (i j : ℕ) (digest : List ℕ) → ack_at s.voter i j ≡ Some digest
      → Holds s (replica s.me.group i) (content.Ack (record { view = s.voter.view; index = j; digest = digest }))
  -- the new view
  new_view :
      (v : NewView) → s.voter.new_view ≡ Some v → Holds s (replica s.me.group (primary s.voter)) (content.NewView v)
  -- what others told of the place after the last one executed
  done :
      (j : ℕ) (x : Event) → get s.voter.dones j ≡ Some x
      → Holds s (replica s.me.group j) (content.Done (record { place = s.voter.done + 1; event = x }))
  -- a part of a bundle
  part :
      (k : Key) (b : Bundle) (j : ℕ) (x : Part) → get s.bundles k ≡ Some b → get b.parts j ≡ Some x
      → Holds s (replica s.me.group j) (content.Part (record { caller = k.group; number = k.number; digest = x.digest }))

-- what a correct replica holds as said by a correct one was sent by that one, to this group or as the voucher of its PART
abbrev HeldWasSent : Setting → WorldState → ℕ → Type 0
HeldWasSent e w group =
    (i : ℕ) (s : ReplicaState) (from : ReplicaId) (c : Content) → HasState w group i s → Holds s from c
    → speaks e w group from c ≡ true

-- ---- one voice per view

-- the view that a content is of, if it is of one
abbrev pub view_in : Content → Option ℕ
view_in (content.PrePrepare p) = Some p.view
view_in (content.Prepare v) = Some v.view
view_in (content.Commit v) = Some v.view
view_in (content.ViewChange c) = Some c.view
view_in (content.Ack n) = Some n.view
view_in (content.NewView v) = Some v.view
view_in (content.Relay n) = Some n.view
view_in _ = None

-- a slot of a voter has this digest
abbrev HasSlot : ReplicaState → ℕ → List ℕ → Type 0
HasSlot s place digest = (slot : Slot) × (get s.voter.slots place ≡ Some slot) × (slot.digest ≡ digest)

-- the new view that a voter keeps chose this digest, at or below its floor
abbrev WasChosen : ReplicaState → ℕ → List ℕ → Type 0
WasChosen s place digest =
    (place ≤ s.voter.floor) × ((new : NewView) × (s.voter.new_view ≡ Some new) × Gives new.choice place digest)

-- a correct replica says nothing of a view above its own; its view changes for a view are one, and it stands for one digest
-- at a place of a view; in its view, and above its low mark, it stands for its slots and for what was chosen, and its
-- COMMITs are those of its prepared slots
pub record OneVoicePerView (e : Setting) (w : WorldState) (group : ℕ) : Type 0 where
  pub no_later :
      (i : ℕ) (s : ReplicaState) (p : PacketFields) (view : ℕ) → HasState w group i s → Contains w.sent p
      → p.sender ≡ replica group i → view_in p.content ≡ Some view → view ≤ s.voter.view
  pub one : safe.OneVoicePerView (group_of e w group) (said_in group w.sent)
  pub in_view :
      (i place : ℕ) (s : ReplicaState) (digest : List ℕ) → HasState w group i s → s.voter.low < place
      → StandsFor (group_of e w group) (said_in group w.sent) i s.voter.view place digest
      → HasSlot s place digest ⊎ WasChosen s place digest
  pub commits :
      (i place : ℕ) (s : ReplicaState) (digest : List ℕ) → HasState w group i s → s.voter.low < place
      → Contains (said_in group w.sent) (i, Commit s.voter.view place digest)
      → (slot : Slot) × (get s.voter.slots place ≡ Some slot) × (slot.digest ≡ digest) × (slot.is_prepared ≡ true)
  pub prepared :
      (i place : ℕ) (s : ReplicaState) (slot : Slot) → HasState w group i s → get s.voter.slots place ≡ Some slot
      → slot.is_prepared ≡ true → Contains (said_in group w.sent) (i, Commit s.voter.view place slot.digest)

-- ---- reports

-- the replica i sent COMMIT of this digest at the place in the view `at`, which is below `view`, and in no other such view
-- that is later
abbrev IsLatestCommit : Sent → ℕ → ℕ → ℕ → List ℕ → ℕ → Type 0
IsLatestCommit sent i view place digest at =
    Contains sent (i, Commit at place digest) × (at < view)
    × ((v : ℕ) (d : List ℕ) → Contains sent (i, Commit v place d) → v < view → v ≤ at)

-- sets P and Q are true of the replica i for a view and a low mark: P has a row at each place above the mark where it sent
-- COMMIT in an earlier view, and each row is its latest one; and it stands for each digest of Q in the view that stands by it
pub record TellsTrue (e : Setting) (w : WorldState) (group i view low : ℕ) (prepared : List PRow) (pre_prepared : List QRow) : Type 0 where
  pub rows :
      (r : PRow) → Contains prepared r → IsLatestCommit (said_in group w.sent) i view r.place r.digest r.view
  pub whole :
      (v place : ℕ) (digest : List ℕ) → Contains (said_in group w.sent) (i, Commit v place digest) → v < view → low < place
      → (r : PRow) × Contains prepared r × (r.place ≡ place)
  pub seen :
      (row : QRow) (x : Seen) → Contains pre_prepared row → Contains row.digests x
      → StandsFor (group_of e w group) (said_in group w.sent) i x.view row.place x.digest

-- so are the sets in the view changes of a correct replica, and those of its state
pub record ReportsItsCommits (e : Setting) (w : WorldState) (group : ℕ) : Type 0 where
  pub changes :
      (i : ℕ) (c : ViewChange) → IsCorrect (group_of e w group) i → Contains (said_in group w.sent) (i, say.ViewChange c)
      → TellsTrue e w group i c.view c.low c.prepared c.pre_prepared
  pub states :
      (i : ℕ) (s : ReplicaState) → HasState w group i s
      → TellsTrue e w group i s.voter.view s.voter.low (p_rows s.voter.prepared) (q_rows s.voter.pre_prepared)

-- ---- choices

-- a correct replica that stands for a digest above view 0 stands on a choice: a NEW_VIEW of the view agrees with view
-- changes that are valid and of replicas of the group, those of correct ones as they sent them, and it gives the digest at
-- the place, or ends below it. An active one keeps such a NEW_VIEW; its floor is the end of that choice, and its slots at or
-- below it are those that were chosen
pub record StandsOnAChoice (e : Setting) (w : WorldState) (group : ℕ) : Type 0 where
  pub stands :
      (i view place : ℕ) (digest : List ℕ) → IsCorrect (group_of e w group) i → 0 < view
      → StandsFor (group_of e w group) (said_in group w.sent) i view place digest
      → (new : NewView) × (new.view ≡ view) × HasGrounds (group_of e w group) (said_in group w.sent) new
      × (Gives new.choice place digest ⊎ (last_of new.choice < place))
  pub keeps :
      (i : ℕ) (s : ReplicaState) → HasState w group i s → s.voter.active ≡ true → 0 < s.voter.view
      → (new : NewView) × (s.voter.new_view ≡ Some new) × (new.view ≡ s.voter.view)
      × HasGrounds (group_of e w group) (said_in group w.sent) new × (s.voter.floor ≡ last_of new.choice)
  pub slots :
      (i place : ℕ) (s : ReplicaState) (new : NewView) (slot : Slot) → HasState w group i s → s.voter.active ≡ true
      → s.voter.new_view ≡ Some new → get s.voter.slots place ≡ Some slot → place ≤ s.voter.floor
      → new.choice.place < place → Gives new.choice place slot.digest

-- ---- what is backed, and what is settled

-- each digest that a correct replica stands for is that of a backed event
abbrev StandsForBacked : Setting → WorldState → ℕ → Type 0
StandsForBacked e w group =
    (i view place : ℕ) (digest : List ℕ) → IsCorrect (group_of e w group) i
    → StandsFor (group_of e w group) (said_in group w.sent) i view place digest
    → (x : Event) × IsEvent x × (digest_of x ≡ digest) × (is_backed e w group x ≡ true)

-- each event that a correct replica executed has a digest that is settled at its place
abbrev ExecutedIsSettled : Setting → WorldState → ℕ → Type 0
ExecutedIsSettled e w group =
    (i place : ℕ) (s : ReplicaState) (p : PlacedEvent) → HasState w group i s → at_place s.places place ≡ Some p
    → (view : ℕ) × IsSettled (group_of e w group) (said_in group w.sent) view place p.digest

-- requests and replies, which others ask for and answer
abbrev is_of_others : Event → Bool
is_of_others (event.Request r) = true
is_of_others (event.Reply r) = true
is_of_others _ = false

-- each request and reply that a correct replica executed is backed
abbrev ExecutedIsBacked : Setting → WorldState → ℕ → Type 0
ExecutedIsBacked e w group =
    (i place : ℕ) (s : ReplicaState) (x : Event) → HasState w group i s → event_at s.places place ≡ Some x
    → is_of_others x ≡ true → is_backed e w group x ≡ true

-- a group of the layout that bears f compromised replicas and has no more
abbrev pub IsSoundGroup : Setting → ℕ → ℕ → Type 0
IsSoundGroup e group f = (slice_get e.keys.layout group ≡ Some f) × (is_sound e group ≡ true)

-- so it is in each sound group that bears compromised replicas
abbrev pub InGroups : Setting → (ℕ → Type 0) → Type 0
InGroups e P = (group f : ℕ) → IsSoundGroup e group f → 1 ≤ f → P group

-- the facts of a world
pub record KeptFacts (e : Setting) (w : WorldState) : Type 0 where
  pub held_was_sent : InGroups e (HeldWasSent e w)
  pub one_voice : InGroups e (OneVoicePerView e w)
  pub commit_has_quorum : InGroups e (λ g. safe.CommitHasQuorum (group_of e w g) (said_in g w.sent))
  pub reports_its_commits : InGroups e (ReportsItsCommits e w)
  pub stands_on_a_choice : InGroups e (StandsOnAChoice e w)
  pub settled_stays : InGroups e (λ g. SettledStays (group_of e w g) (said_in g w.sent))
  pub stands_for_backed : InGroups e (StandsForBacked e w)
  pub executed_is_settled : InGroups e (ExecutedIsSettled e w)
  -- of a sound group of one
  pub executed_is_backed : (group : ℕ) → IsSoundGroup e group 0 → ExecutedIsBacked e w group
