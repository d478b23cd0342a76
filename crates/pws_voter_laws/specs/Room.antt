-- That what a voter does has room: no number runs over, and each statement that it makes is in range.
-- `HasRoom` says it of an action, by what the action needs, and `CanRepeat` of what a tick says again.
use Rattle.std.specs.Prelude.{◌≡◌, ℕ, ◌<◌, ◌≤◌, ◌+◌, List, Contains, IsTrue, Some, IfSome}
use Rattle.std.specs.List.{All, fold}
use Rattle.std.specs.FinMap.{get}
use Rattle.pws_base.specs.Limits.{max_number, max_groups, max_replicas}
use Rattle.pws_base.specs.Places.{is_in_window}
use Rattle.pws_event.specs.declared.events.Event.{Event}
use Rattle.pws_event.specs.Events.{IsEvent}
use Rattle.pws_event.specs.Counters.{Counters}
use Rattle.pws_msg.specs.declared.changes.Choice.{Choice}
use Rattle.pws_msg.specs.declared.contents.Content.{Content}
use Rattle.pws_msg.specs.Contents.{IsContent}
use Rattle.pws_msg.specs.Packets.{IsTags}
use Rattle.pws_msg.specs.Reported.{IsViewChange, IsNewView}
use Rattle.pws_msg.specs.Rows.{IsDigest}
use Rattle.pws_change.specs.Choices.{last_of}
use Rattle.pws_votes.specs.declared.kinds.VoteKind.TheVariants as kind
use Rattle.pws_votes.specs.Votes.{key}
use Rattle.pws_protocol.specs.States.{State, Slot, HeldChange, Relayed}
use Rattle.pws_protocol.specs.Gathered.{acks_of}
use Rattle.pws_protocol.specs.Actions.{Action, next_action, next_place}
use Rattle.pws_protocol.specs.Actions as act
use Rattle.pws_protocol.specs.Doing.{noted, left_view, own_change, offer_of, with_offer, taken}
use Rattle.pws_protocol.specs.Ticks.{with_own, ticked}
use Rattle.pws_protocol.specs.Fits.{Fits}

-- a place that may be named in a statement, and is in the window
pub record IsOpenPlace (s : State) (p : ℕ) : Type 0 where
  pub from : 1 ≤ p
  pub to : p ≤ max_number
  pub inside : IsTrue (is_in_window s.low p)

-- a move into a view: it is a number, so is the count of moves with it, and what the voter reports is in range
pub record CanMove (s : State) (w : ℕ) : Type 0 where
  pub view : w ≤ max_number
  pub moves : s.moves < max_number
  pub change : IsViewChange (own_change (left_view (noted s) w))

-- an acknowledgment of the change of a replica
pub record CanAck (s : State) (j : ℕ) : Type 0 where
  pub view : s.view ≤ max_number
  pub index : j < max_replicas
  pub digest : (c : HeldChange) → get s.heard j ≡ Some c → IsDigest c.digest

-- the changes that are passed on: each may be named, with its sender, and as a voucher it is in range
pub record CanRelay (s : State) : Type 0 where
  pub view : s.view ≤ max_number
  pub group : s.me.group < max_groups
  pub index : (j : ℕ) (c : Relayed) → get s.relayed j ≡ Some c → j < max_replicas
  pub digest : (j : ℕ) (c : Relayed) → get s.relayed j ≡ Some c → IsDigest c.digest
  pub tags : (j : ℕ) (c : Relayed) → get s.relayed j ≡ Some c → IsTags c.tags
  pub change : (j : ℕ) (c : Relayed) → get s.relayed j ≡ Some c → IsViewChange c.change

-- what is accepted of a choice: its last place is a number, and each digest may be voted for at its place
pub record IsTaken (s : State) (c : Choice) : Type 0 where
  pub last : last_of c ≤ max_number
  pub places : (x : ℕ × List ℕ) → Contains (taken s c) x → IsOpenPlace s x.0
  pub digests : (x : ℕ × List ℕ) → Contains (taken s c) x → IsDigest x.1

-- the start of a view by a choice
pub record CanOffer (s : State) (c : Choice) : Type 0 where
  pub offer : IsNewView (offer_of s c)
  pub relays : CanRelay (with_offer s c)
  pub taken : IsTaken s c

-- a proposal of an event for the next place
pub record CanPropose (s : State) (e : Event) : Type 0 where
  pub view : s.view ≤ max_number
  pub place : IsOpenPlace s (next_place s)
  pub event : IsEvent e

-- a low mark that isn't below that of the state, nor of its book
pub record CanRaise (s : State) (p : ℕ) : Type 0 where
  pub from : s.low ≤ p
  pub book : s.book.low ≤ p
  pub to : p ≤ max_number

-- an action
abbrev pub HasRoom : State → Action → Type 0
HasRoom s (act.Join w) = CanMove s w
HasRoom s act.Refuse = CanMove s (s.view + 1)
HasRoom s act.Impatience = CanMove s (s.view + 1)
HasRoom s (act.Ack j) = CanAck s j
HasRoom s (act.NeedChosen d) = IsDigest d
HasRoom s (act.NeedText d) = IsDigest d
HasRoom s (act.Offer c) = CanOffer s c
HasRoom s (act.Enter v) = IsTaken s v.choice
HasRoom s (act.Propose e) = CanPropose s e
HasRoom s (act.Accept p) = IsOpenPlace s p
HasRoom s (act.Prepare p) = IsOpenPlace s p
HasRoom s (act.Execute e) = s.done < max_number
HasRoom s (act.Adopt e) = s.done < max_number
HasRoom s (act.Commit p) = IsOpenPlace s p
HasRoom s act.Checkpoint = 1 ≤ s.done
HasRoom s (act.Stable p) = CanRaise s p

-- what a tick says again: the own view change and acknowledgments, the new view and the relays, what is said of slots, and
-- the checkpoints
pub record CanRepeat (s : State) : Type 0 where
  pub view : s.view ≤ max_number
  pub change : (c : HeldChange) → get s.heard s.me.index ≡ Some c → IsViewChange c.change
  pub acks : (j : ℕ) (d : List ℕ) → get (acks_of s s.me.index) j ≡ Some d → (j < max_replicas) × IsDigest d
  pub new_view : IfSome s.new_view IsNewView
  pub relays : CanRelay s
  pub places : (p : ℕ) (t : Slot) → get s.slots p ≡ Some t → IsOpenPlace s p
  pub slots : (p : ℕ) (t : Slot) → get s.slots p ≡ Some t → IsDigest t.digest
  pub low : (s.low ≤ max_number) × ((d : List ℕ) → get s.chains s.low ≡ Some d → IsDigest d)
  pub checkpoints : (p : ℕ) (d : List ℕ) → get s.book.votes (key kind.Checkpoint p s.me.index) ≡ Some d → IsOpenPlace s p × IsDigest d × (get s.chains p ≡ Some d)

-- each action that is done has room in a voter that fits
abbrev pub ActionsHaveRoom : Type 0
ActionsHaveRoom = (s : State) (asked : Counters) (a : Action) → Fits s → next_action s asked ≡ Some a → HasRoom s a

-- and so has what a tick says again, after the own contents are heard and patience is counted
abbrev pub TicksHaveRoom : Type 0
TicksHaveRoom =
    (s : State) (asked : Counters) (own : List Content) → Fits s → All IsContent own
    → CanRepeat (ticked (fold (with_own asked) s own) asked)
