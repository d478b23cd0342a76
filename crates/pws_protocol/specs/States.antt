-- The state of a voter: a replica's part in the agreement of its group, after Castro and Liskov (2002).
use Rattle.std.specs.Prelude.{ℕ, ◌+◌, ◌==◌, ◌&&◌, not, Bool, true, false, nat_lt, is_some, if◌then◌else◌, List, replicate, Option, Some, None}
use Rattle.std.specs.List.{range_with_len}
use Rattle.std.specs.Ordering.{nat_cmp}
use Rattle.std.specs.Str.{bytes_eq}
use Rattle.std.specs.Cmp.Lexicographic.{slice_cmp}
use Rattle.std.specs.FinMap.{FinMap, empty, get, insert}
use Rattle.std.specs.FinSet.{FinSet}
use Rattle.std.specs.FinSet as set
use Rattle.pws_base.specs.declared.shapes.ReplicaId.{ReplicaId}
use Rattle.pws_base.specs.Limits.{place_window}
use Rattle.pws_base.specs.Shapes.{primary_of, size_of_group}
use Rattle.pws_event.specs.declared.events.Event.{Event}
use Rattle.pws_event.specs.declared.events.Event.TheVariants as event
use Rattle.pws_msg.specs.declared.changes.NewView.{NewView}
use Rattle.pws_msg.specs.declared.changes.ViewChange.{ViewChange}
use Rattle.pws_change.specs.Choices.{null_digest}
use Rattle.pws_change.specs.Sets.{Prepared, PrePrepared}
use Rattle.pws_votes.specs.Votes.{Book, new_book}
use Rattle.pws_protocol.specs.Keys.{replica}
use Rattle.pws_protocol.specs.Evidence.{Evidence, no_evidence}

-- the voter's replica: its group, its index there, and how many compromised ones the group bears
pub record Me : Type 0 where
  pub group : ℕ
  pub index : ℕ
  pub f : ℕ

-- what is accepted at a place in this view: its digest, and how far it has come
pub record Slot : Type 0 where
  pub digest : List ℕ
  pub is_prepared : Bool
  pub is_committed : Bool

-- a view change as it was heard: its digest, itself, and the tags of its packet
pub record HeldChange : Type 0 where
  pub digest : List ℕ
  pub change : ViewChange
  pub tags : List (List ℕ)

-- one that was passed on, and whether its sender's tag verified
pub record Relayed : Type 0 where
  pub digest : List ℕ
  pub change : ViewChange
  pub tags : List (List ℕ)
  pub is_verified : Bool

-- the digests of acknowledged changes: by who acknowledges, and whose change it is
abbrev Acks : Type 0
Acks = FinMap nat_cmp (FinMap nat_cmp (List ℕ))

-- a set of digests
abbrev DigestSet : Type 0
DigestSet = FinSet (slice_cmp nat_cmp)

-- what a voter holds
pub record State : Type 0 where
  pub me : Me
  pub view : ℕ
  pub active : Bool  -- in the view, or else on the way into it
  pub low : ℕ  -- the low mark: the place of the last stable checkpoint
  pub done : ℕ  -- the last place that was executed
  pub floor : ℕ  -- the last place that the view started with: up to there it proposes nothing new
  pub last : ℕ  -- the highest place accepted in this view
  pub waited : ℕ  -- ticks since anything was executed, while something waits
  pub moves : ℕ  -- moves to another view since anything was executed
  pub chain : List ℕ  -- the chain at done
  pub chains : FinMap nat_cmp (List ℕ)  -- the chain at the low mark and at later multiples of 16 up to done
  pub pending : FinMap nat_cmp Event  -- by place: proposed by the primary, not yet accepted
  pub slots : FinMap nat_cmp Slot  -- by place: accepted in this view
  pub book : Book  -- votes of this view, and for checkpoints
  pub prepared : Prepared  -- P: what was prepared in earlier views
  pub pre_prepared : PrePrepared  -- Q: what was accepted in earlier views
  pub texts : FinMap (slice_cmp nat_cmp) Event  -- events by digest; Null is always held, and isn't here
  pub needed : DigestSet  -- the digests whose events were asked for since the last tick
  pub evidence : Evidence
  pub heard : FinMap nat_cmp HeldChange  -- the last view change of each replica
  pub acks : Acks  -- acknowledgments of view changes for the view
  pub new_view : Option NewView  -- what starts the view, as its primary said it
  pub relayed : FinMap nat_cmp Relayed  -- view changes that were passed on, by whose they are
  pub dones : FinMap nat_cmp Event  -- by who says so: the event at the place after done

-- the chain of no event
abbrev pub first_chain : List ℕ
first_chain = replicate 32 0

-- a voter that has heard nothing
abbrev pub start : Me → List ℕ → State
start me layout = record {
  me = me;
  view = 0;
  active = true;
  low = 0;
  done = 0;
  floor = 0;
  last = 0;
  waited = 0;
  moves = 0;
  chain = first_chain;
  chains = insert empty 0 first_chain;
  pending = empty;
  slots = empty;
  book = new_book me.f;
  prepared = empty;
  pre_prepared = empty;
  texts = empty;
  needed = set.empty;
  evidence = no_evidence me.group layout;
  heard = empty;
  acks = empty;
  new_view = None;
  relayed = empty;
  dones = empty;
}

-- the voter as a replica
abbrev pub own_id : State → ReplicaId
own_id s = replica s.me.group s.me.index

-- the primary of the view; whether the voter is it
abbrev pub primary : State → ℕ
primary s = primary_of s.me.f s.view

-- whether the voter is the primary of its view
abbrev pub is_primary : State → Bool
is_primary s = s.me.index == primary s

-- whether the group has one replica alone
abbrev pub is_alone : State → Bool
is_alone s = s.me.f == 0

-- the indices of the group, rising
abbrev pub members : State → List ℕ
members s = range_with_len 0 (size_of_group s.me.f)

-- the 32 places above a low mark, rising
unfoldable pub window : ℕ → List ℕ
window low = range_with_len (low + 1) place_window

-- the event of a digest, where it is held
unfoldable pub text_of : State → List ℕ → Option Event
text_of s digest = if bytes_eq digest null_digest then Some event.Null else get s.texts digest

-- whether the event of a digest is held
abbrev pub is_held : State → List ℕ → Bool
is_held s digest = is_some (text_of s digest)

-- the events of so many digests may be asked for between two ticks
abbrev pub most_needed : ℕ
most_needed = 1024

-- whether an event is neither held nor asked for since the last tick, while another may be asked for
abbrev pub is_wanted : State → List ℕ → Bool
is_wanted s digest = not (is_held s digest) && (not (set.contains s.needed digest) && nat_lt (set.len s.needed) most_needed)

-- a digest just accepted
abbrev pub new_slot : List ℕ → Slot
new_slot digest = record { digest = digest; is_prepared = false; is_committed = false }
