-- Where a voter stands: its group in a run, and what can be heard as whose; this project's own. The group is that of the
-- run after the voter's reaction: what the reaction itself says is among what occurs.
use Rattle.std.specs.Prelude.{◌≡◌, ℕ, ◌<◌, Bool, true, List, Some, slice_get}
use Rattle.std.specs.List.{Contains}
use Rattle.pws_base.specs.declared.shapes.ReplicaId.{ReplicaId}
use Rattle.pws_event.specs.declared.events.Event.{Event}
use Rattle.pws_event.specs.Events.{digest_of}
use Rattle.pws_msg.specs.declared.changes.ViewChange.{ViewChange}
use Rattle.pws_msg.specs.declared.contents.Content.{Content}
use Rattle.pws_msg.specs.declared.contents.Content.TheVariants as content
use Rattle.pws_msg.specs.Contents.{content_digest_of}
use Rattle.pws_msg.specs.Packets.{VoucherFields}
use Rattle.pws_safety.specs.Statements.{Group, size}
use Rattle.pws_protocol.specs.Keys.{replica}
use Rattle.pws_protocol.specs.Support.{supported_by}
use Rattle.pws_protocol.specs.States.{Me, State}
use Rattle.pws_protocol.specs.Hearing.{Out, Send}

pub record Context : Type 0 where
  -- the group as the safety argument sees it
  pub group : Group
  -- the voter
  pub me : Me
  -- how many compromised replicas each group bears
  pub layout : List ℕ
  -- whether a replica can be heard to say this
  pub speaks : ReplicaId → Content → Bool
  -- whether an event is among those of which a digest is taken in the run
  pub occurs_event : Event → Bool

-- what the laws suppose of it: the voter is a replica of the group, which has others too, and a place in the layout; view
-- changes have their own digests; and an event that is supported by what can be heard is backed
pub record IsLawful (c : Context) : Type 0 where
  pub f : c.me.f ≡ c.group.f
  pub others : 0 < c.group.f
  pub member : c.me.index < size c.group
  pub shape : slice_get c.layout c.me.group ≡ Some c.me.f
  pub digests : (v : ViewChange) → c.group.digest_of v ≡ content_digest_of (content.ViewChange v)
  pub backs :
      (e : Event) → supported_by c.speaks c.layout c.me.group e ≡ true → c.occurs_event e ≡ true
      → c.group.backed (digest_of e) ≡ true

-- this state is that of the voter: it has its number, and so have its book of votes and its evidence
pub record IsOf (c : Context) (s : State) : Type 0 where
  pub me : s.me ≡ c.me
  pub book : s.book.f ≡ c.me.f
  pub group : s.evidence.group ≡ c.me.group
  pub layout : s.evidence.layout ≡ c.layout

-- what of a content's text the safety argument takes digests is among what occurs
abbrev pub Occurs : Context → Content → Type 0
Occurs c (content.PrePrepare p) = c.occurs_event p.event ≡ true
Occurs c (content.ViewChange v) = c.group.occurs v ≡ true
Occurs c _ = Unit {0}

-- all that goes out is part of the run: it can be heard as the voter's, and what it has occurs
abbrev pub IsInRun : Context → List Out → Type 0
IsInRun c outs =
    (x : Content) (vouchers : List VoucherFields) → Contains outs (Send x vouchers)
    → (c.speaks (replica c.me.group c.me.index) x ≡ true) × Occurs c x
