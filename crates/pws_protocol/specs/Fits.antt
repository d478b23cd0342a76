-- What holds of the state of every voter, whatever it is given. All its actions have room in it: no number runs over, and
-- each statement that is made of it is in range.
-- `Fits` has the facts of a state, with `IsOnTheWay` for one that isn't in its view. `IsInput` says what a voter may be
-- given: of a packet (`IsSaid`) the sender is another replica (`IsAnother`), and so is that of each voucher that verified
-- (`IsVouched`).
use Rattle.std.specs.Prelude.{◌≡◌, ℕ, ◌<◌, ◌≤◌, ◌+◌, ◌%◌, true, false, slice_get, Bool, List, length, All, IsTrue, Some, None, IfSome}
use Rattle.std.specs.FinMap.{empty, get, len}
use Rattle.std.specs.Ordering.{nat_cmp}
use Rattle.std.specs.FinMap.{FinMap}
use Rattle.std.specs.FinSet as set
use Rattle.sha2.specs.Sha256.{sha256}
use Rattle.pws_base.specs.declared.shapes.ReplicaId.{ReplicaId}
use Rattle.pws_base.specs.Limits.{max_number, max_body, max_groups, max_replicas, place_window, checkpoint_distance}
use Rattle.pws_base.specs.Shapes.{size_of_group, has_replica}
use Rattle.pws_event.specs.declared.events.Event.{Event}
use Rattle.pws_event.specs.Events.{IsEvent, digest_of}
use Rattle.pws_msg.specs.declared.contents.Content.{Content}
use Rattle.pws_msg.specs.declared.contents.Content.TheVariants as content
use Rattle.pws_msg.specs.Contents.{IsContent, content_digest_of}
use Rattle.pws_msg.specs.Packets.{IsTags}
use Rattle.pws_msg.specs.Rows.{IsDigest}
use Rattle.pws_change.specs.Choices.{null_digest}
use Rattle.pws_change.specs.Sets.{Digests}
use Rattle.pws_change.specs.Valid.{IsValid}
use Rattle.pws_votes.specs.declared.kinds.VoteKind.TheVariants as kind
use Rattle.pws_votes.specs.Votes.{Key, key}
use Rattle.pws_protocol.specs.declared.keys.StatementKey.{StatementKey}
use Rattle.pws_protocol.specs.declared.keys.BodyKey.{BodyKey}
use Rattle.pws_protocol.specs.Evidence.{Evidence, matter_of}
use Rattle.pws_protocol.specs.States.{State, Slot, HeldChange, Relayed, is_primary, first_chain}
use Rattle.pws_protocol.specs.Hearing.{Vouched, SaidFields}
use Rattle.pws_protocol.specs.Reactions.{Input, Said, Tick, Resume}

-- a place of the window, of those that there are
abbrev pub IsPlace : ℕ → ℕ → Type 0
IsPlace low p = (low < p) × (p ≤ low + place_window) × (p ≤ max_number)

-- the keys of a map by place are places of the window
abbrev pub IsWithin : {X : Type 0} → ℕ → FinMap nat_cmp X → Type 0
IsWithin {X} low m = (p : ℕ) (x : X) → get m p ≡ Some x → IsPlace low p

-- evidence: each statement stands under its own key, and each body under its digest; both are in range
pub record FitsEvidence (e : Evidence) : Type 0 where
  pub statements : (k : StatementKey) (c : Content) → get e.statements k ≡ Some c → (matter_of e.group k.sender c ≡ Some k.matter) × IsContent c
  pub bodies : (k : BodyKey) (body : List ℕ) → get e.bodies k ≡ Some body → sha256 body ≡ k.digest

-- its sizes: a layout that there may be, and bodies that aren't too long
pub record FitsSizes (e : Evidence) : Type 0 where
  pub layout : length e.layout ≤ max_groups
  pub bodies : (k : BodyKey) (body : List ℕ) → get e.bodies k ≡ Some body → length body ≤ max_body

-- marks: the floor is a place or 0; and so is the highest place accepted, which isn't above the window
pub record FitsMarks (s : State) : Type 0 where
  pub floor : s.floor ≤ max_number
  pub last : (s.last ≤ s.low + place_window) × (s.last ≤ max_number)

-- votes: each is of a replica of the group, for a place of the window; the own ones for checkpoints are for the own chains
pub record FitsVotes (s : State) : Type 0 where
  pub voter : (k : Key) (d : List ℕ) → get s.book.votes k ≡ Some d → k.voter < size_of_group s.me.f
  pub place : (k : Key) (d : List ℕ) → get s.book.votes k ≡ Some d → IsPlace s.low k.place
  pub own : (p : ℕ) (d : List ℕ) → get s.book.votes (key kind.Checkpoint p s.me.index) ≡ Some d → get s.chains p ≡ Some d

-- acknowledgments: each is of a replica of the group, about an index that there may be
pub record FitsAcks (s : State) : Type 0 where
  pub from : (i : ℕ) (row : FinMap nat_cmp (List ℕ)) → get s.acks i ≡ Some row → i < size_of_group s.me.f
  pub about : (i j : ℕ) (row : FinMap nat_cmp (List ℕ)) (d : List ℕ) → get s.acks i ≡ Some row → get row j ≡ Some d → j < max_replicas

-- digests: each has 32 bytes
pub record FitsDigests (s : State) : Type 0 where
  pub chain : IsDigest s.chain
  pub chains : (p : ℕ) (d : List ℕ) → get s.chains p ≡ Some d → IsDigest d
  pub slots : (p : ℕ) (t : Slot) → get s.slots p ≡ Some t → IsDigest t.digest
  pub votes : (k : Key) (d : List ℕ) → get s.book.votes k ≡ Some d → IsDigest d
  pub prepared : (p : ℕ) (d : List ℕ) (v : ℕ) → get s.prepared p ≡ Some (d, v) → IsDigest d
  pub pre_prepared : (p : ℕ) (row : Digests) (d : List ℕ) (v : ℕ) → get s.pre_prepared p ≡ Some row → get row d ≡ Some v → IsDigest d
  pub acks : (i j : ℕ) (row : FinMap nat_cmp (List ℕ)) (d : List ℕ) → get s.acks i ≡ Some row → get row j ≡ Some d → IsDigest d
  pub needed : (d : List ℕ) → set.contains s.needed d ≡ true → IsDigest d
  pub heard : (j : ℕ) (c : HeldChange) → get s.heard j ≡ Some c → IsDigest c.digest
  pub relayed : (j : ℕ) (c : Relayed) → get s.relayed j ≡ Some c → IsDigest c.digest

-- tags: of each change that is heard or relayed as many as a voucher may have
pub record FitsTags (s : State) : Type 0 where
  pub heard : (j : ℕ) (c : HeldChange) → get s.heard j ≡ Some c → IsTags c.tags
  pub relayed : (j : ℕ) (c : Relayed) → get s.relayed j ≡ Some c → IsTags c.tags

-- chains: exactly those at the low mark and at later multiples of 16 up to done; zeros at 0, and at done the chain itself
pub record FitsChains (s : State) : Type 0 where
  pub there : (p : ℕ) → s.low ≤ p → p ≤ s.done → p % checkpoint_distance ≡ 0 → (d : List ℕ) × (get s.chains p ≡ Some d)
  pub only : (p : ℕ) (d : List ℕ) → get s.chains p ≡ Some d → (s.low ≤ p) × (p ≤ s.done) × (p % checkpoint_distance ≡ 0)
  pub first : (d : List ℕ) → get s.chains 0 ≡ Some d → d ≡ first_chain
  pub last : (d : List ℕ) → get s.chains s.done ≡ Some d → d ≡ s.chain

-- P and Q: of views up to this one, rows of Q with 1 to 16 digests
pub record FitsRows (s : State) : Type 0 where
  pub places : IsWithin s.low s.prepared × IsWithin s.low s.pre_prepared
  pub prepared : (p : ℕ) (d : List ℕ) (v : ℕ) → get s.prepared p ≡ Some (d, v) → v ≤ s.view
  pub row : (p : ℕ) (row : Digests) → get s.pre_prepared p ≡ Some row → (1 ≤ len row) × (len row ≤ 16)
  pub pre_prepared : (p : ℕ) (row : Digests) (d : List ℕ) (v : ℕ) → get s.pre_prepared p ≡ Some row → get row d ≡ Some v → v ≤ s.view

-- changes: those that are heard and relayed are valid and in range, under their digests; in a later view its own is heard
pub record FitsChanges (s : State) : Type 0 where
  pub heard : (j : ℕ) (c : HeldChange) → get s.heard j ≡ Some c → (j < size_of_group s.me.f) × IsValid c.change × IsContent (content.ViewChange c.change) × (c.digest ≡ content_digest_of (content.ViewChange c.change))
  pub relayed : (j : ℕ) (c : Relayed) → get s.relayed j ≡ Some c → (j < size_of_group s.me.f) × IsValid c.change × IsContent (content.ViewChange c.change) × (c.digest ≡ content_digest_of (content.ViewChange c.change)) × (c.change.view ≡ s.view)
  pub own : 0 < s.view → (c : HeldChange) × (get s.heard s.me.index ≡ Some c) × (c.change.view ≡ s.view)

-- `IsOnTheWay`: on the way into a view there is no slot and nothing pending
pub record IsOnTheWay (s : State) : Type 0 where
  pub slots : s.slots ≡ empty
  pub pending : s.pending ≡ empty
  pub last : s.last ≡ 0
  pub view : 0 < s.view

-- a group of one stays in its first view
pub record IsAloneAtFirst (s : State) : Type 0 where
  pub view : (s.view ≡ 0) × (s.active ≡ true) × (s.floor ≡ 0) × (s.waited ≡ 0) × (s.moves ≡ 0)
  pub nothing : (s.heard ≡ empty) × (s.acks ≡ empty) × (s.relayed ≡ empty) × (s.new_view ≡ None) × (s.dones ≡ empty)

-- the facts of a state
pub record Fits (s : State) : Type 0 where
  pub me : (s.me.index < size_of_group s.me.f) × (s.me.f ≤ 3) × (slice_get s.evidence.layout s.me.group ≡ Some s.me.f)
  pub group : s.evidence.group ≡ s.me.group
  pub book : (s.book.f ≡ s.me.f) × (s.book.low ≡ s.low)
  pub numbers : (s.view ≤ max_number) × (s.done ≤ max_number) × (s.waited ≤ 512) × (s.moves ≤ s.view)
  pub low : (s.low ≤ s.done) × (s.done ≤ s.low + place_window) × (s.low % checkpoint_distance ≡ 0)
  pub places : IsWithin s.low s.pending × IsWithin s.low s.slots
  pub accepted : (p : ℕ) (t : Slot) → get s.slots p ≡ Some t → p ≤ s.last
  pub committed : (p : ℕ) (t : Slot) → get s.slots p ≡ Some t → t.is_committed ≡ true → t.is_prepared ≡ true
  pub pending : (p : ℕ) (e : Event) → get s.pending p ≡ Some e → (is_primary s ≡ false) × (s.floor < p) × (get s.slots p ≡ None) × IsEvent e
  pub on_the_way : s.active ≡ false → IsOnTheWay s
  pub started : s.active ≡ true → 0 < s.view → s.new_view ≡ None → ⊥
  pub new_view : IfSome s.new_view (λ v. (v.view ≡ s.view) × IsContent (content.NewView v))
  pub texts : (d : List ℕ) (e : Event) → get s.texts d ≡ Some e → (digest_of e ≡ d) × (d ≡ null_digest → ⊥) × IsEvent e
  pub dones : (j : ℕ) (e : Event) → get s.dones j ≡ Some e → (j < size_of_group s.me.f) × IsPlace s.low (s.done + 1) × IsEvent e
  pub chains : FitsChains s
  pub rows : FitsRows s
  pub changes : FitsChanges s
  pub evidence : FitsEvidence s.evidence
  pub sizes : FitsSizes s.evidence
  pub marks : FitsMarks s
  pub votes : FitsVotes s
  pub acks : FitsAcks s
  pub digests : FitsDigests s
  pub tags : FitsTags s
  pub alone : s.me.f ≡ 0 → IsAloneAtFirst s

-- requests and replies come from other groups, all else from the own one
abbrev pub is_from_outside : Content → Bool
is_from_outside (content.Request r) = true
is_from_outside (content.Reply r) = true
is_from_outside _ = false

-- another replica of the layout
pub record IsAnother (s : State) (r : ReplicaId) : Type 0 where
  pub replica : IsTrue (has_replica s.evidence.layout r)
  pub other : r.group ≡ s.me.group → r.index ≡ s.me.index → ⊥

-- `IsVouched`: a voucher in it
pub record IsVouched (s : State) (v : Vouched) : Type 0 where
  pub content : IsContent v.voucher.content
  pub tags : IsTags v.voucher.tags
  pub sender : v.is_verified ≡ true → IsAnother s v.voucher.sender

-- `IsSaid`: a packet that was opened
pub record IsSaid (s : State) (x : SaidFields) : Type 0 where
  pub sender : IsAnother s x.sender
  pub content : IsContent x.content
  pub tags : IsTags x.tags
  pub body : IfSome x.body (λ body. length body ≤ max_body)
  pub outside : is_from_outside x.content ≡ true → x.sender.group ≡ s.me.group → ⊥
  pub inside : is_from_outside x.content ≡ false → x.sender.group ≡ s.me.group
  pub vouchers : All (IsVouched s) x.vouchers

-- what a voter may be given
abbrev pub IsInput : State → Input → Type 0
IsInput s (Said x) = IsSaid s x
IsInput s (Tick own) = All IsContent own
IsInput s Resume = Unit {0}
