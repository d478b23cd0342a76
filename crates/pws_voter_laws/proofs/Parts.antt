-- What fits, part by part: each part speaks of the fields that it names, so that an update of others leaves it.
use Rattle.std.proofs.Common.{◌≡◌, ℕ, ◌<◌, ◌≤◌, ◌+◌, ◌%◌, nat_lt, nat_le, true, false, List, length, Some, None, refl, sym, subst, arith}
use Rattle.std.specs.Prelude.{slice_get, IfSome}
use Rattle.std.specs.Ordering.{nat_cmp}
use Rattle.std.specs.FinMap.{FinMap, empty, get, len}
use Rattle.std.specs.FinSet as set
use Rattle.std.proofs.lemmas.Bool.{and_parts, and_from, ltb-true, leb-true, lt-ltb, le-leb}
use Rattle.sha2.proofs.Facts256.{length-sha256}
use Rattle.pws_base.specs.Places.{is_in_window}
use Rattle.pws_base.specs.Shapes.{size_of_group}
use Rattle.pws_event.specs.declared.events.Event.{Event}
use Rattle.pws_event.specs.Events.{IsEvent, digest_of}
use Rattle.pws_msg.specs.declared.changes.ViewChange.{ViewChange}
use Rattle.pws_msg.specs.declared.contents.Content.TheVariants as content
use Rattle.pws_msg.specs.Contents.{IsContent, content_text, content_digest_of}
use Rattle.pws_msg.specs.Packets.{IsTags}
use Rattle.pws_msg.specs.Rows.{IsDigest}
use Rattle.pws_change.specs.Choices.{null_digest}
use Rattle.pws_change.specs.Sets.{Digests}
use Rattle.pws_change.specs.Valid.{IsValid}
use Rattle.pws_votes.specs.declared.kinds.VoteKind.TheVariants as kind
use Rattle.pws_votes.specs.Votes.{Book, Key, key, can_vote}
use Rattle.pws_protocol.specs.declared.keys.BodyKey.{BodyKey}
use Rattle.pws_protocol.specs.States.{State, Slot, HeldChange, Relayed, is_primary, first_chain}
use Rattle.pws_protocol.specs.Fits.{Fits, FitsEvidence, FitsVotes, FitsAcks, FitsDigests, FitsTags}

-- a place of the window, of those that there are
abbrev pub IsPlace : ℕ → ℕ → Type 0
IsPlace low p = (low < p) × (p ≤ low + 32) × (p ≤ 1000000)

-- so tests tell
pub place_inside : (low p : ℕ) → IsPlace low p → is_in_window low p ≡ true
place_inside low p i = and_from (nat_lt low p) (nat_le p (low + 32)) (lt-ltb low p i.0) (le-leb p (low + 32) i.1)

pub in_window : (low p : ℕ) → is_in_window low p ≡ true → (low < p) × (p ≤ low + 32)
in_window low p h = let a = and_parts (nat_lt low p) (nat_le p (low + 32)) h in (ltb-true low p a.0, leb-true p (low + 32) a.1)

-- each vote of a book is one that it may have, for a place that there is, and its digest has 32 bytes
abbrev pub AreVotes : Book → Type 0
AreVotes b = (k : Key) (d : List ℕ) → get b.votes k ≡ Some d → (can_vote b k ≡ true) × (k.place ≤ 1000000) × IsDigest d

-- the own votes for checkpoints are for the own chains
abbrev pub AreOwn : ℕ → FinMap nat_cmp (List ℕ) → Book → Type 0
AreOwn me chains b = (p : ℕ) (d : List ℕ) → get b.votes (key kind.Checkpoint p me) ≡ Some d → get chains p ≡ Some d

-- acknowledgments are of replicas of the group, about indices that there may be, of digests of 32 bytes
abbrev pub IsAckRow : FinMap nat_cmp (List ℕ) → Type 0
IsAckRow row = (j : ℕ) (d : List ℕ) → get row j ≡ Some d → (j < 10) × IsDigest d

abbrev pub AreAcks : ℕ → FinMap nat_cmp (FinMap nat_cmp (List ℕ)) → Type 0
AreAcks f acks = (i : ℕ) (row : FinMap nat_cmp (List ℕ)) → get acks i ≡ Some row → (i < size_of_group f) × IsAckRow row

pub record Whole (s : State) : Type 0 where
  pub who : (s.me.index < size_of_group s.me.f) × (s.me.f ≤ 3) × (slice_get s.evidence.layout s.me.group ≡ Some s.me.f) × (s.evidence.group ≡ s.me.group) × (length s.evidence.layout ≤ 16)
  pub evidence : FitsEvidence s.evidence
  pub bodies : (k : BodyKey) (body : List ℕ) → get s.evidence.bodies k ≡ Some body → length body ≤ 32768
  pub book : (s.book.f ≡ s.me.f) × (s.book.low ≡ s.low)
  pub votes : AreVotes s.book
  pub own_votes : AreOwn s.me.index s.chains s.book
  pub numbers : (s.view ≤ 1000000) × (s.done ≤ 1000000) × (s.moves ≤ s.view)
  pub waited : s.waited ≤ 512
  pub marks : (s.floor ≤ 1000000) × (s.last ≤ s.low + 32) × (s.last ≤ 1000000)
  pub acks : AreAcks s.me.f s.acks
  pub needed : (d : List ℕ) → set.contains s.needed d ≡ true → IsDigest d
  pub low : (s.low ≤ s.done) × (s.done ≤ s.low + 32) × (s.low % 16 ≡ 0)
  pub pending : (p : ℕ) (e : Event) → get s.pending p ≡ Some e → IsPlace s.low p × (is_primary s ≡ false) × (s.floor < p) × (get s.slots p ≡ None) × IsEvent e
  pub slots : (p : ℕ) (t : Slot) → get s.slots p ≡ Some t → IsPlace s.low p × (p ≤ s.last) × (t.is_committed ≡ true → t.is_prepared ≡ true) × IsDigest t.digest
  pub way : s.active ≡ false → (s.slots ≡ empty) × (s.pending ≡ empty) × (s.last ≡ 0) × (0 < s.view)
  pub started : s.active ≡ true → 0 < s.view → s.new_view ≡ None → ⊥
  pub new_view : IfSome s.new_view (λ v. (v.view ≡ s.view) × IsContent (content.NewView v))
  pub texts : (d : List ℕ) (e : Event) → get s.texts d ≡ Some e → (digest_of e ≡ d) × (d ≡ null_digest → ⊥) × IsEvent e
  pub dones : (j : ℕ) (e : Event) → get s.dones j ≡ Some e → (j < size_of_group s.me.f) × (s.done < 1000000) × IsEvent e × (s.done < s.low + 32)
  pub there : (p : ℕ) → s.low ≤ p → p ≤ s.done → p % 16 ≡ 0 → (d : List ℕ) × (get s.chains p ≡ Some d)
  pub chains : (p : ℕ) (d : List ℕ) → get s.chains p ≡ Some d → (s.low ≤ p) × (p ≤ s.done) × (p % 16 ≡ 0) × (p ≡ 0 → d ≡ first_chain) × (p ≡ s.done → d ≡ s.chain) × IsDigest d
  pub chain : IsDigest s.chain
  pub prepared : (p : ℕ) (d : List ℕ) (v : ℕ) → get s.prepared p ≡ Some (d, v) → IsPlace s.low p × (v ≤ s.view) × IsDigest d
  pub pre_prepared : (p : ℕ) (row : Digests) → get s.pre_prepared p ≡ Some row → IsPlace s.low p × (1 ≤ len row) × (len row ≤ 16) × ((d : List ℕ) (v : ℕ) → get row d ≡ Some v → (v ≤ s.view) × IsDigest d)
  pub heard : (j : ℕ) (c : HeldChange) → get s.heard j ≡ Some c → (j < size_of_group s.me.f) × IsValid c.change × IsContent (content.ViewChange c.change) × (c.digest ≡ content_digest_of (content.ViewChange c.change)) × IsTags c.tags
  pub own : 0 < s.view → (c : HeldChange) × (get s.heard s.me.index ≡ Some c) × (c.change.view ≡ s.view)
  pub relayed : (j : ℕ) (c : Relayed) → get s.relayed j ≡ Some c → (j < size_of_group s.me.f) × IsValid c.change × IsContent (content.ViewChange c.change) × (c.digest ≡ content_digest_of (content.ViewChange c.change)) × (c.change.view ≡ s.view) × IsTags c.tags
  pub alone_view : s.me.f ≡ 0 → (s.view ≡ 0) × (s.active ≡ true) × (s.floor ≡ 0) × (s.moves ≡ 0)
  pub alone_waited : s.me.f ≡ 0 → s.waited ≡ 0
  pub alone_held : s.me.f ≡ 0 → (s.heard ≡ empty) × (s.acks ≡ empty) × (s.relayed ≡ empty) × (s.new_view ≡ None) × (s.dones ≡ empty)

pub in_parts : (s : State) → Fits s → Whole s
in_parts s f = record {
  who = (f.me.0, f.me.1, f.me.2, f.group, f.sizes.layout);
  evidence = f.evidence;
  bodies = f.sizes.bodies;
  book = f.book;
  votes = λ k d h.
      let p = f.votes.place k d h in
      let v = subst (λ n. k.voter < size_of_group n) (sym f.book.0) (f.votes.voter k d h) in
      let w = subst (λ n. is_in_window n k.place ≡ true) (sym f.book.1) (place_inside s.low k.place p) in
      (and_from (nat_lt k.voter (size_of_group s.book.f)) (is_in_window s.book.low k.place) (lt-ltb k.voter (size_of_group s.book.f) v) w, p.2, f.digests.votes k d h);
  numbers = (f.numbers.0, f.numbers.1, f.numbers.3);
  own_votes = f.votes.own;
  waited = f.numbers.2;
  marks = (f.marks.floor, f.marks.last.0, f.marks.last.1);
  acks = λ i row h. (f.acks.from i row h, λ j d k. (f.acks.about i j row d h k, f.digests.acks i j row d h k));
  needed = f.digests.needed;
  low = f.low;
  pending = λ p e h. let x = f.pending p e h in (f.places.0 p e h, x.0, x.1, x.2, x.3);
  slots = λ p t h. (f.places.1 p t h, f.accepted p t h, f.committed p t h, f.digests.slots p t h);
  way = λ h. let x = f.on_the_way h in (x.slots, x.pending, x.last, x.view);
  started = f.started;
  new_view = f.new_view;
  texts = f.texts;
  dones = λ j e h. let x = f.dones j e h in let a : s.done + 1 ≤ s.low + 32 = x.1.1 in let b : s.done + 1 ≤ 1000000 = x.1.2 in (x.0, omega (arith, b), x.2, omega (arith, a));
  there = f.chains.there;
  chains = λ p d h. let x = f.chains.only p d h in (x.0, x.1, x.2, λ z. f.chains.first d (subst (λ q. get s.chains q ≡ Some d) z h), λ z. f.chains.last d (subst (λ q. get s.chains q ≡ Some d) z h), f.digests.chains p d h);
  chain = f.digests.chain;
  prepared = λ p d v h. (f.rows.places.0 p (d, v) h, f.rows.prepared p d v h, f.digests.prepared p d v h);
  pre_prepared = λ p row h. (f.rows.places.1 p row h, (f.rows.row p row h).0, (f.rows.row p row h).1, λ d v k. (f.rows.pre_prepared p row d v h k, f.digests.pre_prepared p row d v h k));
  heard = λ j c h. let x = f.changes.heard j c h in (x.0, x.1, x.2, x.3, f.tags.heard j c h);
  own = f.changes.own;
  relayed = λ j c h. let x = f.changes.relayed j c h in (x.0, x.1, x.2, x.3, x.4, f.tags.relayed j c h);
  alone_view = λ z. let a = (f.alone z).view in (a.0, a.1, a.2, a.4);
  alone_waited = λ z. (f.alone z).view.3;
  alone_held = λ z. (f.alone z).nothing;
}

-- the parts give all facts
module _ (s : State) (w : Whole s) where
  votes_of : FitsVotes s
  votes_of = record {
    own = w.own_votes;
    voter = λ k d h.
        let a = and_parts (nat_lt k.voter (size_of_group s.book.f)) (is_in_window s.book.low k.place) (w.votes k d h).0 in
        subst (λ n. k.voter < size_of_group n) w.book.0 (ltb-true k.voter (size_of_group s.book.f) a.0);
    place = λ k d h.
        let v = w.votes k d h in
        let a = and_parts (nat_lt k.voter (size_of_group s.book.f)) (is_in_window s.book.low k.place) v.0 in
        let i = in_window s.low k.place (subst (λ n. is_in_window n k.place ≡ true) w.book.1 a.1) in
        (i.0, i.1, v.1);
  }

  acks_of : FitsAcks s
  acks_of = record { from = λ i row h. (w.acks i row h).0; about = λ i j row d h k. ((w.acks i row h).1 j d k).0 }

  change_digest : (d : List ℕ) (c : ViewChange) → d ≡ content_digest_of (content.ViewChange c) → IsDigest d
  change_digest d c h = subst IsDigest (sym h) (length-sha256 (content_text (content.ViewChange c)))

  digests_of : FitsDigests s
  digests_of = record {
    chain = w.chain;
    chains = λ p d h. (w.chains p d h).5;
    slots = λ p t h. (w.slots p t h).3;
    votes = λ k d h. (w.votes k d h).2;
    prepared = λ p d v h. (w.prepared p d v h).2;
    pre_prepared = λ p row d v h k. ((w.pre_prepared p row h).3 d v k).1;
    acks = λ i j row d h k. ((w.acks i row h).1 j d k).1;
    needed = w.needed;
    heard = λ j c h. change_digest c.digest c.change (w.heard j c h).3;
    relayed = λ j c h. change_digest c.digest c.change (w.relayed j c h).3;
  }

  tags_of : FitsTags s
  tags_of = record { heard = λ j c h. (w.heard j c h).4; relayed = λ j c h. (w.relayed j c h).5 }

pub as_fits : (s : State) → Whole s → Fits s
as_fits s w = record {
  me = (w.who.0, w.who.1, w.who.2);
  group = w.who.3;
  book = w.book;
  numbers = (w.numbers.0, w.numbers.1, w.waited, w.numbers.2);
  low = w.low;
  places = (λ p e h. (w.pending p e h).0, λ p t h. (w.slots p t h).0);
  accepted = λ p t h. (w.slots p t h).1;
  committed = λ p t h. (w.slots p t h).2;
  pending = λ p e h. let x = w.pending p e h in (x.1, x.2, x.3, x.4);
  on_the_way = λ h. let x = w.way h in record { slots = x.0; pending = x.1; last = x.2; view = x.3 };
  started = w.started;
  new_view = w.new_view;
  texts = w.texts;
  dones = λ j e h. let x = w.dones j e h in let a : s.done < 1000000 = x.1 in let b : s.done < s.low + 32 = x.3 in let c : s.low ≤ s.done = w.low.0 in (x.0, (omega (arith, c), omega (arith, b), omega (arith, a)), x.2);
  chains = record {
    there = w.there;
    only = λ p d h. let x = w.chains p d h in (x.0, x.1, x.2);
    first = λ d h. (w.chains 0 d h).3 refl;
    last = λ d h. (w.chains s.done d h).4 refl;
  };
  rows = record {
    places = (λ p x h. (w.prepared p x.0 x.1 h).0, λ p row h. (w.pre_prepared p row h).0);
    prepared = λ p d v h. (w.prepared p d v h).1;
    row = λ p row h. let x = w.pre_prepared p row h in (x.1, x.2);
    pre_prepared = λ p row d v h k. ((w.pre_prepared p row h).3 d v k).0;
  };
  changes = record {
    heard = λ j c h. let x = w.heard j c h in (x.0, x.1, x.2, x.3);
    relayed = λ j c h. let x = w.relayed j c h in (x.0, x.1, x.2, x.3, x.4);
    own = w.own;
  };
  evidence = w.evidence;
  sizes = record { layout = w.who.4; bodies = w.bodies };
  marks = record { floor = w.marks.0; last = (w.marks.1, w.marks.2) };
  votes = votes_of s w;
  acks = acks_of s w;
  digests = digests_of s w;
  tags = tags_of s w;
  alone = λ z. let a = w.alone_view z in record { view = (a.0, a.1, a.2, w.alone_waited z, a.3); nothing = w.alone_held z };
}
