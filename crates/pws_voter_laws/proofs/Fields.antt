-- What fits after an update of one field alone.
use Rattle.std.proofs.Common.{◌≡◌, inl, inr, ℕ, ◌<◌, ◌≤◌, max, Bool, true, false, if◌then◌else◌, List, Option, Some, None, refl, sym, ◌∙◌, ap, subst, arith}
use Rattle.std.specs.Option.{option_map_or}
use Rattle.std.specs.Ordering.{nat_cmp}
use Rattle.std.specs.declared.cmp.Ordering.TheVariants.{Equal}
use Rattle.std.specs.Cmp.{nat_cmp_total}
use Rattle.std.specs.Cmp.Lexicographic.{slice_cmp}
use Rattle.std.specs.FinMap.{FinMap, empty, get, insert, remove, retain_keys, get-empty, nat_cmp-IsAntisymmetric, slice_cmp-IsAntisymmetric}
use Rattle.std.specs.FinSet.{FinSet}
use Rattle.std.specs.FinSet as set
use Rattle.std.specs.Str.{bytes_eq}
use Rattle.std.proofs.lemmas.Bool.{false≢true, cases_eq}
use Rattle.std.proofs.lemmas.Cmp.{nat_list_cmp_total}
use Rattle.std.proofs.lemmas.Slice.Eq.{bytes_eq-Decides}
use Rattle.pws_base.specs.Shapes.{size_of_group}
use Rattle.pws_base.proofs.Maps.{put_cases, put_other, remove_cases, retain_cases}
use Rattle.pws_event.specs.declared.events.Event.{Event}
use Rattle.pws_event.specs.Events.{IsEvent, digest_of}
use Rattle.pws_msg.specs.Rows.{IsDigest}
use Rattle.pws_change.specs.Choices.{null_digest}
use Rattle.pws_votes.specs.declared.kinds.VoteKind.{VoteKind}
use Rattle.pws_votes.specs.declared.kinds.VoteKind.TheVariants as kind
use Rattle.pws_votes.specs.Votes.{Book, Key, key, number_of, after_vote}
use Rattle.pws_protocol.specs.States.{State, Slot, new_slot}
use Rattle.pws_protocol.specs.Gathered.{acks_of, possible_choice}
use Rattle.pws_protocol.specs.Reactions.{tidied, is_named}
use Rattle.pws_voter_laws.proofs.Found.{nothing}
use Rattle.pws_voter_laws.proofs.Parts.{IsPlace, AreVotes, AreOwn, IsAckRow, AreAcks, Whole}
use Rattle.pws_voter_laws.proofs.Updates.{texts_with, vote_keeps, vote_own, vote_leaves}

-- digests are exact keys
pub exact_digests : (a b : List ℕ) → slice_cmp nat_cmp a b ≡ Equal → a ≡ b
exact_digests = slice_cmp-IsAntisymmetric nat_cmp-IsAntisymmetric

module _ (s : State) (f : Whole s) where
  pub book_fits : (b : Book) → b.f ≡ s.book.f → b.low ≡ s.book.low → AreVotes b → AreOwn s.me.index s.chains b → Whole (record s { book = b })
  book_fits b x y v own = record {
    who = f.who;
    evidence = f.evidence;
    bodies = f.bodies;
    book = (x ∙ f.book.0, y ∙ f.book.1);
    votes = v;
    numbers = f.numbers;
    own_votes = own;
    waited = f.waited;
    marks = f.marks;
    acks = f.acks;
    needed = f.needed;
    low = f.low;
    pending = f.pending;
    slots = f.slots;
    way = f.way;
    started = f.started;
    new_view = f.new_view;
    texts = f.texts;
    dones = f.dones;
    there = f.there;
    chains = f.chains;
    chain = f.chain;
    prepared = f.prepared;
    pre_prepared = f.pre_prepared;
    heard = f.heard;
    own = f.own;
    relayed = f.relayed;
    alone_view = f.alone_view;
    alone_waited = f.alone_waited;
    alone_held = f.alone_held;
  }

  pub vote_fits : (k : Key) (d : List ℕ) → k.place ≤ 1000000 → IsDigest d → ((p : ℕ) → key kind.Checkpoint p s.me.index ≡ k → get s.chains p ≡ Some d) → Whole (record s { book = after_vote s.book k d })
  vote_fits k d few long own =
      let v = vote_leaves s.book k d in
      book_fits (after_vote s.book k d) v.0 v.1 (vote_keeps s.book k d few long f.votes) (vote_own s.me.index s.chains s.book k d own f.own_votes)

  -- a vote of another kind
  pub other_fits : (kind : VoteKind) (p : ℕ) (d : List ℕ) → number_of kind < 2 → p ≤ 1000000 → IsDigest d → Whole (record s { book = after_vote s.book (key kind p s.me.index) d })
  other_fits a p d less few long = vote_fits (key a p s.me.index) d few long (λ q e. absurd (let n : 2 ≡ number_of a = ap (λ (k : Key). number_of k.kind) e in omega (arith, n, less)))

  pub needed_fits : (ds : FinSet (slice_cmp nat_cmp)) → ((d : List ℕ) → set.contains ds d ≡ true → IsDigest d) → Whole (record s { needed = ds })
  needed_fits ds long = record {
    who = f.who;
    evidence = f.evidence;
    bodies = f.bodies;
    book = f.book;
    votes = f.votes;
    numbers = f.numbers;
    own_votes = f.own_votes;
    waited = f.waited;
    marks = f.marks;
    acks = f.acks;
    needed = long;
    low = f.low;
    pending = f.pending;
    slots = f.slots;
    way = f.way;
    started = f.started;
    new_view = f.new_view;
    texts = f.texts;
    dones = f.dones;
    there = f.there;
    chains = f.chains;
    chain = f.chain;
    prepared = f.prepared;
    pre_prepared = f.pre_prepared;
    heard = f.heard;
    own = f.own;
    relayed = f.relayed;
    alone_view = f.alone_view;
    alone_waited = f.alone_waited;
    alone_held = f.alone_held;
  }

  pub acks_fits : (a : FinMap nat_cmp (FinMap nat_cmp (List ℕ))) → AreAcks s.me.f a → (s.me.f ≡ 0 → ⊥) → Whole (record s { acks = a })
  acks_fits a fine n = record {
    who = f.who;
    evidence = f.evidence;
    bodies = f.bodies;
    book = f.book;
    votes = f.votes;
    numbers = f.numbers;
    own_votes = f.own_votes;
    waited = f.waited;
    marks = f.marks;
    acks = fine;
    needed = f.needed;
    low = f.low;
    pending = f.pending;
    slots = f.slots;
    way = f.way;
    started = f.started;
    new_view = f.new_view;
    texts = f.texts;
    dones = f.dones;
    there = f.there;
    chains = f.chains;
    chain = f.chain;
    prepared = f.prepared;
    pre_prepared = f.pre_prepared;
    heard = f.heard;
    own = f.own;
    relayed = f.relayed;
    alone_view = f.alone_view;
    alone_waited = f.alone_waited;
    alone_held = λ z. absurd (n z);
  }

  -- the acknowledgments with one more
  pub row_of : (i : ℕ) (o : Option (FinMap nat_cmp (List ℕ))) → get s.acks i ≡ o → IsAckRow (option_map_or (λ row. row) o empty)
  row_of i None e = λ j d h. absurd (nothing d (sym (get-empty nat_cmp j) ∙ h))
  row_of i (Some row) e = (f.acks i row e).1

  pub more_acks : (i j : ℕ) (d : List ℕ) → i < size_of_group s.me.f → j < 10 → IsDigest d → AreAcks s.me.f (insert s.acks i (insert (acks_of s i) j d))
  more_acks i j d member few long k row h = elim (put_cases nat_cmp_total nat_cmp-IsAntisymmetric s.acks i k (insert (acks_of s i) j d) row h) [
    | inl x ↦ (
      subst (λ q. q < size_of_group s.me.f) (sym x.0) member,
      subst IsAckRow x.1 (λ q e g. elim (put_cases nat_cmp_total nat_cmp-IsAntisymmetric (acks_of s i) j q d e g) [
        | inl y ↦ (subst (λ q. q < 10) (sym y.0) few, subst IsDigest y.1 long)
        | inr y ↦ row_of i (get s.acks i) refl q e y
      ]),
    )
    | inr x ↦ f.acks k row x
  ]

  pub texts_fits : (m : FinMap (slice_cmp nat_cmp) Event) → ((d : List ℕ) (e : Event) → get m d ≡ Some e → (digest_of e ≡ d) × (d ≡ null_digest → ⊥) × IsEvent e) → Whole (record s { texts = m })
  texts_fits m h = record {
    who = f.who;
    evidence = f.evidence;
    bodies = f.bodies;
    book = f.book;
    votes = f.votes;
    numbers = f.numbers;
    own_votes = f.own_votes;
    waited = f.waited;
    marks = f.marks;
    acks = f.acks;
    needed = f.needed;
    low = f.low;
    pending = f.pending;
    slots = f.slots;
    way = f.way;
    started = f.started;
    new_view = f.new_view;
    texts = h;
    dones = f.dones;
    there = f.there;
    chains = f.chains;
    chain = f.chain;
    prepared = f.prepared;
    pre_prepared = f.pre_prepared;
    heard = f.heard;
    own = f.own;
    relayed = f.relayed;
    alone_view = f.alone_view;
    alone_waited = f.alone_waited;
    alone_held = f.alone_held;
  }

  -- the texts with an event's
  with_fits : (e : Event) → IsEvent e → (d : List ℕ) (x : Event) → get (texts_with s.texts e) d ≡ Some x → (digest_of x ≡ d) × (d ≡ null_digest → ⊥) × IsEvent x
  with_fits e i d x = by (bytes_eq (digest_of e) null_digest) refl
    where
      by : (b : Bool) → bytes_eq (digest_of e) null_digest ≡ b → get (if b then s.texts else insert s.texts (digest_of e) e) d ≡ Some x → (digest_of x ≡ d) × (d ≡ null_digest → ⊥) × IsEvent x
      by true q h = f.texts d x h
      by false q h = elim (put_cases nat_list_cmp_total exact_digests s.texts (digest_of e) d e x h) [
        | inl y ↦ (
          subst (λ (z : Event). digest_of z ≡ d) y.1 (sym y.0),
          λ n. false≢true (sym q ∙ (bytes_eq-Decides (digest_of e) null_digest).1 (sym y.0 ∙ n)),
          subst IsEvent y.1 i,
        )
        | inr y ↦ f.texts d x y
      ]

  pub text_fits : (e : Event) → IsEvent e → Whole (record s { texts = texts_with s.texts e })
  text_fits e i = texts_fits (texts_with s.texts e) (with_fits e i)

  -- texts that nothing names are dropped
  pub tidied_fits : Whole (tidied s)
  unfolding tidied
  tidied_fits = texts_fits (retain_keys s.texts (is_named s (possible_choice s))) (λ d e h. f.texts d e (retain_cases exact_digests s.texts (is_named s (possible_choice s)) d e h).1)

  -- a digest is accepted at a place of the window
  pub accepted_fits : (p : ℕ) (d : List ℕ) → s.active ≡ true → IsPlace s.low p → IsDigest d
      → Whole (record s { last = max s.last p; pending = remove s.pending p; slots = insert s.slots p (new_slot d) })
  accepted_fits p d a i n = record {
    who = f.who;
    evidence = f.evidence;
    bodies = f.bodies;
    book = f.book;
    votes = f.votes;
    numbers = f.numbers;
    own_votes = f.own_votes;
    waited = f.waited;
    marks = (f.marks.0, (let x = f.marks.1 in let y = i.1 in omega (arith, x, y)), (let x = f.marks.2 in let y = i.2 in omega (arith, x, y)));
    acks = f.acks;
    needed = f.needed;
    low = f.low;
    pending = λ q e h.
        let r = remove_cases nat_cmp_total s.pending p q e h in
        let x = f.pending q e r.0 in
        (x.0, x.1, x.2, put_other nat_cmp_total nat_cmp-IsAntisymmetric s.slots p q (new_slot d) r.1 ∙ x.3, x.4);
    slots = λ q t h. elim (put_cases nat_cmp_total nat_cmp-IsAntisymmetric s.slots p q (new_slot d) t h) [
      | inl x ↦ (
        subst (IsPlace s.low) (sym x.0) i,
        (let e = x.0 in omega (arith, e)),
        subst (λ (t : Slot). t.is_committed ≡ true → t.is_prepared ≡ true) x.1 (λ c. absurd (false≢true c)),
        subst (λ (t : Slot). IsDigest t.digest) x.1 n,
      )
      | inr x ↦ (let y = f.slots q t x in (y.0, (let l = y.1 in omega (arith, l)), y.2, y.3))
    ];
    way = λ h. absurd (false≢true (sym h ∙ a));
    started = f.started;
    new_view = f.new_view;
    texts = f.texts;
    dones = f.dones;
    there = f.there;
    chains = f.chains;
    chain = f.chain;
    prepared = f.prepared;
    pre_prepared = f.pre_prepared;
    heard = f.heard;
    own = f.own;
    relayed = f.relayed;
    alone_view = f.alone_view;
    alone_waited = f.alone_waited;
    alone_held = f.alone_held;
  }

  -- another slot of the same digest at a place
  pub slot_fits : (p : ℕ) (t u : Slot) → s.active ≡ true → get s.slots p ≡ Some t → u.digest ≡ t.digest → (u.is_committed ≡ true → u.is_prepared ≡ true) → Whole (record s { slots = insert s.slots p u })
  slot_fits p t u a g d c = record {
    who = f.who;
    evidence = f.evidence;
    bodies = f.bodies;
    book = f.book;
    votes = f.votes;
    numbers = f.numbers;
    own_votes = f.own_votes;
    waited = f.waited;
    marks = f.marks;
    acks = f.acks;
    needed = f.needed;
    low = f.low;
    pending = λ q e h.
        let x = f.pending q e h in (
          x.0,
          x.1,
          x.2,
          elim (cases_eq q p) [
            | inl z ↦ absurd (nothing t (sym x.3 ∙ subst (λ y. get s.slots y ≡ Some t) (sym z) g))
            | inr n ↦ put_other nat_cmp_total nat_cmp-IsAntisymmetric s.slots p q u n ∙ x.3
          ],
          x.4,
        );
    slots = λ q v h. elim (put_cases nat_cmp_total nat_cmp-IsAntisymmetric s.slots p q u v h) [
      | inl x ↦ (
          let y = f.slots p t g in (
            subst (IsPlace s.low) (sym x.0) y.0,
            subst (λ z. z ≤ s.last) (sym x.0) y.1,
            subst (λ (t : Slot). t.is_committed ≡ true → t.is_prepared ≡ true) x.1 c,
            subst (λ (t : Slot). IsDigest t.digest) x.1 (subst IsDigest (sym d) y.3),
          ))
      | inr x ↦ f.slots q v x
    ];
    way = λ h. absurd (false≢true (sym h ∙ a));
    started = f.started;
    new_view = f.new_view;
    texts = f.texts;
    dones = f.dones;
    there = f.there;
    chains = f.chains;
    chain = f.chain;
    prepared = f.prepared;
    pre_prepared = f.pre_prepared;
    heard = f.heard;
    own = f.own;
    relayed = f.relayed;
    alone_view = f.alone_view;
    alone_waited = f.alone_waited;
    alone_held = f.alone_held;
  }
