-- What fits before a packet is heard fits after it.
use Rattle.std.proofs.Common.{◌≡◌, inl, inr, ℕ, suc, ◌+◌, ◌%◌, ◌<◌, ◌≤◌, ◌==◌, ◌&&◌, not, is_some, nat_lt, Bool, true, false, if◌then◌else◌, List, [], ◌∷◌, length, Option, Some, None, refl, sym, ◌∙◌, ap, subst, arith}
use Rattle.std.specs.Prelude.{slice_get, ◌||◌}
use Rattle.std.specs.List.{All, fold, list_any}
use Rattle.std.specs.Option.{option_map_or, unwrap_or}
use Rattle.std.specs.Str.{bytes_eq}
use Rattle.std.specs.Cmp.{nat_cmp_total}
use Rattle.std.specs.FinMap.{get, insert, contains_key, nat_cmp-IsAntisymmetric}
use Rattle.std.proofs.lemmas.Bool.{false≢true, and_parts, ltb-true}
use Rattle.std.proofs.lemmas.Cmp.{nat_list_cmp_total}
use Rattle.std.proofs.lemmas.Slice.Eq.{bytes_eq-Decides}
use Rattle.pws_base.specs.declared.shapes.ReplicaId.{ReplicaId}
use Rattle.pws_base.specs.Limits.{checkpoint_distance}
use Rattle.pws_base.specs.Places.{is_in_window}
use Rattle.pws_base.specs.Shapes.{size_of_group}
use Rattle.pws_base.proofs.Maps.{put_cases, put_other}
use Rattle.pws_event.specs.declared.events.Event.{Event}
use Rattle.pws_event.specs.declared.events.Event.TheVariants as event
use Rattle.pws_event.specs.Events.{IsEvent, digest_of}
use Rattle.pws_event.specs.Counters.{Counters}
use Rattle.pws_msg.specs.Contents.{IsContent, content_digest_of}
use Rattle.pws_msg.specs.Packets.{IsTags}
use Rattle.pws_msg.specs.Reported.{IsViewChange, IsNewView}
use Rattle.pws_msg.specs.Rows.{IsDigest}
use Rattle.pws_msg.specs.Statements.{ProposalFields, IsProposal, ChangeNameFields, IsChangeName, DecidedEventFields, IsDecidedEvent}
use Rattle.pws_msg.specs.declared.changes.NewView.{NewView}
use Rattle.pws_msg.specs.declared.changes.ViewChange.{ViewChange}
use Rattle.pws_msg.specs.declared.contents.Content.{Content}
use Rattle.pws_msg.specs.declared.contents.Content.TheVariants as content
use Rattle.pws_change.specs.Choices.{null_digest}
use Rattle.pws_change.specs.Valid.{IsValid, is_valid}
use Rattle.pws_change.proofs.Agreeing.{valid_is_tested}
use Rattle.pws_votes.specs.declared.kinds.Vote.{Vote}
use Rattle.pws_votes.specs.declared.kinds.Vote.TheVariants as vote
use Rattle.pws_votes.specs.declared.kinds.VoteKind.TheVariants as kind
use Rattle.pws_votes.specs.Votes.{Key, key, answer_to, after_vote}
use Rattle.pws_protocol.specs.Evidence.{note}
use Rattle.pws_protocol.specs.States.{Me, State, HeldChange, Relayed, primary, is_primary, is_alone, is_held, text_of}
use Rattle.pws_protocol.specs.Gathered.{acks_of, ack_at, possible_choice, slots_name, choice_names}
use Rattle.pws_protocol.specs.Hearing.{Vouched, SaidFields, Answered, voted_as, by_row, unkept, and_then, keep, keep_evidence, keep_proposal, keep_in_book, keep_prepare, keep_commit, keep_checkpoint, fits_proposal, fits_change, keep_change, fits_ack, keep_ack, fits_new_view, keep_new_view, fits_relay, keep_relayed, keep_voucher, keep_relay, keep_done, keep_text, give, keep_vouched, are_heard, heard}
use Rattle.pws_protocol.specs.Reactions.{after_packet, tidied}
use Rattle.pws_protocol.specs.Fits.{IsVouched, is_from_outside}
use Rattle.pws_voter_laws.proofs.Evidencing.{noted_fits}
use Rattle.pws_voter_laws.proofs.Fields.{exact_digests, vote_fits, acks_fits, more_acks, texts_fits, tidied_fits}
use Rattle.pws_voter_laws.proofs.Found.{nothing}
use Rattle.pws_voter_laws.proofs.Parts.{IsPlace, Whole, in_window}
use Rattle.pws_voter_laws.proofs.Tests.{eq_is, ne_is, not_true}

none_is : {X : Type 0} (o : Option X) → is_some o ≡ false → o ≡ None
none_is None h = refl
none_is (Some x) h = absurd (false≢true (sym h))

-- where a content is the own group's, its sender is another replica of it
abbrev pub IsFrom : Me → ReplicaId → Type 0
IsFrom me r = (r.index < size_of_group me.f) × (r.index ≡ me.index → ⊥)

module _ (s : State) (f : Whole s) where
  row_fits : (t : State) (fits free : Bool) → (fits ≡ true → free ≡ true → Whole t) → Whole (by_row fits free s t).state
  row_fits t true true h = h refl refl
  row_fits t true false h = f
  row_fits t false free h = f

  voted_fits : (v : Vote) (t : State) → Whole t → Whole (voted_as v s t).state
  voted_fits vote.Kept t h = h
  voted_fits vote.Outside t h = f
  voted_fits vote.Already t h = f

  book_row : (b : Bool) (k : Key) (d : List ℕ) → k.place ≤ 1000000 → IsDigest d → (k.voter ≡ s.me.index → ⊥) → Whole (if b then keep_in_book s k d else unkept s vote.Outside).state
  book_row true k d few long other = voted_fits (answer_to s.book k) (record s { book = after_vote s.book k d }) (vote_fits s f k d few long (λ p e. absurd (other (ap (λ (q : Key). q.voter) (sym e)))))
  book_row false k d few long other = f

  evidence_row : (asked : Counters) (r : ReplicaId) (c : Content) (body : List ℕ) → IsContent c → length body ≤ 32768 → Whole (keep_evidence s asked r c body).state
  unfolding keep_evidence
  evidence_row asked r c body i short =
      voted_fits (note s.evidence asked r c body).answer (record s { evidence = (note s.evidence asked r c body).evidence }) (noted_fits s asked r c body f i short)

  -- on the way: not a group of one
  not_alone : s.active ≡ false → s.me.f ≡ 0 → ⊥
  not_alone out z = false≢true (sym out ∙ (f.alone_view z).1)

  proposal_row : (i : ℕ) (x : ProposalFields) → IsProposal x → Whole (keep_proposal s i x).state
  unfolding keep_proposal
  proposal_row i x r = row_fits (record s { pending = insert s.pending x.place x.event }) (fits_proposal s i x) (not (contains_key s.pending x.place) && not (contains_key s.slots x.place)) (λ h k.
      let a = and_parts (x.view == s.view) _ h in
      let b = and_parts s.active _ a.1 in
      let c = and_parts (not (is_primary s)) _ b.1 in
      let d = and_parts (i == primary s) _ c.1 in
      let e = and_parts (is_in_window s.low x.place) (nat_lt s.floor x.place) d.1 in
      let g = in_window s.low x.place e.0 in
      let n = none_is (get s.slots x.place) (not_true _ (and_parts (not (contains_key s.pending x.place)) (not (contains_key s.slots x.place)) k).1) in
      record {
        who = f.who;
        evidence = f.evidence;
        bodies = f.bodies;
        book = f.book;
        votes = f.votes;
        numbers = f.numbers;
        own_votes = f.own_votes;
        waited = f.waited;
        marks = f.marks;
        acks = f.acks;
        needed = f.needed;
        low = f.low;
        pending = λ p y m. elim (put_cases nat_cmp_total nat_cmp-IsAntisymmetric s.pending x.place p x.event y m) [
          | inl z ↦ (
            subst (IsPlace s.low) (sym z.0) (g.0, g.1, r.place_to),
            not_true _ c.0,
            subst (λ q. s.floor < q) (sym z.0) (ltb-true s.floor x.place e.1),
            ap (get s.slots) z.0 ∙ n,
            subst IsEvent z.1 r.event,
          )
          | inr z ↦ f.pending p y z
        ];
        slots = f.slots;
        way = λ out. absurd (false≢true (sym out ∙ b.0));
        started = f.started;
        new_view = f.new_view;
        texts = f.texts;
        dones = f.dones;
        there = f.there;
        chains = f.chains;
        chain = f.chain;
        prepared = f.prepared;
        pre_prepared = f.pre_prepared;
        heard = f.heard;
        own = f.own;
        relayed = f.relayed;
        alone_view = f.alone_view;
        alone_waited = f.alone_waited;
        alone_held = f.alone_held;
      })

  change_row : (i : ℕ) (c : ViewChange) (tags : List (List ℕ)) → IsViewChange c → IsTags tags → (i < size_of_group s.me.f) × (i ≡ s.me.index → ⊥) → Whole (keep_change s i c tags).state
  unfolding keep_change
  change_row i c tags r marked from =
      let new : HeldChange = record { digest = content_digest_of (content.ViewChange c); change = c; tags = tags } in
      row_fits (record s { heard = insert s.heard i new }) (fits_change s c) (option_map_or (λ h. nat_lt h.change.view c.view) (get s.heard i) true) (λ h k.
      let a = and_parts (not (is_alone s)) _ h in
      let b = and_parts (nat_lt s.view c.view || (c.view == s.view && not s.active)) (is_valid c) a.1 in
      let valid = (valid_is_tested c).0 b.1 in
      let many = ne_is s.me.f 0 (not_true _ a.0) in
      record {
        who = f.who;
        evidence = f.evidence;
        bodies = f.bodies;
        book = f.book;
        votes = f.votes;
        numbers = f.numbers;
        own_votes = f.own_votes;
        waited = f.waited;
        marks = f.marks;
        acks = f.acks;
        needed = f.needed;
        low = f.low;
        pending = f.pending;
        slots = f.slots;
        way = f.way;
        started = f.started;
        new_view = f.new_view;
        texts = f.texts;
        dones = f.dones;
        there = f.there;
        chains = f.chains;
        chain = f.chain;
        prepared = f.prepared;
        pre_prepared = f.pre_prepared;
        heard = λ j y m. elim (put_cases nat_cmp_total nat_cmp-IsAntisymmetric s.heard i j new y m) [
          | inl z ↦ (
            subst (λ q. q < size_of_group s.me.f) (sym z.0) from.0,
            subst (λ (y : HeldChange). IsValid y.change) z.1 valid,
            subst (λ (y : HeldChange). IsContent (content.ViewChange y.change)) z.1 r,
            subst (λ (y : HeldChange). y.digest ≡ content_digest_of (content.ViewChange y.change)) z.1 refl,
            subst (λ (y : HeldChange). IsTags y.tags) z.1 marked,
          )
          | inr z ↦ f.heard j y z
        ];
        own = λ l. let o = f.own l in (o.0, put_other nat_cmp_total nat_cmp-IsAntisymmetric s.heard i s.me.index new (λ q. from.1 (sym q)) ∙ o.1, o.2);
        relayed = f.relayed;
        alone_view = f.alone_view;
        alone_waited = f.alone_waited;
        alone_held = λ z. absurd (many z);
      })

  ack_row : (i : ℕ) (x : ChangeNameFields) → IsChangeName x → i < size_of_group s.me.f → Whole (keep_ack s i x).state
  unfolding keep_ack
  ack_row i x r member = row_fits (record s { acks = insert s.acks i (insert (acks_of s i) x.index x.digest) }) (fits_ack s i x) (not (is_some (ack_at s i x.index))) (λ h k.
      let a = and_parts (x.view == s.view) _ h in
      let b = and_parts (not s.active) _ a.1 in
      acks_fits s f (insert s.acks i (insert (acks_of s i) x.index x.digest)) (more_acks s f i x.index x.digest member (let q = r.index in omega (arith, q)) r.digest) (not_alone (not_true _ b.0)))

  new_view_row : (i : ℕ) (x : NewView) → IsNewView x → Whole (keep_new_view s i x).state
  unfolding keep_new_view
  new_view_row i x r = row_fits (record s { new_view = Some x }) (fits_new_view s i x) (not (is_some s.new_view)) (λ h k.
      let a = and_parts (x.view == s.view) _ h in
      let b = and_parts (not s.active) _ a.1 in
      record {
        who = f.who;
        evidence = f.evidence;
        bodies = f.bodies;
        book = f.book;
        votes = f.votes;
        numbers = f.numbers;
        own_votes = f.own_votes;
        waited = f.waited;
        marks = f.marks;
        acks = f.acks;
        needed = f.needed;
        low = f.low;
        pending = f.pending;
        slots = f.slots;
        way = f.way;
        started = λ q l n. nothing x (sym n);
        new_view = (eq_is x.view s.view a.0, r);
        texts = f.texts;
        dones = f.dones;
        there = f.there;
        chains = f.chains;
        chain = f.chain;
        prepared = f.prepared;
        pre_prepared = f.pre_prepared;
        heard = f.heard;
        own = f.own;
        relayed = f.relayed;
        alone_view = f.alone_view;
        alone_waited = f.alone_waited;
        alone_held = λ z. absurd (not_alone (not_true _ b.0) z);
      })

  relayed_row : (x : ChangeNameFields) (h : Vouched) (c : ViewChange) → IsViewChange c → IsTags h.voucher.tags → Whole (keep_relayed s x h c).state
  unfolding keep_relayed
  relayed_row x h c r marked =
      let new : Relayed = record { digest = x.digest; change = c; tags = h.voucher.tags; is_verified = h.is_verified } in
      row_fits (record s { relayed = insert s.relayed x.index new }) (fits_relay s x h.voucher c) (not (contains_key s.relayed x.index)) (λ q k.
      let a = and_parts (x.view == s.view) _ q in
      let b = and_parts (not s.active) _ a.1 in
      let d = and_parts (option_map_or (λ (v : NewView). list_any (λ n. n.index == x.index && bytes_eq n.digest x.digest) v.named) s.new_view false) _ b.1 in
      let e = and_parts (nat_lt x.index (size_of_group s.me.f)) _ d.1 in
      let g = and_parts (h.voucher.sender.group == s.me.group) _ e.1 in
      let l = and_parts (h.voucher.sender.index == x.index) _ g.1 in
      let m = and_parts (c.view == x.view) _ l.1 in
      let n = and_parts (bytes_eq (content_digest_of (content.ViewChange c)) x.digest) (is_valid c) m.1 in
      record {
        who = f.who;
        evidence = f.evidence;
        bodies = f.bodies;
        book = f.book;
        votes = f.votes;
        numbers = f.numbers;
        own_votes = f.own_votes;
        waited = f.waited;
        marks = f.marks;
        acks = f.acks;
        needed = f.needed;
        low = f.low;
        pending = f.pending;
        slots = f.slots;
        way = f.way;
        started = f.started;
        new_view = f.new_view;
        texts = f.texts;
        dones = f.dones;
        there = f.there;
        chains = f.chains;
        chain = f.chain;
        prepared = f.prepared;
        pre_prepared = f.pre_prepared;
        heard = f.heard;
        own = f.own;
        relayed = λ j y p. elim (put_cases nat_cmp_total nat_cmp-IsAntisymmetric s.relayed x.index j new y p) [
          | inl z ↦ (
            subst (λ q. q < size_of_group s.me.f) (sym z.0) (ltb-true x.index (size_of_group s.me.f) e.0),
            subst (λ (y : Relayed). IsValid y.change) z.1 ((valid_is_tested c).0 n.1),
            subst (λ (y : Relayed). IsContent (content.ViewChange y.change)) z.1 r,
            subst (λ (y : Relayed). y.digest ≡ content_digest_of (content.ViewChange y.change)) z.1 (sym ((bytes_eq-Decides (content_digest_of (content.ViewChange c)) x.digest).0 n.0)),
            subst (λ (y : Relayed). y.change.view ≡ s.view) z.1 (eq_is c.view x.view m.0 ∙ eq_is x.view s.view a.0),
            subst (λ (y : Relayed). IsTags y.tags) z.1 marked,
          )
          | inr z ↦ f.relayed j y z
        ];
        alone_view = f.alone_view;
        alone_waited = f.alone_waited;
        alone_held = λ z. absurd (not_alone (not_true _ b.0) z);
      })

  voucher_row : (x : ChangeNameFields) (h : Vouched) (c : Content) → IsContent c → IsTags h.voucher.tags → Whole (keep_voucher s x h c).state
  voucher_row x h (content.ViewChange c) r marked = relayed_row x h c r marked
  voucher_row x h _ r marked = f

  relay_row : (x : ChangeNameFields) (hs : List Vouched) → All (IsVouched s) hs → Whole (keep_relay s x (slice_get hs 0)).state
  relay_row x [] a = f
  relay_row x (h ∷ hs) a = let v = a 0 h (omega arith) in voucher_row x h h.voucher.content v.content v.tags

  done_row : (i : ℕ) (x : DecidedEventFields) → IsDecidedEvent x → (i < size_of_group s.me.f) × (i ≡ s.me.index → ⊥) → Whole (keep_done s i x).state
  unfolding keep_done
  done_row i x r from = row_fits (record s { dones = insert s.dones i x.event }) (x.place == s.done + 1 && is_in_window s.low x.place) (not (contains_key s.dones i)) (λ h k.
      let a = and_parts (x.place == s.done + 1) (is_in_window s.low x.place) h in
      let e = eq_is x.place (s.done + 1) a.0 in
      let w = in_window s.low x.place a.1 in
      let near = w.1 in
      let few = r.place_to in
      record {
        who = f.who;
        evidence = f.evidence;
        bodies = f.bodies;
        book = f.book;
        votes = f.votes;
        numbers = f.numbers;
        own_votes = f.own_votes;
        waited = f.waited;
        marks = f.marks;
        acks = f.acks;
        needed = f.needed;
        low = f.low;
        pending = f.pending;
        slots = f.slots;
        way = f.way;
        started = f.started;
        new_view = f.new_view;
        texts = f.texts;
        dones = λ j y m. elim (put_cases nat_cmp_total nat_cmp-IsAntisymmetric s.dones i j x.event y m) [
          | inl z ↦ (
            subst (λ q. q < size_of_group s.me.f) (sym z.0) from.0,
            omega (arith, e, few),
            subst IsEvent z.1 r.event,
            omega (arith, e, near),
          )
          | inr z ↦ f.dones j y z
        ];
        there = f.there;
        chains = f.chains;
        chain = f.chain;
        prepared = f.prepared;
        pre_prepared = f.pre_prepared;
        heard = f.heard;
        own = f.own;
        relayed = f.relayed;
        alone_view = f.alone_view;
        alone_waited = f.alone_waited;
        alone_held = λ z. absurd (let a = from.0 in let b = f.who.0 in let c : i ≡ s.me.index = omega (arith, a, b, z) in from.1 c);
      })

  null_held : (d : List ℕ) → d ≡ null_digest → is_held s d ≡ true
  unfolding text_of
  null_held d n = ap (λ b. is_some (if b then Some event.Null else get s.texts d)) ((bytes_eq-Decides d null_digest).1 n)

  text_row : (x : Event) → IsEvent x → Whole (keep_text s x).state
  unfolding keep_text
  text_row x r = row_fits (record s { texts = insert s.texts (digest_of x) x }) (slots_name s (digest_of x) || choice_names (possible_choice s) (digest_of x)) (not (is_held s (digest_of x))) (λ h k.
      texts_fits s f (insert s.texts (digest_of x) x) (λ d y m. elim (put_cases nat_list_cmp_total exact_digests s.texts (digest_of x) d x y m) [
        | inl z ↦ (
          subst (λ (y : Event). digest_of y ≡ d) z.1 (sym z.0),
          (λ n. false≢true (sym (not_true _ k) ∙ null_held (digest_of x) (sym z.0 ∙ n))),
          subst IsEvent z.1 r,
        )
        | inr z ↦ f.texts d y z
      ]))

  give_row : (o : Option Event) → Whole (give s o).state
  give_row None = f
  give_row (Some x) = f

  content_row : (asked : Counters) (x : SaidFields) (c : Content) → IsContent c → IsTags x.tags → (is_from_outside c ≡ false → IsFrom s.me x.sender) → length (unwrap_or x.body []) ≤ 32768 → All (IsVouched s) x.vouchers → Whole (keep s asked x c).state
  unfolding keep keep_prepare keep_commit keep_checkpoint
  content_row asked x (content.Request r) i marked from short vouched = evidence_row asked x.sender (content.Request r) (unwrap_or x.body []) i short
  content_row asked x (content.Reply r) i marked from short vouched = evidence_row asked x.sender (content.Reply r) (unwrap_or x.body []) i short
  content_row asked x (content.Part r) i marked from short vouched = f
  content_row asked x (content.Expired n) i marked from short vouched = evidence_row asked x.sender (content.Expired n) [] i (omega arith)
  content_row asked x (content.Reading r) i marked from short vouched = evidence_row asked x.sender (content.Reading r) [] i (omega arith)
  content_row asked x (content.PrePrepare p) i marked from short vouched = proposal_row x.sender.index p i
  content_row asked x (content.Prepare v) i marked from short vouched = book_row (v.view == s.view && not (x.sender.index == primary s)) (key kind.Prepare v.place x.sender.index) v.digest i.place_to i.digest (from refl).1
  content_row asked x (content.Commit v) i marked from short vouched = book_row (v.view == s.view) (key kind.Commit v.place x.sender.index) v.digest i.place_to i.digest (from refl).1
  content_row asked x (content.Checkpoint d) i marked from short vouched = book_row (d.place % checkpoint_distance == 0) (key kind.Checkpoint d.place x.sender.index) d.digest i.place_to i.digest (from refl).1
  content_row asked x (content.ViewChange c) i marked from short vouched = change_row x.sender.index c x.tags i marked (from refl)
  content_row asked x (content.Ack n) i marked from short vouched = ack_row x.sender.index n i (from refl).0
  content_row asked x (content.NewView v) i marked from short vouched = new_view_row x.sender.index v i
  content_row asked x (content.Relay n) i marked from short vouched = relay_row n x.vouchers vouched
  content_row asked x (content.Fetch w) i marked from short vouched = f
  content_row asked x (content.Done d) i marked from short vouched = done_row x.sender.index d i (from refl)
  content_row asked x (content.Need digest) i marked from short vouched = give_row (text_of s digest)
  content_row asked x (content.Give e) i marked from short vouched = text_row e i

vouched_fits : (asked : Counters) (body : List ℕ) (a : Answered) (h : Vouched) → length body ≤ 32768 → IsContent h.voucher.content → Whole a.state → Whole (keep_vouched asked body a h).state
vouched_fits asked body a h short i f = by h.is_verified
  where
    by : (b : Bool) → Whole (if b then and_then a (keep_evidence a.state asked h.voucher.sender h.voucher.content body) else a).state
    by true = evidence_row a.state f asked h.voucher.sender h.voucher.content body i short
    by false = f

vouchers_fit : (asked : Counters) (body : List ℕ) (hs : List Vouched) (a : Answered) → length body ≤ 32768 → All (λ h. IsContent h.voucher.content) hs → Whole a.state → Whole (fold (keep_vouched asked body) a hs).state
vouchers_fit asked body [] a short i f = f
vouchers_fit asked body (h ∷ hs) a short i f =
    vouchers_fit asked body hs (keep_vouched asked body a h) short (λ k d l. i (suc k) d (omega (arith, l))) (vouched_fits asked body a h short (i 0 h (omega arith)) f)

-- a whole packet
pub packet_fits : (s : State) (asked : Counters) (x : SaidFields) → Whole s → IsContent x.content → IsTags x.tags → (is_from_outside x.content ≡ false → IsFrom s.me x.sender) → length (unwrap_or x.body []) ≤ 32768 → All (IsVouched s) x.vouchers → Whole (heard s asked x).state
unfolding heard
packet_fits s asked x f i marked from short vouched = by (are_heard x.content)
  where
    by : (b : Bool) → Whole (if b then fold (keep_vouched asked (unwrap_or x.body [])) (keep s asked x x.content) x.vouchers else keep s asked x x.content).state
    by true = vouchers_fit asked (unwrap_or x.body []) x.vouchers (keep s asked x x.content) short (λ k d l. (vouched k d l).content) (content_row s f asked x x.content i marked from short vouched)
    by false = content_row s f asked x x.content i marked from short vouched

pub after_fits : (a : Answered) → Whole a.state → Whole (after_packet a).reaction.state
after_fits a f = by a.is_kept
  where
    by : (b : Bool) → Whole (if b then tidied a.state else a.state)
    by true = tidied_fits a.state f
    by false = f
