-- What is kept of a packet that wasn't forged.
use Rattle.std.proofs.Common.{◌≡◌, inl, inr, ℕ, ◌+◌, ◌<◌, ◌%◌, Bool, true, false, List, [], ◌∷◌, ◌++◌, Option, Some, None, Contains, refl, sym, ◌∙◌, ap, subst, arith, cond, nat_lt, nat_le, not, ◌&&◌, ◌||◌, ◌==◌, is_some}
use Rattle.std.specs.Prelude.{slice_get}
use Rattle.std.specs.List.{fold}
use Rattle.std.specs.Option.{option_map_or, unwrap_or}
use Rattle.std.specs.Str.{bytes_eq}
use Rattle.std.specs.FinMap.{get, insert, contains_key}
use Rattle.std.proofs.lemmas.Bool.{and_parts, ltb-true, leb-true, eqb-true, eqb-false, not-true, true≢false}
use Rattle.std.proofs.lemmas.Cmp.{nat_cmp_total, nat_list_cmp_total}
use Rattle.std.proofs.lemmas.Map.Lookups.{exact_unsigned, exact_bytes}
use Rattle.std.proofs.lemmas.Option.{slice_get_within, get_or_from_slice_get}
use Rattle.pws_base.specs.declared.shapes.ReplicaId.{ReplicaId}
use Rattle.pws_base.specs.Places.{is_in_window}
use Rattle.pws_base.specs.Shapes.{size_of_group}
use Rattle.pws_base.proofs.Maps.{put_cases, put_other}
use Rattle.pws_base.proofs.Members.{here, there}
use Rattle.pws_event.specs.declared.events.Event.{Event}
use Rattle.pws_event.specs.Events.{digest_of}
use Rattle.pws_event.specs.Counters.{Counters}
use Rattle.pws_msg.specs.Statements.{ProposalFields, PlaceVoteFields, PlaceDigestFields, ChangeNameFields, DecidedEventFields}
use Rattle.pws_msg.specs.declared.changes.ViewChange.{ViewChange}
use Rattle.pws_msg.specs.declared.changes.NewView.{NewView}
use Rattle.pws_msg.specs.declared.contents.Content.{Content}
use Rattle.pws_msg.specs.declared.contents.Content.TheVariants as content
use Rattle.pws_msg.specs.Contents.{IsContent, content_digest_of}
use Rattle.pws_change.specs.Valid.{IsValid, is_valid}
use Rattle.pws_change.proofs.Agreeing.{valid_is_tested}
use Rattle.pws_votes.specs.declared.kinds.Vote.TheVariants as vote
use Rattle.pws_votes.specs.declared.kinds.VoteKind.{VoteKind}
use Rattle.pws_votes.specs.declared.kinds.VoteKind.TheVariants as kind
use Rattle.pws_votes.specs.Votes.{Key, key, answer_to, after_vote, number_of}
use Rattle.pws_votes.proofs.VoteLemmas.{vote_cases}
use Rattle.pws_safety.specs.Contents.{statement_of}
use Rattle.pws_safety.specs.Statement.{Statement, PrePrepare, Prepare, Commit, Ack}
use Rattle.pws_safety.specs.Statement as say
use Rattle.pws_safety.specs.Statements.{Sent, Told, size, primary}
use Rattle.pws_safety.specs.Voters.{IsHeard}
use Rattle.pws_protocol.specs.Keys.{replica}
use Rattle.pws_protocol.specs.Evidence.{note}
use Rattle.pws_protocol.specs.States.{State, HeldChange, Relayed, is_primary, is_held, text_of}
use Rattle.pws_protocol.specs.States as real
use Rattle.pws_protocol.specs.Gathered.{possible_choice, acks_of, ack_at, slots_name, choice_names}
use Rattle.pws_protocol.specs.Hearing.{Vouched, SaidFields, Answered, fits_proposal, keep_proposal, keep_in_book, keep_prepare, keep_commit, keep_checkpoint, fits_change, keep_change, fits_ack, keep_ack, fits_new_view, keep_new_view, fits_relay, keep_relayed, keep_voucher, keep_relay, keep_done, keep_text, give, keep_evidence, keep, keep_vouched, are_heard, heard}
use Rattle.pws_protocol.specs.Fits.{is_from_outside, IsVouched, IsSaid}
use Rattle.pws_protocol.proofs.Noting.{after_noting}
use Rattle.pws_refine.specs.Contexts.{Context, IsLawful, IsOf, Occurs}
use Rattle.pws_refine.specs.Inputs.{IsVoucherTold, IsTold}
use Rattle.pws_refine.specs.Links.{IsPendingAt, Links}
use Rattle.pws_refine.specs.Ready.{IsReady}
use Rattle.pws_refine.specs.Laws.{HearingKeeps}
use Rattle.pws_refine.proofs.Evident.{note_after_is}
use Rattle.pws_refine.proofs.Fine.{Fine, rest_of, other_view, other, same, Quiet, none_quiet, row_quiet, vote_quiet, if_quiet, then_quiet}
use Rattle.pws_refine.proofs.Linked.{kinds_differ, ack_put}
use Rattle.pws_refine.proofs.Places.{size_is, index_is, primary_is, not_primary, same_bytes}
use Rattle.pws_refine.proofs.Readied.{vote_f}

nothing : {A : Type 0} (o : Option A) → is_some o ≡ false → o ≡ None
nothing None h = refl
nothing (Some x) h = absurd (true≢false h)

-- one statement of evidence more, which can be heard
pub evidence_fine : (c : Context) (sent : Sent) (s : State) → IsOf c s → IsReady s → Links c sent s → (asked : Counters) (sender : ReplicaId) (k : Content) (body : List ℕ) → c.speaks sender k ≡ true → IsContent k
    → Fine c sent s (record s { evidence = (note s.evidence asked sender k body).evidence })
evidence_fine c sent s is ready l asked sender k body speaks range =
    let a = note_after_is s.evidence asked sender k body in
    record {
      links = record {
        heard = l.heard;
        own = l.own;
        acks = l.acks;
        new_view = l.new_view;
        relayed = l.relayed;
        pending = l.pending;
        prepares = l.prepares;
        commits = l.commits;
        checkpoints = l.checkpoints;
        dones = l.dones;
        evidence = λ q x h. elim (a.statements q x h) [
          | inl y ↦ l.evidence q x y
          | inr y ↦ subst (λ z. c.speaks q.sender z ≡ true) y.1 (subst (λ z. c.speaks z k ≡ true) (sym y.0) speaks)
        ];
        texts = l.texts;
      };
      is_of = record { me = is.me; book = is.book; group = a.group ∙ is.group; layout = a.layout ∙ is.layout };
      ready = record { low = ready.low; done = ready.done; chains = ready.chains; slots = ready.slots; committed = ready.committed; prepared = ready.prepared; pre_prepared = ready.pre_prepared; evidence = after_noting s.evidence asked sender k body range ready.evidence };
      core = λ said. refl;
    }

-- what is known of a content of a packet
pub record Hears (c : Context) (sent : Sent) (x : SaidFields) (k : Content) : Type 0 where
  pub speaks : c.speaks x.sender k ≡ true
  pub told : x.sender.group ≡ c.me.group → (y : Statement) → statement_of k ≡ Some y → Told c.group sent x.sender.index y
  pub occurs : Occurs c k
  pub member : x.sender.group ≡ c.me.group → (x.sender.index < size c.group) × (x.sender.index ≡ c.me.index → ⊥)
  pub inside : is_from_outside k ≡ false → x.sender.group ≡ c.me.group
  pub range : IsContent k

module _ (c : Context) (sent : Sent) (s : State) (law : IsLawful c) (is : IsOf c s) (ready : IsReady s) (l : Links c sent s) where
  fine : Fine c sent s s
  fine = same c sent s is ready l

  abbrev IsSaid' : ℕ → ℕ → List ℕ → Type 0
  IsSaid' k p d = c.speaks (replica c.me.group k) (content.Checkpoint (record { place = p; digest = d })) ≡ true

  -- one vote more
  vote_links : (a : VoteKind) (p i : ℕ) (d : List ℕ)
      → (number_of a ≡ 0 → (i ≡ primary c.group s.view → ⊥) × Told c.group sent i (Prepare s.view p d)) → (number_of a ≡ 1 → Told c.group sent i (Commit s.view p d)) → (number_of a ≡ 2 → IsSaid' i p d)
      → Links c sent (record s { book = after_vote s.book (key a p i) d })
  vote_links a p i d prepared committed said = record {
    heard = l.heard;
    own = l.own;
    acks = l.acks;
    new_view = l.new_view;
    relayed = l.relayed;
    pending = l.pending;
    prepares = λ q k e v.
        elim (vote_cases s.book (key a p i) (key kind.Prepare q k) d e v) [
          | inl x ↦
              let t = prepared (sym (kinds_differ kind.Prepare a q p k i x.0)) in
              subst (λ n. (n ≡ primary c.group s.view → ⊥) × Told c.group sent n (Prepare s.view q e)) (sym (ap (λ (y : Key). y.voter) x.0))
              (t.0, subst (λ n. Told c.group sent i (Prepare s.view n e)) (sym (ap (λ (y : Key). y.place) x.0)) (subst (λ n. Told c.group sent i (Prepare s.view p n)) x.1 t.1))
          | inr x ↦ l.prepares q k e x
        ];
    commits = λ q k e v.
        elim (vote_cases s.book (key a p i) (key kind.Commit q k) d e v) [
          | inl x ↦
              let t = committed (sym (kinds_differ kind.Commit a q p k i x.0)) in
              subst (λ n. Told c.group sent n (Commit s.view q e)) (sym (ap (λ (y : Key). y.voter) x.0))
              (subst (λ n. Told c.group sent i (Commit s.view n e)) (sym (ap (λ (y : Key). y.place) x.0)) (subst (λ n. Told c.group sent i (Commit s.view p n)) x.1 t))
          | inr x ↦ l.commits q k e x
        ];
    checkpoints = λ q k e v.
        elim (vote_cases s.book (key a p i) (key kind.Checkpoint q k) d e v) [
          | inl x ↦
              let t = said (sym (kinds_differ kind.Checkpoint a q p k i x.0)) in
              subst (λ n. IsSaid' n q e) (sym (ap (λ (y : Key). y.voter) x.0))
              (subst (λ n. IsSaid' i n e) (sym (ap (λ (y : Key). y.place) x.0)) (subst (λ n. IsSaid' i p n) x.1 t))
          | inr x ↦ l.checkpoints q k e x
        ];
    dones = l.dones;
    evidence = l.evidence;
    texts = l.texts;
  }

  book_quiet : (a : VoteKind) (p i : ℕ) (d : List ℕ)
      → (number_of a ≡ 0 → (i ≡ primary c.group s.view → ⊥) × Told c.group sent i (Prepare s.view p d)) → (number_of a ≡ 1 → Told c.group sent i (Commit s.view p d)) → (number_of a ≡ 2 → IsSaid' i p d)
      → Quiet c sent s (keep_in_book s (key a p i) d)
  book_quiet a p i d prepared committed said =
      let b = after_vote s.book (key a p i) d in
      vote_quiet c sent s fine (record s { book = b }) (answer_to s.book (key a p i))
      (other c sent s is ready (record (rest_of s) { book = b }) refl (vote_f s.book (key a p i) d) (vote_links a p i d prepared committed said))

  evidence_quiet : (asked : Counters) (sender : ReplicaId) (k : Content) (body : List ℕ) → c.speaks sender k ≡ true → IsContent k → Quiet c sent s (keep_evidence s asked sender k body)
  unfolding keep_evidence
  evidence_quiet asked sender k body speaks range =
      let n = note s.evidence asked sender k body in
      vote_quiet c sent s fine (record s { evidence = n.evidence }) n.answer (evidence_fine c sent s is ready l asked sender k body speaks range)

  module _ (x : SaidFields) where
    proposal_quiet : (p : ProposalFields) → Hears c sent x (content.PrePrepare p) → Quiet c sent s (keep_proposal s x.sender.index p)
    unfolding keep_proposal
    proposal_quiet p t =
        row_quiet c sent s fine (record s { pending = insert s.pending p.place p.event }) (fits_proposal s x.sender.index p) (not (contains_key s.pending p.place) && not (contains_key s.slots p.place)) (λ f g.
        let a = and_parts (p.view == s.view) _ f in
        let b = and_parts s.active _ a.1 in
        let d = and_parts (not (is_primary s)) _ b.1 in
        let e = and_parts (x.sender.index == real.primary s) _ d.1 in
        let j = and_parts (is_in_window s.low p.place) _ e.1 in
        let w = and_parts (nat_lt s.low p.place) (nat_le p.place (s.low + 32)) j.0 in
        let k = and_parts (not (contains_key s.pending p.place)) (not (contains_key s.slots p.place)) g in
        let sender : x.sender.index ≡ primary c.group s.view = eqb-true x.sender.index (real.primary s) e.0 ∙ primary_is c s law is in
        let view : p.view ≡ s.view = eqb-true p.view s.view a.0 in
        let told : Told c.group sent (primary c.group s.view) (PrePrepare s.view p.place (digest_of p.event)) =
        subst (λ n. Told c.group sent n (PrePrepare s.view p.place (digest_of p.event))) sender
        (subst (λ v. Told c.group sent x.sender.index (PrePrepare v p.place (digest_of p.event))) view (t.told (t.inside refl) (PrePrepare p.view p.place (digest_of p.event)) refl)) in
        let new : IsPendingAt c sent s.view s.active s.floor s.low s.slots p.place p.event = (
          b.0,
          not_primary c s law is (eqb-false s.me.index (real.primary s) (not-true (s.me.index == real.primary s) d.0)),
          ltb-true s.floor p.place j.1,
          ltb-true s.low p.place w.0,
          leb-true p.place (s.low + 32) w.1,
          nothing (get s.slots p.place) (not-true (contains_key s.slots p.place) k.1),
          told,
          t.occurs,
        ) in
        other c sent s is ready (record (rest_of s) { pending = insert s.pending p.place p.event }) refl refl (record {
          heard = l.heard;
          own = l.own;
          acks = l.acks;
          new_view = l.new_view;
          relayed = l.relayed;
          pending = λ q y h.
              elim (put_cases nat_cmp_total exact_unsigned s.pending p.place q p.event y h) [
                | inl z ↦ subst (λ n. IsPendingAt c sent s.view s.active s.floor s.low s.slots n y) (sym z.0) (subst (λ n. IsPendingAt c sent s.view s.active s.floor s.low s.slots p.place n) z.1 new)
                | inr z ↦ l.pending q y z
              ];
          prepares = l.prepares;
          commits = l.commits;
          checkpoints = l.checkpoints;
          dones = l.dones;
          evidence = l.evidence;
          texts = l.texts;
        }))

    prepare_quiet : (v : PlaceVoteFields) → Hears c sent x (content.Prepare v) → Quiet c sent s (keep_prepare s x.sender.index v)
    unfolding keep_prepare
    prepare_quiet v t =
        if_quiet c sent s fine (v.view == s.view && not (x.sender.index == real.primary s)) (keep_in_book s (key kind.Prepare v.place x.sender.index) v.digest) (λ f.
        let a = and_parts (v.view == s.view) _ f in
        let view : v.view ≡ s.view = eqb-true v.view s.view a.0 in
        book_quiet kind.Prepare v.place x.sender.index v.digest
        (λ _. (
          λ e. eqb-false x.sender.index (real.primary s) (not-true (x.sender.index == real.primary s) a.1) (e ∙ sym (primary_is c s law is)),
          subst (λ w. Told c.group sent x.sender.index (Prepare w v.place v.digest)) view (t.told (t.inside refl) (Prepare v.view v.place v.digest) refl),
        ))
        (λ e. absurd (omega (arith, e))) (λ e. absurd (omega (arith, e))))

    commit_quiet : (v : PlaceVoteFields) → Hears c sent x (content.Commit v) → Quiet c sent s (keep_commit s x.sender.index v)
    unfolding keep_commit
    commit_quiet v t =
        if_quiet c sent s fine (v.view == s.view) (keep_in_book s (key kind.Commit v.place x.sender.index) v.digest) (λ f.
        let view : v.view ≡ s.view = eqb-true v.view s.view f in
        book_quiet kind.Commit v.place x.sender.index v.digest (λ e. absurd (omega (arith, e)))
        (λ _. subst (λ w. Told c.group sent x.sender.index (Commit w v.place v.digest)) view (t.told (t.inside refl) (Commit v.view v.place v.digest) refl)) (λ e. absurd (omega (arith, e))))

    checkpoint_quiet : (d : PlaceDigestFields) → Hears c sent x (content.Checkpoint d) → Quiet c sent s (keep_checkpoint s x.sender.index d)
    unfolding keep_checkpoint
    checkpoint_quiet d t =
        if_quiet c sent s fine (d.place % 16 == 0) (keep_in_book s (key kind.Checkpoint d.place x.sender.index) d.digest) (λ f.
        let sender : x.sender ≡ replica c.me.group x.sender.index = ap (λ g. replica g x.sender.index) (t.inside refl) in
        book_quiet kind.Checkpoint d.place x.sender.index d.digest (λ e. absurd (omega (arith, e))) (λ e. absurd (omega (arith, e)))
        (λ _. subst (λ r. c.speaks r (content.Checkpoint d) ≡ true) sender t.speaks))

    change_quiet : (v : ViewChange) (tags : List (List ℕ)) → Hears c sent x (content.ViewChange v) → Quiet c sent s (keep_change s x.sender.index v tags)
    unfolding keep_change
    change_quiet v tags t =
        let new : HeldChange = record { digest = content_digest_of (content.ViewChange v); change = v; tags = tags } in
        row_quiet c sent s fine (record s { heard = insert s.heard x.sender.index new }) (fits_change s v) (option_map_or (λ (h : HeldChange). nat_lt h.change.view v.view) (get s.heard x.sender.index) true) (λ f g.
        let b = and_parts (not (real.is_alone s)) _ f in
        let d = and_parts (nat_lt s.view v.view || (v.view == s.view && not s.active)) (is_valid v) b.1 in
        let m = t.member (t.inside refl) in
        let heard : IsHeard c.group sent v.view x.sender.index v = record { replica = m.0; told = t.told (t.inside refl) (say.ViewChange v) refl; in_view = refl; valid = (valid_is_tested v).0 d.1; occurs = t.occurs } in
        other c sent s is ready (record (rest_of s) { heard = insert s.heard x.sender.index new }) refl refl (record {
          heard = λ j y k.
              elim (put_cases nat_cmp_total exact_unsigned s.heard x.sender.index j new y k) [
                | inl z ↦ subst (λ (u : HeldChange). IsHeard c.group sent u.change.view j u.change × (c.group.digest_of u.change ≡ u.digest)) z.1 (subst (λ n. IsHeard c.group sent v.view n v) (sym z.0) heard, law.digests v)
                | inr z ↦ l.heard j y z
              ];
          own = λ w. let o = l.own w in (o.0, put_other nat_cmp_total exact_unsigned s.heard x.sender.index c.me.index new (λ e. m.1 (sym e)) ∙ o.1, o.2);
          acks = l.acks;
          new_view = l.new_view;
          relayed = l.relayed;
          pending = l.pending;
          prepares = l.prepares;
          commits = l.commits;
          checkpoints = l.checkpoints;
          dones = l.dones;
          evidence = l.evidence;
          texts = l.texts;
        }))

    ack_quiet : (n : ChangeNameFields) → Hears c sent x (content.Ack n) → Quiet c sent s (keep_ack s x.sender.index n)
    unfolding keep_ack
    ack_quiet n t =
        row_quiet c sent s fine (record s { acks = insert s.acks x.sender.index (insert (acks_of s x.sender.index) n.index n.digest) }) (fits_ack s x.sender.index n) (not (is_some (ack_at s x.sender.index n.index))) (λ f g.
        let a = and_parts (n.view == s.view) _ f in
        let b = and_parts (not s.active) _ a.1 in
        let d = and_parts (not (x.sender.index == n.index)) _ b.1 in
        let m = t.member (t.inside refl) in
        let told : Told c.group sent x.sender.index (Ack s.view n.index n.digest) = subst (λ w. Told c.group sent x.sender.index (Ack w n.index n.digest)) (eqb-true n.view s.view a.0) (t.told (t.inside refl) (Ack n.view n.index n.digest) refl) in
        other c sent s is ready (record (rest_of s) { acks = insert s.acks x.sender.index (insert (acks_of s x.sender.index) n.index n.digest) }) refl refl (record {
          heard = l.heard;
          own = l.own;
          acks = λ k j row e at y.
              elim (ack_put s x.sender.index n.index n.digest k j row e at y) [
                | inl z ↦
                    subst (λ q. (q ≡ j → ⊥) × (q < size c.group) × Told c.group sent q (Ack s.view j e)) (sym z.0)
                    (subst (λ q. (x.sender.index ≡ q → ⊥) × (x.sender.index < size c.group) × Told c.group sent x.sender.index (Ack s.view q e)) (sym z.1)
                    (eqb-false x.sender.index n.index (not-true (x.sender.index == n.index) d.0), m.0, subst (λ q. Told c.group sent x.sender.index (Ack s.view n.index q)) z.2 told))
                | inr z ↦ l.acks k j z.0 e z.1 z.2
              ];
          new_view = l.new_view;
          relayed = l.relayed;
          pending = l.pending;
          prepares = l.prepares;
          commits = l.commits;
          checkpoints = l.checkpoints;
          dones = l.dones;
          evidence = l.evidence;
          texts = l.texts;
        }))

    new_view_quiet : (v : NewView) → Hears c sent x (content.NewView v) → Quiet c sent s (keep_new_view s x.sender.index v)
    unfolding keep_new_view
    new_view_quiet v t =
        row_quiet c sent s fine (record s { new_view = Some v }) (fits_new_view s x.sender.index v) (not (is_some s.new_view)) (λ f g.
        let a = and_parts (v.view == s.view) _ f in
        let b = and_parts (not s.active) _ a.1 in
        let d = and_parts (not (is_primary s)) _ b.1 in
        let idle : s.active ≡ false = not-true s.active b.0 in
        let told : Told c.group sent (primary c.group s.view) (say.NewView v) = subst (λ n. Told c.group sent n (say.NewView v)) (eqb-true x.sender.index (real.primary s) d.1 ∙ primary_is c s law is) (t.told (t.inside refl) (say.NewView v) refl) in
        other_view c sent s is ready (record (rest_of s) { new_view = Some v }) (ap (λ b. cond b (Some v) None) idle ∙ sym (ap (λ b. cond b s.new_view None) idle)) refl (record {
          heard = l.heard;
          own = l.own;
          acks = l.acks;
          new_view = λ y k.
              let same' : v ≡ y = let q : ◌≡◌ {A = Option NewView} (Some v) (Some y) = k in cc in
              subst (λ (z : NewView). (z.view ≡ s.view) × Told c.group sent (primary c.group s.view) (say.NewView z) × (s.active ≡ false → c.me.index ≡ primary c.group s.view → ⊥)) same'
              (eqb-true v.view s.view a.0, told, λ _. not_primary c s law is (eqb-false s.me.index (real.primary s) (not-true (s.me.index == real.primary s) d.0)));
          relayed = l.relayed;
          pending = l.pending;
          prepares = l.prepares;
          commits = l.commits;
          checkpoints = l.checkpoints;
          dones = l.dones;
          evidence = l.evidence;
          texts = l.texts;
        }))

    relayed_quiet : (n : ChangeNameFields) (h : Vouched) (v : ViewChange) → h.voucher.content ≡ content.ViewChange v → IsVoucherTold c sent h → Quiet c sent s (keep_relayed s n h v)
    unfolding keep_relayed
    relayed_quiet n h v at t =
        let new : Relayed = record { digest = n.digest; change = v; tags = h.voucher.tags; is_verified = h.is_verified } in
        row_quiet c sent s fine (record s { relayed = insert s.relayed n.index new }) (fits_relay s n h.voucher v) (not (contains_key s.relayed n.index)) (λ f g.
        let a = and_parts (n.view == s.view) _ f in
        let b = and_parts (not s.active) _ a.1 in
        let d = and_parts _ _ b.1 in
        let e = and_parts (nat_lt n.index (size_of_group s.me.f)) _ d.1 in
        let j = and_parts (h.voucher.sender.group == s.me.group) _ e.1 in
        let k = and_parts (h.voucher.sender.index == n.index) _ j.1 in
        let m = and_parts (v.view == n.view) _ k.1 in
        let o = and_parts (bytes_eq (content_digest_of (content.ViewChange v)) n.digest) (is_valid v) m.1 in
        let occurs : c.group.occurs v ≡ true = subst (Occurs c) at t.occurs in
        let group : h.voucher.sender.group ≡ c.me.group = eqb-true h.voucher.sender.group s.me.group j.0 ∙ ap (λ (q : real.Me). q.group) is.me in
        let index : h.voucher.sender.index ≡ n.index = eqb-true h.voucher.sender.index n.index k.0 in
        let view : v.view ≡ s.view = eqb-true v.view n.view m.0 ∙ eqb-true n.view s.view a.0 in
        let told : h.is_verified ≡ true → Told c.group sent n.index (say.ViewChange v) = λ u. subst (λ q. Told c.group sent q (say.ViewChange v)) index (t.told u group (say.ViewChange v) (ap statement_of at)) in
        other c sent s is ready (record (rest_of s) { relayed = insert s.relayed n.index new }) refl refl (record {
          heard = l.heard;
          own = l.own;
          acks = l.acks;
          new_view = l.new_view;
          relayed = λ q r y.
              elim (put_cases nat_cmp_total exact_unsigned s.relayed n.index q new r y) [
                | inl z ↦
                    subst (λ i. (i < size c.group) × (r.change.view ≡ s.view) × IsValid r.change × (c.group.occurs r.change ≡ true) × (c.group.digest_of r.change ≡ r.digest) × (r.is_verified ≡ true → Told c.group sent i (say.ViewChange r.change))) (sym z.0)
                    (subst (λ (u : Relayed). (n.index < size c.group) × (u.change.view ≡ s.view) × IsValid u.change × (c.group.occurs u.change ≡ true) × (c.group.digest_of u.change ≡ u.digest) × (u.is_verified ≡ true → Told c.group sent n.index (say.ViewChange u.change))) z.1
                    (subst (λ i. n.index < size_of_group i) (size_is c s law is) (ltb-true n.index (size_of_group s.me.f) e.0), view, (valid_is_tested v).0 o.1, occurs, law.digests v ∙ same_bytes _ n.digest o.0, told))
                | inr z ↦ l.relayed q r z
              ];
          pending = l.pending;
          prepares = l.prepares;
          commits = l.commits;
          checkpoints = l.checkpoints;
          dones = l.dones;
          evidence = l.evidence;
          texts = l.texts;
        }))

    voucher_quiet : (n : ChangeNameFields) (h : Vouched) (k : Content) → h.voucher.content ≡ k → IsVoucherTold c sent h → Quiet c sent s (keep_voucher s n h k)
    voucher_quiet n h (content.ViewChange v) at t = relayed_quiet n h v at t
    voucher_quiet n h _ at t = none_quiet c sent s fine vote.Outside

    relay_quiet : (n : ChangeNameFields) (o : Option Vouched) → ((h : Vouched) → o ≡ Some h → IsVoucherTold c sent h) → Quiet c sent s (keep_relay s n o)
    relay_quiet n None t = none_quiet c sent s fine vote.Outside
    relay_quiet n (Some h) t = voucher_quiet n h h.voucher.content refl (t h refl)

    done_quiet : (d : DecidedEventFields) → Hears c sent x (content.Done d) → Quiet c sent s (keep_done s x.sender.index d)
    unfolding keep_done
    done_quiet d t =
        row_quiet c sent s fine (record s { dones = insert s.dones x.sender.index d.event }) (d.place == s.done + 1 && is_in_window s.low d.place) (not (contains_key s.dones x.sender.index)) (λ f g.
        let a = and_parts (d.place == s.done + 1) _ f in
        let place : d.place ≡ s.done + 1 = eqb-true d.place (s.done + 1) a.0 in
        let to = leb-true d.place (s.low + 32) (and_parts (nat_lt s.low d.place) (nat_le d.place (s.low + 32)) a.1).1 in
        let room : s.done < s.low + 32 = omega (arith, place, to) in
        let sender : x.sender ≡ replica c.me.group x.sender.index = ap (λ g. replica g x.sender.index) (t.inside refl) in
        let told : c.speaks (replica c.me.group x.sender.index) (content.Done (record { place = s.done + 1; event = d.event })) ≡ true =
        subst (λ r. c.speaks r (content.Done (record { place = s.done + 1; event = d.event })) ≡ true) sender (subst (λ p. c.speaks x.sender (content.Done (record { place = p; event = d.event })) ≡ true) place t.speaks) in
        other c sent s is ready (record (rest_of s) { dones = insert s.dones x.sender.index d.event }) refl refl (record {
          heard = l.heard;
          own = l.own;
          acks = l.acks;
          new_view = l.new_view;
          relayed = l.relayed;
          pending = l.pending;
          prepares = l.prepares;
          commits = l.commits;
          checkpoints = l.checkpoints;
          dones = λ k e y.
              elim (put_cases nat_cmp_total exact_unsigned s.dones x.sender.index k d.event e y) [
                | inl z ↦ (
                  subst (λ m. c.speaks (replica c.me.group m) (content.Done (record { place = s.done + 1; event = e })) ≡ true) (sym z.0)
                      (subst (λ m. c.speaks (replica c.me.group x.sender.index) (content.Done (record { place = s.done + 1; event = m })) ≡ true) z.1 told),
                  room,
                )
                | inr z ↦ l.dones k e z
              ];
          evidence = l.evidence;
          texts = l.texts;
        }))

    text_quiet : (e : Event) → Quiet c sent s (keep_text s e)
    unfolding keep_text
    text_quiet e =
        row_quiet c sent s fine (record s { texts = insert s.texts (digest_of e) e }) (slots_name s (digest_of e) || choice_names (possible_choice s) (digest_of e)) (not (is_held s (digest_of e))) (λ f g.
        other c sent s is ready (record (rest_of s) { texts = insert s.texts (digest_of e) e }) refl refl (record {
          heard = l.heard;
          own = l.own;
          acks = l.acks;
          new_view = l.new_view;
          relayed = l.relayed;
          pending = l.pending;
          prepares = l.prepares;
          commits = l.commits;
          checkpoints = l.checkpoints;
          dones = l.dones;
          evidence = l.evidence;
          texts = λ d y k. elim (put_cases nat_list_cmp_total exact_bytes s.texts (digest_of e) d e y k) [ inl z ↦ ap digest_of (sym z.1) ∙ sym z.0 | inr z ↦ l.texts d y z ];
        }))

    give_quiet : (o : Option Event) → Quiet c sent s (give s o)
    give_quiet None = none_quiet c sent s fine vote.Outside
    give_quiet (Some e) = (fine, refl)

    keep_quiet : (asked : Counters) (k : Content) → Hears c sent x k → ((h : Vouched) → slice_get x.vouchers 0 ≡ Some h → IsVoucherTold c sent h) → Quiet c sent s (keep s asked x k)
    unfolding keep
    keep_quiet asked (content.Request r) t w = evidence_quiet asked x.sender (content.Request r) (unwrap_or x.body []) t.speaks t.range
    keep_quiet asked (content.Reply r) t w = evidence_quiet asked x.sender (content.Reply r) (unwrap_or x.body []) t.speaks t.range
    keep_quiet asked (content.Part r) t w = none_quiet c sent s fine vote.Outside
    keep_quiet asked (content.Expired n) t w = evidence_quiet asked x.sender (content.Expired n) [] t.speaks t.range
    keep_quiet asked (content.Reading r) t w = evidence_quiet asked x.sender (content.Reading r) [] t.speaks t.range
    keep_quiet asked (content.PrePrepare p) t w = proposal_quiet p t
    keep_quiet asked (content.Prepare v) t w = prepare_quiet v t
    keep_quiet asked (content.Commit v) t w = commit_quiet v t
    keep_quiet asked (content.Checkpoint d) t w = checkpoint_quiet d t
    keep_quiet asked (content.ViewChange v) t w = change_quiet v x.tags t
    keep_quiet asked (content.Ack n) t w = ack_quiet n t
    keep_quiet asked (content.NewView v) t w = new_view_quiet v t
    keep_quiet asked (content.Relay n) t w = relay_quiet n (slice_get x.vouchers 0) w
    keep_quiet asked (content.Fetch f) t w = none_quiet c sent s fine vote.Outside
    keep_quiet asked (content.Done d) t w = done_quiet d t
    keep_quiet asked (content.Need digest) t w = give_quiet (text_of s digest)
    keep_quiet asked (content.Give e) t w = text_quiet e

-- the vouchers of a reply
one_vouched : (c : Context) (sent : Sent) (s : State) → IsLawful c → (asked : Counters) (body : List ℕ) (a : Answered) (h : Vouched) → IsVoucherTold c sent h → IsContent h.voucher.content → Quiet c sent s a → Quiet c sent s (keep_vouched asked body a h)
one_vouched c sent s law asked body a h t range q = go h.is_verified refl
  where
    go : (b : Bool) → h.is_verified ≡ b → Quiet c sent s (cond b (record { state = (keep_evidence a.state asked h.voucher.sender h.voucher.content body).state; is_kept = a.is_kept || (keep_evidence a.state asked h.voucher.sender h.voucher.content body).is_kept; outs = a.outs ++ (keep_evidence a.state asked h.voucher.sender h.voucher.content body).outs }) a)
    go true e = then_quiet c sent s a (keep_evidence a.state asked h.voucher.sender h.voucher.content body) q (evidence_quiet c sent a.state law q.0.is_of q.0.ready q.0.links asked h.voucher.sender h.voucher.content body (t.speaks e) range)
    go false e = q

all_vouched : (c : Context) (sent : Sent) (s : State) → IsLawful c → (asked : Counters) (body : List ℕ) (hs : List Vouched) (a : Answered) → ((h : Vouched) → Contains hs h → IsVoucherTold c sent h × IsContent h.voucher.content) → Quiet c sent s a → Quiet c sent s (fold (keep_vouched asked body) a hs)
all_vouched c sent s law asked body [] a each q = q
all_vouched c sent s law asked body (h ∷ hs) a each q =
    let x = each h (here h hs) in
    all_vouched c sent s law asked body hs (keep_vouched asked body a h) (λ y m. each y (there h y hs m)) (one_vouched c sent s law asked body a h x.0 x.1 q)

if_heard : (c : Context) (sent : Sent) (s : State) (b : Bool) (a d : Answered) → Quiet c sent s a → Quiet c sent s d → Quiet c sent s (cond b a d)
if_heard c sent s true a d x y = x
if_heard c sent s false a d x y = y

module _ (c : Context) (sent : Sent) (s : State) (law : IsLawful c) (is : IsOf c s) (ready : IsReady s) (l : Links c sent s) (asked : Counters) (x : SaidFields) (said : IsSaid s x) (told : IsTold c sent x) where
  each_voucher : (h : Vouched) → Contains x.vouchers h → IsVoucherTold c sent h × IsContent h.voucher.content
  each_voucher h m =
      let v : IsVouched s h = subst (λ y. IsVouched s y) m.2 (said.vouchers m.0 h m.1) in
      (told.vouchers h m, v.content)

  first_voucher : (h : Vouched) → slice_get x.vouchers 0 ≡ Some h → IsVoucherTold c sent h
  first_voucher h e = told.vouchers h (0, slice_get_within x.vouchers 0 h e, get_or_from_slice_get x.vouchers 0 h h e)

  is_member : x.sender.group ≡ c.me.group → (x.sender.index < size c.group) × (x.sender.index ≡ c.me.index → ⊥)
  is_member g =
      let at : slice_get s.evidence.layout x.sender.group ≡ Some c.me.f = ap (λ y. slice_get y x.sender.group) is.layout ∙ (ap (slice_get c.layout) g ∙ law.shape) in
      let below : nat_lt x.sender.index (size_of_group c.me.f) ≡ true = subst (λ (o : Option ℕ). option_map_or (λ f. nat_lt x.sender.index (size_of_group f)) o false ≡ true) at said.sender.replica in (
        subst (λ f. x.sender.index < size_of_group f) law.f (ltb-true x.sender.index (size_of_group c.me.f) below),
        λ e. said.sender.other (g ∙ sym (ap (λ (m : real.Me). m.group) is.me)) (e ∙ sym (index_is c s law is)),
      )

  hears : Hears c sent x x.content
  hears = record {
    speaks = told.speaks;
    told = told.told;
    occurs = told.occurs;
    member = is_member;
    inside = λ e. said.inside e ∙ ap (λ (m : real.Me). m.group) is.me;
    range = said.content;
  }

  pub heard_quiet : Quiet c sent s (heard s asked x)
  unfolding heard
  heard_quiet =
      let k = keep_quiet c sent s law is ready l x asked x.content hears first_voucher in
      if_heard c sent s (are_heard x.content) (fold (keep_vouched asked (unwrap_or x.body [])) (keep s asked x x.content) x.vouchers) (keep s asked x x.content)
      (all_vouched c sent s law asked (unwrap_or x.body []) x.vouchers (keep s asked x x.content) each_voucher k) k

pub hearing_keeps : HearingKeeps
hearing_keeps c sent s asked x law st said told =
    let q = heard_quiet c sent s law st.is_of st.ready st.links asked x said told in
    (record { is_of = q.0.is_of; ready = q.0.ready; links = q.0.links }, q.0.core, q.1)
