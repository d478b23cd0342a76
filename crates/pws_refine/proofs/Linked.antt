-- The links are kept by each action.
use Rattle.std.proofs.Common.{◌+◌, ◌≡◌, ◌⊎◌, inl, inr, ℕ, ◌<◌, ◌≤◌, Bool, true, false, List, [], ◌∷◌, ◌++◌, map, Option, Some, None, Contains, refl, sym, ◌∙◌, ap, subst, arith, cond, nat_lt}
use Rattle.std.specs.Option.{option_map_or}
use Rattle.std.specs.Ordering.{nat_cmp}
use Rattle.std.specs.Cmp.Lexicographic.{slice_cmp}
use Rattle.std.specs.Str.{bytes_eq}
use Rattle.std.specs.FinMap.{FinMap, get, insert, retain_keys, empty, get-empty, get-retain_keys}
use Rattle.std.specs.FinSet as set
use Rattle.std.proofs.lemmas.Bool.{ltb-true, true≢false, false≢true}
use Rattle.std.proofs.lemmas.Cmp.{nat_cmp_total, nat_list_cmp_total}
use Rattle.std.proofs.lemmas.Map.Lookups.{exact_unsigned, exact_bytes}
use Rattle.std.proofs.lemmas.List.Elements.{Contains-append_left, Contains-append_right}
use Rattle.pws_base.proofs.Maps.{put_cases, put_here, put_other, remove_cases, retain_cases}
use Rattle.pws_base.proofs.Members.{nowhere, here, there, first_or_rest}
use Rattle.pws_event.specs.declared.events.Event.{Event}
use Rattle.pws_event.specs.Events.{digest_of}
use Rattle.pws_event.specs.Counters.{Counters}
use Rattle.pws_msg.specs.declared.changes.Choice.{Choice}
use Rattle.pws_msg.specs.declared.changes.NewView.{NewView}
use Rattle.pws_msg.specs.declared.changes.ViewChange.{ViewChange}
use Rattle.pws_msg.specs.declared.contents.Content.TheVariants as content
use Rattle.pws_msg.specs.Contents.{content_digest_of}
use Rattle.pws_change.specs.Choices.{null_digest}
use Rattle.pws_change.specs.Valid.{IsValid}
use Rattle.pws_votes.specs.declared.kinds.VoteKind.{VoteKind}
use Rattle.pws_votes.specs.declared.kinds.VoteKind.TheVariants as kind
use Rattle.pws_votes.specs.Votes.{Book, Key, key, number_of, after_vote}
use Rattle.pws_votes.proofs.VoteLemmas.{vote_cases, votes_after_the_view, votes_above_the_mark}
use Rattle.pws_safety.specs.Statement.{Statement, PrePrepare, Prepare, Commit, Ack}
use Rattle.pws_safety.specs.Statement as say
use Rattle.pws_safety.specs.Statements.{Group, Sent, Told, size, primary}
use Rattle.pws_safety.specs.Voters.{IsHeard}
use Rattle.pws_safety.specs.Runs.{said_by}
use Rattle.pws_safety.proofs.Next.{said_has}
use Rattle.pws_protocol.specs.Keys.{replica}
use Rattle.pws_protocol.specs.States.{State, Slot, HeldChange, new_slot}
use Rattle.pws_protocol.specs.Gathered.{acks_of}
use Rattle.pws_protocol.specs.Actions.{Action, next_action, next_place}
use Rattle.pws_protocol.specs.Actions as act
use Rattle.pws_protocol.specs.Doing.{Reaction, voted, accepted, noted, left_view, own_change, with_change, did_move, did_need, taken, entered, with_offer, prepare_out, with_slot, executed, did_execute, did_stable, did}
use Rattle.pws_refine.specs.Cores.{statements_in}
use Rattle.pws_refine.specs.Contexts.{Context, IsLawful, IsOf, IsInRun}
use Rattle.pws_refine.specs.Links.{TextLinks, Links}
use Rattle.pws_refine.specs.Ready.{IsReady}
use Rattle.pws_refine.proofs.Done.{books, texts_with, moved_to, acked, offered, entered_by, proposed, accepting, preparing, lowered, move_is, ack_is, need_is, offer_is, enter_is, propose_is, accept_is, prepare_is, checkpoint_is, execute_is, commit_is, stable_is}
use Rattle.pws_refine.proofs.Enabled.{Enabled, enabled}
use Rattle.pws_refine.proofs.Enabled as on
use Rattle.pws_refine.proofs.Offering.{offer_of, counted_heard, offered_is}
use Rattle.pws_refine.proofs.Offering as offering
use Rattle.pws_refine.proofs.Places.{index_is, own_primary, has_others}
use Rattle.pws_refine.proofs.Reported.{own_change_is_valid}
use Rattle.pws_refine.proofs.Steps.{offer_says}
use Rattle.pws_refine.proofs.Tests.{join_later, next_later, ack_tells, enter_tells, propose_tells, accept_tells, prepare_tells, commit_tells, stable_tells}

told_more : (g : Group) (more sent : Sent) (k : ℕ) (x : Statement) → Told g sent k x → Told g (more ++ sent) k x
told_more g more sent k x (inl b) = inl b
told_more g more sent k x (inr m) = inr (Contains-append_right more sent (k, x) m)

heard_more : (g : Group) (more sent : Sent) (v j : ℕ) (x : ViewChange) → IsHeard g sent v j x → IsHeard g (more ++ sent) v j x
heard_more g more sent v j x i = record { replica = i.replica; told = told_more g more sent j (say.ViewChange x) i.told; in_view = i.in_view; valid = i.valid; occurs = i.occurs }

-- all links stand as more is sent
pub links_more : (c : Context) (more sent : Sent) (s : State) → Links c sent s → Links c (more ++ sent) s
links_more c more sent s l =
    let t = told_more c.group more sent in
    record {
      heard = λ j x e. let y = l.heard j x e in (heard_more c.group more sent x.change.view j x.change y.0, y.1);
      own = l.own;
      acks = λ i j row d e k. let x = l.acks i j row d e k in (x.0, x.1, t i (Ack s.view j d) x.2);
      new_view = λ v e. let x = l.new_view v e in (x.0, t (primary c.group s.view) (say.NewView v) x.1, x.2);
      relayed = λ j r e. let x = l.relayed j r e in (x.0, x.1, x.2, x.3, x.4, λ v. t j (say.ViewChange r.change) (x.5 v));
      pending = λ p e k. let x = l.pending p e k in (x.0, x.1, x.2, x.3, x.4, x.5, t (primary c.group s.view) (PrePrepare s.view p (digest_of e)) x.6, x.7);
      prepares = λ p k d e. let x = l.prepares p k d e in (x.0, t k (Prepare s.view p d) x.1);
      commits = λ p k d e. t k (Commit s.view p d) (l.commits p k d e);
      checkpoints = l.checkpoints;
      dones = l.dones;
      evidence = l.evidence;
      texts = l.texts;
    }

-- it said what stands first
said_now : (c : Context) (sent : Sent) (x : Statement) → Told c.group ((c.me.index, x) ∷ sent) c.me.index x
said_now c sent x = inr (here (c.me.index, x) sent)

pub kinds_differ : (a b : VoteKind) (p q k i : ℕ) → key a p k ≡ key b q i → number_of a ≡ number_of b
kinds_differ a b p q k i e = ap (λ (x : Key). number_of x.kind) e

pub none_some : {A : Type 0} (o : Option A) (x : A) → o ≡ None → o ≡ Some x → ⊥
none_some o x e h = let i : ◌≡◌ {A = Option _} None (Some x) = sym e ∙ h in cc

-- a text more
text_links : (texts : FinMap (slice_cmp nat_cmp) Event) (e : Event) → TextLinks texts → TextLinks (texts_with texts e)
text_links texts e l = go (bytes_eq (digest_of e) null_digest)
  where
    go : (b : Bool) → TextLinks (cond b texts (insert texts (digest_of e) e))
    go true d x k = l d x k
    go false d x k = elim (put_cases nat_list_cmp_total exact_bytes texts (digest_of e) d e x k) [ inl y ↦ ap digest_of (sym y.1) ∙ sym y.0 | inr y ↦ l d x y ]

module _ (c : Context) (sent : Sent) (s : State) (law : IsLawful c) (is : IsOf c s) (l : Links c sent s) where
  abbrev now : Statement → Sent
  now x = (c.me.index, x) ∷ sent

  more : (x : Statement) → Links c (now x) s
  more x = links_more c ((c.me.index, x) ∷ []) sent s l

  -- the voter's own vote, whose place and digest are given by a key
  own_vote : (f : ℕ → List ℕ → Statement) (p q k : ℕ) (d e : List ℕ) → k ≡ s.me.index → q ≡ p → d ≡ e → Told c.group (now (f p d)) k (f q e)
  own_vote f p q k d e voter place digest =
      subst (λ y. Told c.group (now (f p d)) y (f q e)) (sym (voter ∙ index_is c s law is))
      (subst (λ y. Told c.group (now (f p d)) c.me.index (f y e)) (sym place)
      (subst (λ y. Told c.group (now (f p d)) c.me.index (f p y)) digest (said_now c sent (f p d))))

  accept_links : (p : ℕ) (e : Event) → get s.pending p ≡ Some e → Links c (now (Prepare s.view p (digest_of e))) (accepting s p e)
  unfolding accepted voted
  accept_links p e at =
      let m = more (Prepare s.view p (digest_of e)) in
      let mine = l.pending p e at in
      record {
        heard = m.heard;
        own = m.own;
        acks = m.acks;
        new_view = m.new_view;
        relayed = m.relayed;
        pending = λ q x k.
            let r = remove_cases nat_cmp_total s.pending p q x k in
            let o = m.pending q x r.0 in
            (o.0, o.1, o.2, o.3, o.4, put_other nat_cmp_total exact_unsigned s.slots p q (new_slot (digest_of e)) r.1 ∙ o.5, o.6, o.7);
        prepares = λ q k d v.
            elim (vote_cases s.book (key kind.Prepare p s.me.index) (key kind.Prepare q k) (digest_of e) d v) [
              | inl x ↦
                  let voter : k ≡ s.me.index = ap (λ (y : Key). y.voter) x.0 in (
                    λ y. mine.1 (sym (index_is c s law is) ∙ (sym voter ∙ y)),
                    own_vote (Prepare s.view) p q k (digest_of e) d voter (ap (λ (y : Key). y.place) x.0) x.1,
                  )
              | inr x ↦ m.prepares q k d x
            ];
        commits = λ q k d v.
            elim (vote_cases s.book (key kind.Prepare p s.me.index) (key kind.Commit q k) (digest_of e) d v) [
              | inl x ↦ absurd (let n = kinds_differ kind.Commit kind.Prepare q p k s.me.index x.0 in omega (arith, n))
              | inr x ↦ m.commits q k d x
            ];
        checkpoints = λ q k d v.
            elim (vote_cases s.book (key kind.Prepare p s.me.index) (key kind.Checkpoint q k) (digest_of e) d v) [
              | inl x ↦ absurd (let n = kinds_differ kind.Checkpoint kind.Prepare q p k s.me.index x.0 in omega (arith, n))
              | inr x ↦ m.checkpoints q k d x
            ];
        dones = m.dones;
        evidence = m.evidence;
        texts = text_links s.texts e m.texts;
      }

  prepare_links : (p : ℕ) (t : Slot) → get s.slots p ≡ Some t → Links c (now (Commit s.view p t.digest)) (preparing s p t)
  unfolding with_slot voted
  prepare_links p t at =
      let m = more (Commit s.view p t.digest) in
      record {
        heard = m.heard;
        own = m.own;
        acks = m.acks;
        new_view = m.new_view;
        relayed = m.relayed;
        pending = λ q x k.
            let o = m.pending q x k in
            let other : q ≡ p → ⊥ = λ y. none_some (get s.slots p) t (subst (λ z. get s.slots z ≡ None) y o.5) at in
            (o.0, o.1, o.2, o.3, o.4, put_other nat_cmp_total exact_unsigned s.slots p q (record t { is_prepared = true }) other ∙ o.5, o.6, o.7);
        prepares = λ q k d v.
            elim (vote_cases s.book (key kind.Commit p s.me.index) (key kind.Prepare q k) t.digest d v) [
              | inl x ↦ absurd (let n = kinds_differ kind.Prepare kind.Commit q p k s.me.index x.0 in omega (arith, n))
              | inr x ↦ m.prepares q k d x
            ];
        commits = λ q k d v.
            elim (vote_cases s.book (key kind.Commit p s.me.index) (key kind.Commit q k) t.digest d v) [
              | inl x ↦ own_vote (Commit s.view) p q k t.digest d (ap (λ (y : Key). y.voter) x.0) (ap (λ (y : Key). y.place) x.0) x.1
              | inr x ↦ m.commits q k d x
            ];
        checkpoints = λ q k d v.
            elim (vote_cases s.book (key kind.Commit p s.me.index) (key kind.Checkpoint q k) t.digest d v) [
              | inl x ↦ absurd (let n = kinds_differ kind.Checkpoint kind.Commit q p k s.me.index x.0 in omega (arith, n))
              | inr x ↦ m.checkpoints q k d x
            ];
        dones = m.dones;
        evidence = m.evidence;
        texts = m.texts;
      }

  commit_links : (p : ℕ) (t : Slot) → get s.slots p ≡ Some t → Links c sent (with_slot s p (record t { is_committed = true }))
  unfolding with_slot
  commit_links p t at = record {
    heard = l.heard;
    own = l.own;
    acks = l.acks;
    new_view = l.new_view;
    relayed = l.relayed;
    pending = λ q x k.
        let o = l.pending q x k in
        let other : q ≡ p → ⊥ = λ y. none_some (get s.slots p) t (subst (λ z. get s.slots z ≡ None) y o.5) at in
        (o.0, o.1, o.2, o.3, o.4, put_other nat_cmp_total exact_unsigned s.slots p q (record t { is_committed = true }) other ∙ o.5, o.6, o.7);
    prepares = l.prepares;
    commits = l.commits;
    checkpoints = l.checkpoints;
    dones = l.dones;
    evidence = l.evidence;
    texts = l.texts;
  }

  -- moving
  abbrev own_report : ℕ → ViewChange
  own_report w = own_change (left_view (noted s) w)

  abbrev own_held : ℕ → HeldChange
  own_held w = record { digest = content_digest_of (content.ViewChange (own_report w)); change = own_report w; tags = [] }

  report_view : (w : ℕ) → (own_report w).view ≡ w
  unfolding own_change left_view noted
  report_view w = refl

  report_heard : (w : ℕ) → c.group.occurs (own_report w) ≡ true → IsValid (own_report w) → IsHeard c.group (now (say.ViewChange (own_report w))) (own_report w).view c.me.index (own_report w)
  report_heard w occurs valid = record { replica = law.member; told = said_now c sent (say.ViewChange (own_report w)); in_view = refl; valid = valid; occurs = occurs }

  move_links : (w : ℕ) → c.group.occurs (own_report w) ≡ true → IsValid (own_report w) → Links c (now (say.ViewChange (own_report w))) (moved_to s w)
  unfolding with_change left_view noted
  move_links w occurs valid =
      let x = own_report w in
      let m = more (say.ViewChange x) in
      let here' = report_heard w occurs valid in
      record {
        heard = λ j y k.
            elim (put_cases nat_cmp_total exact_unsigned s.heard s.me.index j (own_held w) y k) [
              | inl z ↦
                  let at : j ≡ c.me.index = z.0 ∙ index_is c s law is in
                  subst (λ (u : HeldChange). IsHeard c.group (now (say.ViewChange x)) u.change.view j u.change × (c.group.digest_of u.change ≡ u.digest)) z.1
                  (subst (λ i. IsHeard c.group (now (say.ViewChange x)) x.view i x) (sym at) here', law.digests x)
              | inr z ↦ m.heard j y z
            ];
        own = λ v. (own_held w, subst (λ i. get (insert s.heard i (own_held w)) c.me.index ≡ Some (own_held w)) (sym (index_is c s law is)) (put_here nat_cmp_total s.heard c.me.index (own_held w)), report_view w);
        acks = λ i j row d e k. absurd (none_some (get empty i) row (get-empty nat_cmp i) e);
        new_view = λ v k. absurd (none_some None v refl k);
        relayed = λ j r k. absurd (none_some (get empty j) r (get-empty nat_cmp j) k);
        pending = λ p e k. absurd (none_some (get empty p) e (get-empty nat_cmp p) k);
        prepares = λ p k d v. absurd (false≢true ((votes_after_the_view s.book (key kind.Prepare p k) d).0 v).0);
        commits = λ p k d v. absurd (false≢true ((votes_after_the_view s.book (key kind.Commit p k) d).0 v).0);
        checkpoints = λ p k d v. m.checkpoints p k d ((votes_after_the_view s.book (key kind.Checkpoint p k) d).0 v).1;
        dones = m.dones;
        evidence = m.evidence;
        texts = m.texts;
      }

  -- the low mark rises, to a place that was executed
  stable_links : (p : ℕ) → s.low < p → p ≤ s.done → Links c sent (lowered s p)
  unfolding did_stable
  stable_links p low done = record {
    heard = l.heard;
    own = l.own;
    acks = l.acks;
    new_view = l.new_view;
    relayed = l.relayed;
    pending = λ q e k.
        let r = retain_cases exact_unsigned s.pending (λ place. nat_lt p place) q e k in
        let o = l.pending q e r.1 in
        (o.0, o.1, o.2, ltb-true p q r.0, omega (arith, low, o.4), dropped q o.5, o.6, o.7);
    prepares = λ q k d v. l.prepares q k d ((votes_above_the_mark s.book p (key kind.Prepare q k) d).0 v).1;
    commits = λ q k d v. l.commits q k d ((votes_above_the_mark s.book p (key kind.Commit q k) d).0 v).1;
    checkpoints = λ q k d v. l.checkpoints q k d ((votes_above_the_mark s.book p (key kind.Checkpoint q k) d).0 v).1;
    dones = λ k e v. let x = l.dones k e v in let y = x.1 in (x.0, omega (arith, low, y));
    evidence = l.evidence;
    texts = l.texts;
  }
    where
      none_by : (b : Bool) (o : Option Slot) → o ≡ None → cond b o None ≡ None
      none_by true o e = e
      none_by false o e = refl

      dropped : (q : ℕ) → get s.slots q ≡ None → get (retain_keys s.slots (λ place. nat_lt p place)) q ≡ None
      dropped q e = get-retain_keys s.slots (λ place. nat_lt p place) q (λ x y. ap (nat_lt p) (sym (exact_unsigned q x y))) ∙ none_by (nat_lt p q) (get s.slots q) e

-- an acknowledgment more
pub ack_put : (s : State) (i j : ℕ) (new : List ℕ) (q k : ℕ) (row : FinMap nat_cmp (List ℕ)) (d : List ℕ) → get (insert s.acks i (insert (acks_of s i) j new)) q ≡ Some row → get row k ≡ Some d
    → ((q ≡ i) × (k ≡ j) × (new ≡ d)) ⊎ ((old : FinMap nat_cmp (List ℕ)) × (get s.acks q ≡ Some old) × (get old k ≡ Some d))
ack_put s i j new q k row d at e =
    elim (put_cases nat_cmp_total exact_unsigned s.acks i q (insert (acks_of s i) j new) row at) [
      | inl x ↦
          let e' : get (insert (acks_of s i) j new) k ≡ Some d = subst (λ (r : FinMap nat_cmp (List ℕ)). get r k ≡ Some d) (sym x.1) e in
          elim (put_cases nat_cmp_total exact_unsigned (acks_of s i) j k new d e') [
            | inl y ↦ inl (x.0, y.0, y.1)
            | inr y ↦ inr (subst (λ n. (old : FinMap nat_cmp (List ℕ)) × (get s.acks n ≡ Some old) × (get old k ≡ Some d)) (sym x.0) (row_of (get s.acks i) refl y))
          ]
      | inr x ↦ inr (row, x, e)
    ]
  where
    row_of : (o : Option (FinMap nat_cmp (List ℕ))) → get s.acks i ≡ o → get (option_map_or (λ r. r) o empty) k ≡ Some d → (old : FinMap nat_cmp (List ℕ)) × (get s.acks i ≡ Some old) × (get old k ≡ Some d)
    row_of None h f = absurd (none_some (get empty k) d (get-empty nat_cmp k) f)
    row_of (Some r) h f = (r, h, f)

-- a backup's votes for what it accepts as it enters
book_cases : (me : ℕ) (xs : List (ℕ × List ℕ)) (b : Book) (q : Key) (e : List ℕ) → get (books me b xs).votes q ≡ Some e → ((x : ℕ × List ℕ) × Contains xs x × (q ≡ key kind.Prepare x.0 me) × (x.1 ≡ e)) ⊎ (get b.votes q ≡ Some e)
book_cases me [] b q e h = inr h
book_cases me (x ∷ xs) b q e h =
    elim (book_cases me xs (after_vote b (key kind.Prepare x.0 me) x.1) q e h) [
      | inl y ↦ inl (y.0, there x y.0 xs y.1, y.2, y.3)
      | inr y ↦ elim (vote_cases b (key kind.Prepare x.0 me) q x.1 e y) [ inl z ↦ inl (x, here x xs, z.0, z.1) | inr z ↦ inr z ]
    ]

says_prepare : (view : ℕ) (xs : List (ℕ × List ℕ)) (x : ℕ × List ℕ) → Contains xs x → Contains (statements_in (map (prepare_out view) xs)) (Prepare view x.0 x.1)
says_prepare view [] x m = absurd (nowhere x m)
says_prepare view (y ∷ xs) x m =
    elim (first_or_rest y x xs m) [
      | inl e ↦ subst (λ (z : ℕ × List ℕ). Contains (statements_in (map (prepare_out view) (y ∷ xs))) (Prepare view z.0 z.1)) e (here (Prepare view y.0 y.1) (statements_in (map (prepare_out view) xs)))
      | inr r ↦ there (Prepare view y.0 y.1) (Prepare view x.0 x.1) (statements_in (map (prepare_out view) xs)) (says_prepare view xs x r)
    ]

module _ (c : Context) (sent : Sent) (s : State) (law : IsLawful c) (is : IsOf c s) (l : Links c sent s) where
  with_one : (x : Statement) → Links c ((c.me.index, x) ∷ sent) s
  with_one x = links_more c ((c.me.index, x) ∷ []) sent s l

  ack_links : (j : ℕ) (d : List ℕ) → (j ≡ s.me.index → ⊥) → Links c ((c.me.index, Ack s.view j d) ∷ sent) (acked s j d)
  ack_links j d other =
      let m = with_one (Ack s.view j d) in
      let new : Sent = (c.me.index, Ack s.view j d) ∷ sent in
      record {
        heard = m.heard;
        own = m.own;
        acks = λ i k row e at v.
            elim (ack_put s s.me.index j d i k row e at v) [
              | inl x ↦ (
                λ y. other (sym x.1 ∙ (sym y ∙ x.0)),
                subst (λ y. y < size c.group) (sym (x.0 ∙ index_is c s law is)) law.member,
                subst (λ y. Told c.group new y (Ack s.view k e)) (sym (x.0 ∙ index_is c s law is))
                    (subst (λ y. Told c.group new c.me.index (Ack s.view y e)) (sym x.1)
                    (subst (λ y. Told c.group new c.me.index (Ack s.view j y)) x.2 (said_now c sent (Ack s.view j d)))),
              )
              | inr x ↦ m.acks i k x.0 e x.1 x.2
            ];
        new_view = m.new_view;
        relayed = m.relayed;
        pending = m.pending;
        prepares = m.prepares;
        commits = m.commits;
        checkpoints = m.checkpoints;
        dones = m.dones;
        evidence = m.evidence;
        texts = m.texts;
      }

  enter_links : (v : NewView) → s.active ≡ false → s.new_view ≡ Some v → Links c (said_by c.me.index (statements_in (map (prepare_out s.view) (taken s v.choice))) ++ sent) (entered_by s v)
  unfolding entered
  enter_links v idle at =
      let says = statements_in (map (prepare_out s.view) (taken s v.choice)) in
      let more = said_by c.me.index says in
      let m = links_more c more sent s l in
      let other = (l.new_view v at).2 idle in
      record {
        heard = m.heard;
        own = m.own;
        acks = m.acks;
        new_view = λ w k. let x = m.new_view w k in (x.0, x.1, λ y. absurd (true≢false y));
        relayed = m.relayed;
        pending = λ p e k. absurd (true≢false (sym ((m.pending p e k).0) ∙ idle));
        prepares = λ p k d w.
            elim (book_cases s.me.index (taken s v.choice) s.book (key kind.Prepare p k) d w) [
              | inl x ↦
                  let place : p ≡ x.0.0 = ap (λ (y : Key). y.place) x.2 in
                  let voter : k ≡ c.me.index = ap (λ (y : Key). y.voter) x.2 ∙ index_is c s law is in
                  let told : Told c.group (more ++ sent) c.me.index (Prepare s.view x.0.0 x.0.1) = inr (Contains-append_left more sent (c.me.index, Prepare s.view x.0.0 x.0.1) (said_has c.me.index says (Prepare s.view x.0.0 x.0.1) (says_prepare s.view (taken s v.choice) x.0 x.1))) in (
                    λ y. other (sym voter ∙ y),
                    subst (λ y. Told c.group (more ++ sent) y (Prepare s.view p d)) (sym voter)
                        (subst (λ y. Told c.group (more ++ sent) c.me.index (Prepare s.view y d)) (sym place)
                        (subst (λ y. Told c.group (more ++ sent) c.me.index (Prepare s.view x.0.0 y)) x.3 told)),
                  )
              | inr x ↦ m.prepares p k d x
            ];
        commits = λ p k d w.
            elim (book_cases s.me.index (taken s v.choice) s.book (key kind.Commit p k) d w) [
              | inl x ↦ absurd (let n = kinds_differ kind.Commit kind.Prepare p x.0.0 k s.me.index x.2 in omega (arith, n))
              | inr x ↦ m.commits p k d x
            ];
        checkpoints = λ p k d w.
            elim (book_cases s.me.index (taken s v.choice) s.book (key kind.Checkpoint p k) d w) [
              | inl x ↦ absurd (let n = kinds_differ kind.Checkpoint kind.Prepare p x.0.0 k s.me.index x.2 in omega (arith, n))
              | inr x ↦ m.checkpoints p k d x
            ];
        dones = m.dones;
        evidence = m.evidence;
        texts = m.texts;
      }

  propose_links : (e : Event) (x : Statement) → c.me.index ≡ primary c.group s.view → Links c ((c.me.index, x) ∷ sent) (proposed s e)
  unfolding accepted
  propose_links e x lead =
      let m = with_one x in
      record {
        heard = m.heard;
        own = m.own;
        acks = m.acks;
        new_view = m.new_view;
        relayed = m.relayed;
        pending = λ q y k. absurd ((m.pending q y (remove_cases nat_cmp_total s.pending (next_place s) q y k).0).1 lead);
        prepares = m.prepares;
        commits = m.commits;
        checkpoints = m.checkpoints;
        dones = m.dones;
        evidence = m.evidence;
        texts = text_links s.texts e m.texts;
      }

  offer_links : (v : Choice) → s.active ≡ false → c.me.index ≡ primary c.group s.view → Links c ((c.me.index, say.NewView (offer_of s v)) ∷ sent) (offered s v)
  unfolding entered with_offer
  offer_links v idle lead =
      let x = say.NewView (offer_of s v) in
      let new : Sent = (c.me.index, x) ∷ sent in
      let m = with_one x in
      record {
        heard = m.heard;
        own = m.own;
        acks = m.acks;
        new_view = λ w k.
            let same : offer_of s v ≡ w = let i : ◌≡◌ {A = Option NewView} (Some (offer_of s v)) (Some w) = k in cc in
            let told : Told c.group new (primary c.group s.view) x = subst (λ i. Told c.group new i x) lead (said_now c sent x) in
            (ap (λ (y : NewView). y.view) (sym same), subst (λ y. Told c.group new (primary c.group s.view) (say.NewView y)) same told, λ y. absurd (true≢false y));
        relayed = λ j r k.
            let o = offered_is s v j r k in
            let y = counted_heard c new s law is m o.0 o.1 in
            let i = y.1 in (
              subst (λ n. n < size c.group) o.2 i.replica,
              subst (λ (z : ViewChange). z.view ≡ s.view) o.3 i.in_view,
              subst IsValid o.3 i.valid,
              subst (λ z. c.group.occurs z ≡ true) o.3 i.occurs,
              subst (λ z. c.group.digest_of z ≡ r.digest) o.3 (y.0 ∙ o.4),
              λ _. subst (λ n. Told c.group new n (say.ViewChange r.change)) o.2 (subst (λ z. Told c.group new o.0.index (say.ViewChange z)) o.3 i.told),
            );
        pending = λ p e k. absurd (true≢false (sym ((m.pending p e k).0) ∙ idle));
        prepares = m.prepares;
        commits = m.commits;
        checkpoints = m.checkpoints;
        dones = m.dones;
        evidence = m.evidence;
        texts = m.texts;
      }

  execute_links : (e : Event) → Links c sent (executed s e)
  unfolding executed
  execute_links e = record {
    heard = l.heard;
    own = l.own;
    acks = l.acks;
    new_view = l.new_view;
    relayed = l.relayed;
    pending = l.pending;
    prepares = l.prepares;
    commits = l.commits;
    checkpoints = l.checkpoints;
    dones = λ k x v. absurd (none_some (get empty k) x (get-empty nat_cmp k) v);
    evidence = l.evidence;
    texts = l.texts;
  }

  abbrev IsSaid : ℕ → ℕ → List ℕ → Type 0
  IsSaid k p d = c.speaks (replica c.me.group k) (content.Checkpoint (record { place = p; digest = d })) ≡ true

  checkpoint_links : IsSaid c.me.index s.done s.chain → Links c sent (voted s kind.Checkpoint s.done s.chain)
  unfolding voted
  checkpoint_links spoken = record {
    heard = l.heard;
    own = l.own;
    acks = l.acks;
    new_view = l.new_view;
    relayed = l.relayed;
    pending = l.pending;
    prepares = λ q k d v.
        elim (vote_cases s.book (key kind.Checkpoint s.done s.me.index) (key kind.Prepare q k) s.chain d v) [
          | inl x ↦ absurd (let n = kinds_differ kind.Prepare kind.Checkpoint q s.done k s.me.index x.0 in omega (arith, n))
          | inr x ↦ l.prepares q k d x
        ];
    commits = λ q k d v.
        elim (vote_cases s.book (key kind.Checkpoint s.done s.me.index) (key kind.Commit q k) s.chain d v) [
          | inl x ↦ absurd (let n = kinds_differ kind.Commit kind.Checkpoint q s.done k s.me.index x.0 in omega (arith, n))
          | inr x ↦ l.commits q k d x
        ];
    checkpoints = λ q k d v.
        elim (vote_cases s.book (key kind.Checkpoint s.done s.me.index) (key kind.Checkpoint q k) s.chain d v) [
          | inl x ↦
              subst (λ y. IsSaid y q d) (sym (ap (λ (y : Key). y.voter) x.0 ∙ index_is c s law is))
              (subst (λ y. IsSaid c.me.index y d) (sym (ap (λ (y : Key). y.place) x.0)) (subst (λ y. IsSaid c.me.index s.done y) x.1 spoken))
          | inr x ↦ l.checkpoints q k d x
        ];
    dones = l.dones;
    evidence = l.evidence;
    texts = l.texts;
  }

  need_links : (digest : List ℕ) → Links c sent (record s { needed = set.insert s.needed digest })
  need_links digest = record { heard = l.heard; own = l.own; acks = l.acks; new_view = l.new_view; relayed = l.relayed; pending = l.pending; prepares = l.prepares; commits = l.commits; checkpoints = l.checkpoints; dones = l.dones; evidence = l.evidence; texts = l.texts }

module _ (c : Context) (sent : Sent) (s : State) (law : IsLawful c) (is : IsOf c s) (ready : IsReady s) (l : Links c sent s) where
  abbrev Kept : Reaction → Type 0
  Kept r = Links c (said_by c.me.index (statements_in r.outs) ++ sent) r.state

  -- a reaction that is given by another name
  named : (r u : Reaction) → r ≡ u → Kept u → Kept r
  named r u e k = subst Kept (sym e) k

  moves : (w : ℕ) → s.view < w → IsInRun c (did_move s w).outs → Kept (did_move s w)
  moves w later b =
      let apart = has_others c s law is in
      let e = move_is s apart w in
      let occurs = (subst (λ (r : Reaction). IsInRun c r.outs) e b (content.ViewChange (own_change (left_view (noted s) w))) [] (here _ [])).1 in
      named (did_move s w) _ e (move_links c sent s law is l w occurs (own_change_is_valid s w ready later))

  needs : (digest : List ℕ) → Kept (did_need s digest)
  needs digest = named (did_need s digest) _ (need_is s (has_others c s law is) digest) (need_links c sent s law is l digest)

  executes : (e : Event) → Kept (did_execute s e)
  executes e = named (did_execute s e) _ (execute_is s e) (execute_links c sent s law is l e)

  keeps : (asked : Counters) (a : Action) → Enabled s asked a → IsInRun c (did s a).outs → Kept (did s a)
  unfolding did
  keeps asked a (on.join w e) b = moves w (join_later s w e) b
  keeps asked a (on.refuse e) b = moves (s.view + 1) (next_later s.view) b
  keeps asked a (on.impatience e) b = moves (s.view + 1) (next_later s.view) b
  keeps asked a (on.ack j e) b = let x = ack_tells s j e in named (did s (act.Ack j)) _ (ack_is s (has_others c s law is) j x.1.0 x.1.1) (ack_links c sent s law is l j x.1.0.digest x.1.3)
  keeps asked a (on.need_chosen d) b = needs d
  keeps asked a (on.need_text d) b = needs d
  keeps asked a (on.offer v e) b =
      let x = offering.offer_is s v e in
      named (did s (act.Offer v)) _ (offer_is s (has_others c s law is) v)
      (subst (λ xs. Links c (said_by c.me.index xs ++ sent) (offered s v)) (sym (offer_says s v)) (offer_links c sent s law is l v x.0 (own_primary c s law is x.1)))
  keeps asked a (on.enter v e) b = let x = enter_tells s v e in named (did s (act.Enter v)) _ (enter_is s (has_others c s law is) v) (enter_links c sent s law is l v x.0 x.1)
  keeps asked a (on.propose e k) b =
      let x = propose_tells s asked e k in
      named (did s (act.Propose e)) _ (propose_is s (has_others c s law is) e) (propose_links c sent s law is l e _ (own_primary c s law is x.1))
  keeps asked a (on.accept p e) b = let x = accept_tells s p e in named (did s (act.Accept p)) _ (accept_is s (has_others c s law is) p x.1.0 x.1.1) (accept_links c sent s law is l p x.1.0 x.1.1)
  keeps asked a (on.prepare p e) b = let x = prepare_tells s p e in named (did s (act.Prepare p)) _ (prepare_is s (has_others c s law is) p x.1.0 x.1.1) (prepare_links c sent s law is l p x.1.0 x.1.1)
  keeps asked a (on.execute e h) b = executes e
  keeps asked a (on.adopt e h) b = executes e
  keeps asked a (on.commit p e) b = let x = commit_tells s p e in named (did s (act.Commit p)) _ (commit_is s p x.1.0 x.1.1) (commit_links c sent s law is l p x.1.0 x.1.1)
  keeps asked a (on.checkpoint e) b =
      let e = checkpoint_is s (has_others c s law is) in
      let spoken = (subst (λ (r : Reaction). IsInRun c r.outs) e b (content.Checkpoint (record { place = s.done; digest = s.chain })) [] (here _ [])).0 in
      named (did s act.Checkpoint) _ e (checkpoint_links c sent s law is l spoken)
  keeps asked a (on.stable p e) b = let x = stable_tells s p e in named (did s (act.Stable p)) _ (stable_is s p) (stable_links c sent s law is l p x.0 x.1)

pub links_kept : (c : Context) (sent : Sent) (s : State) (asked : Counters) (a : Action) → IsLawful c → IsOf c s → IsReady s → Links c sent s → next_action s asked ≡ Some a → IsInRun c (did s a).outs
    → Links c (said_by c.me.index (statements_in (did s a).outs) ++ sent) (did s a).state
links_kept c sent s asked a law is ready l h b = keeps c sent s law is ready l asked a (enabled s asked a h) b
