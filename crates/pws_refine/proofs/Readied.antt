-- Each action leaves the voter ready, and the same.
use Rattle.std.proofs.Common.{◌≡◌, inl, inr, ℕ, ◌+◌, ◌%◌, ◌<◌, ◌≤◌, Bool, true, false, cond, List, [], ◌∷◌, Option, Some, None, refl, sym, ◌∙◌, ap, subst, arith, nat_lt, nat_le, ◌==◌}
use Rattle.std.specs.Option.{option_map_or}
use Rattle.std.specs.Ordering.{nat_cmp}
use Rattle.std.specs.FinMap.{FinMap, get, insert, empty, get-empty}
use Rattle.std.specs.FinSet as set
use Rattle.std.proofs.lemmas.Bool.{true≢false, eqb-true, ltb-true, leb-true, le-leb}
use Rattle.std.proofs.lemmas.Cmp.{nat_cmp_total}
use Rattle.std.proofs.lemmas.Map.Lookups.{exact_unsigned}
use Rattle.pws_base.proofs.Maps.{put_cases, put_other, retain_cases, retain_kept}
use Rattle.pws_event.specs.declared.events.Event.{Event}
use Rattle.pws_event.specs.Events.{digest_of}
use Rattle.pws_event.specs.Counters.{Counters}
use Rattle.pws_msg.specs.declared.changes.Choice.{Choice}
use Rattle.pws_msg.specs.declared.changes.NewView.{NewView}
use Rattle.pws_votes.specs.declared.kinds.Vote.{Vote}
use Rattle.pws_votes.specs.declared.kinds.Vote.TheVariants.{Kept, Outside, Already}
use Rattle.pws_votes.specs.declared.kinds.VoteKind.TheVariants as kind
use Rattle.pws_votes.specs.Votes.{Book, Key, key, answer_to, after_answer, after_vote}
use Rattle.pws_safety.specs.Statements.{Sent}
use Rattle.pws_protocol.specs.States.{State, Slot, window, new_slot}
use Rattle.pws_protocol.specs.Actions.{Action, next_action, next_place}
use Rattle.pws_protocol.specs.Actions as act
use Rattle.pws_protocol.specs.Doing.{Reaction, voted, accepted, noted, left_view, with_change, did_move, did_need, taken, slots_of, entered, with_offer, with_slot, next_chain, executed, did_execute, did_stable, did}
use Rattle.pws_refine.specs.Contexts.{Context, IsLawful, IsOf}
use Rattle.pws_refine.specs.Links.{Links}
use Rattle.pws_refine.specs.Ready.{IsInWindow, ChainsReady, IsReady}
use Rattle.pws_refine.specs.Laws.{ActionsKeep}
use Rattle.pws_refine.proofs.Done.{books, moved_to, acked, offered, entered_by, proposed, accepting, preparing, lowered, move_is, ack_is, need_is, offer_is, enter_is, propose_is, accept_is, prepare_is, checkpoint_is, execute_is, commit_is, stable_is}
use Rattle.pws_refine.proofs.Enabled.{Enabled, enabled}
use Rattle.pws_refine.proofs.Enabled as on
use Rattle.pws_refine.proofs.Entering.{slot_from, taken_in}
use Rattle.pws_refine.proofs.Linked.{links_kept}
use Rattle.pws_refine.proofs.Noting.{p_noted}
use Rattle.pws_refine.proofs.Places.{has_others}
use Rattle.pws_refine.proofs.Reported.{noted_ready, slot_in}
use Rattle.pws_refine.proofs.Tests.{join_later, next_later, ack_tells, propose_tells, accept_tells, prepare_tells, execute_tells, adopt_tells, commit_tells, stable_tells}

-- a vote leaves a book's number
answer_f : (v : Vote) (b : Book) (k : Key) (d : List ℕ) → (after_answer v b k d).f ≡ b.f
answer_f Kept b k d = refl
answer_f Outside b k d = refl
answer_f Already b k d = refl

pub vote_f : (b : Book) (k : Key) (d : List ℕ) → (after_vote b k d).f ≡ b.f
vote_f b k d = answer_f (answer_to b k) b k d

books_f : (me : ℕ) (xs : List (ℕ × List ℕ)) (b : Book) → (books me b xs).f ≡ b.f
books_f me [] b = refl
books_f me (x ∷ xs) b = books_f me xs (after_vote b (key kind.Prepare x.0 me) x.1) ∙ vote_f b (key kind.Prepare x.0 me) x.1

-- slots that are in the window, the committed ones prepared
abbrev SlotsReady : ℕ → FinMap nat_cmp Slot → Type 0
SlotsReady low slots = (p : ℕ) (t : Slot) → get slots p ≡ Some t → IsInWindow low p × (t.is_committed ≡ true → t.is_prepared ≡ true)

put_slot : (low : ℕ) (slots : FinMap nat_cmp Slot) (p : ℕ) (x : Slot) → SlotsReady low slots → IsInWindow low p → (x.is_committed ≡ true → x.is_prepared ≡ true) → SlotsReady low (insert slots p x)
put_slot low slots p x r within good q t h =
    elim (put_cases nat_cmp_total exact_unsigned slots p q x t h) [
      | inl y ↦ subst (λ n. IsInWindow low n × (t.is_committed ≡ true → t.is_prepared ≡ true)) (sym y.0) (within, subst (λ (z : Slot). z.is_committed ≡ true → z.is_prepared ≡ true) y.1 good)
      | inr y ↦ r q t y
    ]

taken_slots : (s : State) (c : Choice) → SlotsReady s.low (slots_of (taken s c))
taken_slots s c p t h =
    let x = slot_from (taken s c) p t h in
    (taken_in s c (p, x.0) x.1, λ k. absurd (true≢false (sym k ∙ ap (λ (y : Slot). y.is_committed) x.2)))

no_slots : (low : ℕ) → SlotsReady low empty
no_slots low p t h = absurd (let i : ◌≡◌ {A = Option Slot} None (Some t) = sym (get-empty nat_cmp p) ∙ h in cc)

-- chains with one more
chain_more : (low done : ℕ) (chains : FinMap nat_cmp (List ℕ)) (d : List ℕ) (b : Bool) → (b ≡ true → (done + 1) % 16 ≡ 0) → low ≤ done → ChainsReady low done chains → ChainsReady low (done + 1) (cond b (insert chains (done + 1) d) chains)
chain_more low done chains d false at l r = record {
  at_low = r.at_low;
  places = λ p e h. let x = r.places p e h in let to = x.1 in (x.0, omega (arith, to), x.2);
  first = r.first;
}
chain_more low done chains d true at l r = record {
  at_low = (r.at_low.0, put_other nat_cmp_total exact_unsigned chains (done + 1) low d (λ e. omega (arith, e, l)) ∙ r.at_low.1);
  places = λ p e h. elim (put_cases nat_cmp_total exact_unsigned chains (done + 1) p d e h) [
    | inl x ↦ subst (λ n. (low ≤ n) × (n ≤ done + 1) × (n % 16 ≡ 0)) (sym x.0) (omega (arith, l), omega arith, at refl)
    | inr x ↦ let y = r.places p e x in let to = y.1 in (y.0, omega (arith, to), y.2)
  ];
  first = λ e h. elim (put_cases nat_cmp_total exact_unsigned chains (done + 1) 0 d e h) [
    | inl x ↦ absurd (let z = x.0 in omega (arith, z))
    | inr x ↦ r.first e x
  ];
}

module _ (s : State) (r : IsReady s) where
  slots_ready : SlotsReady s.low s.slots
  slots_ready p t h = (r.slots p t h, r.committed p t h)

  move_ready : (w : ℕ) → s.view < w → IsReady (moved_to s w)
  unfolding with_change left_view noted
  move_ready w later = record {
    low = r.low;
    done = r.done;
    chains = r.chains;
    slots = λ p t h. (no_slots s.low p t h).0;
    committed = λ p t h. (no_slots s.low p t h).1;
    prepared = λ p d v h.
        elim (p_noted s.view s.slots (window s.low) p s.prepared) [
          | inl x ↦ let o = r.prepared p d v (sym x ∙ h) in let u = o.1 in (o.0, omega (arith, u, later))
          | inr x ↦
              let same : ◌≡◌ {A = Option (List ℕ × ℕ)} (Some (d, v)) (Some (x.0.digest, s.view)) = sym h ∙ x.3 in
              let u : v ≡ s.view = ap (λ (y : Option (List ℕ × ℕ)). option_map_or (λ z. z.1) y 0) same in
              (r.slots p x.0 x.1, omega (arith, u, later))
        ];
    pre_prepared = λ p row h.
        let o = noted_ready s.low s.view s.slots (window s.low) s.pre_prepared (slot_in s r) r.pre_prepared p row h in
        (o.0, (o.1.0, o.1.1, λ d v k. let u = o.1.2 d v k in omega (arith, u, later)));
    evidence = r.evidence;
  }

  accept_ready : (p : ℕ) (e : Event) → IsInWindow s.low p → IsReady (accepting s p e)
  unfolding accepted voted
  accept_ready p e within =
      let f = put_slot s.low s.slots p (new_slot (digest_of e)) slots_ready within (λ k. absurd (true≢false (sym k))) in
      record { low = r.low; done = r.done; chains = r.chains; slots = λ q t h. (f q t h).0; committed = λ q t h. (f q t h).1; prepared = r.prepared; pre_prepared = r.pre_prepared; evidence = r.evidence }

  propose_ready : (e : Event) → IsInWindow s.low (next_place s) → IsReady (proposed s e)
  unfolding accepted
  propose_ready e within =
      let f = put_slot s.low s.slots (next_place s) (new_slot (digest_of e)) slots_ready within (λ k. absurd (true≢false (sym k))) in
      record { low = r.low; done = r.done; chains = r.chains; slots = λ q t h. (f q t h).0; committed = λ q t h. (f q t h).1; prepared = r.prepared; pre_prepared = r.pre_prepared; evidence = r.evidence }

  prepare_ready : (p : ℕ) (t : Slot) → get s.slots p ≡ Some t → IsReady (preparing s p t)
  unfolding with_slot voted
  prepare_ready p t at =
      let f = put_slot s.low s.slots p (record t { is_prepared = true }) slots_ready (r.slots p t at) (λ k. refl) in
      record { low = r.low; done = r.done; chains = r.chains; slots = λ q t h. (f q t h).0; committed = λ q t h. (f q t h).1; prepared = r.prepared; pre_prepared = r.pre_prepared; evidence = r.evidence }

  commit_ready : (p : ℕ) (t : Slot) → get s.slots p ≡ Some t → t.is_prepared ≡ true → IsReady (with_slot s p (record t { is_committed = true }))
  unfolding with_slot
  commit_ready p t at is =
      let f = put_slot s.low s.slots p (record t { is_committed = true }) slots_ready (r.slots p t at) (λ k. is) in
      record { low = r.low; done = r.done; chains = r.chains; slots = λ q t h. (f q t h).0; committed = λ q t h. (f q t h).1; prepared = r.prepared; pre_prepared = r.pre_prepared; evidence = r.evidence }

  enter_ready : (v : NewView) → IsReady (entered_by s v)
  unfolding entered
  enter_ready v =
      let f = taken_slots s v.choice in
      record { low = r.low; done = r.done; chains = r.chains; slots = λ q t h. (f q t h).0; committed = λ q t h. (f q t h).1; prepared = r.prepared; pre_prepared = r.pre_prepared; evidence = r.evidence }

  offer_ready : (v : Choice) → IsReady (offered s v)
  unfolding entered with_offer taken
  offer_ready v =
      let f = taken_slots s v in
      record { low = r.low; done = r.done; chains = r.chains; slots = λ q t h. (f q t h).0; committed = λ q t h. (f q t h).1; prepared = r.prepared; pre_prepared = r.pre_prepared; evidence = r.evidence }

  execute_ready : (e : Event) → s.done < s.low + 32 → IsReady (executed s e)
  unfolding executed
  execute_ready e room =
      let from = r.done.0 in
      record {
        low = r.low;
        done = (omega (arith, from), omega (arith, room));
        chains = chain_more s.low s.done s.chains (next_chain s e) ((s.done + 1) % 16 == 0) (eqb-true ((s.done + 1) % 16) 0) r.done.0 r.chains;
        slots = r.slots;
        committed = r.committed;
        prepared = r.prepared;
        pre_prepared = r.pre_prepared;
        evidence = r.evidence;
      }

  checkpoint_ready : IsReady (voted s kind.Checkpoint s.done s.chain)
  unfolding voted
  checkpoint_ready = record { low = r.low; done = r.done; chains = r.chains; slots = r.slots; committed = r.committed; prepared = r.prepared; pre_prepared = r.pre_prepared; evidence = r.evidence }

  ack_ready : (j : ℕ) (d : List ℕ) → IsReady (acked s j d)
  ack_ready j d = record { low = r.low; done = r.done; chains = r.chains; slots = r.slots; committed = r.committed; prepared = r.prepared; pre_prepared = r.pre_prepared; evidence = r.evidence }

  need_ready : (digest : List ℕ) → IsReady (record s { needed = set.insert s.needed digest })
  need_ready digest = record { low = r.low; done = r.done; chains = r.chains; slots = r.slots; committed = r.committed; prepared = r.prepared; pre_prepared = r.pre_prepared; evidence = r.evidence }

  -- what is above the new low mark is in its window
  above : (p q : ℕ) → s.low < p → nat_lt p q ≡ true → IsInWindow s.low q → IsInWindow p q
  above p q low t w = let to = w.1 in (ltb-true p q t, omega (arith, to, low))

  stable_ready : (p : ℕ) (d : List ℕ) → s.low < p → p ≤ s.done → get s.chains p ≡ Some d → IsReady (lowered s p)
  unfolding did_stable
  stable_ready p d low done at =
      let to = r.done.1 in
      record {
        low = (r.chains.places p d at).2;
        done = (done, omega (arith, to, low));
        chains = record {
          at_low = (d, retain_kept exact_unsigned s.chains (nat_le p) p (le-leb p p (omega arith)) ∙ at);
          places = λ q e h. let x = retain_cases exact_unsigned s.chains (nat_le p) q e h in let y = r.chains.places q e x.1 in (leb-true p q x.0, y.1, y.2);
          first = λ e h. r.chains.first e (retain_cases exact_unsigned s.chains (nat_le p) 0 e h).1;
        };
        slots = λ q t h. let x = retain_cases exact_unsigned s.slots (λ place. nat_lt p place) q t h in above p q low x.0 (r.slots q t x.1);
        committed = λ q t h. r.committed q t (retain_cases exact_unsigned s.slots (λ place. nat_lt p place) q t h).1;
        prepared = λ q e v h.
            let x = retain_cases exact_unsigned s.prepared (λ place. nat_lt p place) q (e, v) h in
            let y = r.prepared q e v x.1 in
            (above p q low x.0 y.0, y.1);
        pre_prepared = λ q row h.
            let x = retain_cases exact_unsigned s.pre_prepared (λ place. nat_lt p place) q row h in
            let y = r.pre_prepared q row x.1 in
            (above p q low x.0 y.0, y.1);
        evidence = r.evidence;
      }

module _ (c : Context) (s : State) (is : IsOf c s) where
  move_of : (w : ℕ) → IsOf c (moved_to s w)
  unfolding with_change left_view noted
  move_of w = record { me = is.me; book = is.book; group = is.group; layout = is.layout }

  accept_of : (p : ℕ) (e : Event) → IsOf c (accepting s p e)
  unfolding accepted voted
  accept_of p e = record { me = is.me; book = vote_f s.book (key kind.Prepare p s.me.index) (digest_of e) ∙ is.book; group = is.group; layout = is.layout }

  propose_of : (e : Event) → IsOf c (proposed s e)
  unfolding accepted
  propose_of e = record { me = is.me; book = is.book; group = is.group; layout = is.layout }

  prepare_of : (p : ℕ) (t : Slot) → IsOf c (preparing s p t)
  unfolding with_slot voted
  prepare_of p t = record { me = is.me; book = vote_f s.book (key kind.Commit p s.me.index) t.digest ∙ is.book; group = is.group; layout = is.layout }

  commit_of : (p : ℕ) (t : Slot) → IsOf c (with_slot s p t)
  unfolding with_slot
  commit_of p t = record { me = is.me; book = is.book; group = is.group; layout = is.layout }

  enter_of : (v : NewView) → IsOf c (entered_by s v)
  unfolding entered
  enter_of v = record { me = is.me; book = books_f s.me.index (taken s v.choice) s.book ∙ is.book; group = is.group; layout = is.layout }

  offer_of : (v : Choice) → IsOf c (offered s v)
  unfolding entered with_offer
  offer_of v = record { me = is.me; book = is.book; group = is.group; layout = is.layout }

  execute_of : (e : Event) → IsOf c (executed s e)
  unfolding executed
  execute_of e = record { me = is.me; book = is.book; group = is.group; layout = is.layout }

  checkpoint_of : IsOf c (voted s kind.Checkpoint s.done s.chain)
  unfolding voted
  checkpoint_of = record { me = is.me; book = vote_f s.book (key kind.Checkpoint s.done s.me.index) s.chain ∙ is.book; group = is.group; layout = is.layout }

  ack_of : (j : ℕ) (d : List ℕ) → IsOf c (acked s j d)
  ack_of j d = record { me = is.me; book = is.book; group = is.group; layout = is.layout }

  need_of : (digest : List ℕ) → IsOf c (record s { needed = set.insert s.needed digest })
  need_of digest = record { me = is.me; book = is.book; group = is.group; layout = is.layout }

  stable_of : (p : ℕ) → IsOf c (lowered s p)
  unfolding did_stable
  stable_of p = record { me = is.me; book = is.book; group = is.group; layout = is.layout }

module _ (c : Context) (sent : Sent) (s : State) (law : IsLawful c) (is : IsOf c s) (r : IsReady s) (l : Links c sent s) where
  abbrev Stays : Reaction → Type 0
  Stays u = IsOf c u.state × IsReady u.state

  named : (u v : Reaction) → u ≡ v → Stays v → Stays u
  named u v e k = subst Stays (sym e) k

  moves : (w : ℕ) → s.view < w → Stays (did_move s w)
  moves w later = named (did_move s w) _ (move_is s (has_others c s law is) w) (move_of c s is w, move_ready s r w later)

  needs : (digest : List ℕ) → Stays (did_need s digest)
  needs digest = named (did_need s digest) _ (need_is s (has_others c s law is) digest) (need_of c s is digest, need_ready s r digest)

  executes : (e : Event) → s.done < s.low + 32 → Stays (did_execute s e)
  executes e room = named (did_execute s e) _ (execute_is s e) (execute_of c s is e, execute_ready s r e room)

  slot_room : (t : Slot) → get s.slots (s.done + 1) ≡ Some t → s.done < s.low + 32
  slot_room t h = let w = (r.slots (s.done + 1) t h).1 in omega (arith, w)

  stays : (asked : Counters) (a : Action) → Enabled s asked a → Stays (did s a)
  unfolding did
  stays asked a (on.join w e) = moves w (join_later s w e)
  stays asked a (on.refuse e) = moves (s.view + 1) (next_later s.view)
  stays asked a (on.impatience e) = moves (s.view + 1) (next_later s.view)
  stays asked a (on.ack j e) = let x = ack_tells s j e in named (did s (act.Ack j)) _ (ack_is s (has_others c s law is) j x.1.0 x.1.1) (ack_of c s is j x.1.0.digest, ack_ready s r j x.1.0.digest)
  stays asked a (on.need_chosen d) = needs d
  stays asked a (on.need_text d) = needs d
  stays asked a (on.offer v e) = named (did s (act.Offer v)) _ (offer_is s (has_others c s law is) v) (offer_of c s is v, offer_ready s r v)
  stays asked a (on.enter v e) = named (did s (act.Enter v)) _ (enter_is s (has_others c s law is) v) (enter_of c s is v, enter_ready s r v)
  stays asked a (on.propose e k) = let x = propose_tells s asked e k in named (did s (act.Propose e)) _ (propose_is s (has_others c s law is) e) (propose_of c s is e, propose_ready s r e (x.2, x.3))
  stays asked a (on.accept p e) =
      let x = accept_tells s p e in
      let k = l.pending p x.1.0 x.1.1 in
      named (did s (act.Accept p)) _ (accept_is s (has_others c s law is) p x.1.0 x.1.1) (accept_of c s is p x.1.0, accept_ready s r p x.1.0 (k.3, k.4))
  stays asked a (on.prepare p e) = let x = prepare_tells s p e in named (did s (act.Prepare p)) _ (prepare_is s (has_others c s law is) p x.1.0 x.1.1) (prepare_of c s is p x.1.0, prepare_ready s r p x.1.0 x.1.1)
  stays asked a (on.execute e h) = let x = execute_tells s e h in executes e (slot_room x.0 x.1)
  stays asked a (on.adopt e h) = let x = adopt_tells s e h in executes e (l.dones x.0 x.1 x.2).1
  stays asked a (on.commit p e) = let x = commit_tells s p e in named (did s (act.Commit p)) _ (commit_is s p x.1.0 x.1.1) (commit_of c s is p (record x.1.0 { is_committed = true }), commit_ready s r p x.1.0 x.1.1 x.1.2)
  stays asked a (on.checkpoint e) = named (did s act.Checkpoint) _ (checkpoint_is s (has_others c s law is)) (checkpoint_of c s is, checkpoint_ready s r)
  stays asked a (on.stable p e) = let x = stable_tells s p e in named (did s (act.Stable p)) _ (stable_is s p) (stable_of c s is p, stable_ready s r p x.2.0 x.0 x.1 x.2.1)

pub actions_keep : ActionsKeep
actions_keep c sent s asked a law st h b =
    let x = stays c sent s law st.is_of st.ready st.links asked a (enabled s asked a h) in
    record { is_of = x.0; ready = x.1; links = links_kept c sent s asked a law st.is_of st.ready st.links h b }
