-- What a voter that is alone in its group executes is supported.
use Rattle.std.proofs.Common.{◌≡◌, inl, inr, ℕ, ◌+◌, ◌<◌, ◌||◌, Bool, true, false, cond, List, [], ◌∷◌, ◌++◌, Option, Some, None, Contains, refl, sym, ◌∙◌, ap, subst, arith, nat_lt}
use Rattle.std.specs.Prelude.{slice_get}
use Rattle.std.specs.List.{fold}
use Rattle.std.specs.Option.{option_map_or, option_or, unwrap_or}
use Rattle.std.specs.Str.{bytes_eq}
use Rattle.std.specs.Ordering.{nat_cmp}
use Rattle.std.specs.Cmp.Lexicographic.{slice_cmp}
use Rattle.std.specs.FinMap.{get, insert}
use Rattle.std.proofs.lemmas.Bool.{true≢false, ltb-true, eq-eqb, cond-true}
use Rattle.std.proofs.lemmas.Cmp.{nat_cmp_total, nat_list_cmp_total}
use Rattle.std.proofs.lemmas.List.Elements.{Contains-append_cases}
use Rattle.std.proofs.lemmas.Map.Lookups.{exact_unsigned, exact_bytes}
use Rattle.pws_base.specs.Shapes.{size_of_group}
use Rattle.pws_base.specs.declared.shapes.ReplicaId.{ReplicaId}
use Rattle.pws_base.proofs.Maps.{put_cases, remove_cases, retain_cases}
use Rattle.pws_base.proofs.Members.{nowhere, here, there, first_or_rest}
use Rattle.pws_event.specs.declared.events.Event.{Event}
use Rattle.pws_event.specs.declared.events.Event.TheVariants as event
use Rattle.pws_event.specs.Events.{digest_of}
use Rattle.pws_event.specs.Counters.{Counters}
use Rattle.pws_msg.specs.Contents.{IsContent}
use Rattle.pws_msg.specs.declared.changes.NewView.{NewView}
use Rattle.pws_msg.specs.declared.contents.Content.{Content}
use Rattle.pws_msg.specs.declared.contents.Content.TheVariants as content
use Rattle.pws_change.specs.Choices.{null_digest}
use Rattle.pws_votes.specs.declared.kinds.Vote.{Vote}
use Rattle.pws_votes.specs.declared.kinds.Vote.TheVariants as vote
use Rattle.pws_votes.specs.declared.kinds.VoteKind.{VoteKind}
use Rattle.pws_votes.specs.declared.kinds.VoteKind.TheVariants as kind
use Rattle.pws_votes.specs.Votes.{key}
use Rattle.pws_safety.specs.Statements.{Sent}
use Rattle.pws_protocol.specs.Keys.{replica, statement_cmp}
use Rattle.pws_protocol.specs.Evidence.{note}
use Rattle.pws_protocol.specs.Support.{supported_by, support_of, supports}
use Rattle.pws_protocol.specs.States.{Me, State, Slot, own_id, is_alone, text_of}
use Rattle.pws_protocol.specs.Gathered.{possible_choice}
use Rattle.pws_protocol.specs.Hearing.{Vouched, SaidFields, Answered, voted_as, keep_evidence, keep, keep_vouched, are_heard, heard}
use Rattle.pws_protocol.specs.Actions.{Action, next_in_group, next_enter, next_propose, next_accept, next_prepare, next_execute, next_adopt, next_commit, can_checkpoint, next_stable, next_in_any, next_action, next_place}
use Rattle.pws_protocol.specs.Actions as act
use Rattle.pws_protocol.specs.Doing.{Reaction, on, voted, accepted, prepare_slot, commit_slot, with_slot, did_prepare, did_commit, did_checkpoint, did_stable, did_propose, executed, did_execute, did}
use Rattle.pws_protocol.specs.Ticks.{with_own, ticked, tick}
use Rattle.pws_protocol.specs.Reactions.{Input, Said, Tick, Resume, settled_state, is_named, tidied, after_packet, begun, then_did, is_last, Acts, rests, ends, goes, Follows}
use Rattle.pws_protocol.specs.Executed.{Placed, executed_in}
use Rattle.pws_protocol.specs.Fits.{is_from_outside, IsVouched, IsSaid, IsInput}
use Rattle.pws_protocol.proofs.Calm.{executed_both}
use Rattle.pws_protocol.proofs.Executing.{executes_nothing}
use Rattle.pws_protocol.proofs.Noting.{nothing_there, at_first, after_noting, after_settling}
use Rattle.pws_protocol.proofs.Supporting.{more_is_supported}
use Rattle.pws_protocol.proofs.Staying.{begun_executes_nothing}
use Rattle.pws_refine.specs.Alone.{IsAloneThere, IsSupported, StandsAlone, AloneExecutesSupported, StartStandsAlone, AloneAsMoreIsSaid}
use Rattle.pws_refine.specs.Contexts.{Context}
use Rattle.pws_refine.specs.Inputs.{IsTold, IsGiven}
use Rattle.pws_refine.proofs.Done.{texts_with, proposed, lowered, text_is}
use Rattle.pws_refine.proofs.Enabled.{line, test, last}
use Rattle.pws_refine.proofs.Evident.{note_after_is, settled_statement, settled_group}
use Rattle.pws_refine.proofs.Reacted.{settled_said}
use Rattle.pws_refine.proofs.Readied.{vote_f}
use Rattle.pws_refine.proofs.Supported.{spoken_supports, candidate_supported}
use Rattle.pws_refine.proofs.Tests.{enter_tells, propose_tells, accept_tells, execute_tells}

-- one statement of evidence more, which can be heard
noted_alone : (c : Context) (s : State) → StandsAlone c s → (asked : Counters) (sender : ReplicaId) (k : Content) (body : List ℕ) → c.speaks sender k ≡ true → IsContent k → StandsAlone c (record s { evidence = (note s.evidence asked sender k body).evidence })
noted_alone c s st asked sender k body speaks range =
    let a = note_after_is s.evidence asked sender k body in
    record {
      is_of = record { me = st.is_of.me; book = st.is_of.book; group = a.group ∙ st.is_of.group; layout = a.layout ∙ st.is_of.layout };
      active = st.active;
      pending = st.pending;
      keys = after_noting s.evidence asked sender k body range st.keys;
      evidence = λ q x h. elim (a.statements q x h) [
        | inl y ↦ st.evidence q x y
        | inr y ↦ subst (λ z. c.speaks q.sender z ≡ true) y.1 (subst (λ z. c.speaks z k ≡ true) (sym y.0) speaks)
      ];
      texts = st.texts;
    }

by_vote : (c : Context) (s t : State) (w : Vote) → StandsAlone c s → StandsAlone c t → StandsAlone c (voted_as w s t).state
by_vote c s t vote.Kept x y = y
by_vote c s t vote.Outside x y = x
by_vote c s t vote.Already x y = x

evidence_alone : (c : Context) (s : State) → StandsAlone c s → (asked : Counters) (sender : ReplicaId) (k : Content) (body : List ℕ) → c.speaks sender k ≡ true → IsContent k → StandsAlone c (keep_evidence s asked sender k body).state
unfolding keep_evidence
evidence_alone c s st asked sender k body speaks range =
    let n = note s.evidence asked sender k body in
    by_vote c s (record s { evidence = n.evidence }) n.answer st (noted_alone c s st asked sender k body speaks range)

settled_alone : (c : Context) (s : State) (asked : Counters) → StandsAlone c s → StandsAlone c (settled_state s asked)
unfolding settled_state
settled_alone c s asked st =
    let g = settled_group s.evidence asked in
    record {
      is_of = record { me = st.is_of.me; book = st.is_of.book; group = g.0 ∙ st.is_of.group; layout = g.1 ∙ st.is_of.layout };
      active = st.active;
      pending = st.pending;
      keys = after_settling s.evidence asked st.keys;
      evidence = λ k x h. st.evidence k x (settled_statement s.evidence asked k x h);
      texts = st.texts;
    }

tidied_alone : (c : Context) (s : State) → StandsAlone c s → StandsAlone c (tidied s)
unfolding tidied
tidied_alone c s st = record {
  is_of = record { me = st.is_of.me; book = st.is_of.book; group = st.is_of.group; layout = st.is_of.layout };
  active = st.active;
  pending = st.pending;
  keys = st.keys;
  evidence = st.evidence;
  texts = λ d e h. st.texts d e (retain_cases exact_bytes s.texts (is_named s (possible_choice s)) d e h).1;
}

ticked_alone : (c : Context) (s : State) (asked : Counters) → StandsAlone c s → StandsAlone c (ticked s asked)
unfolding ticked
ticked_alone c s asked st = record {
  is_of = record { me = st.is_of.me; book = st.is_of.book; group = st.is_of.group; layout = st.is_of.layout };
  active = st.active;
  pending = st.pending;
  keys = st.keys;
  evidence = st.evidence;
  texts = st.texts;
}

own_alone : (c : Context) (asked : Counters) (own : List Content) (s : State) → ((k : Content) → Contains own k → (c.speaks (replica c.me.group c.me.index) k ≡ true) × IsContent k) → StandsAlone c s → StandsAlone c (fold (with_own asked) s own)
own_alone c asked [] s each st = st
own_alone c asked (k ∷ ks) s each st =
    let x = each k (here k ks) in
    let spoken : c.speaks (own_id s) k ≡ true = subst (λ (m : Me). c.speaks (replica m.group m.index) k ≡ true) (sym st.is_of.me) x.0 in
    own_alone c asked ks (with_own asked s k) (λ y m. each y (there k y ks m)) (noted_alone c s st asked (own_id s) k [] spoken x.1)

module _ (c : Context) (lone : IsAloneThere c) (s : State) (st : StandsAlone c s) where
  is_first : (i : ℕ) → i < size_of_group c.me.f → i ≡ 0
  is_first i l = let f = lone.f in omega (arith, l, f)

  -- nobody else is in the group
  nobody : (x : SaidFields) → IsSaid s x → x.sender.group ≡ s.me.group → ⊥
  nobody x said g =
      let group : x.sender.group ≡ c.me.group = g ∙ ap (λ (m : Me). m.group) st.is_of.me in
      let at : slice_get s.evidence.layout x.sender.group ≡ Some c.me.f = ap (λ y. slice_get y x.sender.group) st.is_of.layout ∙ (ap (slice_get c.layout) group ∙ lone.shape) in
      let below : nat_lt x.sender.index (size_of_group c.me.f) ≡ true = subst (λ (o : Option ℕ). option_map_or (λ f. nat_lt x.sender.index (size_of_group f)) o false ≡ true) at said.sender.replica in
      let index : x.sender.index ≡ s.me.index = is_first x.sender.index (ltb-true x.sender.index (size_of_group c.me.f) below) ∙ sym (ap (λ (m : Me). m.index) st.is_of.me ∙ is_first c.me.index lone.member) in
      said.sender.other g index

  outer_alone : (asked : Counters) (x : SaidFields) → IsSaid s x → c.speaks x.sender x.content ≡ true → (k : Content) → x.content ≡ k → StandsAlone c (keep s asked x k).state
  unfolding keep
  outer_alone asked x said speaks (content.Request r) e = evidence_alone c s st asked x.sender (content.Request r) (unwrap_or x.body []) (subst (λ k. c.speaks x.sender k ≡ true) e speaks) (subst IsContent e said.content)
  outer_alone asked x said speaks (content.Reply r) e = evidence_alone c s st asked x.sender (content.Reply r) (unwrap_or x.body []) (subst (λ k. c.speaks x.sender k ≡ true) e speaks) (subst IsContent e said.content)
  outer_alone asked x said speaks (content.Part r) e = st
  outer_alone asked x said speaks (content.Expired n) e = absurd (nobody x said (said.inside (ap is_from_outside e)))
  outer_alone asked x said speaks (content.Reading r) e = absurd (nobody x said (said.inside (ap is_from_outside e)))
  outer_alone asked x said speaks (content.PrePrepare p) e = absurd (nobody x said (said.inside (ap is_from_outside e)))
  outer_alone asked x said speaks (content.Prepare v) e = absurd (nobody x said (said.inside (ap is_from_outside e)))
  outer_alone asked x said speaks (content.Commit v) e = absurd (nobody x said (said.inside (ap is_from_outside e)))
  outer_alone asked x said speaks (content.Checkpoint d) e = absurd (nobody x said (said.inside (ap is_from_outside e)))
  outer_alone asked x said speaks (content.ViewChange v) e = absurd (nobody x said (said.inside (ap is_from_outside e)))
  outer_alone asked x said speaks (content.Ack n) e = absurd (nobody x said (said.inside (ap is_from_outside e)))
  outer_alone asked x said speaks (content.NewView v) e = absurd (nobody x said (said.inside (ap is_from_outside e)))
  outer_alone asked x said speaks (content.Relay n) e = absurd (nobody x said (said.inside (ap is_from_outside e)))
  outer_alone asked x said speaks (content.Fetch w) e = st
  outer_alone asked x said speaks (content.Done d) e = absurd (nobody x said (said.inside (ap is_from_outside e)))
  outer_alone asked x said speaks (content.Need digest) e = absurd (nobody x said (said.inside (ap is_from_outside e)))
  outer_alone asked x said speaks (content.Give g) e = absurd (nobody x said (said.inside (ap is_from_outside e)))

-- the vouchers of a reply
one_alone : (c : Context) (asked : Counters) (body : List ℕ) (a : Answered) (h : Vouched) → (h.is_verified ≡ true → c.speaks h.voucher.sender h.voucher.content ≡ true) → IsContent h.voucher.content → StandsAlone c a.state → StandsAlone c (keep_vouched asked body a h).state
one_alone c asked body a h speaks range st = go h.is_verified refl
  where
    go : (b : Bool) → h.is_verified ≡ b → StandsAlone c (cond b (record { state = (keep_evidence a.state asked h.voucher.sender h.voucher.content body).state; is_kept = a.is_kept || (keep_evidence a.state asked h.voucher.sender h.voucher.content body).is_kept; outs = a.outs ++ (keep_evidence a.state asked h.voucher.sender h.voucher.content body).outs }) a).state
    go true e = evidence_alone c a.state st asked h.voucher.sender h.voucher.content body (speaks e) range
    go false e = st

all_alone : (c : Context) (asked : Counters) (body : List ℕ) (hs : List Vouched) (a : Answered) → ((h : Vouched) → Contains hs h → (h.is_verified ≡ true → c.speaks h.voucher.sender h.voucher.content ≡ true) × IsContent h.voucher.content) → StandsAlone c a.state → StandsAlone c (fold (keep_vouched asked body) a hs).state
all_alone c asked body [] a each st = st
all_alone c asked body (h ∷ hs) a each st =
    let x = each h (here h hs) in
    all_alone c asked body hs (keep_vouched asked body a h) (λ y m. each y (there h y hs m)) (one_alone c asked body a h x.0 x.1 st)

if_alone : (c : Context) (b : Bool) (a d : Answered) → StandsAlone c a.state → StandsAlone c d.state → StandsAlone c (cond b a d).state
if_alone c true a d x y = x
if_alone c false a d x y = y

heard_alone : (c : Context) (sent : Sent) → IsAloneThere c → (s : State) (asked : Counters) (x : SaidFields) → StandsAlone c s → IsSaid s x → IsTold c sent x → StandsAlone c (heard s asked x).state
unfolding heard
heard_alone c sent lone s asked x st said told =
    let k = outer_alone c lone s st asked x said told.speaks x.content refl in
    let each : (h : Vouched) → Contains x.vouchers h → (h.is_verified ≡ true → c.speaks h.voucher.sender h.voucher.content ≡ true) × IsContent h.voucher.content =
    λ h m. let v : IsVouched s h = subst (λ y. IsVouched s y) m.2 (said.vouchers m.0 h m.1) in ((told.vouchers h m).speaks, v.content) in
    if_alone c (are_heard x.content) (fold (keep_vouched asked (unwrap_or x.body [])) (keep s asked x x.content) x.vouchers) (keep s asked x x.content)
    (all_alone c asked (unwrap_or x.body []) x.vouchers (keep s asked x x.content) each k) k

packet_alone : (c : Context) (a : Answered) → StandsAlone c a.state → StandsAlone c (after_packet a).reaction.state
packet_alone c a st = go a.is_kept
  where
    go : (b : Bool) → StandsAlone c (cond b (tidied a.state) a.state)
    go true = tidied_alone c a.state st
    go false = st

tick_alone : (c : Context) (s : State) (asked : Counters) (own : List Content) → ((k : Content) → Contains own k → (c.speaks (replica c.me.group c.me.index) k ≡ true) × IsContent k) → StandsAlone c s → StandsAlone c (tick s asked own).state
unfolding tick
tick_alone c s asked own each st = ticked_alone c (fold (with_own asked) s own) asked (own_alone c asked own s each st)

begun_alone : (c : Context) (sent : Sent) → IsAloneThere c → (s : State) (asked : Counters) (input : Input) → StandsAlone c s → IsInput s input → IsGiven c sent input → StandsAlone c (begun (settled_state s asked) asked input).reaction.state
begun_alone c sent lone s asked (Said x) st i given =
    let t = settled_state s asked in
    packet_alone c (heard t asked x) (heard_alone c sent lone t asked x (settled_alone c s asked st) (settled_said s asked x i) given)
begun_alone c sent lone s asked (Tick own) st i given = tick_alone c (settled_state s asked) asked own (λ k m. (given k m, subst IsContent m.2 (i m.0 k m.1))) (settled_alone c s asked st)
begun_alone c sent lone s asked Resume st i given = settled_alone c s asked st

-- the actions
module _ (c : Context) (lone : IsAloneThere c) (s : State) (st : StandsAlone c s) where
  is_lone : is_alone s ≡ true
  is_lone = eq-eqb s.me.f 0 (ap (λ (m : Me). m.f) st.is_of.me ∙ lone.f)

  supported_text : (d : List ℕ) (e : Event) → text_of s d ≡ Some e → IsSupported c e
  unfolding text_of supported_by support_of
  supported_text d e h = go (bytes_eq d null_digest) h
    where
      go : (b : Bool) → cond b (Some event.Null) (get s.texts d) ≡ Some e → IsSupported c e
      go true k = let same : event.Null ≡ e = let i : ◌≡◌ {A = Option Event} (Some event.Null) (Some e) = k in cc in subst (IsSupported c) same refl
      go false k = st.texts d e k

  supported_here : (e : Event) → supports s.evidence e ≡ true → IsSupported c e
  supported_here e h =
      subst (λ g. supported_by c.speaks c.layout g e ≡ true) st.is_of.group
      (subst (λ l. supported_by c.speaks l s.evidence.group e ≡ true) st.is_of.layout (spoken_supports c s.evidence st.evidence e h))

  text_more : (e : Event) → IsSupported c e → (d : List ℕ) (x : Event) → get (texts_with s.texts e) d ≡ Some x → IsSupported c x
  text_more e h d x k = go (bytes_eq (digest_of e) null_digest) k
    where
      go : (b : Bool) → get (cond b s.texts (insert s.texts (digest_of e) e)) d ≡ Some x → IsSupported c x
      go true k = st.texts d x k
      go false k = elim (put_cases nat_list_cmp_total exact_bytes s.texts (digest_of e) d e x k) [ inl y ↦ subst (IsSupported c) y.1 h | inr y ↦ st.texts d x y ]

  propose_is : (e : Event) → (did_propose s e).state ≡ proposed s e
  unfolding did_propose accepted
  propose_is e = text_is (accepted s (next_place s) (digest_of e)) e

  propose_alone : (e : Event) → IsSupported c e → StandsAlone c (proposed s e)
  unfolding accepted
  propose_alone e h = record {
    is_of = record { me = st.is_of.me; book = st.is_of.book; group = st.is_of.group; layout = st.is_of.layout };
    active = st.active;
    pending = λ p x k. st.pending p x (remove_cases nat_cmp_total s.pending (next_place s) p x k).0;
    keys = st.keys;
    evidence = st.evidence;
    texts = text_more e h;
  }

  voted_alone : (k : VoteKind) (p : ℕ) (d : List ℕ) → StandsAlone c (voted s k p d)
  unfolding voted
  voted_alone k p d = record {
    is_of = record { me = st.is_of.me; book = vote_f s.book (key k p s.me.index) d ∙ st.is_of.book; group = st.is_of.group; layout = st.is_of.layout };
    active = st.active;
    pending = st.pending;
    keys = st.keys;
    evidence = st.evidence;
    texts = st.texts;
  }

  slot_alone : (p : ℕ) (t : Slot) → StandsAlone c (with_slot s p t)
  unfolding with_slot
  slot_alone p t = record {
    is_of = record { me = st.is_of.me; book = st.is_of.book; group = st.is_of.group; layout = st.is_of.layout };
    active = st.active;
    pending = st.pending;
    keys = st.keys;
    evidence = st.evidence;
    texts = st.texts;
  }

  execute_alone : (e : Event) → StandsAlone c (did_execute s e).state
  unfolding did_execute executed
  execute_alone e = record {
    is_of = record { me = st.is_of.me; book = st.is_of.book; group = st.is_of.group; layout = st.is_of.layout };
    active = st.active;
    pending = st.pending;
    keys = st.keys;
    evidence = st.evidence;
    texts = st.texts;
  }

  stable_alone : (p : ℕ) → StandsAlone c (lowered s p)
  unfolding did_stable
  stable_alone p = record {
    is_of = record { me = st.is_of.me; book = st.is_of.book; group = st.is_of.group; layout = st.is_of.layout };
    active = st.active;
    pending = λ q x k. st.pending q x (retain_cases exact_unsigned s.pending (λ place. nat_lt p place) q x k).1;
    keys = st.keys;
    evidence = st.evidence;
    texts = st.texts;
  }

-- what an action leaves, and what it executes
abbrev IsDoneAlone : Context → State → Action → Type 0
IsDoneAlone c s a = StandsAlone c (did s a).state × ((x : Placed) → Contains (executed_in (did s a).outs) x → IsSupported c x.event)

module _ (c : Context) (lone : IsAloneThere c) (s : State) (st : StandsAlone c s) where
  quiet : (a : Action) → is_last a ≡ false → StandsAlone c (did s a).state → IsDoneAlone c s a
  quiet a e k = (k, λ x m. absurd (nowhere x (subst (λ ys. Contains ys x) (executes_nothing s a e) m)))

  prepare_alone : (p : ℕ) → StandsAlone c (did_prepare s p).state
  unfolding did_prepare
  prepare_alone p = go (get s.slots p)
    where
      go : (o : Option Slot) → StandsAlone c (on s o (prepare_slot s p)).state
      go None = st
      go (Some t) = let w = with_slot s p (record t { is_prepared = true }) in voted_alone c lone w (slot_alone c lone s st p (record t { is_prepared = true })) kind.Commit p t.digest

  commit_alone : (p : ℕ) → StandsAlone c (did_commit s p).state
  unfolding did_commit
  commit_alone p = go (get s.slots p)
    where
      go : (o : Option Slot) → StandsAlone c (on s o (commit_slot s p)).state
      go None = st
      go (Some t) = slot_alone c lone s st p (record t { is_committed = true })

  checkpoint_alone : StandsAlone c (did_checkpoint s).state
  unfolding did_checkpoint
  checkpoint_alone = voted_alone c lone s st kind.Checkpoint s.done s.chain

  one_supported : (e : Event) → IsSupported c e → (x : Placed) → Contains (executed_in (did_execute s e).outs) x → IsSupported c x.event
  unfolding did_execute
  one_supported e h x m =
      elim (first_or_rest (record { place = s.done + 1; event = e }) x [] m) [
        | inl y ↦ subst (λ (z : Placed). IsSupported c z.event) y h
        | inr y ↦ absurd (nowhere x y)
      ]

  no_adopt : (e : Event) → next_adopt s ≡ Some e → ⊥
  unfolding next_adopt
  no_adopt e h = let n : ◌≡◌ {A = Option Event} None (Some e) = sym (cond-true (is_alone s) None _ (is_lone c lone s st)) ∙ h in cc

  by_enter : (v : NewView) → next_enter s ≡ Some v → IsDoneAlone c s (act.Enter v)
  by_enter v e = absurd (true≢false (sym st.active ∙ (enter_tells s v e).0))

  by_propose : (asked : Counters) (e : Event) → next_propose s asked ≡ Some e → IsDoneAlone c s (act.Propose e)
  unfolding did
  by_propose asked e k =
      let x = propose_tells s asked e k in
      quiet (act.Propose e) refl (subst (StandsAlone c) (sym (propose_is c lone s st e)) (propose_alone c lone s st e (supported_here c lone s st e (candidate_supported s.evidence asked st.keys e x.4))))

  by_accept : (p : ℕ) → next_accept s ≡ Some p → IsDoneAlone c s (act.Accept p)
  by_accept p e = let x = accept_tells s p e in absurd (st.pending p x.1.0 x.1.1)

  by_prepare : (p : ℕ) → IsDoneAlone c s (act.Prepare p)
  unfolding did
  by_prepare p = quiet (act.Prepare p) refl (prepare_alone p)

  by_execute : (e : Event) → next_execute s ≡ Some e → IsDoneAlone c s (act.Execute e)
  unfolding did
  by_execute e k = let x = execute_tells s e k in (execute_alone c lone s st e, one_supported e (supported_text c lone s st x.0.digest e x.3))

  by_adopt : (e : Event) → next_adopt s ≡ Some e → IsDoneAlone c s (act.Adopt e)
  by_adopt e k = absurd (no_adopt e k)

  by_commit : (p : ℕ) → IsDoneAlone c s (act.Commit p)
  unfolding did
  by_commit p = quiet (act.Commit p) refl (commit_alone p)

  by_checkpoint : IsDoneAlone c s act.Checkpoint
  unfolding did
  by_checkpoint = quiet act.Checkpoint refl checkpoint_alone

  by_stable : (p : ℕ) → IsDoneAlone c s (act.Stable p)
  unfolding did
  by_stable p = quiet (act.Stable p) refl (stable_alone c lone s st p)

  done_in_any : (asked : Counters) (a : Action) → next_in_any s asked ≡ Some a → IsDoneAlone c s a
  unfolding next_in_any
  done_in_any asked a h =
      line (IsDoneAlone c s) (next_enter s) act.Enter _ a by_enter
      (line (IsDoneAlone c s) (next_propose s asked) act.Propose _ a (by_propose asked)
      (line (IsDoneAlone c s) (next_accept s) act.Accept _ a by_accept
      (line (IsDoneAlone c s) (next_prepare s) act.Prepare _ a (λ p _. by_prepare p)
      (line (IsDoneAlone c s) (next_execute s) act.Execute _ a by_execute
      (line (IsDoneAlone c s) (next_adopt s) act.Adopt _ a by_adopt
      (line (IsDoneAlone c s) (next_commit s) act.Commit _ a (λ p _. by_commit p)
      (test (IsDoneAlone c s) (can_checkpoint s) act.Checkpoint _ a (λ _. by_checkpoint)
      (last (IsDoneAlone c s) (next_stable s) act.Stable a (λ p _. by_stable p))))))))) h

  did_alone : (asked : Counters) (a : Action) → next_action s asked ≡ Some a → IsDoneAlone c s a
  unfolding next_action
  did_alone asked a h = go (is_alone s) refl h
    where
      go : (b : Bool) → is_alone s ≡ b → option_or (cond b None (next_in_group s)) (next_in_any s asked) ≡ Some a → IsDoneAlone c s a
      go true e k = done_in_any asked a k
      go false e k = absurd (true≢false (sym (is_lone c lone s st) ∙ e))

-- a reaction so far
abbrev AllStand : Context → Reaction → Type 0
AllStand c r = StandsAlone c r.state × ((x : Placed) → Contains (executed_in r.outs) x → IsSupported c x.event)

turn_alone : (c : Context) → IsAloneThere c → (asked : Counters) (r : Reaction) (a : Action) → next_action r.state asked ≡ Some a → AllStand c r → AllStand c (then_did r a)
unfolding then_did
turn_alone c lone asked r a h k =
    let d = did_alone c lone r.state k.0 asked a h in (
      tidied_alone c (did r.state a).state d.0,
      λ x m. elim (Contains-append_cases (executed_in r.outs) (executed_in (did r.state a).outs) x (subst (λ ys. Contains ys x) (executed_both r.outs (did r.state a).outs) m)) [ inl y ↦ k.1 x y | inr y ↦ d.1 x y ],
    )

acts_alone : (c : Context) → IsAloneThere c → (asked : Counters) (r u : Reaction) → Acts asked r u → AllStand c r → AllStand c u
acts_alone c lone asked r u (rests r' e) k = k
acts_alone c lone asked r u (ends r' a e f) k = turn_alone c lone asked r a e k
acts_alone c lone asked r u (goes r' u' a e f more) k = acts_alone c lone asked (then_did r a) u more (turn_alone c lone asked r a e k)

follow_alone : (c : Context) → IsAloneThere c → (asked : Counters) (b : Bool) (r u : Reaction) → Follows asked b r u → AllStand c r → AllStand c u
follow_alone c lone asked true r u f k = acts_alone c lone asked r u f k
follow_alone c lone asked false r u f k = subst (AllStand c) f k

pub alone_executes_supported : AloneExecutesSupported
alone_executes_supported c sent s asked input r lone st i given reacts =
    let b = begun (settled_state s asked) asked input in
    let none = begun_executes_nothing (settled_state s asked) asked input in
    follow_alone c lone asked b.goes_on b.reaction r reacts (begun_alone c sent lone s asked input st i given, λ x m. absurd (nowhere x (subst (λ ys. Contains ys x) none m)))

pub start_stands_alone : StartStandsAlone
start_stands_alone c = record {
  is_of = record { me = refl; book = refl; group = refl; layout = refl };
  active = refl;
  pending = λ p e h. absurd (nothing_there nat_cmp p e h);
  keys = at_first c.me.group c.layout;
  evidence = λ k x h. absurd (nothing_there statement_cmp k x h);
  texts = λ d e h. absurd (nothing_there (slice_cmp nat_cmp) d e h);
}

pub alone_as_more_is_said : AloneAsMoreIsSaid
alone_as_more_is_said c occurs backed speaks occurs_event s grow st = record {
  is_of = record { me = st.is_of.me; book = st.is_of.book; group = st.is_of.group; layout = st.is_of.layout };
  active = st.active;
  pending = st.pending;
  keys = st.keys;
  evidence = λ k x h. grow k.sender x (st.evidence k x h);
  texts = λ d e h. more_is_supported c.speaks speaks c.layout c.me.group e grow (st.texts d e h);
}
