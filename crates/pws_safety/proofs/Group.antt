-- The invariant of a group: it holds at the start, each step keeps it, and it gives the facts.
use Rattle.std.proofs.Common.{ℕ, ◌+◌, ◌*◌, ◌<◌, ◌≡◌, inl, inr, true, false, Bool, refl, sym, ap, ◌∙◌, subst, List, [], ◌∷◌, ◌++◌, Option, None, ◌==◌, max, arith}
use Rattle.std.specs.List.{Contains}
use Rattle.std.proofs.lemmas.Bool.{cases_eq, eq-eqb, ne_eqb, cond-true, cond-false}
use Rattle.pws_msg.specs.declared.changes.Named.{Named}
use Rattle.pws_msg.specs.declared.changes.ViewChange.{ViewChange}
use Rattle.pws_msg.specs.declared.changes.NewView.{NewView}
use Rattle.pws_change.specs.declared.heard.Heard.{Heard}
use Rattle.pws_change.specs.Agreements.{Agrees, name_of}
use Rattle.pws_safety.specs.Replicas.{AtLeast}
use Rattle.pws_safety.specs.Statement.{Statement, PrePrepare, Prepare, Commit, Ack, view_of}
use Rattle.pws_safety.specs.Statement as say
use Rattle.pws_safety.specs.Statements.{Group, Sent, Told, Gives, StandsBy, StandsFor, Backs, IsCorrect, size, primary}
use Rattle.pws_safety.specs.Voters.{Slot, Core, new_core, AcceptsChosen, PreparesChosen, IsHeard, report_of, Step, propose, accept, prepare, commit, lower, move, ack, offer, enter}
use Rattle.pws_safety.specs.Kept.{Stood, TellsTrue, HasGrounds, HasReason, Keeps, GroupKeeps}
use Rattle.pws_safety.specs.Facts.{OneVoicePerView, CommitHasQuorum, ReportsItsCommits, StandsOnAChoice}
use Rattle.pws_safety.specs.Runs.{Reached, start, step, again, IsTrusted, said_by, with_core}
use Rattle.pws_safety.specs.Agreement.{RepeatsKeep, MoreIsKept, HadIsBehind, CommittedIsSettled, SlotsKeepTheChoice, StepsKeep, StepsKeepSaid, KeptGivesFacts, RunsKeep}
use Rattle.pws_base.proofs.Members.{nowhere, here, first_or_rest}
use Rattle.pws_safety.proofs.Counted.{at_least_weaker}
use Rattle.pws_safety.proofs.Slots.{none_some, no_start, prepare_pledge, propose_pledge}
use Rattle.pws_safety.proofs.Next.{linked_step, sends_next}
use Rattle.pws_safety.proofs.Keeping.{kept_accept, kept_prepare, kept_commit, kept_lower, kept_move, kept_ack, Enters, kept_enter}
use Rattle.pws_safety.proofs.Views.{quorum_settles}
use Rattle.pws_safety.proofs.Behind.{named_from, behind_view, behind_heard, behind_had}

-- what a correct replica keeps stands as more is sent, more view changes occur and more events are backed
module _ (g : Group) (occurs : ViewChange → Bool) (backed : List ℕ → Bool) (before after : Sent)
    (more : (c : ViewChange) → g.occurs c ≡ true → occurs c ≡ true) (more_backed : (d : List ℕ) → g.backed d ≡ true → backed d ≡ true)
    (stays : (k : ℕ) (x : Statement) → Contains before (k, x) → Contains after (k, x)) where
  abbrev grown : Group
  grown = record g { occurs = occurs; backed = backed }

  told_more : (k : ℕ) (x : Statement) → Told g before k x → Told grown after k x
  told_more k x t = elim t [ inl e ↦ inl e | inr h ↦ inr (stays k x h) ]

  stands_same : (i : ℕ) (x : Statement) (v p : ℕ) (d : List ℕ) → StandsBy g i x v p d → StandsBy grown i x v p d
  stands_same i (PrePrepare u q e) v p d s = s
  stands_same i (Prepare u q e) v p d s = s
  stands_same i (Commit u q e) v p d s = s
  stands_same i (say.ViewChange c) v p d s = s
  stands_same i (say.NewView n) v p d s = s
  stands_same i (Ack u j e) v p d s = s

  stands_back : (i : ℕ) (x : Statement) (v p : ℕ) (d : List ℕ) → StandsBy grown i x v p d → StandsBy g i x v p d
  stands_back i (PrePrepare u q e) v p d s = s
  stands_back i (Prepare u q e) v p d s = s
  stands_back i (Commit u q e) v p d s = s
  stands_back i (say.ViewChange c) v p d s = s
  stands_back i (say.NewView n) v p d s = s
  stands_back i (Ack u j e) v p d s = s

  stood_same : (me : ℕ) (said : List Statement) (v p : ℕ) (d : List ℕ) → Stood g me said v p d → Stood grown me said v p d
  stood_same me said v p d s = (s.0, s.1, stands_same me s.0 v p d s.2)

  stood_back : (me : ℕ) (said : List Statement) (v p : ℕ) (d : List ℕ) → Stood grown me said v p d → Stood g me said v p d
  stood_back me said v p d s = (s.0, s.1, stands_back me s.0 v p d s.2)

  tells_same : (me : ℕ) (said : List Statement) (c : ViewChange) → TellsTrue g me said c → TellsTrue grown me said c
  tells_same me said c t = record { row_said = t.row_said; row_earlier = t.row_earlier; row_latest = t.row_latest; seen_stood = λ q h e k. stood_same me said e.view q.place e.digest (t.seen_stood q h e k); seen_earlier = t.seen_earlier }

  backs_more : (k v p : ℕ) (d : List ℕ) → Backs g before k v p d → Backs grown after k v p d
  backs_more k v p d b = elim b [ inl e ↦ inl e | inr s ↦ inr (s.0, stays k s.0 s.1, stands_same k s.0 v p d s.2) ]

  heard_more : (v j : ℕ) (c : ViewChange) → IsHeard g before v j c → IsHeard grown after v j c
  heard_more v j c h = record { replica = h.replica; told = told_more j (say.ViewChange c) h.told; in_view = h.in_view; valid = h.valid; occurs = more c h.occurs }

  grounds_more : (new : NewView) → HasGrounds g before new → HasGrounds grown after new
  grounds_more new r = (r.0, record { agrees = r.1.agrees; replica = r.1.replica; valid = r.1.valid; sent_it = λ h k b. stays _ _ (r.1.sent_it h k b) })

  reason_more : (v p : ℕ) (d : List ℕ) → HasReason g before v p d → HasReason grown after v p d
  reason_more v p d r = record {
    first = λ e. more_backed d (r.first e);
    later = λ pos. (let k = r.later pos in (k.0, k.1, grounds_more k.0 k.2, elim k.3 [ inl x ↦ inl x | inr x ↦ inr (x.0, more_backed d x.1) ]));
  }

  keeps_more : (me : ℕ) (s : Core) → Keeps g before me s → Keeps grown after me s
  keeps_more me s l = record {
    no_later = l.no_later;
    idle = λ a p d st. l.idle a p d (stood_back me s.said s.view p d st);
    idle_slots = l.idle_slots;
    in_view = λ p d st. l.in_view p d (stood_back me s.said s.view p d st);
    one_digest = λ v p d e a b. l.one_digest v p d e (stood_back me s.said v p d a) (stood_back me s.said v p e b);
    one_change = l.one_change;
    slot_last = l.slot_last;
    slot_above = l.slot_above;
    slot_stood = λ p t h. stood_same me s.said s.view p t.digest (l.slot_stood p t h);
    slot_primary = λ p t h. backs_more (primary g s.view) s.view p t.digest (l.slot_primary p t h);
    commit_slot = l.commit_slot;
    slot_commit = l.slot_commit;
    slot_quorum = λ p t h e. let r = l.slot_quorum p t h e in (r.0, r.1, λ i il k. told_more i (Commit s.view p t.digest) (r.2 i il k));
    behind_commit = λ v p d h. let r = l.behind_commit v p d h in (r.0, r.1, λ i il k. backs_more i v p d (r.2 i il k));
    state_true = tells_same me s.said (report_of s s.view [] s.prepared s.pre_prepared) l.state_true;
    changes_true = λ c h. tells_same me s.said c (l.changes_true c h);
    entered = λ a pos. let r = l.entered a pos in (r.0, r.1, r.2, grounds_more r.0 r.3, r.4);
    change_said = l.change_said;
    start_said = l.start_said;
    proposals_said = l.proposals_said;
    reason = λ v p d st. reason_more v p d (l.reason v p d (stood_back me s.said v p d st));
    acked = λ v j d h. let r = l.acked v j d h in (r.0, heard_more v j r.0 r.1, r.2);
    named = λ n h m k. let r = l.named n h m k in (r.0, heard_more n.view m.index r.0 r.1, r.2);
  }

pub more_is_kept : MoreIsKept
more_is_kept g occurs backed cores sent more more_backed kept = record {
  each = λ i ci. keeps_more g occurs backed sent sent more more_backed (λ k x h. h) i (cores i) (kept.each i ci);
  said = kept.said;
  only_said = kept.only_said;
}

-- what stands as more is sent alone
module _ (g : Group) (before after : Sent) (stays : (k : ℕ) (x : Statement) → Contains before (k, x) → Contains after (k, x)) where
  told_later : (k : ℕ) (x : Statement) → Told g before k x → Told g after k x
  told_later k x t = told_more g g.occurs g.backed before after (λ c h. h) (λ d h. h) stays k x t

  heard_later : (v j : ℕ) (c : ViewChange) → IsHeard g before v j c → IsHeard g after v j c
  heard_later v j c h = heard_more g g.occurs g.backed before after (λ c h. h) (λ d h. h) stays v j c h

  grounds_later : (new : NewView) → HasGrounds g before new → HasGrounds g after new
  grounds_later new r = grounds_more g g.occurs g.backed before after (λ c h. h) (λ d h. h) stays new r

  keeps_later : (me : ℕ) (s : Core) → Keeps g before me s → Keeps g after me s
  keeps_later me s l = keeps_more g g.occurs g.backed before after (λ c h. h) (λ d h. h) stays me s l

named_fields : (h : Heard) (m : Named) → name_of h ≡ m → (h.index ≡ m.index) × (h.digest ≡ m.digest)
named_fields h m e = (ap (λ (y : Named). y.index) e, ap (λ (y : Named). y.digest) e)

same_view_of : (a : NewView) (x : Statement) → say.NewView a ≡ x → view_of x ≡ a.view
same_view_of a x e = ap view_of (sym e)

-- the steps of one replica, where its group kept the invariant before
module _ (g : Group) (trusted : IsTrusted g) (cores : ℕ → Core) (before after : Sent) (kept : GroupKeeps g cores before) (stays : (k : ℕ) (x : Statement) → Contains before (k, x) → Contains after (k, x)) (me : ℕ) where
  acks : (k w j : ℕ) (d : List ℕ) → IsCorrect g k → Contains before (k, Ack w j d) → (c : ViewChange) × IsHeard g before w j c × (g.digest_of c ≡ d)
  acks k w j d ck h = (kept.each k ck).acked w j d (kept.only_said k ck (Ack w j d) h)

  names : (k : ℕ) (new : NewView) → IsCorrect g k → Contains before (k, say.NewView new) → (n : Named) → Contains new.named n → (c : ViewChange) × IsHeard g before new.view n.index c × (g.digest_of c ≡ n.digest)
  names k new ck h n j = (kept.each k ck).named new (kept.only_said k ck (say.NewView new) h) n j

  -- a fresh digest is of a backed event, and above the floor
  fresh : (s : Core) (p : ℕ) (d : List ℕ) → Keeps g after me s → s.active ≡ true → s.floor < p → g.backed d ≡ true → HasReason g after s.view p d
  fresh s p d l active over backed = record {
    first = λ _. backed;
    later = λ pos. let r = l.entered active pos in (r.0, r.2, r.3, inr (omega (arith, over, r.4), backed));
  }

  free_next : (s : Core) (p : ℕ) → Keeps g after me s → p ≡ max s.floor s.last + 1 → (e : List ℕ) → Stood g me s.said s.view p e → ⊥
  free_next s p l at e st = elim (l.in_view p e st) [ inl a ↦ omega (arith, at, a.0) | inr a ↦ omega (arith, at, a.1) ]

  free_slot : (s : Core) (p : ℕ) → Keeps g after me s → s.floor < p → s.low < p → s.slot p ≡ None → (e : List ℕ) → Stood g me s.said s.view p e → ⊥
  free_slot s p l over inside free e st =
      elim (l.in_view p e st) [ inl a ↦ omega (arith, a.0, over) | inr a ↦ (let k = a.2 inside in none_some k.0 (sym free ∙ k.1)) ]

  -- the primary's own word
  lead_backs : (v p : ℕ) (d : List ℕ) → Told g after (primary g v) (PrePrepare v p d) → Backs g after (primary g v) v p d
  lead_backs v p d t = elim t [ inl e ↦ inl e | inr h ↦ inr (PrePrepare v p d, h, (refl, refl, refl, refl)) ]

  start_backs : (v p : ℕ) (d : List ℕ) (new : NewView) → new.view ≡ v → Gives new.choice p d → Told g after (primary g v) (say.NewView new) → Backs g after (primary g v) v p d
  start_backs v p d new view gives t = elim t [ inl e ↦ inl e | inr h ↦ inr (say.NewView new, h, (view, gives, refl)) ]

  others_back : (v p : ℕ) (d : List ℕ) → AtLeast (size g) (2 * g.f) (λ k. (k ≡ primary g v → ⊥) × Told g before k (Prepare v p d)) → AtLeast (size g) (2 * g.f) (λ k. (k ≡ primary g v → ⊥) × Backs g after k v p d)
  others_back v p d many =
      at_least_weaker (size g) (2 * g.f) (λ k. (k ≡ primary g v → ⊥) × Told g before k (Prepare v p d)) (λ k. (k ≡ primary g v → ⊥) × Backs g after k v p d)
      (λ i x. (x.0, elim x.1 [ inl e ↦ inl e | inr h ↦ inr (Prepare v p d, stays i (Prepare v p d) h, (refl, refl, refl)) ])) many

  all_told : (v p : ℕ) (d : List ℕ) (k : ℕ) → AtLeast (size g) k (λ i. Told g before i (Commit v p d)) → AtLeast (size g) k (λ i. Told g after i (Commit v p d))
  all_told v p d k many = at_least_weaker (size g) k (λ i. Told g before i (Commit v p d)) (λ i. Told g after i (Commit v p d)) (λ i t. told_later g before after stays i (Commit v p d) t) many

  enters_backup : (s : Core) (new : NewView) (slots : ℕ → Option Slot) (last : ℕ) (says : List Statement) (l : Keeps g after me s) (still : s.active ≡ false) → (me ≡ primary g s.view → ⊥) → new.view ≡ s.view
      → Told g after (primary g s.view) (say.NewView new) → HasGrounds g after new → AcceptsChosen s new slots last → PreparesChosen s slots says
      → Enters g after me s new slots last says l still
  enters_backup s new slots last says l still other view told grounds accepts prepares = record {
    said_view = λ x h. let r = prepares.only x h in ap view_of r.3;
    said_commit = λ v p d h. let r = prepares.only (Commit v p d) h in let e = r.3 in cc;
    said_change = λ c h. let r = prepares.only (say.ViewChange c) h in let e = r.3 in cc;
    said_ack = λ v j d h. let r = prepares.only (Ack v j d) h in let e = r.3 in cc;
    said_new = λ n h. absurd (let r = prepares.only (say.NewView n) h in let e = r.3 in cc);
    said_chosen = λ x h v p d st. (let r = prepares.only x h in let t = subst (λ y. StandsBy g me y v p d) r.3 st in let k = accepts.each r.0 r.1 r.2 in
        (sym t.0, subst (λ y. Gives new.choice p y) t.2 (subst (λ y. Gives new.choice y r.1.digest) t.1 k.2)));
    slot_last = λ p t h. (accepts.each p t h).1;
    slot_new = λ p t h. (let r = accepts.each p t h in
        (r.0, r.3, (Prepare s.view p t.digest, prepares.each p t h, (refl, refl, refl)), start_backs s.view p t.digest new view r.2 told));
    in_view = view;
    grounds = grounds;
    start_said = λ lead. absurd (other lead);
  }

  -- what the primary names it heard
  offered : (v : ℕ) (new : NewView) (heard : List Heard) → new.view ≡ v → Agrees g.f new heard → ((h : Heard) → Contains heard h → (g.digest_of h.change ≡ h.digest) × IsHeard g before v h.index h.change)
      → (m : Named) → Contains new.named m → (c : ViewChange) × IsHeard g after new.view m.index c × (g.digest_of c ≡ m.digest)
  offered v new heard view agrees each m k =
      let r = named_from heard m (subst (λ ns. Contains ns m) agrees.named k) in
      let x = each r.0 r.1 in
      let names = named_fields r.0 m r.2 in
      (r.0.change, heard_later g before after stays new.view m.index r.0.change (subst (λ y. IsHeard g before y m.index r.0.change) (sym view) (subst (λ y. IsHeard g before v y r.0.change) names.0 x.1)), x.0 ∙ names.1)

  enters_primary : (s : Core) (new : NewView) (heard : List Heard) (slots : ℕ → Option Slot) (last : ℕ) (l : Keeps g after me s) (still : s.active ≡ false) → me ≡ primary g s.view → new.view ≡ s.view
      → Contains after (me, say.NewView new) → Agrees g.f new heard → ((h : Heard) → Contains heard h → (g.digest_of h.change ≡ h.digest) × IsHeard g before s.view h.index h.change)
      → HasGrounds g after new → AcceptsChosen s new slots last
      → Enters g after me s new slots last (say.NewView new ∷ []) l still
  enters_primary s new heard slots last l still lead view own agrees each grounds accepts = record {
    said_view = λ x h. same_view_of new x (one x h) ∙ view;
    said_commit = λ v p d h. let e = one (Commit v p d) h in cc;
    said_change = λ c h. let e = one (say.ViewChange c) h in cc;
    said_ack = λ v j d h. let e = one (Ack v j d) h in cc;
    said_new = λ n h. (let e = one (say.NewView n) h in let same : new ≡ n = cc in
        subst (λ (y : NewView). (m : Named) → Contains y.named m → (c : ViewChange) × IsHeard g after y.view m.index c × (g.digest_of c ≡ m.digest)) same (offered s.view new heard view agrees each));
    said_chosen = λ x h v p d st. (let t = subst (λ y. StandsBy g me y v p d) (sym (one x h)) st in (sym t.0 ∙ view, t.1));
    slot_last = λ p t h. (accepts.each p t h).1;
    slot_new = λ p t h. (let r = accepts.each p t h in
        (r.0, r.3, (say.NewView new, here (say.NewView new) [], (view, r.2, lead)), start_backs s.view p t.digest new view r.2 (inr (subst (λ k. Contains after (k, say.NewView new)) lead own))));
    in_view = view;
    grounds = grounds;
    start_said = λ _. here (say.NewView new) [];
  }
    where
      one : (x : Statement) → Contains (say.NewView new ∷ []) x → say.NewView new ≡ x
      one x h = elim (first_or_rest (say.NewView new) x [] h) [ inl e ↦ e | inr k ↦ absurd (nowhere x k) ]

  -- each step keeps what the replica keeps
  kept_step : (s n : Core) → Keeps g after me s → ((x : Statement) → Contains n.said x → Contains after (me, x)) → Step g before me s n → Keeps g after me n
  kept_step s n l own (propose s2 p d active lead at inside backed) =
      let x = PrePrepare s.view p d in
      kept_accept g after me s p d x l (propose_pledge g me s.view p d lead) (omega (arith, at)) (free_next s p l at) active inside
      (lead_backs s.view p d (inr (subst (λ k. Contains after (k, x)) lead (own x (here x s.said))))) (fresh s p d l active (omega (arith, at)) backed)
  kept_step s n l own (accept s2 p d active other over inside free backed told) =
      kept_accept g after me s p d (Prepare s.view p d) l (prepare_pledge g me s.view p d other) over (free_slot s p l over inside free) active inside
      (lead_backs s.view p d (told_later g before after stays (primary g s.view) (PrePrepare s.view p d) told)) (fresh s p d l active over backed)
  kept_step s n l own (prepare s2 p d active at many) = kept_prepare g after me s p d l at active (others_back s.view p d many)
  kept_step s n l own (commit s2 p d active at many) = kept_commit g after me s p d l at active (all_told s.view p d _ many)
  kept_step s n l own (lower s2 low rows pairs up t) = kept_lower g after me s low rows pairs l up t
  kept_step s n l own (move s2 w points rows pairs up t) = kept_move g after me s w points rows pairs l up t
  kept_step s n l own (ack s2 j c still heard) = kept_ack g after me s j c l (heard_later g before after stays s.view j c heard)
  kept_step s n l own (offer s2 new heard slots last still lead view agrees each accepts) =
      let b = behind_heard g before trusted.sound s.view new heard agrees each in
      kept_enter g after me s new slots last (say.NewView new ∷ []) l still
      (enters_primary s new heard slots last l still lead view (own (say.NewView new) (here (say.NewView new) s.said)) agrees each (grounds_later g before after stays new (heard, b)) accepts)
      (let pos = behind_view g before new heard b in omega (arith, pos, view))
  kept_step s n l own (enter s2 new heard slots last says still other view told agrees had accepts prepares) =
      let b = behind_had g before trusted.sound trusted.no_collision acks names s.view new heard told view agrees had in
      kept_enter g after me s new slots last says l still
      (enters_backup s new slots last says l still other view (told_later g before after stays (primary g s.view) (say.NewView new) told) (grounds_later g before after stays new (heard, b)) accepts prepares)
      (let pos = behind_view g before new heard b in omega (arith, pos, view))

new_keeps : (g : Group) (sent : Sent) (me : ℕ) → Keeps g sent me new_core
new_keeps g sent me = record {
  no_later = λ x h. absurd (nowhere x h);
  idle = λ a p d st. absurd (nowhere st.0 st.1);
  idle_slots = λ a p t e. none_some t e;
  in_view = λ p d st. absurd (nowhere st.0 st.1);
  one_digest = λ v p d e st. absurd (nowhere st.0 st.1);
  one_change = λ c e h. absurd (nowhere (say.ViewChange c) h);
  slot_last = λ p t e. absurd (none_some t e);
  slot_above = λ p t e. absurd (none_some t e);
  slot_stood = λ p t e. absurd (none_some t e);
  slot_primary = λ p t e. absurd (none_some t e);
  commit_slot = λ p d h. absurd (nowhere (Commit 0 p d) h);
  slot_commit = λ p t e. absurd (none_some t e);
  slot_quorum = λ p t e. absurd (none_some t e);
  behind_commit = λ v p d h. absurd (nowhere (Commit v p d) h);
  state_true = record { row_said = λ r h. absurd (nowhere r h); row_earlier = λ r h. absurd (nowhere r h); row_latest = λ v p d h. absurd (nowhere (Commit v p d) h); seen_stood = λ q h. absurd (nowhere q h); seen_earlier = λ q h. absurd (nowhere q h) };
  changes_true = λ c h. absurd (nowhere (say.ViewChange c) h);
  entered = λ a pos. absurd (omega arith);
  change_said = λ pos. absurd (omega arith);
  start_said = λ lead n e. absurd (no_start n e);
  proposals_said = λ lead p t e. absurd (none_some t e);
  reason = λ v p d st. absurd (nowhere st.0 st.1);
  acked = λ v j d h. absurd (nowhere (Ack v j d) h);
  named = λ n h. absurd (nowhere (say.NewView n) h);
}

start_keeps : (g : Group) → GroupKeeps g (λ i. new_core) []
start_keeps g = record { each = λ i ci. new_keeps g [] i; said = λ i ci x h. absurd (nowhere x h); only_said = λ i ci x h. absurd (nowhere (i, x) h) }

pub steps_keep : StepsKeep
steps_keep g cores before after i s trusted kept ci t sends =
    let lifted : (k : ℕ) → IsCorrect g k → Keeps g after k (cores k) = λ k ck. keeps_later g before after sends.stays k (cores k) (kept.each k ck) in
    let at : (k : ℕ) → k ≡ i → with_core cores i s k ≡ s = λ k e. cond-true (k == i) s (cores k) (eq-eqb k i e) in
    let off : (k : ℕ) → (k ≡ i → ⊥) → with_core cores i s k ≡ cores k = λ k e. cond-false (k == i) s (cores k) (ne_eqb k i e) in
    let linked = linked_step g cores before after i s (record { said = kept.said; only_said = kept.only_said }) sends in
    record {
      each = λ k ck. elim (cases_eq k i) [
        | inl e ↦ subst (λ y. Keeps g after k y) (sym (at k e)) (subst (λ y. Keeps g after y s) (sym e) (kept_step g trusted cores before after kept sends.stays i (cores i) s (lifted i ci) sends.own t))
        | inr e ↦ subst (λ y. Keeps g after k y) (sym (off k e)) (lifted k ck)
      ];
      said = linked.said;
      only_said = linked.only_said;
    }

pub steps_keep_said : StepsKeepSaid
steps_keep_said g cores sent i s xs trusted kept ci t e =
    steps_keep g cores sent (said_by i xs ++ sent) i s trusted kept ci t (sends_next g cores sent i s xs (record { said = kept.said; only_said = kept.only_said }) ci e)

-- each fact from the invariant
module _ (g : Group) (cores : ℕ → Core) (sent : Sent) (kept : GroupKeeps g cores sent) where
  own : (i v p : ℕ) (d : List ℕ) → IsCorrect g i → StandsFor g sent i v p d → Stood g i (cores i).said v p d
  own i v p d ci s = (s.0, kept.only_said i ci s.0 s.1, s.2)

  reported : (i : ℕ) (c : ViewChange) → IsCorrect g i → Contains sent (i, say.ViewChange c) → TellsTrue g i (cores i).said c
  reported i c ci h = (kept.each i ci).changes_true c (kept.only_said i ci _ h)

  one_voice : OneVoicePerView g sent
  one_voice = record {
    one_digest = λ i v p d e ci a b. (kept.each i ci).one_digest v p d e (own i v p d ci a) (own i v p e ci b);
    one_change = λ i c e ci a b same. (kept.each i ci).one_change c e (kept.only_said i ci _ a) (kept.only_said i ci _ b) same;
  }

  commit_has_quorum : CommitHasQuorum g sent
  commit_has_quorum i v p d ci h = (kept.each i ci).behind_commit v p d (kept.only_said i ci _ h)

  reports_its_commits : ReportsItsCommits g sent
  reports_its_commits = record {
    row_is_commit = λ i c ci h r k. ((reported i c ci h).row_earlier r k, kept.said i ci _ ((reported i c ci h).row_said r k));
    row_is_latest = λ i c ci h v p d k below lw. (reported i c ci h).row_latest v p d (kept.only_said i ci _ k) below lw;
    seen_stands = λ i c ci h q k e j. (let s = (reported i c ci h).seen_stood q k e j in (s.0, kept.said i ci s.0 s.1, s.2));
  }

  stands_on_a_choice : StandsOnAChoice g sent
  stands_on_a_choice i v p d ci s = (kept.each i ci).reason v p d (own i v p d ci s)

pub kept_gives_facts : KeptGivesFacts
kept_gives_facts g cores sent sound kept = record {
  sound = sound;
  one_voice = one_voice g cores sent kept;
  commit_has_quorum = commit_has_quorum g cores sent kept;
  reports_its_commits = reports_its_commits g cores sent kept;
  stands_on_a_choice = stands_on_a_choice g cores sent kept;
}

pub repeats_keep : RepeatsKeep
repeats_keep g cores before after kept repeats = record {
  each = λ i ci. keeps_later g before after repeats.stays i (cores i) (kept.each i ci);
  said = λ i ci x h. repeats.stays i x (kept.said i ci x h);
  only_said = λ i ci x h. kept.only_said i ci x (repeats.nothing_new i x ci h);
}

runs_keep_from : (g : Group) → IsTrusted g → {cores : ℕ → Core} {sent : Sent} → Reached g cores sent → GroupKeeps g cores sent
runs_keep_from g trusted start = start_keeps g
runs_keep_from g trusted (again cores before after r repeats) = repeats_keep g cores before after (runs_keep_from g trusted r) repeats
runs_keep_from g trusted (step cores before after i s r ci t sends) = steps_keep g cores before after i s trusted (runs_keep_from g trusted r) ci t sends

pub runs_keep : RunsKeep
runs_keep g cores sent trusted r = runs_keep_from g trusted r

pub had_is_behind : HadIsBehind
had_is_behind g cores sent new heard trusted kept told agrees had =
    behind_had g sent trusted.sound trusted.no_collision
    (λ k w j d ck h. (kept.each k ck).acked w j d (kept.only_said k ck (Ack w j d) h))
    (λ k n ck h. (kept.each k ck).named n (kept.only_said k ck (say.NewView n) h))
    new.view new heard told refl agrees had

pub committed_is_settled : CommittedIsSettled
committed_is_settled g cores sent i p slot sound kept ci at committed = quorum_settles g sent (cores i).view p slot.digest sound ((kept.each i ci).slot_quorum p slot at committed)

pub slots_keep_the_choice : SlotsKeepTheChoice
slots_keep_the_choice g cores sent i p slot kept ci at low =
    let l = kept.each i ci in
    elim (l.in_view p slot.digest (l.slot_stood p slot at)) [ inl a ↦ a.1 | inr a ↦ absurd (omega (arith, a.0, low)) ]
