-- Each step of a correct voter keeps its invariant.
use Rattle.std.proofs.Common.{ℕ, ◌*◌, ◌<◌, ◌≤◌, ◌≡◌, ◌⊎◌, inl, inr, true, false, refl, sym, ap, ◌∙◌, subst, List, [], ◌∷◌, Option, Some, max, ◌++◌, arith}
use Rattle.std.specs.List.{Contains}
use Rattle.std.proofs.lemmas.Bool.{false≢true, true≢false, cases_order, cases_eq}
use Rattle.std.proofs.lemmas.List.Elements.{Contains-append_left, Contains-append_right, Contains-append_cases}
use Rattle.pws_base.specs.Shapes.{quorum_of}
use Rattle.pws_msg.specs.declared.changes.Checkpoint.{Checkpoint}
use Rattle.pws_msg.specs.declared.changes.Named.{Named}
use Rattle.pws_msg.specs.declared.changes.PRow.{PRow}
use Rattle.pws_msg.specs.declared.changes.QRow.{QRow}
use Rattle.pws_msg.specs.declared.changes.Seen.{Seen}
use Rattle.pws_msg.specs.declared.changes.ViewChange.{ViewChange}
use Rattle.pws_msg.specs.declared.changes.NewView.{NewView}
use Rattle.pws_safety.specs.Replicas.{AtLeast}
use Rattle.pws_safety.specs.Statement.{Statement, PrePrepare, Commit, Ack, view_of}
use Rattle.pws_safety.specs.Statement as say
use Rattle.pws_safety.specs.Statements.{Group, Sent, Told, Gives, StandsBy, Backs, size, primary}
use Rattle.pws_safety.specs.Voters.{Slot, Core, accepted, with_slot, after_accept, after_prepare, after_commit, after_lower, report_of, after_move, after_enter, IsTrimmed, IsNoted, IsHeard}
use Rattle.pws_safety.specs.Kept.{Stood, TellsTrue, HasGrounds, HasReason, IsChosenIn, IsFreshIn, Keeps}
use Rattle.pws_base.proofs.Members.{here, there, first_or_rest}
use Rattle.pws_safety.proofs.Slots.{some_same, none_some, no_start, slot_here, slot_other, each_slot, above_is, above_kept, with_one, stood_split, stood_more, stands_view, Pledge, commit_old, change_old, ack_old, new_old, tells_more}

start_same : (a b : NewView) → ◌≡◌ {A = Option NewView} (Some a) (Some b) → a ≡ b
start_same a b e = cc

module _ (g : Group) (sent : Sent) (me : ℕ) where
  -- it accepts a digest where it stood for none
  module _ (s : Core) (p : ℕ) (d : List ℕ) (x : Statement) (l : Keeps g sent me s) (pl : Pledge g me x s.view p d) (over : s.floor < p) (free : (e : List ℕ) → Stood g me s.said s.view p e → ⊥) where
    old_elsewhere : (q : ℕ) (e : List ℕ) → Stood g me s.said s.view q e → q ≡ p → ⊥
    old_elsewhere q e o h = free e (subst (λ y. Stood g me s.said s.view y e) h o)

    accept_in_view : (q : ℕ) (e : List ℕ) → Stood g me (x ∷ s.said) s.view q e
        → IsChosenIn (after_accept s p d x) q e ⊎ IsFreshIn (after_accept s p d x) q e
    accept_in_view q e st =
        elim (stood_split g me x s.said s.view q e st) [
          | inl b ↦ (let k = pl.only s.view q e b in inr (omega (arith, k.1, over), omega (arith, k.1), λ _. (accepted d, slot_here s.slot p q _ k.1, sym k.2)))
          | inr o ↦ elim (l.in_view q e o) [
            | inl a ↦ inl a
            | inr a ↦ inr (a.0, omega (arith, a.1), λ lw. let t = a.2 lw in (t.0, slot_other s.slot p q _ (old_elsewhere q e o) ∙ t.1, t.2))
          ]
        ]

    accept_one : (v q : ℕ) (a b : List ℕ) → Stood g me (x ∷ s.said) v q a → Stood g me (x ∷ s.said) v q b → a ≡ b
    accept_one v q a b m n =
        elim (stood_split g me x s.said v q a m) [
          | inl i ↦ elim (stood_split g me x s.said v q b n) [
            | inl j ↦ (pl.only v q a i).2 ∙ sym (pl.only v q b j).2
            | inr j ↦ absurd (clash a i b j)
          ]
          | inr i ↦ elim (stood_split g me x s.said v q b n) [
            | inl j ↦ absurd (clash b j a i)
            | inr j ↦ l.one_digest v q a b i j
          ]
        ]
      where
        clash : (a : List ℕ) → StandsBy g me x v q a → (b : List ℕ) → Stood g me s.said v q b → ⊥
        clash a i b j = let k = pl.only v q a i in free b (subst (λ y. Stood g me s.said s.view y b) k.1 (subst (λ y. Stood g me s.said y q b) k.0 j))

    accept_reason : HasReason g sent s.view p d → (v q : ℕ) (e : List ℕ) → Stood g me (x ∷ s.said) v q e → HasReason g sent v q e
    accept_reason why v q e st =
        elim (stood_split g me x s.said v q e st) [
          | inl b ↦ (let k = pl.only v q e b in subst (λ y. HasReason g sent v q y) (sym k.2) (subst (λ y. HasReason g sent v y d) (sym k.1) (subst (λ y. HasReason g sent y p d) (sym k.0) why)))
          | inr o ↦ l.reason v q e o
        ]

    pub kept_accept : s.active ≡ true → s.low < p → Backs g sent (primary g s.view) s.view p d → HasReason g sent s.view p d → Keeps g sent me (after_accept s p d x)
    kept_accept active inside lead why =
        let late : (c : ViewChange) → (v q : ℕ) (e : List ℕ) → x ≡ Commit v q e → c.view ≤ v = λ c v q e h. absurd (pl.no_commit v q e h) in
        record {
          no_later = λ y h. elim (first_or_rest x y s.said h) [ inl e ↦ subst (λ z. view_of z ≤ s.view) e (omega (arith, pl.is_view)) | inr k ↦ l.no_later y k ];
          idle = λ i. absurd (true≢false (sym active ∙ i));
          idle_slots = λ i. absurd (true≢false (sym active ∙ i));
          in_view = accept_in_view;
          one_digest = accept_one;
          one_change = λ c e h k. l.one_change c e (change_old g me x s.said c pl.no_change h) (change_old g me x s.said e pl.no_change k);
          slot_last = each_slot (λ q t. q ≤ max s.last p) s.slot p (accepted d) (omega arith) (λ q t h. let k = l.slot_last q t h in omega arith);
          slot_above = each_slot (λ q t. s.low < q) s.slot p (accepted d) inside l.slot_above;
          slot_stood = each_slot (λ q t. Stood g me (x ∷ s.said) s.view q t.digest) s.slot p (accepted d) (x, here x s.said, pl.stands) (λ q t h. stood_more g me x s.said s.view q t.digest (l.slot_stood q t h));
          slot_primary = each_slot (λ q t. Backs g sent (primary g s.view) s.view q t.digest) s.slot p (accepted d) lead l.slot_primary;
          commit_slot = λ q e h lw.
              (let k = l.commit_slot q e (commit_old g me x s.said s.view q e pl.no_commit h) lw in
              (k.0, slot_other s.slot p q _ (old_elsewhere q k.0.digest (l.slot_stood q k.0 k.1)) ∙ k.1, k.2, k.3));
          slot_commit = each_slot (λ q t. t.prepared ≡ true → Contains (x ∷ s.said) (Commit s.view q t.digest)) s.slot p (accepted d) (λ e. absurd (false≢true e)) (λ q t h e. there x _ s.said (l.slot_commit q t h e));
          slot_quorum = each_slot (λ q t. t.committed ≡ true → AtLeast (size g) (quorum_of g.f) (λ k. Told g sent k (Commit s.view q t.digest))) s.slot p (accepted d) (λ e. absurd (false≢true e)) l.slot_quorum;
          behind_commit = λ v q e h. l.behind_commit v q e (commit_old g me x s.said v q e pl.no_commit h);
          state_true = tells_more g me x s.said (report_of s s.view [] s.prepared s.pre_prepared) (late (report_of s s.view [] s.prepared s.pre_prepared)) l.state_true;
          changes_true = λ c h. tells_more g me x s.said c (late c) (l.changes_true c (change_old g me x s.said c pl.no_change h));
          entered = l.entered;
          change_said = λ above. let k = l.change_said above in (k.0, k.1, there x _ s.said k.2);
          start_said = λ lead n e. there x _ s.said (l.start_said lead n e);
          proposals_said = λ lead. each_slot (λ q t. s.floor < q → Contains (x ∷ s.said) (PrePrepare s.view q t.digest)) s.slot p (accepted d) (λ _. subst (λ y. Contains (x ∷ s.said) y) (pl.proposes lead) (here x s.said)) (λ q t h o. there x _ s.said (l.proposals_said lead q t h o));
          reason = accept_reason why;
          acked = λ v j e h. l.acked v j e (ack_old g me x s.said v j e pl.no_ack h);
          named = λ n h. l.named n (new_old g me x s.said n pl.no_new h);
        }

  -- it prepares what it accepted
  module _ (s : Core) (p : ℕ) (d : List ℕ) (l : Keeps g sent me s) (at : s.slot p ≡ Some (accepted d)) where
    abbrev prepared_slot : Slot
    prepared_slot = record { digest = d; prepared = true; committed = false }

    prepare_stood : (v q : ℕ) (e : List ℕ) → Stood g me (Commit s.view p d ∷ s.said) v q e → Stood g me s.said v q e
    prepare_stood v q e st = elim (stood_split g me (Commit s.view p d) s.said v q e st) [ inl b ↦ absurd b | inr o ↦ o ]

    same_slot : (t : Slot) → s.slot p ≡ Some t → accepted d ≡ t
    same_slot t e = some_same (accepted d) t (sym at ∙ e)

    prepare_in_view : (q : ℕ) (e : List ℕ) → Stood g me (Commit s.view p d ∷ s.said) s.view q e
        → IsChosenIn (after_prepare s p d) q e ⊎ IsFreshIn (after_prepare s p d) q e
    prepare_in_view q e st =
        elim (l.in_view q e (prepare_stood s.view q e st)) [
          | inl a ↦ inl a
          | inr a ↦ inr (
            a.0,
            a.1,
            λ lw. let t = a.2 lw in
                elim (cases_eq q p) [
                  | inl k ↦ (prepared_slot, slot_here s.slot p q _ k, ap (λ (y : Slot). y.digest) (same_slot t.0 (subst (λ y. s.slot y ≡ Some t.0) k t.1)) ∙ t.2)
                  | inr k ↦ (t.0, slot_other s.slot p q _ k ∙ t.1, t.2)
                ],
          )
        ]

    prepare_commit_slot : (q : ℕ) (e : List ℕ) → Contains (Commit s.view p d ∷ s.said) (Commit s.view q e) → s.low < q → (t : Slot) × (with_slot s.slot p prepared_slot q ≡ Some t) × (t.prepared ≡ true) × (t.digest ≡ e)
    prepare_commit_slot q e h lw =
        elim (first_or_rest (Commit s.view p d) (Commit s.view q e) s.said h) [
          | inl k ↦ (let a : p ≡ q = cc in let b : d ≡ e = cc in (prepared_slot, slot_here s.slot p q _ (sym a), refl, b))
          | inr k ↦ (let a = l.commit_slot q e k lw in
              elim (cases_eq q p) [
                | inl y ↦ absurd (false≢true (ap (λ (z : Slot). z.prepared) (same_slot a.0 (subst (λ z. s.slot z ≡ Some a.0) y a.1)) ∙ a.2))
                | inr y ↦ (a.0, slot_other s.slot p q _ y ∙ a.1, a.2, a.3)
              ])
        ]

    prepare_behind : AtLeast (size g) (2 * g.f) (λ k. (k ≡ primary g s.view → ⊥) × Backs g sent k s.view p d) → (v q : ℕ) (e : List ℕ) → Contains (Commit s.view p d ∷ s.said) (Commit v q e)
        → AtLeast (size g) (quorum_of g.f) (λ k. Backs g sent k v q e)
    prepare_behind many v q e h =
        elim (first_or_rest (Commit s.view p d) (Commit v q e) s.said h) [
          | inl k ↦ (let a : s.view ≡ v = cc in let b : p ≡ q = cc in let c : d ≡ e = cc in
              subst (λ y. AtLeast (size g) (quorum_of g.f) (λ k. Backs g sent k v q y)) c (subst (λ y. AtLeast (size g) (quorum_of g.f) (λ k. Backs g sent k v y d)) b (subst (λ y. AtLeast (size g) (quorum_of g.f) (λ k. Backs g sent k y p d)) a
              (with_one (size g) (2 * g.f) (primary g s.view) (λ k. Backs g sent k s.view p d) (omega arith) (l.slot_primary p _ at) many))))
          | inr k ↦ l.behind_commit v q e k
        ]

    pub kept_prepare : s.active ≡ true → AtLeast (size g) (2 * g.f) (λ k. (k ≡ primary g s.view → ⊥) × Backs g sent k s.view p d) → Keeps g sent me (after_prepare s p d)
    kept_prepare active many =
        let x = Commit s.view p d in
        let prior : (c : ViewChange) → Contains (x ∷ s.said) (say.ViewChange c) → Contains s.said (say.ViewChange c) = λ c h. change_old g me x s.said c (λ c e. cc) h in
        record {
          no_later = λ y h. elim (first_or_rest x y s.said h) [ inl e ↦ subst (λ z. view_of z ≤ s.view) e (omega arith) | inr k ↦ l.no_later y k ];
          idle = λ i. absurd (true≢false (sym active ∙ i));
          idle_slots = λ i. absurd (true≢false (sym active ∙ i));
          in_view = prepare_in_view;
          one_digest = λ v q a b m n. l.one_digest v q a b (prepare_stood v q a m) (prepare_stood v q b n);
          one_change = λ c e h k. l.one_change c e (prior c h) (prior e k);
          slot_last = each_slot (λ q t. q ≤ s.last) s.slot p prepared_slot (l.slot_last p _ at) l.slot_last;
          slot_above = each_slot (λ q t. s.low < q) s.slot p prepared_slot (l.slot_above p _ at) l.slot_above;
          slot_stood = each_slot (λ q t. Stood g me (x ∷ s.said) s.view q t.digest) s.slot p prepared_slot (stood_more g me x s.said s.view p d (l.slot_stood p _ at)) (λ q t h. stood_more g me x s.said s.view q t.digest (l.slot_stood q t h));
          slot_primary = each_slot (λ q t. Backs g sent (primary g s.view) s.view q t.digest) s.slot p prepared_slot (l.slot_primary p _ at) l.slot_primary;
          commit_slot = prepare_commit_slot;
          slot_commit = each_slot (λ q t. t.prepared ≡ true → Contains (x ∷ s.said) (Commit s.view q t.digest)) s.slot p prepared_slot (λ _. here x s.said) (λ q t h e. there x _ s.said (l.slot_commit q t h e));
          slot_quorum = each_slot (λ q t. t.committed ≡ true → AtLeast (size g) (quorum_of g.f) (λ k. Told g sent k (Commit s.view q t.digest))) s.slot p prepared_slot (λ e. absurd (false≢true e)) l.slot_quorum;
          behind_commit = prepare_behind many;
          state_true = tells_more g me x s.said (report_of s s.view [] s.prepared s.pre_prepared) (λ v q e h. let k : s.view ≡ v = cc in omega (arith, k)) l.state_true;
          changes_true = λ c h. let k = prior c h in tells_more g me x s.said c (λ v q e h. let a : s.view ≡ v = cc in let b = l.no_later (say.ViewChange c) k in omega (arith, a, b)) (l.changes_true c k);
          entered = l.entered;
          change_said = λ above. let k = l.change_said above in (k.0, k.1, there x _ s.said k.2);
          start_said = λ lead n e. there x _ s.said (l.start_said lead n e);
          proposals_said = λ lead. each_slot (λ q t. s.floor < q → Contains (x ∷ s.said) (PrePrepare s.view q t.digest)) s.slot p prepared_slot (λ o. there x _ s.said (l.proposals_said lead p _ at o)) (λ q t h o. there x _ s.said (l.proposals_said lead q t h o));
          reason = λ v q e st. l.reason v q e (prepare_stood v q e st);
          acked = λ v j e h. l.acked v j e (ack_old g me x s.said v j e (λ u i y k. cc) h);
          named = λ n h. l.named n (new_old g me x s.said n (λ m k. cc) h);
        }

  -- it marks as committed what it prepared
  module _ (s : Core) (p : ℕ) (d : List ℕ) (l : Keeps g sent me s) (at : s.slot p ≡ Some (record { digest = d; prepared = true; committed = false })) where
    abbrev committed_slot : Slot
    committed_slot = record { digest = d; prepared = true; committed = true }

    commit_same : (q : ℕ) (e : List ℕ) → ((t : Slot) × (s.slot q ≡ Some t) × (t.digest ≡ e)) → (t : Slot) × (with_slot s.slot p committed_slot q ≡ Some t) × (t.digest ≡ e)
    commit_same q e t =
        elim (cases_eq q p) [
          | inl k ↦ (committed_slot, slot_here s.slot p q _ k, ap (λ (y : Slot). y.digest) (some_same (record { digest = d; prepared = true; committed = false }) t.0 (sym at ∙ subst (λ y. s.slot y ≡ Some t.0) k t.1)) ∙ t.2)
          | inr k ↦ (t.0, slot_other s.slot p q _ k ∙ t.1, t.2)
        ]

    commit_prepared : (q : ℕ) (e : List ℕ) → ((t : Slot) × (s.slot q ≡ Some t) × (t.prepared ≡ true) × (t.digest ≡ e)) → (t : Slot) × (with_slot s.slot p committed_slot q ≡ Some t) × (t.prepared ≡ true) × (t.digest ≡ e)
    commit_prepared q e t =
        elim (cases_eq q p) [
          | inl k ↦ (committed_slot, slot_here s.slot p q _ k, refl, ap (λ (y : Slot). y.digest) (some_same (record { digest = d; prepared = true; committed = false }) t.0 (sym at ∙ subst (λ y. s.slot y ≡ Some t.0) k t.1)) ∙ t.3)
          | inr k ↦ (t.0, slot_other s.slot p q _ k ∙ t.1, t.2, t.3)
        ]

    pub kept_commit : s.active ≡ true → AtLeast (size g) (quorum_of g.f) (λ k. Told g sent k (Commit s.view p d)) → Keeps g sent me (after_commit s p d)
    kept_commit active many =
        record {
          no_later = l.no_later;
          idle = l.idle;
          idle_slots = λ i. absurd (true≢false (sym active ∙ i));
          in_view = λ q e st. elim (l.in_view q e st) [ inl a ↦ inl a | inr a ↦ inr (a.0, a.1, λ lw. commit_same q e (a.2 lw)) ];
          one_digest = l.one_digest;
          one_change = l.one_change;
          slot_last = each_slot (λ q t. q ≤ s.last) s.slot p committed_slot (l.slot_last p _ at) l.slot_last;
          slot_above = each_slot (λ q t. s.low < q) s.slot p committed_slot (l.slot_above p _ at) l.slot_above;
          slot_stood = each_slot (λ q t. Stood g me s.said s.view q t.digest) s.slot p committed_slot (l.slot_stood p _ at) l.slot_stood;
          slot_primary = each_slot (λ q t. Backs g sent (primary g s.view) s.view q t.digest) s.slot p committed_slot (l.slot_primary p _ at) l.slot_primary;
          commit_slot = λ q e h lw. commit_prepared q e (l.commit_slot q e h lw);
          slot_commit = each_slot (λ q t. t.prepared ≡ true → Contains s.said (Commit s.view q t.digest)) s.slot p committed_slot (λ _. l.slot_commit p _ at refl) l.slot_commit;
          slot_quorum = each_slot (λ q t. t.committed ≡ true → AtLeast (size g) (quorum_of g.f) (λ k. Told g sent k (Commit s.view q t.digest))) s.slot p committed_slot (λ _. many) l.slot_quorum;
          behind_commit = l.behind_commit;
          state_true = l.state_true;
          changes_true = l.changes_true;
          entered = l.entered;
          change_said = l.change_said;
          start_said = l.start_said;
          proposals_said = λ lead. each_slot (λ q t. s.floor < q → Contains s.said (PrePrepare s.view q t.digest)) s.slot p committed_slot (l.proposals_said lead p _ at) (l.proposals_said lead);
          reason = l.reason;
          acked = l.acked;
          named = l.named;
        }

  -- its low mark rises
  pub kept_lower : (s : Core) (low : ℕ) (rows : List PRow) (pairs : List QRow) → Keeps g sent me s → s.low ≤ low → IsTrimmed s low rows pairs → Keeps g sent me (after_lower s low rows pairs)
  kept_lower s low rows pairs l up t =
      record {
        no_later = l.no_later;
        idle = l.idle;
        idle_slots = λ i q x e. l.idle_slots i q x (above_is s.slot low q x e).1;
        in_view = λ q e st. elim (l.in_view q e st) [ inl a ↦ inl a | inr a ↦ inr (a.0, a.1, λ lw. let k = a.2 (omega (arith, lw)) in (k.0, above_kept s.slot low q lw ∙ k.1, k.2)) ];
        one_digest = l.one_digest;
        one_change = l.one_change;
        slot_last = λ q x e. l.slot_last q x (above_is s.slot low q x e).1;
        slot_above = λ q x e. (above_is s.slot low q x e).0;
        slot_stood = λ q x e. l.slot_stood q x (above_is s.slot low q x e).1;
        slot_primary = λ q x e. l.slot_primary q x (above_is s.slot low q x e).1;
        commit_slot = λ q e k lw. let r = l.commit_slot q e k (omega (arith, lw)) in (r.0, above_kept s.slot low q lw ∙ r.1, r.2, r.3);
        slot_commit = λ q x e. l.slot_commit q x (above_is s.slot low q x e).1;
        slot_quorum = λ q x e. l.slot_quorum q x (above_is s.slot low q x e).1;
        behind_commit = l.behind_commit;
        state_true = record {
          row_said = λ r k. l.state_true.row_said r (t.prepared_old r k);
          row_earlier = λ r k. l.state_true.row_earlier r (t.prepared_old r k);
          row_latest = λ v q e k a lw. (let r = l.state_true.row_latest v q e k a (omega (arith, lw)) in (r.0, t.prepared_kept r.0 r.1 (omega (arith, lw, r.2)), r.2, r.3));
          seen_stood = λ q k. l.state_true.seen_stood q (t.pre_prepared_old q k);
          seen_earlier = λ q k. l.state_true.seen_earlier q (t.pre_prepared_old q k);
        };
        changes_true = l.changes_true;
        entered = l.entered;
        change_said = l.change_said;
        start_said = l.start_said;
        proposals_said = λ lead q x e. l.proposals_said lead q x (above_is s.slot low q x e).1;
        reason = l.reason;
        acked = l.acked;
        named = l.named;
      }

  -- it moves to a later view
  module _ (s : Core) (w : ℕ) (points : List Checkpoint) (rows : List PRow) (pairs : List QRow) (l : Keeps g sent me s) (up : s.view < w) (t : IsNoted s rows pairs) where
    abbrev own_change : ViewChange
    own_change = report_of s w points rows pairs

    abbrev move_said : List Statement
    move_said = say.ViewChange own_change ∷ s.said

    move_stood : (v q : ℕ) (e : List ℕ) → Stood g me move_said v q e → Stood g me s.said v q e
    move_stood v q e st = elim (stood_split g me (say.ViewChange own_change) s.said v q e st) [ inl b ↦ absurd b | inr o ↦ o ]

    move_commit : (v q : ℕ) (e : List ℕ) → Contains move_said (Commit v q e) → Contains s.said (Commit v q e)
    move_commit v q e h = commit_old g me (say.ViewChange own_change) s.said v q e (λ u q e k. cc) h

    -- it stands for nothing in the new view
    move_none : (q : ℕ) (e : List ℕ) → Stood g me move_said w q e → ⊥
    move_none q e st = let o = move_stood w q e st in let a = l.no_later o.0 o.1 in let b = stands_view g me o.0 w q e o.2 in absurd (omega (arith, a, b))

    move_latest : (v q : ℕ) (e : List ℕ) → Contains move_said (Commit v q e) → v < w → s.low < q → (r : PRow) × Contains rows r × (r.place ≡ q) × (v ≤ r.view)
    move_latest v q e h below lw =
        let k = move_commit v q e h in
        let most = l.no_later (Commit v q e) k in
        elim (cases_order v s.view) [
          | inl a ↦ (let j = l.commit_slot q e (subst (λ y. Contains s.said (Commit y q e)) a k) lw in let r = t.slots q j.0 j.1 j.2 in (r.0, r.1, r.2, omega (arith, a, r.3)))
          | inr y ↦ elim y [
            | inl b ↦ (let r = l.state_true.row_latest v q e k b lw in let n = t.no_earlier r.0 r.1 in
                (n.0, n.1, n.2 ∙ r.2, elim n.3 [ inl c ↦ omega (arith, c, r.3) | inr c ↦ omega (arith, c, b) ]))
            | inr b ↦ absurd (omega (arith, b, most))
          ]
        ]

    move_row : (r : PRow) → Contains rows r → Contains move_said (Commit r.view r.place r.digest)
    move_row r h =
        elim (t.from r h) [
          | inl k ↦ there (say.ViewChange own_change) _ s.said (l.state_true.row_said r k)
          | inr k ↦ (let j = l.slot_commit r.place k.0 k.1 k.2 in
              there (say.ViewChange own_change) _ s.said (subst (λ y. Contains s.said (Commit y r.place r.digest)) (sym k.4) (subst (λ y. Contains s.said (Commit s.view r.place y)) (sym k.3) j)))
        ]

    move_seen : (q : QRow) → Contains pairs q → (e : Seen) → Contains q.digests e → Stood g me move_said e.view q.place e.digest
    move_seen q h e k =
        stood_more g me (say.ViewChange own_change) s.said e.view q.place e.digest
        (elim (t.seen q h e k) [
          | inl a ↦ subst (λ y. Stood g me s.said e.view y e.digest) a.2 (l.state_true.seen_stood a.0 a.1 e a.3)
          | inr a ↦ subst (λ y. Stood g me s.said y q.place e.digest) (sym a.3) (subst (λ y. Stood g me s.said s.view q.place y) (sym a.2) (l.slot_stood q.place a.0 a.1))
        ])

    move_row_earlier : (r : PRow) → Contains rows r → r.view < w
    move_row_earlier r h = elim (t.from r h) [ inl k ↦ (let y = l.state_true.row_earlier r k in omega (arith, y, up)) | inr k ↦ omega (arith, k.4, up) ]

    move_seen_earlier : (q : QRow) → Contains pairs q → (e : Seen) → Contains q.digests e → e.view < w
    move_seen_earlier q h e k = elim (t.seen q h e k) [ inl a ↦ (let y = l.state_true.seen_earlier a.0 a.1 e a.3 in omega (arith, y, up)) | inr a ↦ omega (arith, a.3, up) ]

    move_true : TellsTrue g me move_said own_change
    move_true = record { row_said = move_row; row_earlier = move_row_earlier; row_latest = move_latest; seen_stood = move_seen; seen_earlier = move_seen_earlier }

    move_changes : (c : ViewChange) → Contains move_said (say.ViewChange c) → TellsTrue g me move_said c
    move_changes c h =
        elim (first_or_rest (say.ViewChange own_change) (say.ViewChange c) s.said h) [
          | inl e ↦ (let k : own_change ≡ c = cc in subst (λ y. TellsTrue g me move_said y) k move_true)
          | inr k ↦ tells_more g me (say.ViewChange own_change) s.said c (λ v q e j. absurd (let i : ◌≡◌ {A = Statement} (say.ViewChange own_change) (Commit v q e) = j in cc)) (l.changes_true c k)
        ]

    move_one : (c e : ViewChange) → Contains move_said (say.ViewChange c) → Contains move_said (say.ViewChange e) → c.view ≡ e.view → c ≡ e
    move_one c e h k same =
        elim (first_or_rest (say.ViewChange own_change) (say.ViewChange c) s.said h) [
          | inl a ↦ elim (first_or_rest (say.ViewChange own_change) (say.ViewChange e) s.said k) [
            | inl b ↦ (let x : own_change ≡ c = cc in let y : own_change ≡ e = cc in sym x ∙ y)
            | inr b ↦ absurd (mixed c e a b same)
          ]
          | inr a ↦ elim (first_or_rest (say.ViewChange own_change) (say.ViewChange e) s.said k) [
            | inl b ↦ absurd (mixed e c b a (sym same))
            | inr b ↦ l.one_change c e a b same
          ]
        ]
      where
        mixed : (c e : ViewChange) → say.ViewChange own_change ≡ say.ViewChange c → Contains s.said (say.ViewChange e) → c.view ≡ e.view → ⊥
        mixed c e a b same = let x : own_change ≡ c = cc in let y = ap (λ (z : ViewChange). z.view) x in let z = l.no_later (say.ViewChange e) b in omega (arith, y, z, same)

    pub kept_move : Keeps g sent me (after_move s w points rows pairs)
    kept_move =
        let x = say.ViewChange own_change in
        record {
          no_later = λ y h. elim (first_or_rest x y s.said h) [ inl e ↦ subst (λ z. view_of z ≤ w) e (omega arith) | inr k ↦ (let j = l.no_later y k in omega (arith, j)) ];
          idle = λ _. move_none;
          idle_slots = λ _ q x e. none_some x e;
          in_view = λ q e st. absurd (move_none q e st);
          one_digest = λ v q a b m n. l.one_digest v q a b (move_stood v q a m) (move_stood v q b n);
          one_change = move_one;
          slot_last = λ q x e. absurd (none_some x e);
          slot_above = λ q x e. absurd (none_some x e);
          slot_stood = λ q x e. absurd (none_some x e);
          slot_primary = λ q x e. absurd (none_some x e);
          commit_slot = λ q e k lw. absurd (let j = l.no_later (Commit w q e) (move_commit w q e k) in omega (arith, j));
          slot_commit = λ q x e. absurd (none_some x e);
          slot_quorum = λ q x e. absurd (none_some x e);
          behind_commit = λ v q e h. l.behind_commit v q e (move_commit v q e h);
          state_true = record { row_said = move_row; row_earlier = move_row_earlier; row_latest = move_latest; seen_stood = move_seen; seen_earlier = move_seen_earlier };
          changes_true = move_changes;
          entered = λ a. absurd (false≢true a);
          change_said = λ _. (own_change, refl, here x s.said);
          start_said = λ lead n e. absurd (no_start n e);
          proposals_said = λ lead q x e. absurd (none_some x e);
          reason = λ v q e st. l.reason v q e (move_stood v q e st);
          acked = λ v j e h. l.acked v j e (ack_old g me x s.said v j e (λ u i y k. cc) h);
          named = λ n h. l.named n (new_old g me x s.said n (λ m k. cc) h);
        }

  -- it acknowledges a view change of its view that it heard
  module _ (s : Core) (j : ℕ) (c : ViewChange) (l : Keeps g sent me s) (heard : IsHeard g sent s.view j c) where
    abbrev own_ack : Statement
    own_ack = Ack s.view j (g.digest_of c)

    ack_stood : (v q : ℕ) (e : List ℕ) → Stood g me (own_ack ∷ s.said) v q e → Stood g me s.said v q e
    ack_stood v q e st = elim (stood_split g me own_ack s.said v q e st) [ inl b ↦ absurd b | inr o ↦ o ]

    ack_commit : (v q : ℕ) (e : List ℕ) → Contains (own_ack ∷ s.said) (Commit v q e) → Contains s.said (Commit v q e)
    ack_commit v q e h = commit_old g me own_ack s.said v q e (λ u q e k. cc) h

    ack_change : (e : ViewChange) → Contains (own_ack ∷ s.said) (say.ViewChange e) → Contains s.said (say.ViewChange e)
    ack_change e h = change_old g me own_ack s.said e (λ u k. cc) h

    ack_true : (e : ViewChange) → TellsTrue g me s.said e → TellsTrue g me (own_ack ∷ s.said) e
    ack_true e k = tells_more g me own_ack s.said e (λ v q d h. absurd (let i : ◌≡◌ {A = Statement} own_ack (Commit v q d) = h in cc)) k

    ack_acked : (v i : ℕ) (d : List ℕ) → Contains (own_ack ∷ s.said) (Ack v i d) → (e : ViewChange) × IsHeard g sent v i e × (g.digest_of e ≡ d)
    ack_acked v i d h =
        elim (first_or_rest own_ack (Ack v i d) s.said h) [
          | inl k ↦ (let a : s.view ≡ v = cc in let b : j ≡ i = cc in let x : g.digest_of c ≡ d = cc in (c, subst (λ y. IsHeard g sent v y c) b (subst (λ y. IsHeard g sent y j c) a heard), x))
          | inr k ↦ l.acked v i d k
        ]

    pub kept_ack : Keeps g sent me (record s { said = own_ack ∷ s.said })
    kept_ack =
        record {
          no_later = λ y h. elim (first_or_rest own_ack y s.said h) [ inl e ↦ subst (λ z. view_of z ≤ s.view) e (omega arith) | inr k ↦ l.no_later y k ];
          idle = λ i q e st. l.idle i q e (ack_stood s.view q e st);
          idle_slots = l.idle_slots;
          in_view = λ q e st. l.in_view q e (ack_stood s.view q e st);
          one_digest = λ v q a b m n. l.one_digest v q a b (ack_stood v q a m) (ack_stood v q b n);
          one_change = λ a b h k. l.one_change a b (ack_change a h) (ack_change b k);
          slot_last = l.slot_last;
          slot_above = l.slot_above;
          slot_stood = λ q t h. stood_more g me own_ack s.said s.view q t.digest (l.slot_stood q t h);
          slot_primary = l.slot_primary;
          commit_slot = λ q e h. l.commit_slot q e (ack_commit s.view q e h);
          slot_commit = λ q t h k. there own_ack _ s.said (l.slot_commit q t h k);
          slot_quorum = l.slot_quorum;
          behind_commit = λ v q e h. l.behind_commit v q e (ack_commit v q e h);
          state_true = ack_true (report_of s s.view [] s.prepared s.pre_prepared) l.state_true;
          changes_true = λ e h. ack_true e (l.changes_true e (ack_change e h));
          entered = l.entered;
          change_said = λ above. let k = l.change_said above in (k.0, k.1, there own_ack _ s.said k.2);
          start_said = λ lead n e. there own_ack _ s.said (l.start_said lead n e);
          proposals_said = λ lead q t h o. there own_ack _ s.said (l.proposals_said lead q t h o);
          reason = λ v q e st. l.reason v q e (ack_stood v q e st);
          acked = ack_acked;
          named = λ n h. l.named n (new_old g me own_ack s.said n (λ m k. cc) h);
        }

  -- it enters its view, and says statements that stand for what the choice gives
  module _ (s : Core) (new : NewView) (slots : ℕ → Option Slot) (last : ℕ) (xs : List Statement) (l : Keeps g sent me s) (still : s.active ≡ false) where
    -- what it says on entering
    pub record Enters : Type 0 where
      pub said_view : (x : Statement) → Contains xs x → view_of x ≡ s.view
      pub said_commit : (v p : ℕ) (d : List ℕ) → Contains xs (Commit v p d) → ⊥
      pub said_change : (e : ViewChange) → Contains xs (say.ViewChange e) → ⊥
      pub said_ack : (v j : ℕ) (d : List ℕ) → Contains xs (Ack v j d) → ⊥
      pub said_new : (n : NewView) → Contains xs (say.NewView n) → (m : Named) → Contains n.named m → (c : ViewChange) × IsHeard g sent n.view m.index c × (g.digest_of c ≡ m.digest)
      pub said_chosen : (x : Statement) → Contains xs x → (v p : ℕ) (d : List ℕ) → StandsBy g me x v p d → (v ≡ s.view) × Gives new.choice p d
      pub slot_last : (p : ℕ) (t : Slot) → slots p ≡ Some t → p ≤ last
      pub slot_new : (p : ℕ) (t : Slot) → slots p ≡ Some t → (s.low < p) × (t ≡ accepted t.digest) × Stood g me xs s.view p t.digest × Backs g sent (primary g s.view) s.view p t.digest
      pub in_view : new.view ≡ s.view
      pub grounds : HasGrounds g sent new
      pub start_said : me ≡ primary g s.view → Contains xs (say.NewView new)

    module _ (t : Enters) where
      enter_split : (v q : ℕ) (e : List ℕ) → Stood g me (xs ++ s.said) v q e → ((v ≡ s.view) × Gives new.choice q e) ⊎ Stood g me s.said v q e
      enter_split v q e st =
          elim (Contains-append_cases xs s.said st.0 st.1) [
            | inl h ↦ inl (t.said_chosen st.0 h v q e st.2)
            | inr h ↦ inr (st.0, h, st.2)
          ]

      enter_commit : (v q : ℕ) (e : List ℕ) → Contains (xs ++ s.said) (Commit v q e) → Contains s.said (Commit v q e)
      enter_commit v q e h = elim (Contains-append_cases xs s.said _ h) [ inl k ↦ absurd (t.said_commit v q e k) | inr k ↦ k ]

      enter_change : (e : ViewChange) → Contains (xs ++ s.said) (say.ViewChange e) → Contains s.said (say.ViewChange e)
      enter_change e h = elim (Contains-append_cases xs s.said _ h) [ inl k ↦ absurd (t.said_change e k) | inr k ↦ k ]

      enter_true : (e : ViewChange) → TellsTrue g me s.said e → TellsTrue g me (xs ++ s.said) e
      enter_true e k = record {
        row_said = λ r h. Contains-append_right xs s.said _ (k.row_said r h);
        row_earlier = k.row_earlier;
        row_latest = λ v q d h. k.row_latest v q d (enter_commit v q d h);
        seen_stood = λ q h d j. let r = k.seen_stood q h d j in (r.0, Contains-append_right xs s.said _ r.1, r.2);
        seen_earlier = k.seen_earlier;
      }

      enter_none : (v q : ℕ) (e : List ℕ) → v ≡ s.view → Stood g me s.said v q e → ⊥
      enter_none v q e a o = l.idle still q e (subst (λ y. Stood g me s.said y q e) a o)

      enter_one : (v q : ℕ) (a b : List ℕ) → Stood g me (xs ++ s.said) v q a → Stood g me (xs ++ s.said) v q b → a ≡ b
      enter_one v q a b m n =
          elim (enter_split v q a m) [
            | inl i ↦ elim (enter_split v q b n) [ inl j ↦ sym i.1.2 ∙ j.1.2 | inr j ↦ absurd (enter_none v q b i.0 j) ]
            | inr i ↦ elim (enter_split v q b n) [ inl j ↦ absurd (enter_none v q a j.0 i) | inr j ↦ l.one_digest v q a b i j ]
          ]

      enter_reason : (v q : ℕ) (e : List ℕ) → 0 < s.view → Stood g me (xs ++ s.said) v q e → HasReason g sent v q e
      enter_reason v q e pos st =
          elim (enter_split v q e st) [
            | inl k ↦ subst (λ y. HasReason g sent y q e) (sym k.0) (record { first = λ z. absurd (omega (arith, z, pos)); later = λ _. (new, t.in_view, t.grounds, inl k.1) })
            | inr o ↦ l.reason v q e o
          ]

      pub kept_enter : 0 < s.view → Keeps g sent me (after_enter s new slots last xs)
      kept_enter pos =
          record {
            no_later = λ y h. elim (Contains-append_cases xs s.said y h) [ inl k ↦ (let e = t.said_view y k in omega (arith, e)) | inr k ↦ l.no_later y k ];
            idle = λ a. absurd (true≢false a);
            idle_slots = λ a. absurd (true≢false a);
            in_view = λ q e st. elim (enter_split s.view q e st) [ inl k ↦ inl (k.1.1, (new, refl, k.1)) | inr o ↦ absurd (l.idle still q e o) ];
            one_digest = enter_one;
            one_change = λ a b h k. l.one_change a b (enter_change a h) (enter_change b k);
            slot_last = t.slot_last;
            slot_above = λ q x h. (t.slot_new q x h).0;
            slot_stood = λ q x h. let r = (t.slot_new q x h).2 in (r.0, Contains-append_left xs s.said _ r.1, r.2);
            slot_primary = λ q x h. (t.slot_new q x h).3;
            commit_slot = λ q e h lw. let r = l.commit_slot q e (enter_commit s.view q e h) lw in absurd (l.idle_slots still q r.0 r.1);
            slot_commit = λ q x h k. absurd (true≢false (sym k ∙ ap (λ (y : Slot). y.prepared) (t.slot_new q x h).1));
            slot_quorum = λ q x h k. absurd (true≢false (sym k ∙ ap (λ (y : Slot). y.committed) (t.slot_new q x h).1));
            behind_commit = λ v q e h. l.behind_commit v q e (enter_commit v q e h);
            state_true = enter_true (report_of s s.view [] s.prepared s.pre_prepared) l.state_true;
            changes_true = λ e h. enter_true e (l.changes_true e (enter_change e h));
            entered = λ _ _. (new, refl, t.in_view, t.grounds, refl);
            change_said = λ above. let k = l.change_said above in (k.0, k.1, Contains-append_right xs s.said _ k.2);
            start_said = λ lead n e. Contains-append_left xs s.said _ (subst (λ y. Contains xs (say.NewView y)) (start_same new n e) (t.start_said lead));
            proposals_said = λ lead q x h o. absurd (let r = (t.slot_new q x h).2 in let k = t.said_chosen r.0 r.1 s.view q x.digest r.2 in omega (arith, o, k.1.1));
            reason = λ v q e st. enter_reason v q e pos st;
            acked = λ v j e h. elim (Contains-append_cases xs s.said _ h) [ inl k ↦ absurd (t.said_ack v j e k) | inr k ↦ l.acked v j e k ];
            named = λ n h. elim (Contains-append_cases xs s.said _ h) [ inl k ↦ t.said_new n k | inr k ↦ l.named n k ];
          }
