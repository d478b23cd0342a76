-- From the facts to agreement: what is settled stays, by induction over views.
use Rattle.std.proofs.Common.{ℕ, zero, suc, ◌<◌, ◌≤◌, ◌≡◌, ◌⊎◌, inl, inr, true, false, not, ◌&&◌, sym, ◌∙◌, subst, List, ◌==◌, arith}
use Rattle.std.specs.Prelude.{nat_lt, nat_le, length}
use Rattle.std.specs.List.{Contains, count_by, list_any, list_all}
use Rattle.std.specs.Str.{bytes_eq}
use Rattle.std.proofs.lemmas.Bool.{true≢false, and_parts, and_from, or_left, or_right, eqb-true, eq-eqb, ltb-true, lt-ltb, leb-true, not-true, cases_order}
use Rattle.std.proofs.lemmas.Slice.Eq.{bytes_eq-Decides}
use Rattle.pws_base.specs.Places.{is_in_window}
use Rattle.pws_base.specs.Shapes.{quorum_of, weak_of}
use Rattle.pws_msg.specs.declared.changes.PRow.{PRow}
use Rattle.pws_msg.specs.declared.changes.QRow.{QRow}
use Rattle.pws_msg.specs.declared.changes.Seen.{Seen}
use Rattle.pws_msg.specs.declared.changes.ViewChange.{ViewChange}
use Rattle.pws_msg.specs.declared.changes.NewView.{NewView}
use Rattle.pws_change.specs.declared.heard.Heard.{Heard}
use Rattle.pws_change.specs.Changes.{has_entry, is_witness, is_row_from, covers, lacks}
use Rattle.pws_change.specs.Choices.{last_of, chosen_at, null_digest}
use Rattle.pws_change.specs.Rising.{rises, is_digest_below}
use Rattle.pws_change.specs.Valid.{IsValid, is_q_row_valid, are_digests_valid}
use Rattle.pws_change.specs.Laws.{HardlyLackedIsKept}
use Rattle.pws_safety.specs.Replicas.{sent_one}
use Rattle.pws_safety.specs.Statement.{Commit}
use Rattle.pws_safety.specs.Statement as say
use Rattle.pws_safety.specs.Statements.{Group, Sent, Gives, StandsFor, Backs, IsSettled, IsCorrect, size}
use Rattle.pws_safety.specs.Kept.{IsBehind, HasGrounds}
use Rattle.pws_safety.specs.Facts.{Facts}
use Rattle.pws_safety.specs.Agreement.{FactsGiveAgreement, QuorumSettles}
use Rattle.pws_base.proofs.Members.{any_has, any_from, all_has, all_from}
use Rattle.pws_safety.proofs.Counted.{count_disjoint, count_apart, a_correct_one, both_have}
use Rattle.pws_safety.proofs.Behind.{agreed_rises, agreed_view}
use Rattle.pws_safety.proofs.Senders.{sent_tells, senders_are_distinct, senders_of}

row_from : (p : ℕ) (d : List ℕ) (v : ℕ) (r : PRow) → r.place ≡ p → (v < r.view) ⊎ ((r.view ≡ v) × (r.digest ≡ d)) → is_row_from p d v r ≡ true
row_from p d v r e (inl g) = and_from _ _ (eq-eqb _ _ e) (or_left _ _ (lt-ltb _ _ g))
row_from p d v r e (inr g) = and_from _ _ (eq-eqb _ _ e) (or_right _ _ (and_from _ _ (eq-eqb _ _ g.0) ((bytes_eq-Decides r.digest d).1 g.1)))

-- what a witness has
pub witness_tells : (p : ℕ) (d : List ℕ) (v : ℕ) (h : Heard) → is_witness p d v h ≡ true
    → (q : QRow) × Contains h.change.pre_prepared q × (q.place ≡ p) × ((e : Seen) × Contains q.digests e × (e.digest ≡ d) × (v ≤ e.view))
witness_tells p d v h t =
    let r = any_has (λ (q : QRow). (q.place == p) && list_any (λ (e : Seen). bytes_eq e.digest d && nat_le v e.view) q.digests) h.change.pre_prepared t in
    let s = and_parts (r.0.place == p) (list_any (λ (e : Seen). bytes_eq e.digest d && nat_le v e.view) r.0.digests) r.2 in
    let u = any_has (λ (e : Seen). bytes_eq e.digest d && nat_le v e.view) r.0.digests s.1 in
    let k = and_parts (bytes_eq u.0.digest d) (nat_le v u.0.view) u.2 in
    (r.0, r.1, eqb-true _ _ s.0, (u.0, u.1, (bytes_eq-Decides u.0.digest d).0 k.0, leb-true _ _ k.1))

-- in a valid change what was pre-prepared is of an earlier view
pub valid_seen : (c : ViewChange) → IsValid c → (q : QRow) → Contains c.pre_prepared q → (e : Seen) → Contains q.digests e → e.view < c.view
valid_seen c v q h e k =
    let a = and_parts (list_all (is_q_row_valid c.low c.view) c.pre_prepared) (rises (λ (a b : QRow). nat_lt a.place b.place) c.pre_prepared) v.pre_prepared in
    let b = all_has (is_q_row_valid c.low c.view) c.pre_prepared a.0 q h in
    let d = and_parts (is_in_window c.low q.place) (are_digests_valid c.view q.digests) b in
    digests c.view q.digests e k d.1
  where
    digests : (view : ℕ) (xs : List Seen) (e : Seen) → Contains xs e → are_digests_valid view xs ≡ true → e.view < view
    digests view xs e k t =
        let a = and_parts (nat_le 1 (length xs) && nat_le (length xs) 16 && list_all (λ (s : Seen). nat_lt s.view view) xs) (rises (λ (a b : Seen). is_digest_below a.digest b.digest) xs) t in
        let b = and_parts (nat_le 1 (length xs) && nat_le (length xs) 16) (list_all (λ (s : Seen). nat_lt s.view view) xs) a.0 in
        ltb-true _ _ (all_has (λ (s : Seen). nat_lt s.view view) xs b.1 e k)

module _ (law : HardlyLackedIsKept) (g : Group) (sent : Sent) (facts : Facts g sent) where
  stands_or : (k v p : ℕ) (d : List ℕ) → g.compromised k ≡ false → Backs g sent k v p d → StandsFor g sent k v p d
  stands_or k v p d good b = elim b [ inl t ↦ absurd (true≢false (sym t ∙ good)) | inr t ↦ t ]

  -- at one view and place correct replicas commit one digest
  one_commit : (i j v p : ℕ) (d e : List ℕ) → IsCorrect g i → IsCorrect g j → Contains sent (i, Commit v p d) → Contains sent (j, Commit v p e) → d ≡ e
  one_commit i j v p d e ci cj a b =
      let r = both_have (size g) (quorum_of g.f) (quorum_of g.f) g.f g.compromised (λ k. Backs g sent k v p d) (λ k. Backs g sent k v p e) facts.sound (omega arith) (facts.commit_has_quorum i v p d ci a) (facts.commit_has_quorum j v p e cj b) in
      facts.one_voice.one_digest r.0 v p d e (r.1, r.2) (stands_or r.0 v p d r.2 r.3) (stands_or r.0 v p e r.2 r.4)

  -- the change of a correct replica that committed covers
  has_cover : (i v p : ℕ) (d : List ℕ) (h : Heard) → IsCorrect g i → Contains sent (i, Commit v p d) → Contains sent (i, say.ViewChange h.change) → v < h.change.view → h.change.low < p → covers p d v h ≡ true
  has_cover i v p d h ci a b l above =
      let r = facts.reports_its_commits.row_is_latest i h.change ci b v p d a l above in
      let k = (facts.reports_its_commits.row_is_commit i h.change ci b r.0 r.1).1 in
      let j : Contains sent (i, Commit r.0.view p r.0.digest) = subst (λ q. Contains sent (i, Commit r.0.view q r.0.digest)) r.2 k in
      let same : r.0.view ≡ v → r.0.digest ≡ d = λ e. one_commit i i v p r.0.digest d ci ci (subst (λ u. Contains sent (i, Commit u p r.0.digest)) e j) a in
      any_from (is_row_from p d v) h.change.prepared r.0 r.1
      (row_from p d v r.0 r.2 (elim (cases_order v r.0.view) [ inl e ↦ inr (sym e, same (sym e)) | inr x ↦ elim x [ inl y ↦ inl y | inr y ↦ absurd (omega (arith, y, r.3)) ] ]))

  few_lack : (v p : ℕ) (d : List ℕ) (new : NewView) (S : List Heard) → IsSettled g sent v p d → v < new.view → IsBehind g sent new S → count_by (lacks p d v) S < quorum_of g.f
  few_lack v p d new S settled l b =
      let apart : (i : ℕ) → i < size g → sent_one (lacks p d v) S i ≡ true → settled.0 i ≡ true → ⊥ = λ i il t k.
      (let r = sent_tells (lacks p d v) S i t in
      let s = settled.2 i il k in
      let e = and_parts (nat_lt r.0.change.low p) (not (covers p d v r.0)) r.3 in
      let good : g.compromised r.0.index ≡ false = subst (λ x. g.compromised x ≡ false) (sym r.2) s.0 in
      let vc : Contains sent (i, say.ViewChange r.0.change) = subst (λ x. Contains sent (x, say.ViewChange r.0.change)) r.2 (b.sent_it r.0 r.1 good) in
      let view = agreed_view g.f new S b.agrees r.0 r.1 in
      let c = has_cover i v p d r.0 (il, s.0) s.1 vc (omega (arith, view, l)) (ltb-true _ _ e.0) in
      true≢false (sym c ∙ not-true _ e.1)) in
      omega (arith, senders_are_distinct (size g) (lacks p d v) S (agreed_rises g.f new S b.agrees) b.replica, count_disjoint (size g) (sent_one (lacks p d v) S) settled.0 apart, settled.1)

  -- of f + 1 witnesses one is correct: it stood for the digest in a view from v on, before the new one
  a_witness : (p v : ℕ) (d : List ℕ) (new : NewView) (S : List Heard) → IsBehind g sent new S → weak_of g.f ≤ count_by (is_witness p d v) S
      → (j : ℕ) × (u : ℕ) × IsCorrect g j × (v ≤ u) × (u < new.view) × StandsFor g sent j u p d
  a_witness p v d new S b many =
      let m = a_correct_one (size g) (weak_of g.f) g.f g.compromised (λ i. (h : Heard) × Contains S h × (h.index ≡ i) × (is_witness p d v h ≡ true)) facts.sound (omega arith) (senders_of (size g) (weak_of g.f) (is_witness p d v) S (agreed_rises g.f new S b.agrees) b.replica many) in
      let h = m.3.0 in
      let good : g.compromised h.index ≡ false = subst (λ y. g.compromised y ≡ false) (sym m.3.2) m.2 in
      let vc = b.sent_it h m.3.1 good in
      let t = witness_tells p d v h m.3.3 in
      let e = t.3.0 in
      let st = facts.reports_its_commits.seen_stands h.index h.change (b.replica h m.3.1, good) vc t.0 t.1 e t.3.1 in
      let below = valid_seen h.change (b.valid h m.3.1) t.0 t.1 e t.3.1 in
      let view = agreed_view g.f new S b.agrees h m.3.1 in
      (h.index, e.view, (b.replica h m.3.1, good), t.3.3, omega (arith, below, view), subst (λ y. StandsFor g sent h.index e.view p y) t.3.2 (subst (λ y. StandsFor g sent h.index e.view y e.digest) t.2 st))

  -- what the choice gives at the place: the settled digest, or one for which a correct replica stood in a view between
  from_choice : (v p : ℕ) (d : List ℕ) (new : NewView) (S : List Heard) → IsSettled g sent v p d → v < new.view → IsBehind g sent new S → new.choice.place < p
      → ((j u : ℕ) (x : List ℕ) → v < u → u < new.view → IsCorrect g j → StandsFor g sent j u p x → x ≡ d) → (p ≤ last_of new.choice) × (chosen_at new.choice p ≡ d)
  from_choice v p d new S settled l b above between =
      let c = new.choice in
      let r = law g.f S c p d v (all_from (λ h. IsValid h.change) S b.valid) b.agrees.choice above (few_lack v p d new S settled l b) in
      let later : ((u : ℕ) × (v < u) × (1 ≤ count_by (has_entry p (chosen_at c p) u) S) × (weak_of g.f ≤ count_by (is_witness p (chosen_at c p) u) S)) → chosen_at c p ≡ d = λ x.
      (let m = a_witness p x.0 (chosen_at c p) new S b x.3 in
      between m.0 m.1 (chosen_at c p) (omega (arith, x.1, m.3)) m.4 m.2 m.5) in
      (r.0, elim r.1 [ inl e ↦ e | inr x ↦ later x ])

  stays_to : (k v w p i : ℕ) (d e : List ℕ) → w ≤ k → IsSettled g sent v p d → v < w → IsCorrect g i → StandsFor g sent i w p e → e ≡ d
  stays_to zero v w p i d e most settled l ci s = absurd (omega arith)
  stays_to (suc k) v w p i d e most settled l ci s =
      let r = (facts.stands_on_a_choice i w p e ci s).later (omega arith) in
      let view = r.1 in
      let c = r.0.choice in
      let go : c.place < p → (p ≤ last_of c) × (chosen_at c p ≡ d) = λ above. from_choice v p d r.0 r.2.0 settled (omega (arith, view, l)) r.2.1 above (λ j u x a b cj t. stays_to k v u p j d x (omega (arith, view, b)) settled a cj t) in
      elim r.3 [
        | inl x ↦ (sym x.2 ∙ (go x.0).1)
        | inr x ↦ absurd (let q : c.place < p = omega (arith, x.0) in let y = (go q).0 in omega (arith, x.0, y))
      ]

  pub settled_stays : (v w p i : ℕ) (d e : List ℕ) → IsSettled g sent v p d → v < w → IsCorrect g i → StandsFor g sent i w p e → e ≡ d
  settled_stays v w p i d e settled l ci s = stays_to w v w p i d e (omega arith) settled l ci s

  a_stander : (v p : ℕ) (d : List ℕ) → IsSettled g sent v p d → (i : ℕ) × IsCorrect g i × StandsFor g sent i v p d
  a_stander v p d settled =
      let m = a_correct_one (size g) (weak_of g.f) g.f g.compromised (λ i. (g.compromised i ≡ false) × Contains sent (i, Commit v p d)) facts.sound (omega arith) settled in
      let q = a_correct_one (size g) (quorum_of g.f) g.f g.compromised (λ k. Backs g sent k v p d) facts.sound (omega arith) (facts.commit_has_quorum m.0 v p d (m.1, m.2) m.3.1) in
      (q.0, (q.1, q.2), stands_or q.0 v p d q.2 q.3)

  pub one_settled : (v w p : ℕ) (d e : List ℕ) → IsSettled g sent v p d → IsSettled g sent w p e → d ≡ e
  one_settled v w p d e a b =
      elim (cases_order v w) [
        | inl same ↦
            (let m = a_correct_one (size g) (weak_of g.f) g.f g.compromised (λ i. (g.compromised i ≡ false) × Contains sent (i, Commit v p d)) facts.sound (omega arith) a in
            let q = a_correct_one (size g) (weak_of g.f) g.f g.compromised (λ i. (g.compromised i ≡ false) × Contains sent (i, Commit w p e)) facts.sound (omega arith) b in
            one_commit m.0 q.0 v p d e (m.1, m.2) (q.1, q.2) m.3.1 (subst (λ x. Contains sent (q.0, Commit x p e)) (sym same) q.3.1))
        | inr x ↦ elim x [
          | inl l ↦ (let m = a_stander w p e b in sym (settled_stays v w p m.0 d e a l m.1 m.2))
          | inr l ↦ (let m = a_stander v p d a in settled_stays w v p m.0 e d b l m.1 m.2)
        ]
      ]

  -- a chosen digest is that of a backed event where those are for which correct replicas stood before
  chosen_backed : (w p : ℕ) (d : List ℕ) → g.backed null_digest ≡ true
      → ((j u : ℕ) (x : List ℕ) → u < w → IsCorrect g j → StandsFor g sent j u p x → g.backed x ≡ true)
      → ((new : NewView) × (new.view ≡ w) × HasGrounds g sent new × (Gives new.choice p d ⊎ ((last_of new.choice < p) × (g.backed d ≡ true)))) → g.backed d ≡ true
  chosen_backed w p d null earlier r =
      let view = r.1 in
      elim r.3 [
        | inr x ↦ x.1
        | inl x ↦ subst (λ y. g.backed y ≡ true) x.2 (elim (r.2.1.agrees.choice.chosen p x.0 x.1) [
          | inl a ↦
              (let m = a_witness p a.0 (chosen_at r.0.choice p) r.0 r.2.0 r.2.1 a.1.meets.witnessed in
              earlier m.0 m.1 (chosen_at r.0.choice p) (omega (arith, m.4, view)) m.2 m.5)
          | inr b ↦ subst (λ y. g.backed y ≡ true) (sym b.2) null
        ])
      ]

  backed_to : (k i w p : ℕ) (d : List ℕ) → g.backed null_digest ≡ true → w < k → IsCorrect g i → StandsFor g sent i w p d → g.backed d ≡ true
  backed_to zero i w p d null most ci s = absurd (omega arith)
  backed_to (suc k) i w p d null most ci s =
      let why = facts.stands_on_a_choice i w p d ci s in
      elim (cases_order 0 w) [
        | inl e ↦ why.first (sym e)
        | inr x ↦ elim x [
          | inl pos ↦ chosen_backed w p d null (λ j u y l cj t. backed_to k j u p y null (omega arith) cj t) (why.later pos)
          | inr neg ↦ absurd (omega (arith, neg))
        ]
      ]

  pub stands_for_backed : g.backed null_digest ≡ true → (i v p : ℕ) (d : List ℕ) → IsCorrect g i → StandsFor g sent i v p d → g.backed d ≡ true
  stands_for_backed null i v p d ci s = backed_to (suc v) i v p d null (omega arith) ci s

pub facts_give_agreement : HardlyLackedIsKept → FactsGiveAgreement
facts_give_agreement law = record {
  stays = λ g sent facts. settled_stays law g sent facts;
  one = λ g sent facts. one_settled law g sent facts;
  backed = λ g sent null facts. stands_for_backed law g sent facts null;
}

pub quorum_settles : QuorumSettles
quorum_settles g sent v p d few many = (
  (λ i. many.0 i && not (g.compromised i)),
  omega (arith, count_apart (size g) many.0 g.compromised, many.1),
  λ i l t. (let e = and_parts (many.0 i) (not (g.compromised i)) t in
      let b = not-true (g.compromised i) e.1 in
      (b, elim (many.2 i l e.0) [ inl x ↦ absurd (true≢false (sym x ∙ b)) | inr x ↦ x ])),
)
