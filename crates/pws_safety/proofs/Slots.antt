-- Slots by place, and what one statement more says.
use Rattle.std.proofs.Common.{ℕ, ◌+◌, ◌<◌, ◌≤◌, ◌≡◌, ◌⊎◌, inl, inr, false, ◌||◌, refl, sym, ◌∙◌, subst, List, ◌∷◌, Option, Some, None, ◌==◌, nat_lt, arith}
use Rattle.std.specs.List.{Contains}
use Rattle.std.proofs.lemmas.Bool.{false_from_ne_true, or_cases, eqb-true, ltb-true, lt-ltb, cases_Bool, cases_eq, eq-eqb, ne_eqb, cond-true, cond-false}
use Rattle.pws_msg.specs.declared.changes.ViewChange.{ViewChange}
use Rattle.pws_msg.specs.declared.changes.NewView.{NewView}
use Rattle.pws_safety.specs.Replicas.{AtLeast}
use Rattle.pws_safety.specs.Statement.{Statement, PrePrepare, Prepare, Commit, Ack, view_of}
use Rattle.pws_safety.specs.Statement as say
use Rattle.pws_safety.specs.Statements.{Group, StandsBy, primary}
use Rattle.pws_safety.specs.Voters.{Slot, with_slot, above}
use Rattle.pws_safety.specs.Kept.{Stood, TellsTrue}
use Rattle.pws_base.proofs.Members.{there, first_or_rest}
use Rattle.pws_safety.proofs.Counted.{count_insert}

pub some_same : (a b : Slot) → ◌≡◌ {A = Option Slot} (Some a) (Some b) → a ≡ b
some_same a b e = cc

pub none_some : (a : Slot) → ◌≡◌ {A = Option Slot} None (Some a) → ⊥
none_some a e = cc

pub no_start : (a : NewView) → ◌≡◌ {A = Option NewView} None (Some a) → ⊥
no_start a e = cc

slot_at : (t : ℕ → Option Slot) (p : ℕ) (s : Slot) → with_slot t p s p ≡ Some s
slot_at t p s = cond-true (p == p) _ _ (eq-eqb p p refl)

pub slot_here : (t : ℕ → Option Slot) (p q : ℕ) (s : Slot) → q ≡ p → with_slot t p s q ≡ Some s
slot_here t p q s e = subst (λ y. with_slot t p s y ≡ Some s) (sym e) (slot_at t p s)

pub slot_other : (t : ℕ → Option Slot) (p q : ℕ) (s : Slot) → (q ≡ p → ⊥) → with_slot t p s q ≡ t q
slot_other t p q s ne = cond-false (q == p) _ _ (ne_eqb q p ne)

slot_cases : (t : ℕ → Option Slot) (p q : ℕ) (s x : Slot) → with_slot t p s q ≡ Some x → ((q ≡ p) × (s ≡ x)) ⊎ ((q ≡ p → ⊥) × (t q ≡ Some x))
slot_cases t p q s x h =
    elim (cases_eq q p) [
      | inl e ↦ inl (e, some_same s x (sym (slot_at t p s) ∙ subst (λ y. with_slot t p s y ≡ Some x) e h))
      | inr n ↦ inr (n, sym (slot_other t p q s n) ∙ h)
    ]

-- what holds of the new slot and of each old one holds of each slot
pub each_slot : (P : ℕ → Slot → Type 0) (t : ℕ → Option Slot) (p : ℕ) (s : Slot) → P p s → ((q : ℕ) (x : Slot) → t q ≡ Some x → P q x) → (q : ℕ) (x : Slot) → with_slot t p s q ≡ Some x → P q x
each_slot P t p s new old q x h =
    elim (slot_cases t p q s x h) [
      | inl k ↦ subst (λ y. P y x) (sym k.0) (subst (P p) k.1 new)
      | inr k ↦ old q x k.1
    ]

pub above_is : (t : ℕ → Option Slot) (low q : ℕ) (x : Slot) → above low t q ≡ Some x → (low < q) × (t q ≡ Some x)
above_is t low q x e =
    elim (cases_Bool (nat_lt low q)) [
      | inl y ↦ (ltb-true low q y, sym (cond-true (nat_lt low q) (t q) None y) ∙ e)
      | inr y ↦ absurd (none_some x (sym (cond-false (nat_lt low q) (t q) None y) ∙ e))
    ]

pub above_kept : (t : ℕ → Option Slot) (low q : ℕ) → low < q → above low t q ≡ t q
above_kept t low q l = cond-true (nat_lt low q) (t q) None (lt-ltb low q l)

-- enough others and one more
pub with_one : (n k m : ℕ) (P : ℕ → Type 0) → m < n → P m → AtLeast n k (λ i. (i ≡ m → ⊥) × P i) → AtLeast n (k + 1) P
with_one n k m P l first many =
    let apart : many.0 m ≡ false = false_from_ne_true (many.0 m) (λ t. (many.2 m l t).0 refl) in (
      (λ i. (m == i) || many.0 i),
      omega (arith, count_insert n m many.0 l apart, many.1),
      λ i il t. elim (or_cases (m == i) (many.0 i) t) [ inl e ↦ subst P (eqb-true m i e) first | inr h ↦ (many.2 i il h).1 ],
    )

module _ (g : Group) (me : ℕ) where
  pub stood_split : (x : Statement) (said : List Statement) (v p : ℕ) (d : List ℕ) → Stood g me (x ∷ said) v p d → StandsBy g me x v p d ⊎ Stood g me said v p d
  stood_split x said v p d s = elim (first_or_rest x s.0 said s.1) [ inl e ↦ inl (subst (λ y. StandsBy g me y v p d) (sym e) s.2) | inr h ↦ inr (s.0, h, s.2) ]

  pub stood_more : (x : Statement) (said : List Statement) (v p : ℕ) (d : List ℕ) → Stood g me said v p d → Stood g me (x ∷ said) v p d
  stood_more x said v p d s = (s.0, there x s.0 said s.1, s.2)

  pub stands_view : (x : Statement) (v p : ℕ) (d : List ℕ) → StandsBy g me x v p d → view_of x ≡ v
  stands_view (PrePrepare u q e) v p d s = s.0
  stands_view (Prepare u q e) v p d s = s.0
  stands_view (Commit u q e) v p d s = absurd s
  stands_view (say.ViewChange c) v p d s = absurd s
  stands_view (say.NewView n) v p d s = s.0
  stands_view (Ack u j e) v p d s = absurd s

  -- x stands for d at p in v, for nothing else, and is neither COMMIT nor of a view change; the primary's is PRE_PREPARE
  pub record Pledge (x : Statement) (v p : ℕ) (d : List ℕ) : Type 0 where
    pub is_view : view_of x ≡ v
    pub stands : StandsBy g me x v p d
    pub only : (u q : ℕ) (e : List ℕ) → StandsBy g me x u q e → (u ≡ v) × (q ≡ p) × (e ≡ d)
    pub no_commit : (u q : ℕ) (e : List ℕ) → x ≡ Commit u q e → ⊥
    pub no_change : (c : ViewChange) → x ≡ say.ViewChange c → ⊥
    pub no_ack : (u j : ℕ) (e : List ℕ) → x ≡ Ack u j e → ⊥
    pub no_new : (n : NewView) → x ≡ say.NewView n → ⊥
    pub proposes : me ≡ primary g v → x ≡ PrePrepare v p d

  pub prepare_pledge : (v p : ℕ) (d : List ℕ) → (me ≡ primary g v → ⊥) → Pledge (Prepare v p d) v p d
  prepare_pledge v p d other = record {
    is_view = refl;
    stands = (refl, refl, refl);
    only = λ u q e s. (sym s.0, sym s.1, sym s.2);
    no_commit = λ u q e h. cc;
    no_change = λ c h. cc;
    no_ack = λ u j e h. cc;
    no_new = λ n h. cc;
    proposes = λ lead. absurd (other lead);
  }

  pub propose_pledge : (v p : ℕ) (d : List ℕ) → me ≡ primary g v → Pledge (PrePrepare v p d) v p d
  propose_pledge v p d lead = record {
    is_view = refl;
    stands = (refl, refl, refl, lead);
    only = λ u q e s. (sym s.0, sym s.1, sym s.2);
    no_commit = λ u q e h. cc;
    no_change = λ c h. cc;
    no_ack = λ u j e h. cc;
    no_new = λ n h. cc;
    proposes = λ _. refl;
  }

  pub commit_old : (x : Statement) (said : List Statement) (v p : ℕ) (d : List ℕ) → ((u q : ℕ) (e : List ℕ) → x ≡ Commit u q e → ⊥) → Contains (x ∷ said) (Commit v p d) → Contains said (Commit v p d)
  commit_old x said v p d never h = elim (first_or_rest x (Commit v p d) said h) [ inl e ↦ absurd (never v p d e) | inr k ↦ k ]

  pub change_old : (x : Statement) (said : List Statement) (c : ViewChange) → ((c : ViewChange) → x ≡ say.ViewChange c → ⊥) → Contains (x ∷ said) (say.ViewChange c) → Contains said (say.ViewChange c)
  change_old x said c never h = elim (first_or_rest x (say.ViewChange c) said h) [ inl e ↦ absurd (never c e) | inr k ↦ k ]

  pub ack_old : (x : Statement) (said : List Statement) (v j : ℕ) (d : List ℕ) → ((u j : ℕ) (e : List ℕ) → x ≡ Ack u j e → ⊥) → Contains (x ∷ said) (Ack v j d) → Contains said (Ack v j d)
  ack_old x said v j d never h = elim (first_or_rest x (Ack v j d) said h) [ inl e ↦ absurd (never v j d e) | inr k ↦ k ]

  pub new_old : (x : Statement) (said : List Statement) (n : NewView) → ((n : NewView) → x ≡ say.NewView n → ⊥) → Contains (x ∷ said) (say.NewView n) → Contains said (say.NewView n)
  new_old x said n never h = elim (first_or_rest x (say.NewView n) said h) [ inl e ↦ absurd (never n e) | inr k ↦ k ]

  -- one statement more, no COMMIT of a view below the change's
  pub tells_more : (x : Statement) (said : List Statement) (c : ViewChange) → ((v p : ℕ) (d : List ℕ) → x ≡ Commit v p d → c.view ≤ v) → TellsTrue g me said c → TellsTrue g me (x ∷ said) c
  tells_more x said c late t = record {
    row_said = λ r h. there x _ said (t.row_said r h);
    row_earlier = t.row_earlier;
    row_latest = λ v p d h l a. elim (first_or_rest x (Commit v p d) said h) [ inl e ↦ absurd (let k = late v p d e in omega (arith, k, l)) | inr k ↦ t.row_latest v p d k l a ];
    seen_stood = λ q h e k. stood_more x said e.view q.place e.digest (t.seen_stood q h e k);
    seen_earlier = t.seen_earlier;
  }
