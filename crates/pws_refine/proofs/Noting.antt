-- What is noted in P and in Q as a view is left, place by place.
use Rattle.std.proofs.Common.{◌≡◌, ◌⊎◌, inl, inr, ℕ, Bool, true, false, cond, List, [], ◌∷◌, Option, Some, None, Contains, refl, sym, ◌∙◌, ap, subst}
use Rattle.std.specs.Ordering.{nat_cmp}
use Rattle.std.specs.Option.{unwrap_or}
use Rattle.std.specs.FinMap.{FinMap, get, insert, empty}
use Rattle.std.proofs.lemmas.Bool.{cases_eq}
use Rattle.std.proofs.lemmas.Cmp.{nat_cmp_total, nat_list_cmp_total}
use Rattle.std.proofs.lemmas.Map.Lookups.{exact_unsigned, exact_bytes}
use Rattle.pws_change.specs.Sets.{Prepared, PrePrepared, Digests, row_at, is_full, with_prepared, with_pre_prepared}
use Rattle.pws_base.proofs.Members.{nowhere, first_or_rest}
use Rattle.pws_protocol.specs.States.{Slot}
use Rattle.pws_protocol.specs.Doing.{note_p, noted_p, note_q, noted_q}
use Rattle.pws_base.proofs.Maps.{put_cases, put_here, put_other}

abbrev Slots : Type 0
Slots = FinMap nat_cmp Slot

module _ (view : ℕ) (slots : Slots) where
  -- at a place the set gives what it gave, or what a prepared slot has there
  abbrev pub IsNotedP : ℕ → Option (List ℕ × ℕ) → Option (List ℕ × ℕ) → Type 0
  IsNotedP q old new =
      (new ≡ old) ⊎ ((t : Slot) × (get slots q ≡ Some t) × (t.is_prepared ≡ true) × (new ≡ Some (t.digest, view)))

  put_p : (p q : ℕ) (m : Prepared) (t : Slot) (b : Bool) → get slots p ≡ Some t → t.is_prepared ≡ b → IsNotedP q (get m q) (get (cond b (with_prepared m p t.digest view) m) q)
  put_p p q m t false h e = inl refl
  put_p p q m t true h e =
      elim (cases_eq q p) [
        | inl s ↦ inr (t, subst (λ x. get slots x ≡ Some t) (sym s) h, e, subst (λ x. get (with_prepared m p t.digest view) x ≡ Some (t.digest, view)) (sym s) (put_here nat_cmp_total m p (t.digest, view)))
        | inr n ↦ inl (put_other nat_cmp_total exact_unsigned m p q (t.digest, view) n)
      ]

  p_one : (p q : ℕ) (m : Prepared) (o : Option Slot) → get slots p ≡ o → IsNotedP q (get m q) (get (note_p view p o m) q)
  p_one p q m None h = inl refl
  p_one p q m (Some t) h = put_p p q m t t.is_prepared h refl

  then_p : (q : ℕ) (a b c : Option (List ℕ × ℕ)) → IsNotedP q a b → IsNotedP q b c → IsNotedP q a c
  then_p q a b c x (inr y) = inr y
  then_p q a b c (inl x) (inl y) = inl (y ∙ x)
  then_p q a b c (inr x) (inl y) = inr (x.0, x.1, x.2, y ∙ x.3)

  pub p_noted : (places : List ℕ) (q : ℕ) (m : Prepared) → IsNotedP q (get m q) (get (noted_p view slots places m) q)
  unfolding noted_p
  p_noted [] q m = inl refl
  p_noted (p ∷ ps) q m = then_p q (get m q) _ _ (p_one p q m (get slots p) refl) (p_noted ps q (note_p view p (get slots p) m))

  hit_p : (p : ℕ) (m : Prepared) (t : Slot) (o : Option Slot) → o ≡ Some t → t.is_prepared ≡ true → get (note_p view p o m) p ≡ Some (t.digest, view)
  hit_p p m t o h e = subst (λ (o : Option Slot). get (note_p view p o m) p ≡ Some (t.digest, view)) (sym h) (ap (λ b. get (cond b (with_prepared m p t.digest view) m) p) e ∙ put_here nat_cmp_total m p (t.digest, view))

  same_slot : (q : ℕ) (t u : Slot) → get slots q ≡ Some t → get slots q ≡ Some u → t ≡ u
  same_slot q t u h k = let s : ◌≡◌ {A = Option Slot} (Some t) (Some u) = sym h ∙ k in cc

  stays_p : (q : ℕ) (t : Slot) (a b : Option (List ℕ × ℕ)) → get slots q ≡ Some t → a ≡ Some (t.digest, view) → IsNotedP q a b → b ≡ Some (t.digest, view)
  stays_p q t a b h e (inl x) = x ∙ e
  stays_p q t a b h e (inr x) = subst (λ (u : Slot). b ≡ Some (u.digest, view)) (same_slot q x.0 t x.1 h) x.3

  pub p_noted_at : (places : List ℕ) (q : ℕ) (m : Prepared) (t : Slot) → Contains places q → get slots q ≡ Some t → t.is_prepared ≡ true → get (noted_p view slots places m) q ≡ Some (t.digest, view)
  unfolding noted_p
  p_noted_at [] q m t c h e = absurd (nowhere q c)
  p_noted_at (p ∷ ps) q m t c h e =
      elim (first_or_rest p q ps c) [
        | inl s ↦
            let hit : get (note_p view p (get slots p) m) q ≡ Some (t.digest, view) = subst (λ x. get (note_p view p (get slots p) m) x ≡ Some (t.digest, view)) s (hit_p p m t (get slots p) (subst (λ x. get slots x ≡ Some t) (sym s) h) e) in
            stays_p q t _ _ h hit (p_noted ps q (note_p view p (get slots p) m))
        | inr r ↦ p_noted_at ps q (note_p view p (get slots p) m) t r h e
      ]

  -- a digest of a place's row was there with this view, or is that of its slot with the view that is left
  abbrev pub IsNotedQ : ℕ → List ℕ → ℕ → Option ℕ → Type 0
  IsNotedQ q d v old = (old ≡ Some v) ⊎ ((t : Slot) × (get slots q ≡ Some t) × (d ≡ t.digest) × (v ≡ view))

  row_here : (m : PrePrepared) (p : ℕ) (row : Digests) → row_at (insert m p row) p ≡ row
  row_here m p row = ap (λ (o : Option Digests). unwrap_or o empty) (put_here nat_cmp_total m p row)

  row_other : (m : PrePrepared) (p q : ℕ) (row : Digests) → (q ≡ p → ⊥) → row_at (insert m p row) q ≡ row_at m q
  row_other m p q row n = ap (λ (o : Option Digests). unwrap_or o empty) (put_other nat_cmp_total exact_unsigned m p q row n)

  put_q : (p q : ℕ) (m : PrePrepared) (t : Slot) (d : List ℕ) (v : ℕ) → get slots p ≡ Some t → get (row_at (with_pre_prepared m p t.digest view) q) d ≡ Some v → IsNotedQ q d v (get (row_at m q) d)
  put_q p q m t d v h k =
      elim (cases_eq q p) [
        | inl s ↦
            let at : get (insert (row_at m p) t.digest view) d ≡ Some v = ap (λ (r : Digests). get r d) (sym (row_here m p (insert (row_at m p) t.digest view))) ∙ subst (λ x. get (row_at (with_pre_prepared m p t.digest view) x) d ≡ Some v) s k in
            elim (put_cases nat_list_cmp_total exact_bytes (row_at m p) t.digest d view v at) [
              | inl x ↦ inr (t, subst (λ y. get slots y ≡ Some t) (sym s) h, x.0, sym x.1)
              | inr x ↦ inl (subst (λ y. get (row_at m y) d ≡ Some v) (sym s) x)
            ]
        | inr n ↦ inl (ap (λ (r : Digests). get r d) (sym (row_other m p q (insert (row_at m p) t.digest view) n)) ∙ k)
      ]

  full_q : (p q : ℕ) (m : PrePrepared) (t : Slot) (d : List ℕ) (v : ℕ) (b : Bool) → get slots p ≡ Some t → get (row_at (cond b m (with_pre_prepared m p t.digest view)) q) d ≡ Some v → IsNotedQ q d v (get (row_at m q) d)
  full_q p q m t d v true h k = inl k
  full_q p q m t d v false h k = put_q p q m t d v h k

  q_one : (p q : ℕ) (m : PrePrepared) (d : List ℕ) (v : ℕ) (o : Option Slot) → get slots p ≡ o → get (row_at (note_q view p o m) q) d ≡ Some v → IsNotedQ q d v (get (row_at m q) d)
  q_one p q m d v None h k = inl k
  q_one p q m d v (Some t) h k = full_q p q m t d v (is_full m p t.digest) h k

  pub q_noted : (places : List ℕ) (q : ℕ) (m : PrePrepared) (d : List ℕ) (v : ℕ) → get (row_at (noted_q view slots places m) q) d ≡ Some v → IsNotedQ q d v (get (row_at m q) d)
  unfolding noted_q
  q_noted [] q m d v k = inl k
  q_noted (p ∷ ps) q m d v k =
      elim (q_noted ps q (note_q view p (get slots p) m) d v k) [
        | inl x ↦ q_one p q m d v (get slots p) refl x
        | inr x ↦ inr x
      ]
