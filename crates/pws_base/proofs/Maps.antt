-- The entries of a finite map, and what it gives at a key. For proofs alone; the crates above cite it.
use Rattle.std.proofs.Common.{◌≡◌, ◌⊎◌, inl, inr, Bool, true, false, cond, List, [], ◌∷◌, Option, Some, None, T, ◌&&◌, refl, sym, ◌∙◌, ap, subst, Contains}
use Rattle.std.specs.Ordering.{is_lt, is_eq, eq_by_cmp, ordering_reverse}
use Rattle.std.specs.declared.cmp.Ordering.{Ordering}
use Rattle.std.specs.declared.cmp.Ordering.TheVariants.{Less, Equal, Greater}
use Rattle.std.specs.Cmp.{IsTotalOrder, tied_itself}
use Rattle.std.specs.FinMap.{FinMap, IsAntisymmetric, get, entries, insert, retain_keys, remove, get-entries, entries_sorted, get-insert, get-retain_keys, get-remove}
use Rattle.std.specs.FinMap.Entries.{find, is_sorted, below_all}
use Rattle.std.proofs.lemmas.Map.Views.{tells_apart}
use Rattle.pws_base.proofs.Members.{nowhere, here, there, first_or_rest}

t_parts : (a b : Bool) → T (a && b) → T a × T b
t_parts true true h = (tt, tt)
t_parts true false h = absurd h
t_parts false b h = absurd h

less_of : (r : Ordering) → T (is_lt r) → r ≡ Less
less_of Less h = refl
less_of Equal h = absurd h
less_of Greater h = absurd h

module _ {K X : Type 0} (R : K → K → Ordering) where
  below_has : (x : K) (es : List (K × X)) → T (below_all R x es) → (k : K) (v : X) → Contains es (k, v) → R x k ≡ Less
  below_has x [] h k v c = absurd (nowhere (k, v) c)
  below_has x (e ∷ es) h k v c =
      let t = t_parts (is_lt (R x e.0)) (below_all R x es) h in
      elim (first_or_rest e (k, v) es c) [
        | inl q ↦ subst (λ (p : K × X). R x p.0 ≡ Less) q (less_of (R x e.0) t.0)
        | inr r ↦ below_has x es t.1 k v r
      ]

other_by : {K : Type 0} {R : K → K → Ordering} → IsAntisymmetric R → (k q : K) (b : Bool) → eq_by_cmp R q k ≡ b → (q ≡ k → ⊥) → b ≡ false
other_by exact k q true e n = absurd (n (tells_apart exact q k e))
other_by exact k q false e n = refl

module _ {K X : Type 0} {R : K → K → Ordering} where
  found_by : IsAntisymmetric R → (k : K) (v : X) (e : K × X) (es : List (K × X)) (b : Bool) → eq_by_cmp R k e.0 ≡ b → cond b (Some e.1) (find R k es) ≡ Some v → (find R k es ≡ Some v → Contains es (k, v)) → Contains (e ∷ es) (k, v)
  found_by exact k v e es true t h more =
      let same : k ≡ e.0 = tells_apart exact k e.0 t in
      let val : e.1 ≡ v = cc in
      subst (λ (p : K × X). Contains (e ∷ es) p) (λ i. (sym same i, val i)) (here e es)
  found_by exact k v e es false t h more = there e (k, v) es (more h)

  found_entry : IsAntisymmetric R → (k : K) (v : X) (es : List (K × X)) → find R k es ≡ Some v → Contains es (k, v)
  found_entry exact k v [] h = absurd (let i : ◌≡◌ {A = Option X} None (Some v) = h in cc)
  found_entry exact k v (e ∷ es) h = found_by exact k v e es (eq_by_cmp R k e.0) refl h (found_entry exact k v es)

  module _ (o : IsTotalOrder R) where
    entry_found : (es : List (K × X)) → T (is_sorted R es) → (k : K) (v : X) → Contains es (k, v) → find R k es ≡ Some v
    entry_found [] s k v c = absurd (nowhere (k, v) c)
    entry_found (e ∷ es) s k v c =
        let t = t_parts (below_all R e.0 es) (is_sorted R es) s in
        elim (first_or_rest e (k, v) es c) [
          | inl q ↦ subst (λ (p : K × X). find R p.0 (e ∷ es) ≡ Some p.1) q (ap (λ r. cond (is_eq r) (Some e.1) (find R e.0 es)) (tied_itself o e.0))
          | inr r ↦
              let greater : R k e.0 ≡ Greater = o.antisymm k e.0 ∙ ap ordering_reverse (below_has R e.0 es t.0 k v r) in
              ap (λ r. cond (is_eq r) (Some e.1) (find R k es)) greater ∙ entry_found es t.1 k v r
        ]

    -- an entry is what the map gives at its key
    pub entry_get : (m : FinMap R X) (k : K) (v : X) → Contains (entries m) (k, v) → get m k ≡ Some v
    entry_get m k v c = get-entries m k ∙ entry_found (entries m) (entries_sorted m) k v c

    pub get_entry : IsAntisymmetric R → (m : FinMap R X) (k : K) (v : X) → get m k ≡ Some v → Contains (entries m) (k, v)
    get_entry exact m k v h = found_entry exact k v (entries m) (sym (get-entries m k) ∙ h)

    put_by : IsAntisymmetric R → (k q : K) (v x : X) (old : Option X) (b : Bool) → eq_by_cmp R q k ≡ b → cond b (Some v) old ≡ Some x → ((q ≡ k) × (v ≡ x)) ⊎ (old ≡ Some x)
    put_by exact k q v x old true e h = inl (tells_apart exact q k e, cc)
    put_by exact k q v x old false e h = inr h

    -- what a map gives after an insertion is the new value, or an old one
    pub put_cases : IsAntisymmetric R → (m : FinMap R X) (k q : K) (v x : X) → get (insert m k v) q ≡ Some x → ((q ≡ k) × (v ≡ x)) ⊎ (get m q ≡ Some x)
    put_cases exact m k q v x h = put_by exact k q v x (get m q) (eq_by_cmp R q k) refl (sym (get-insert o m k v q) ∙ h)

    pub put_here : (m : FinMap R X) (k : K) (v : X) → get (insert m k v) k ≡ Some v
    put_here m k v = get-insert o m k v k ∙ ap (λ r. cond (is_eq r) (Some v) (get m k)) (tied_itself o k)

    pub put_other : IsAntisymmetric R → (m : FinMap R X) (k q : K) (v : X) → (q ≡ k → ⊥) → get (insert m k v) q ≡ get m q
    put_other exact m k q v n = get-insert o m k v q ∙ ap (λ b. cond b (Some v) (get m q)) (other_by exact k q (eq_by_cmp R q k) refl n)

    gone_by : (k q : K) (x : X) (old : Option X) (b : Bool) → eq_by_cmp R q k ≡ b → cond b None old ≡ Some x → (old ≡ Some x) × (q ≡ k → ⊥)
    gone_by k q x old true e h = absurd (let i : ◌≡◌ {A = Option X} None (Some x) = h in cc)
    gone_by k q x old false e h = (h, λ s. let y : eq_by_cmp R q q ≡ true = ap is_eq (tied_itself o q) in let z : eq_by_cmp R q q ≡ false = subst (λ w. eq_by_cmp R q w ≡ false) (sym s) e in absurd (cc))

    pub remove_cases : (m : FinMap R X) (k q : K) (x : X) → get (remove m k) q ≡ Some x → (get m q ≡ Some x) × (q ≡ k → ⊥)
    remove_cases m k q x h = gone_by k q x (get m q) (eq_by_cmp R q k) refl (sym (get-remove o m k q) ∙ h)

kept_by : {X : Type 0} (b : Bool) (old : Option X) (x : X) → cond b old None ≡ Some x → (b ≡ true) × (old ≡ Some x)
kept_by true old x h = (refl, h)
kept_by {X} false old x h = absurd (let i : ◌≡◌ {A = Option X} None (Some x) = h in cc)

-- what is kept passes the test, and was there
pub retain_cases : {K X : Type 0} {R : K → K → Ordering} → IsAntisymmetric R → (m : FinMap R X) (p : K → Bool) (q : K) (x : X) → get (retain_keys m p) q ≡ Some x → (p q ≡ true) × (get m q ≡ Some x)
retain_cases exact m p q x h = kept_by (p q) (get m q) x (sym (get-retain_keys m p q (λ y e. ap p (sym (exact q y e)))) ∙ h)

pub retain_kept : {K X : Type 0} {R : K → K → Ordering} → IsAntisymmetric R → (m : FinMap R X) (p : K → Bool) (q : K) → p q ≡ true → get (retain_keys m p) q ≡ get m q
retain_kept exact m p q h = get-retain_keys m p q (λ y e. ap p (sym (exact q y e))) ∙ ap (λ b. cond b (get m q) None) h
