-- The sets of the names that were seen.
use Rattle.std.proofs.Common.{◌≡◌, ℕ, Bool, true, false, ◌||◌, ◌&&◌, cond, List, [], ◌∷◌, Option, Some, None, refl, ap, sym, ◌∙◌}
use Rattle.std.specs.BTreeSet.{BTreeSet, Updates, contains_by}
use Rattle.std.specs.Borrow.{Bor}
use Rattle.std.specs.Cmp.Lexicographic.{slice_cmp}
use Rattle.std.specs.List.{list_any}
use Rattle.std.specs.Ordering.{nat_cmp, ordering_then, is_eq}
use Rattle.std.specs.declared.cmp.Ordering.{Ordering}
use Rattle.std.specs.declared.cmp.Ordering.TheVariants.{Less, Equal, Greater}
use Rattle.std.specs.Str.{bytes_eq}
use Rattle.std.proofs.lemmas.Cmp.{nat_list_eq_equiv}
use Rattle.std.proofs.lemmas.Map.Text.{is_eq-slice_cmp}
use Rattle.pws_tree.specs.declared.texts.Name.{Name}
use Rattle.pws_mark.specs.Bindings.{same_name}
use Rattle.pws_mark.specs.Seen.{are_one, has_written, has_bound, FindsSeen}

if_or : (a b : Bool) → cond a true b ≡ (a || b)
if_or true b = refl
if_or false b = refl

eq_turned : (xs ys : List ℕ) → is_eq (slice_cmp nat_cmp xs ys) ≡ bytes_eq ys xs
eq_turned xs ys = is_eq-slice_cmp xs ys ∙ nat_list_eq_equiv.symm xs ys

pub written_more : (s n : BTreeSet (Bor (List ℕ))) (k : Bor (List ℕ)) → Updates (λ x y. slice_cmp nat_cmp x.now y.now) s n k true → (name : List ℕ) → has_written n name ≡ (bytes_eq name k.now || has_written s name)
written_more s n k h name =
    h.0 (record { ref_ptr = (0, 0); now = name })
    ∙ (ap (λ b. cond b true (has_written s name)) (eq_turned k.now name) ∙ if_or (bytes_eq name k.now) (has_written s name))

then_eq : (a b : Ordering) → is_eq (ordering_then a b) ≡ (is_eq a && is_eq b)
then_eq Less b = refl
then_eq Equal b = refl
then_eq Greater b = refl

and_turned : (a b : Bool) → (a && b) ≡ (b && a)
and_turned true true = refl
and_turned true false = refl
and_turned false true = refl
and_turned false false = refl

-- a key of a set, of a local part and a namespace
both_eq : (k : Bor (List ℕ) × Bor (List ℕ)) (name : Name) → is_eq (ordering_then (slice_cmp nat_cmp k.0.now name.local) (slice_cmp nat_cmp k.1.now name.space)) ≡ (bytes_eq name.space k.1.now && bytes_eq name.local k.0.now)
both_eq k name =
    then_eq (slice_cmp nat_cmp k.0.now name.local) (slice_cmp nat_cmp k.1.now name.space)
    ∙ (ap (λ b. b && is_eq (slice_cmp nat_cmp k.1.now name.space)) (eq_turned k.0.now name.local)
    ∙ (ap (λ b. bytes_eq name.local k.0.now && b) (eq_turned k.1.now name.space) ∙ and_turned (bytes_eq name.local k.0.now) (bytes_eq name.space k.1.now)))

abbrev pair_cmp : Bor (List ℕ) × Bor (List ℕ) → Bor (List ℕ) × Bor (List ℕ) → Ordering
pair_cmp x y = ordering_then (slice_cmp nat_cmp x.0.now y.0.now) (slice_cmp nat_cmp x.1.now y.1.now)

pub bound_more : (s n : BTreeSet (Bor (List ℕ) × Bor (List ℕ))) (k : Bor (List ℕ) × Bor (List ℕ)) (bound : Option Name) (other : Name) → Updates (λ x y. ordering_then (slice_cmp nat_cmp x.0.now y.0.now) (slice_cmp nat_cmp x.1.now y.1.now)) s n k true → bound ≡ Some other → k.0.now ≡ other.local → k.1.now ≡ other.space → (name : Name) → has_bound n name ≡ (same_name (Some name) bound || has_bound s name)
bound_more s n k bound other h there local space name =
    h.0 (record { ref_ptr = (0, 0); now = name.local }, record { ref_ptr = (0, 0); now = name.space })
    ∙ (ap (λ b. cond b true (has_bound s name)) (both_eq k name)
    ∙ (if_or (bytes_eq name.space k.1.now && bytes_eq name.local k.0.now) (has_bound s name)
    ∙ ap (λ b. b || has_bound s name)
    (ap (λ z. bytes_eq name.space k.1.now && bytes_eq name.local z) local
    ∙ (ap (λ z. bytes_eq name.space z && bytes_eq name.local other.local) space ∙ sym (ap (same_name (Some name)) there)))))

-- one of two tests
any_or : {A : Type 0} (p q : A → Bool) (xs : List A) → list_any (λ x. p x || q x) xs ≡ (list_any p xs || list_any q xs)
any_or p q [] = refl
any_or p q (x ∷ xs) = ap (λ b. (p x || q x) || b) (any_or p q xs) ∙ by (p x) (q x) (list_any p xs) (list_any q xs)
  where
    by : (a b c d : Bool) → ((a || b) || (c || d)) ≡ ((a || c) || (b || d))
    by true b c d = refl
    by false true true d = refl
    by false true false d = refl
    by false false true d = refl
    by false false false d = refl

any_none : {A : Type 0} (xs : List A) → list_any (λ x. false) xs ≡ false
any_none [] = refl
any_none (x ∷ xs) = any_none xs

module _ (written : BTreeSet (Bor (List ℕ))) (bound : BTreeSet (Bor (List ℕ) × Bor (List ℕ))) (seen : List (List ℕ × Option Name)) (finds : FindsSeen written bound seen) (name : List ℕ) (as_bound : Option Name) where
  pub has_either : list_any (are_one (name, as_bound)) seen ≡ (has_written written name || list_any (λ x. same_name as_bound x.1) seen)
  has_either = any_or (λ x. bytes_eq name x.0) (λ x. same_name as_bound x.1) seen ∙ ap (λ b. b || list_any (λ x. same_name as_bound x.1) seen) (sym (finds.by_written name))

  pub has_as_written : has_written written name ≡ true → true ≡ list_any (are_one (name, as_bound)) seen
  has_as_written h = sym (has_either ∙ ap (λ b. b || list_any (λ x. same_name as_bound x.1) seen) h)

  pub has_as_bound : (n : Name) → has_written written name ≡ false → as_bound ≡ Some n → has_bound bound n ≡ list_any (are_one (name, as_bound)) seen
  has_as_bound n h there =
      finds.by_bound n
      ∙ (ap (λ o. list_any (λ x. same_name o x.1) seen) (sym there)
      ∙ sym (has_either ∙ ap (λ b. b || list_any (λ x. same_name as_bound x.1) seen) h))

  pub has_no_bound : has_written written name ≡ false → as_bound ≡ None → false ≡ list_any (are_one (name, as_bound)) seen
  has_no_bound h there =
      sym (has_either ∙ (ap (λ b. b || list_any (λ x. same_name as_bound x.1) seen) h ∙ (ap (λ o. list_any (λ x. same_name o x.1) seen) there ∙ any_none seen)))

pub bound_found : (set : BTreeSet (Bor (List ℕ) × Bor (List ℕ))) (local space : List ℕ) (name : Name) → local ≡ name.local → space ≡ name.space → contains_by (λ k. ordering_then (slice_cmp nat_cmp local k.0.now) (slice_cmp nat_cmp space k.1.now)) set ≡ has_bound set name
bound_found set local space name there here =
    ap (λ z. contains_by (λ k. ordering_then (slice_cmp nat_cmp z k.0.now) (slice_cmp nat_cmp space k.1.now)) set) there
    ∙ ap (λ z. contains_by (λ k. ordering_then (slice_cmp nat_cmp name.local k.0.now) (slice_cmp nat_cmp z k.1.now)) set) here
