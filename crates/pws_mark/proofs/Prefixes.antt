-- What is found by prefixes.
use Rattle.std.proofs.Common.{◌≡◌, ℕ, suc, ◌+◌, ◌-◌, ◌≤◌, Bool, true, false, if◌then◌else◌, List, [], ◌∷◌, Option, Some, None, refl, ap, sym, ◌∙◌, arith}
use Rattle.std.specs.Prelude.{option_map, slice_get, Vec}
use Rattle.std.specs.BTreeMap.{BTreeMap, UpdatesBy, get_by}
use Rattle.std.specs.Cmp.Lexicographic.{slice_cmp}
use Rattle.std.specs.Map.{KeepsOthers}
use Rattle.std.specs.Ordering.{nat_cmp, is_eq}
use Rattle.std.specs.Str.{bytes_eq}
use Rattle.std.proofs.lemmas.Cmp.{nat_list_eq_equiv}
use Rattle.std.proofs.lemmas.Map.Text.{is_eq-slice_cmp}
use Rattle.std.proofs.lemmas.Slice.Eq.{bytes_eq-Decides}
use Rattle.pws_mark.specs.Bindings.{Bindings, space_at}
use Rattle.pws_mark.specs.Prefixes.{value_at, first_place}

same_is : (xs ys : List ℕ) → is_eq (slice_cmp nat_cmp xs ys) ≡ true → xs ≡ ys
same_is xs ys h = (bytes_eq-Decides xs ys).0 (sym (is_eq-slice_cmp xs ys) ∙ h)

-- what a map has at a prefix, after a change at one
pub update_at : {A X : Type 0} (old new : BTreeMap (Vec ℕ A) X) (prefix : List ℕ) (w : Option X) → UpdatesBy (λ x y. slice_cmp nat_cmp x.items y.items) (λ k. slice_cmp nat_cmp prefix k.items) old new w → (other : List ℕ) → value_at new other ≡ (if bytes_eq prefix other then w else value_at old other)
unfolding KeepsOthers
update_at {A} {X} old new prefix w h other = by (bytes_eq prefix other) refl
  where
    by : (t : Bool) → bytes_eq prefix other ≡ t → value_at new other ≡ (if t then w else value_at old other)
    by true e = ap (λ p. get_by (λ k. slice_cmp nat_cmp p k.items) new) (sym ((bytes_eq-Decides prefix other).0 e)) ∙ h.1
    by false e =
        h.3 (λ k. is_eq (slice_cmp nat_cmp other k.items))
        (λ x y g. ap (λ p. is_eq (slice_cmp nat_cmp p y.items)) (same_is other x.items g))
        (λ k g. ap (λ p. is_eq (slice_cmp nat_cmp other p)) (sym (same_is prefix k.items g)) ∙ (is_eq-slice_cmp other prefix ∙ apart e))
      where
        apart : bytes_eq prefix other ≡ false → bytes_eq other prefix ≡ false
        apart g = nat_list_eq_equiv.symm other prefix ∙ g

head_place : (b : List ℕ × Option (List ℕ)) (bs : Bindings) (n : ℕ) (prefix : List ℕ) → bytes_eq b.0 prefix ≡ true → first_place (b ∷ bs) n prefix ≡ Some n
head_place b bs n prefix e = rw e refl

tail_place : (b : List ℕ × Option (List ℕ)) (bs : Bindings) (n : ℕ) (prefix : List ℕ) → bytes_eq b.0 prefix ≡ false → first_place (b ∷ bs) n prefix ≡ first_place bs (n + 1) prefix
tail_place b bs n prefix e = rw e refl

pub head_space : (b : List ℕ × Option (List ℕ)) (bs : Bindings) (prefix : List ℕ) → bytes_eq b.0 prefix ≡ true → space_at (b ∷ bs) prefix ≡ Some b.1
head_space b bs prefix e = rw e refl

pub tail_space : (b : List ℕ × Option (List ℕ)) (bs : Bindings) (prefix : List ℕ) → bytes_eq b.0 prefix ≡ false → space_at (b ∷ bs) prefix ≡ space_at bs prefix
tail_space b bs prefix e = rw e refl

-- the place of a first declaration is that of what is found
pub record Placed (items : Bindings) (n i : ℕ) (prefix : List ℕ) : Type 0 where
  pub low : n ≤ i
  pub found : option_map (λ b. b.1) (slice_get items (i - n)) ≡ space_at items prefix

some_same : (n i : ℕ) → ◌≡◌ {A = Option ℕ} (Some n) (Some i) → n ≡ i
some_same n i h = cc

place_step : (b : List ℕ × Option (List ℕ)) (bs : Bindings) (n i : ℕ) (prefix : List ℕ) → first_place (b ∷ bs) n prefix ≡ Some i → (first_place bs (n + 1) prefix ≡ Some i → Placed bs (n + 1) i prefix) → (t : Bool) → bytes_eq b.0 prefix ≡ t → Placed (b ∷ bs) n i prefix
place_step b bs n i prefix h more true e =
    let here : n ≡ i = some_same n i (sym (head_place b bs n prefix e) ∙ h) in
    let first : i - n ≡ 0 = omega (arith, here) in
    record {
      low = omega (arith, here);
      found = ap (λ k. option_map (λ c. c.1) (slice_get (b ∷ bs) k)) first ∙ sym (head_space b bs prefix e);
    }
place_step b bs n i prefix h more false e =
    let rest : Placed bs (n + 1) i prefix = more (sym (tail_place b bs n prefix e) ∙ h) in
    let next : i - n ≡ suc (i - (n + 1)) = omega (arith, rest.low) in
    record {
      low = omega (arith, rest.low);
      found = ap (λ k. option_map (λ c. c.1) (slice_get (b ∷ bs) k)) next ∙ (rest.found ∙ sym (tail_space b bs prefix e));
    }

place_is : (items : Bindings) (n i : ℕ) (prefix : List ℕ) → first_place items n prefix ≡ Some i → Placed items n i prefix
place_is [] n i prefix h = absurd (let bad : ◌≡◌ {A = Option ℕ} None (Some i) = h in cc)
place_is (b ∷ bs) n i prefix h = place_step b bs n i prefix h (place_is bs (n + 1) i prefix) (bytes_eq b.0 prefix) refl

pub found_at : (items : Bindings) (i : ℕ) (prefix : List ℕ) → first_place items 0 prefix ≡ Some i → option_map (λ b. b.1) (slice_get items i) ≡ space_at items prefix
found_at items i prefix h = let none : i ≡ i - 0 = omega arith in ap (λ k. option_map (λ b. b.1) (slice_get items k)) none ∙ (place_is items 0 i prefix h).found

none_step : (b : List ℕ × Option (List ℕ)) (bs : Bindings) (n : ℕ) (prefix : List ℕ) → first_place (b ∷ bs) n prefix ≡ None → (first_place bs (n + 1) prefix ≡ None → None ≡ space_at bs prefix) → (t : Bool) → bytes_eq b.0 prefix ≡ t → None ≡ space_at (b ∷ bs) prefix
none_step b bs n prefix h more true e = absurd (let bad : ◌≡◌ {A = Option ℕ} (Some n) None = sym (head_place b bs n prefix e) ∙ h in cc)
none_step b bs n prefix h more false e = more (sym (tail_place b bs n prefix e) ∙ h) ∙ sym (tail_space b bs prefix e)

pub no_place : (items : Bindings) (n : ℕ) (prefix : List ℕ) → first_place items n prefix ≡ None → None ≡ space_at items prefix
no_place [] n prefix h = refl
no_place (b ∷ bs) n prefix h = none_step b bs n prefix h (no_place bs (n + 1) prefix) (bytes_eq b.0 prefix) refl
