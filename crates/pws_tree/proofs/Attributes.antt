-- Attributes in order: a lawful arrangement is the sorted one.
use Rattle.std.proofs.Common.{◌≡◌, ◌<◌, suc, true, false, List, [], ◌∷◌, length, map, refl, ap, ◌∙◌, arith, rules, add-one}
use native.Mathlib.Numerals.{unary_clauses}
use Rattle.std.specs.Cmp.{IsTotalOrder}
use Rattle.std.specs.Cmp.Rules.{comparing}
use Rattle.std.specs.Cmp.Lexicographic.{slice_cmp}
use Rattle.std.specs.Ordering.{nat_cmp, is_lt, is_eq, eq_by_cmp, ordering_then, ordering_reverse}
use Rattle.std.specs.declared.cmp.Ordering.{Ordering}
use Rattle.std.specs.declared.cmp.Ordering.TheVariants.{Less, Equal, Greater}
use Rattle.std.specs.List.{IsDistinct, AllByRecursion, list_all}
use Rattle.std.specs.List.Sorted.{IsSorted, IsStrictlySortedBy, IsPermutation}
use Rattle.std.proofs.lemmas.List.Sorted.{All-permutation, IsPermutation-map, IsPermutation-sym, IsPermutation-trans}
use Rattle.std.proofs.lemmas.Map.Keys.{IsDistinct-from_sorted, IsDistinct-IsPermutation}
use Rattle.std.proofs.lemmas.List.Sums.{AllPass-from_list_all, list_all-from_AllPass}
use Rattle.pws_tree.specs.Names.{ascend, name_cmp, is_lawful_attr}
use Rattle.pws_tree.proofs.Joined.{first_true, second_true, both_true}
use Rattle.pws_tree.specs.declared.texts.Name.{Name}
use Rattle.pws_tree.specs.declared.texts.Attr.{Attr}

pub few_ascend : (attrs : List Attr) → length attrs < 2 → ascend attrs ≡ true
few_ascend [] h = refl
few_ascend (a ∷ []) h = refl
few_ascend (a ∷ b ∷ more) h = absurd (omega arith)

pub name_total : IsTotalOrder name_cmp
name_total = search (comparing, rules)

abbrev pub attr_cmp : Attr → Attr → Ordering
attr_cmp a b = ordering_then (name_cmp a.name b.name) (slice_cmp nat_cmp a.value b.value)

abbrev pub names_of : List Attr → List Name
names_of attrs = map (λ a. a.name) attrs

is_less : (o : Ordering) → is_lt o ≡ true → o ≡ Less
is_less Less h = refl
is_less Equal h = cc
is_less Greater h = cc

-- each name is below all later ones
below_later : (n : Name) (a : Attr) (more : List Attr) → name_cmp n a.name ≡ Less → ascend (a ∷ more) ≡ true → AllByRecursion (λ m. name_cmp n m ≡ Less) (names_of (a ∷ more))
below_later n a [] h g = (h, tt)
below_later n a (b ∷ more) h g =
    let next : name_cmp a.name b.name ≡ Less = is_less _ (first_true (is_lt (name_cmp a.name b.name)) (ascend (b ∷ more)) g) in
    (h, below_later n b more (name_total.trans n a.name b.name h next) (second_true (is_lt (name_cmp a.name b.name)) (ascend (b ∷ more)) g))

strict_from_ascend : (attrs : List Attr) → ascend attrs ≡ true → IsStrictlySortedBy name_cmp (names_of attrs)
unfolding IsStrictlySortedBy
strict_from_ascend [] h = tt
strict_from_ascend (a ∷ []) h = (tt, tt)
strict_from_ascend (a ∷ b ∷ more) h =
    let next : name_cmp a.name b.name ≡ Less = is_less _ (first_true (is_lt (name_cmp a.name b.name)) (ascend (b ∷ more)) h) in
    let rest : ascend (b ∷ more) ≡ true = second_true (is_lt (name_cmp a.name b.name)) (ascend (b ∷ more)) h in
    (below_later a.name b more next rest, strict_from_ascend (b ∷ more) rest)

reverse_is_eq : (o : Ordering) → is_eq (ordering_reverse o) ≡ is_eq o
reverse_is_eq Less = refl
reverse_is_eq Equal = refl
reverse_is_eq Greater = refl

flips : (n m : Name) → eq_by_cmp name_cmp n m ≡ eq_by_cmp name_cmp m n
flips n m = ap is_eq (name_total.antisymm n m) ∙ reverse_is_eq (name_cmp m n)

-- of two names in order that aren't one, the first is below
less_of : (o back : Ordering) (rest : Ordering) → o ≡ ordering_reverse back → is_eq o ≡ false → is_lt (ordering_then back rest) ≡ false → is_lt o ≡ true
less_of Less back rest e n s = refl
less_of Equal back rest e n s = cc
less_of Greater Less rest e n s = cc
less_of Greater Equal rest e n s = cc
less_of Greater Greater rest e n s = cc

sorted_rest : (a : Attr) (more : List Attr) → IsSorted attr_cmp (a ∷ more) → IsSorted attr_cmp more
sorted_rest a more s = λ k d low high. rw add-one (simp unary_clauses at (s (suc k) d (omega arith) (omega arith)))

ascend_from_sorted : (attrs : List Attr) → IsSorted attr_cmp attrs → IsDistinct (eq_by_cmp name_cmp) (names_of attrs) → ascend attrs ≡ true
unfolding IsDistinct
ascend_from_sorted [] s d = refl
ascend_from_sorted (a ∷ []) s d = refl
ascend_from_sorted (a ∷ b ∷ more) s d =
    let first : is_lt (attr_cmp b a) ≡ false = s 0 a (omega arith) (omega arith) in
    both_true (is_lt (name_cmp a.name b.name)) (ascend (b ∷ more)) (less_of _ _ _ (name_total.antisymm a.name b.name) d.0.0 first) (ascend_from_sorted (b ∷ more) (sorted_rest a (b ∷ more) s) d.1)

-- where some arrangement ascends, the sorted one does
pub sorted_ascends : (attrs sorted other : List Attr) → IsPermutation attrs sorted → IsSorted attr_cmp sorted → IsPermutation attrs other → ascend other ≡ true → ascend sorted ≡ true
sorted_ascends attrs sorted other p s q h =
    let both : IsPermutation other sorted = IsPermutation-trans other attrs sorted (IsPermutation-sym attrs other q) p in
    let apart : IsDistinct (eq_by_cmp name_cmp) (names_of other) = IsDistinct-from_sorted name_cmp (names_of other) (strict_from_ascend other h) in
    ascend_from_sorted sorted s (IsDistinct-IsPermutation (eq_by_cmp name_cmp) flips (names_of other) (names_of sorted) (IsPermutation-map (λ a. a.name) other sorted both) apart)

pub lawful_attrs_moved : (attrs sorted other : List Attr) → IsPermutation attrs sorted → IsPermutation attrs other → list_all is_lawful_attr other ≡ true → list_all is_lawful_attr sorted ≡ true
lawful_attrs_moved attrs sorted other p q h =
    list_all-from_AllPass is_lawful_attr sorted (All-permutation (λ a. is_lawful_attr a ≡ true) other sorted (IsPermutation-trans other attrs sorted (IsPermutation-sym attrs other q) p) (AllPass-from_list_all is_lawful_attr other h))
