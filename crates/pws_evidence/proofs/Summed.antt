-- The sum over the entries of a `BTreeMap` is that over the values of the map.
use Rattle.std.proofs.Common.{◌≡◌, ℕ, ◌+◌, List, [], ◌∷◌, ◌++◌, ◌<◌, ◌^◌, map, ap, arith}
use Rattle.std.specs.declared.cmp.Ordering.{Ordering}
use Rattle.std.specs.List.{sum}
use Rattle.std.specs.List.Sorted.{IsStrictlySortedBy}
use Rattle.std.specs.Map.{keys_of}
use Rattle.std.specs.Cmp.{IsTotalOrder}
use Rattle.std.specs.FinMap.{IsAntisymmetric, from_entries}
use Rattle.std.proofs.lemmas.List.Sums.{sum_by-cons}
use Rattle.pws_places.proofs.TreeMaps.{entries_are}
use Rattle.pws_protocol.specs.Held.{over}

-- the sum over entries
abbrev pub all_of : {K X : Type 0} → (X → ℕ) → List (K × X) → ℕ
all_of size es = sum (map size (map (λ e. e.1) es))

pub one_more : {K X : Type 0} (size : X → ℕ) (es : List (K × X)) (k : K) (x : X) → all_of size (es ++ (k, x) ∷ []) ≡ all_of size es + size x
one_more size [] k x = omega (arith, sum_by-cons (λ n. n) (size x) [])
one_more size (e ∷ es) k x =
    let more = one_more size es k x in
    omega (arith, more, sum_by-cons (λ n. n) (size e.1) (map size (map (λ e. e.1) (es ++ (k, x) ∷ []))), sum_by-cons (λ n. n) (size e.1) (map size (map (λ e. e.1) es)))

pub whole_is : {K X : Type 0} {R : K → K → Ordering} (o : IsTotalOrder R) → IsAntisymmetric R → (size : X → ℕ) (es : List (K × X)) → IsStrictlySortedBy R (keys_of es) → over size (from_entries {R = R} es) ≡ all_of size es
whole_is o exact size es h = ap (all_of size) (entries_are o exact es h)

-- one more of a sum that fits
pub add_fits : (all left before one total more whole : ℕ) → all ≡ left + total → left ≡ before + one → whole ≡ all → whole < 2 ^ 64 → more ≡ one → total + more < 2 ^ 64
add_fits all left before one total more whole a b c d e = omega (arith, a, b, c, d, e)

pub part_fits : (all left before one total more whole : ℕ) → all ≡ left + total → left ≡ before + one → whole ≡ all → whole < 2 ^ 64 → more ≡ one → more < 2 ^ 64
part_fits all left before one total more whole a b c d e = omega (arith, a, b, c, d, e)

pub add_same : (all left before one total more : ℕ) → all ≡ left + total → left ≡ before + one → more ≡ one → all ≡ before + (total + more)
add_same all left before one total more a b e = omega (arith, a, b, e)

pub at_end : (all total whole : ℕ) → all ≡ 0 + total → whole ≡ all → total ≡ whole
at_end all total whole a b = omega (arith, a, b)
