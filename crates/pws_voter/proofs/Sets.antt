-- Digests in a list as a finite set.
use Rattle.std.proofs.Common.{◌≡◌, ℕ, ◌+◌, Bool, true, false, cond, ◌||◌, List, [], ◌∷◌, ◌++◌, length, refl, sym, ◌∙◌, ap, arith, length-append}
use Rattle.std.specs.List.{list_any}
use Rattle.std.specs.Str.{bytes_eq}
use Rattle.std.specs.Ordering.{nat_cmp, eq_by_cmp}
use Rattle.std.specs.Cmp.{Equal-is}
use Rattle.std.specs.Cmp.Lexicographic.{slice_cmp, nat_list_cmp_total}
use Rattle.std.specs.FinMap.{nat_cmp-IsAntisymmetric, slice_cmp-IsAntisymmetric}
use Rattle.std.specs.FinSet.{FinSet, contains, insert, from_list, len, len-empty, len-insert, contains-insert, contains-from_list, contains_tied, same_set, from_list_push}
use Rattle.std.proofs.lemmas.Map.Text.{is_eq-slice_cmp}

among : (d : List ℕ) (ks : List (List ℕ)) → list_any (bytes_eq d) ks ≡ list_any (eq_by_cmp (slice_cmp nat_cmp) d) ks
among d [] = refl
among d (k ∷ ks) = ap (λ b. b || list_any (bytes_eq d) ks) (sym (is_eq-slice_cmp d k)) ∙ ap (λ b. eq_by_cmp (slice_cmp nat_cmp) d k || b) (among d ks)

pub has_is : (d : List ℕ) (ks : List (List ℕ)) → list_any (bytes_eq d) ks ≡ contains (from_list {R = slice_cmp nat_cmp} ks) d
has_is d ks = among d ks ∙ sym (contains-from_list nat_list_cmp_total ks d)

absorbed : (s : FinSet (slice_cmp nat_cmp)) (k q : List ℕ) → contains s k ≡ true → (b : Bool) → eq_by_cmp (slice_cmp nat_cmp) q k ≡ b → (b || contains s q) ≡ contains s q
absorbed s k q h true t = sym (sym (contains_tied nat_list_cmp_total s q k ((Equal-is (slice_cmp nat_cmp q k)).0 t)) ∙ h)
absorbed s k q h false t = refl

-- one that is there is added to no effect
pub there : (s : FinSet (slice_cmp nat_cmp)) (k : List ℕ) → contains s k ≡ true → s ≡ insert s k
there s k h = same_set nat_list_cmp_total (slice_cmp-IsAntisymmetric nat_cmp-IsAntisymmetric) s (insert s k) (λ q. sym (contains-insert nat_list_cmp_total s k q ∙ absorbed s k q h (eq_by_cmp (slice_cmp nat_cmp) q k) refl))

pub pushed : (ks : List (List ℕ)) (k : List ℕ) → from_list {R = slice_cmp nat_cmp} (ks ++ k ∷ []) ≡ insert (from_list ks) k
pushed ks k = from_list_push nat_list_cmp_total (slice_cmp-IsAntisymmetric nat_cmp-IsAntisymmetric) ks k

-- no digests are none
pub none_counted : (ks : List (List ℕ)) → ks ≡ [] → len (from_list {R = slice_cmp nat_cmp} ks) ≡ length ks
none_counted ks e = ap (λ (xs : List (List ℕ)). len (from_list {R = slice_cmp nat_cmp} xs)) e ∙ (len-empty (slice_cmp nat_cmp) ∙ ap length (sym e))

-- one that is new makes one more
pub counted : (ks : List (List ℕ)) (k : List ℕ) → contains (from_list {R = slice_cmp nat_cmp} ks) k ≡ false → len (from_list {R = slice_cmp nat_cmp} ks) ≡ length ks → len (from_list {R = slice_cmp nat_cmp} (ks ++ k ∷ [])) ≡ length (ks ++ k ∷ [])
counted ks k n e =
    let more : len (from_list {R = slice_cmp nat_cmp} (ks ++ k ∷ [])) ≡ len (from_list {R = slice_cmp nat_cmp} ks) + 1 =
    ap len (pushed ks k) ∙ (len-insert nat_list_cmp_total (from_list ks) k ∙ ap (λ b. cond b (len (from_list {R = slice_cmp nat_cmp} ks)) (len (from_list {R = slice_cmp nat_cmp} ks) + 1)) n) in
    omega (arith, more, e, length-append ks (k ∷ []))
