-- Lists that rise; this project's own.
use Rattle.std.specs.Prelude.{ℕ, ◌&&◌, Bool, true, List, [], ◌∷◌}
use Rattle.std.specs.List.{list_all}
use Rattle.std.specs.Ordering.{nat_cmp, is_lt, is_le}
use Rattle.std.specs.Cmp.Lexicographic.{slice_cmp}

-- whether each item is below all later ones
abbrev pub rises : {X : Type 0} → (X → X → Bool) → List X → Bool
rises below [] = true
rises below (x ∷ xs) = list_all (below x) xs && rises below xs

-- digests are ordered as their bytes are, the first byte counting most
abbrev pub is_digest_below : List ℕ → List ℕ → Bool
is_digest_below a b = is_lt (slice_cmp nat_cmp a b)

abbrev pub is_digest_at_most : List ℕ → List ℕ → Bool
is_digest_at_most a b = is_le (slice_cmp nat_cmp a b)
