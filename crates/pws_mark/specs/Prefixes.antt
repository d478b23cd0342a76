-- Prefixes, and what is found by them. It is here for the proofs alone: no contract of another crate names it.
use Rattle.std.specs.Prelude.{◌≡◌, ℕ, ◌+◌, if◌then◌else◌, List, [], ◌∷◌, Option, Some, None, Vec}
use Rattle.std.specs.BTreeMap.{BTreeMap, get_by}
use Rattle.std.specs.Cmp.Lexicographic.{slice_cmp}
use Rattle.std.specs.Ordering.{nat_cmp}
use Rattle.std.specs.Str.{bytes_eq}
use Rattle.pws_mark.specs.Bindings.{Bindings}

-- what a map has at a prefix
abbrev pub value_at : {A X : Type 0} → BTreeMap (Vec ℕ A) X → List ℕ → Option X
value_at values prefix = get_by (λ k. slice_cmp nat_cmp prefix k.items) values

-- the place of the first declaration of a prefix, where the first of these has this place
abbrev pub first_place : Bindings → ℕ → List ℕ → Option ℕ
first_place [] n prefix = None
first_place (b ∷ bs) n prefix = if bytes_eq b.0 prefix then Some n else first_place bs (n + 1) prefix

-- the places are those of the first declarations
pub record FindsFirst {A : Type 0} (places : BTreeMap (Vec ℕ A) ℕ) (items : Bindings) : Type 0 where
  pub first : (prefix : List ℕ) → value_at places prefix ≡ first_place items 0 prefix
