-- The levels of open elements, by the prefixes that their tags declare. It is here for the proofs alone: no contract of
-- another crate names it.
use Rattle.std.specs.Prelude.{◌≡◌, ℕ, ◌-◌, if◌then◌else◌, List, [], ◌∷◌, ◌++◌, fold, length, take, slice_get, Option, Vec}
use Rattle.std.specs.BTreeMap.{BTreeMap}
use Rattle.std.specs.Option.{option_map_or}
use Rattle.std.specs.Str.{bytes_eq}
use Rattle.pws_mark.specs.Bindings.{Bindings}
use Rattle.pws_mark.specs.Prefixes.{value_at}
use Rattle.pws_mark.specs.declared.scopes.OpenElement.{OpenElement}

-- what a map has at a prefix
abbrev pub levels_at : {A B : Type 0} → BTreeMap (Vec ℕ A) (Vec ℕ B) → List ℕ → List ℕ
levels_at levels prefix = option_map_or (λ v. v.items) (value_at levels prefix) []

-- the last one, and what is before it
abbrev pub last_of : List ℕ → Option ℕ
last_of xs = slice_get xs (length xs - 1)

abbrev pub without_last : List ℕ → List ℕ
without_last xs = take (length xs - 1) xs

-- this level, once for each declaration of a prefix
abbrev pub declared_at : ℕ → Bindings → List ℕ → List ℕ
declared_at level [] prefix = []
declared_at level (b ∷ bs) prefix = if bytes_eq b.0 prefix then level ∷ declared_at level bs prefix else declared_at level bs prefix

abbrev pub then_scope : List Bindings → OpenElement → List Bindings
then_scope scopes x = x.scope ∷ scopes

-- what the tags of open elements declare, the innermost first
abbrev pub scopes_of : List OpenElement → List Bindings
scopes_of items = fold then_scope [] items

-- the levels at which a prefix is declared, the outermost first
abbrev pub levels_of : List Bindings → List ℕ → List ℕ
levels_of [] prefix = []
levels_of (s ∷ outer) prefix = levels_of outer prefix ++ declared_at (length outer) s prefix

-- each prefix has its levels
pub record FindsLevels {A B : Type 0} (levels : BTreeMap (Vec ℕ A) (Vec ℕ B)) (items : List OpenElement) : Type 0 where
  pub all : (prefix : List ℕ) → levels_at levels prefix ≡ levels_of (scopes_of items) prefix
