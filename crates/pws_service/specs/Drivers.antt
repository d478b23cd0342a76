-- What a driver says of its acts.
use Rattle.std.specs.Prelude.{◌≡◌, List, ◌++◌}

-- the one list goes on in the other
abbrev pub IsPrefix : {A : Type 0} → List A → List A → Type 0
IsPrefix {A} xs ys = (rest : List A) × (ys ≡ xs ++ rest)
