-- How a layout is stored: sixteen numbers, of which the first belong to groups and the others are 0;
-- this project's own.
use Rattle.std.specs.Prelude.{◌≡◌, ℕ, ◌-◌, ◌≤◌, ◌++◌, List, length, take, drop, replicate, slice_index}
use Rattle.std.proofs.Common.{◌∙◌, ap, arith}
use Rattle.std.proofs.lemmas.List.{length-take-le, take-append-drop}

pub record IsPadded (faults : List ℕ) (groups : ℕ) : Type 0 where
  pub some : 1 ≤ groups
  pub few : groups ≤ 16
  pub sixteen : length faults ≡ 16
  pub shapes : (i : ℕ) → slice_index faults i ≤ 3
  pub rest : drop groups faults ≡ replicate (16 - groups) 0

-- the sixteen numbers that stand for a layout
abbrev pub padded : List ℕ → List ℕ
padded layout = layout ++ replicate (16 - length layout) 0

-- what is made of the padded layout and its length is what is made of the stored numbers
pub padded_is : {X : Type 0} (faults : List ℕ) (groups : ℕ) → IsPadded faults groups → (make : List ℕ → ℕ → X) → make (padded (take groups faults)) (length (take groups faults)) ≡ make faults groups
padded_is faults groups h make =
    let size : length (take groups faults) ≡ groups = length-take-le groups faults (omega arith) in
    let whole : padded (take groups faults) ≡ faults = rw (size, ← h.rest) (take-append-drop groups faults) in
    ap (λ xs. make xs (length (take groups faults))) whole ∙ ap (make faults) size
