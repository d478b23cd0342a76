-- For proofs alone. A ring of rows, and the map that it stands for.
use Rattle.std.specs.Prelude.{◌≡◌, ℕ, ◌≤◌, ◌<◌, ◌+◌, ◌-◌, ◌%◌, List, [], ◌∷◌, length, slice_index_or, Option, Some, None}
use Rattle.std.specs.List.{filter_map, range_with_len}
use Rattle.std.specs.Option.{option_map}
use Rattle.std.specs.Ordering.{nat_cmp}
use Rattle.std.specs.FinMap.{FinMap, from_sorted}
use Rattle.pws_base.specs.Limits.{max_number, place_window}

-- where the row of a place is
abbrev pub index_of : ℕ → ℕ
index_of place = place % place_window

-- what stands in the row of a place
abbrev pub row_in : {X : Type 0} → List (Option X) → ℕ → Option X
row_in ring place = slice_index_or ring (index_of place) None

-- a place with its row, where it has one
abbrev entry_by : {X : Type 0} → (ℕ → Option X) → ℕ → Option (ℕ × X)
entry_by row place = option_map (λ x. (place, x)) (row place)

-- the places from one on that have a row, so many of them at most
unfoldable pub entries_by : {X : Type 0} → (ℕ → Option X) → ℕ → ℕ → List (ℕ × X)
entries_by row first count = filter_map (entry_by row) (range_with_len first count)

-- the map of the places in the window that have a row
unfoldable pub rows_in : {X : Type 0} → ℕ → List (Option X) → FinMap nat_cmp X
rows_in low ring = from_sorted (entries_by (row_in ring) (low + 1) place_window)

-- what a ring keeps
pub record IsRing {X : Type 0} (low : ℕ) (ring : List (Option X)) : Type 0 where
  pub whole : length ring ≡ place_window
  pub small : low ≤ max_number

-- the entries of the window after so many of its places
abbrev pub left_after : {X : Type 0} → (ℕ → Option X) → ℕ → ℕ → List (ℕ × X)
left_after row low passed = entries_by row (low + 1 + passed) (place_window - passed)

-- the first of them, with how many places of the window are before it
abbrev pub FindsFirst : {X : Type 0} → (ℕ → Option X) → ℕ → ℕ → Option (ℕ × X) → Type 0
FindsFirst row low passed None = left_after row low passed ≡ []
FindsFirst row low passed (Some x) = (x.0 < place_window) × (left_after row low passed ≡ (low + 1 + x.0, x.1) ∷ left_after row low (x.0 + 1))
