-- Finite maps by place within a window, and what is done with them; this project's own.
use Rattle.std.specs.Prelude.{ℕ, nat_lt, if◌then◌else◌}
use Rattle.std.specs.Ordering.{nat_cmp}
use Rattle.std.specs.Coded.{Coded, code_by, coded×, coded_ℕ}
use Rattle.std.specs.FinMap.{FinMap, contains_key, insert, remove, retain_keys}
use Rattle.std.specs.FinMap as finite
use Rattle.std.proofs.Common.{refl}
use Rattle.pws_base.specs.Places.{is_in_window}
use Rattle.pws_places.specs.declared.places.PlacePut.{PlacePut}
use Rattle.pws_places.specs.declared.places.PlacePut.TheVariants.{Kept, Outside, Already}

-- the low mark of the window, and a row for each place that has one
pub record PlaceMap (X : Type 0) : Type 0 where
  pub low : ℕ
  pub rows : FinMap nat_cmp X

-- how such a map is stored as a value
abbrev pub place_map_code : {X : Type 0} → Coded X → Coded (PlaceMap X)
place_map_code {X} x = code_by (ℕ × FinMap nat_cmp X) (coded× coded_ℕ (finite.code coded_ℕ x)) (λ m. (m.low, m.rows)) (λ p. record { low = p.0; rows = p.1 }) (λ _. refl)

-- a map without places, of low mark 0
abbrev pub no_places : {X : Type 0} → PlaceMap X
no_places = record { low = 0; rows = finite.empty }

-- how it is answered that a row is to be put at a place
abbrev pub answer_to_put : {X : Type 0} → PlaceMap X → ℕ → PlacePut
answer_to_put m place =
    if is_in_window m.low place
    then (if contains_key m.rows place then Already else Kept)
    else Outside

abbrev pub after_answer : {X : Type 0} → PlacePut → PlaceMap X → ℕ → X → PlaceMap X
after_answer Kept m place row = record m { rows = insert m.rows place row }
after_answer Outside m place row = m
after_answer Already m place row = m

-- the map after a row was to be put at a place
abbrev pub after_put : {X : Type 0} → PlaceMap X → ℕ → X → PlaceMap X
after_put m place row = after_answer (answer_to_put m place) m place row

-- the map with another row at a place that has one
abbrev pub with_other : {X : Type 0} → PlaceMap X → ℕ → X → PlaceMap X
with_other m place row = if contains_key m.rows place then record m { rows = insert m.rows place row } else m

-- the map without a place
abbrev pub without_place : {X : Type 0} → PlaceMap X → ℕ → PlaceMap X
without_place m place = record m { rows = remove m.rows place }

-- the map without all its places
abbrev pub cleared : {X : Type 0} → PlaceMap X → PlaceMap X
cleared m = record m { rows = finite.empty }

-- the map of a low mark, at or below which nothing is kept
abbrev pub raised_to : {X : Type 0} → ℕ → PlaceMap X → PlaceMap X
raised_to low m = record m { low = low; rows = retain_keys m.rows (λ place. nat_lt low place) }
