-- A row that is put at a place of the window.
use Rattle.std.proofs.Common.{◌≡◌, ℕ, true, false, ap}
use Rattle.std.specs.FinMap.{contains_key, insert}
use Rattle.pws_base.specs.Places.{is_in_window}
use Rattle.pws_places.specs.PlaceMaps.{PlaceMap, after_answer, after_put, with_other}
use Rattle.pws_places.proofs.Answered.{is_kept, is_other}

module _ {X : Type 0} where
  pub put_is : (m : PlaceMap X) (p : ℕ) (row : X) → is_in_window m.low p ≡ true → contains_key m.rows p ≡ false → after_put m p row ≡ record m { rows = insert m.rows p row }
  put_is m p row h k = ap (λ a. after_answer a m p row) (is_kept m p h k)

  pub other_is : (m : PlaceMap X) (p : ℕ) (row : X) → contains_key m.rows p ≡ true → with_other m p row ≡ record m { rows = insert m.rows p row }
  other_is m p row h = is_other m p row h
