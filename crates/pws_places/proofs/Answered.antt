-- How it is answered that a row is to be put at a place or a digest, and what a map is then.
use Rattle.std.proofs.Common.{◌≡◌, ℕ, ◌+◌, ◌<◌, ◌≤◌, Bool, true, false, cond, nat_lt, List, ◌∙◌, ap, arith}
use Rattle.std.specs.FinMap.{contains_key, insert, len}
use Rattle.pws_base.specs.Places.{is_in_window}
use Rattle.pws_places.specs.declared.places.PlacePut.TheVariants.{Kept, Outside, Already}
use Rattle.std.proofs.lemmas.Bool.Decides.{nat_tests}
use Rattle.pws_places.specs.declared.digests.DigestPut.TheVariants as digest_put
use Rattle.pws_places.specs.DigestMaps as digest_maps
use Rattle.pws_places.specs.PlaceMaps.{PlaceMap, answer_to_put, with_other}

module _ {X : Type 0} where
  pub is_kept : (m : PlaceMap X) (p : ℕ) → is_in_window m.low p ≡ true → contains_key m.rows p ≡ false → answer_to_put m p ≡ Kept
  is_kept m p h k = ap (λ b. cond b (cond (contains_key m.rows p) Already Kept) Outside) h ∙ ap (λ b. cond b Already Kept) k

  pub is_other : (m : PlaceMap X) (p : ℕ) (row : X) → contains_key m.rows p ≡ true → with_other m p row ≡ record m { rows = insert m.rows p row }
  is_other m p row h = ap (λ b. cond b (record m { rows = insert m.rows p row }) m) h

  pub is_new : (m : digest_maps.DigestMap X) (d : List ℕ) → contains_key m.rows d ≡ false → len m.rows < m.most → digest_maps.answer_to_put m d ≡ digest_put.Kept
  is_new m d h k =
      let room : nat_lt (len m.rows) m.most ≡ true = grind (arith, nat_tests) in
      ap (λ b. cond b digest_put.Already (cond (nat_lt (len m.rows) m.most) digest_put.Kept digest_put.Full)) h ∙ ap (λ b. cond b digest_put.Kept digest_put.Full) room

-- a map that had room has at most one row more
pub grown : (b : Bool) (old new most : ℕ) → new ≡ old + cond b 0 1 → old < most → new ≤ most
grown true old new most h k = omega arith
grown false old new most h k = omega arith

module _ {X : Type 0} where
  pub is_other_row : (m : digest_maps.DigestMap X) (d : List ℕ) (row : X) → contains_key m.rows d ≡ true → digest_maps.with_other m d row ≡ record m { rows = insert m.rows d row }
  is_other_row m d row h = ap (λ b. cond b (record m { rows = insert m.rows d row }) m) h

  pub is_same_row : (m : digest_maps.DigestMap X) (d : List ℕ) (row : X) → contains_key m.rows d ≡ false → digest_maps.with_other m d row ≡ m
  is_same_row m d row h = ap (λ b. cond b (record m { rows = insert m.rows d row }) m) h
