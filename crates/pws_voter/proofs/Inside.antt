-- What the tests of the rows tell of places.
use Rattle.std.proofs.Common.{◌≡◌, ℕ, ◌+◌, ◌<◌, ◌≤◌, true, List, None, sym, arith}
use Rattle.std.specs.Ordering.{nat_cmp}
use Rattle.std.specs.FinMap.{empty, get, get-empty}
use Rattle.std.proofs.lemmas.Bool.{and_parts, leb-true, ltb-true}
use Rattle.pws_base.specs.Limits.{max_number, place_window}
use Rattle.pws_base.specs.Places.{is_in_window}

pub window_first : (low place : ℕ) → is_in_window low place ≡ true → 1 ≤ place
window_first low place h =
    let t : low < place = ltb-true low place (and_parts _ _ h).0 in
    omega arith

-- nobody acknowledged anything where no row is
pub no_acks : (q : ℕ) → None ≡ get (empty {K = ℕ} {X = List ℕ} {R = nat_cmp}) q
no_acks q = sym (get-empty nat_cmp q)

pub window_small : (low place : ℕ) → low ≤ max_number → is_in_window low place ≡ true → place ≤ max_number + place_window
window_small low place l h =
    let t : place ≤ low + place_window = leb-true place (low + place_window) (and_parts _ _ h).1 in
    omega arith
