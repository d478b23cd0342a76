use Rattle.std.proofs.Common.{◌≡◌, ℕ, ◌≤◌, List, drop, length}
use Rattle.pws_mark.specs.Prefixes.{value_at, first_place}
use Rattle.pws_mark.proofs.scopes.places_of.Given as goal

abbrev pub invariant-loop-left : goal.invariant-loop-left
invariant-loop-left l =
    record {
      within : l.left ≤ length l.items;
      first : (prefix : List ℕ) → value_at l.places prefix ≡ first_place (drop l.left l.items) l.left prefix;
    }

abbrev pub decreases-loop-left : goal.decreases-loop-left
decreases-loop-left l = l.left
