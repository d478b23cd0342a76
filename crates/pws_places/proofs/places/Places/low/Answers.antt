use Rattle.std.proofs.Common.{◌≡◌, true, is_some, subst}
use Rattle.std.specs.FinMap.{get}
use Rattle.pws_base.specs.Places.{is_in_window}
use Rattle.pws_places.specs.PlaceMaps.{PlaceMap}
use Rattle.pws_places.proofs.RingLemmas.{inside}
use Rattle.pws_places.proofs.places.Places.low.Goals as goal

pub returns-clause-window : goal.returns-clause-window
returns-clause-window g c = subst (λ (m : PlaceMap _). (p : _) → is_some (get m.rows p) ≡ true → is_in_window m.low p ≡ true) c.self.view_is (inside c.self.inside.low c.self.inside.ring.items)
