use Rattle.std.proofs.Common.{◌∙◌, sym, ap}
use Rattle.std.specs.FinMap as map
use Rattle.pws_places.specs.PlaceMaps.{PlaceMap}
use Rattle.pws_places.specs.Rings.{row_in}
use Rattle.pws_places.proofs.RingLemmas.{get_open, get_closed}
use Rattle.pws_places.proofs.places.Places.get.Goals as goal

pub returns-then-not-is_in_window-clause-value : goal.returns-then-not-is_in_window-clause-value
returns-then-not-is_in_window-clause-value g c =
    sym (get_closed c.self.inside.low c.self.inside.ring.items c.args.place (sym c.is_in_window.ensures ∙ c.if-not-is_in_window.true))
    ∙ ap (λ (m : PlaceMap _). map.get m.rows c.args.place) c.self.view_is

pub returns-clause-value : goal.returns-clause-value
returns-clause-value g c =
    c.row_of.ensures ∙ (ap (λ ring. row_in ring c.args.place) c.deref.ensures.value
    ∙ (sym (get_open c.self.inside.low c.self.inside.ring.items c.args.place (sym c.is_in_window.ensures ∙ c.if-not-is_in_window.false))
    ∙ ap (λ (m : PlaceMap _). map.get m.rows c.args.place) c.self.view_is))
