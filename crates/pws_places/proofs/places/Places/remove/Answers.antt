use Rattle.std.proofs.Common.{◌≡◌, ◌∙◌, sym, ap, subst}
use Rattle.std.specs.FinMap.{get}
use Rattle.pws_places.specs.PlaceMaps.{PlaceMap, without_place}
use Rattle.pws_places.specs.Rings.{rows_in}
use Rattle.pws_places.proofs.RingLemmas.{get_open, get_closed, freed_is, stays_is}
use Rattle.pws_places.proofs.places.Places.remove.Goals as goal

pub returns-then-not-is_in_window-clause-value : goal.returns-then-not-is_in_window-clause-value
returns-then-not-is_in_window-clause-value g c =
    sym (get_closed c.self.inside.low c.self.inside.ring.items c.args.place (sym c.is_in_window.ensures ∙ c.if-not-is_in_window.true))
    ∙ ap (λ (m : PlaceMap _). get m.rows c.args.place) c.self.view_is

pub returns-then-not-is_in_window-clause-map : goal.returns-then-not-is_in_window-clause-map
returns-then-not-is_in_window-clause-map g c =
    let low = c.self.inside.low in
    let ring = c.self.inside.ring.items in
    let out = sym c.is_in_window.ensures ∙ c.if-not-is_in_window.true in
    subst (λ (m : PlaceMap _). m ≡ without_place m c.args.place) c.self.view_is (ap (λ rows. record { low = low; rows = rows }) (stays_is low ring c.args.place out))

pub returns-clause-value : goal.returns-clause-value
returns-clause-value g c =
    let within = sym c.is_in_window.ensures ∙ c.if-not-is_in_window.false in
    c.swap_row.ensures.value ∙ (sym (get_open c.self.inside.low c.self.inside.ring.items c.args.place within) ∙ ap (λ (m : PlaceMap _). get m.rows c.args.place) c.self.view_is)

pub returns-clause-map : goal.returns-clause-map
returns-clause-map g c =
    let low = c.self.inside.low in
    let within = sym c.is_in_window.ensures ∙ c.if-not-is_in_window.false in
    ap (λ rows. record { low = low; rows = rows }) (ap (rows_in low) c.swap_row.ensures.ring ∙ freed_is low c.self.inside.ring.items c.args.place c.self.invariant.whole within)
    ∙ ap (λ (m : PlaceMap _). without_place m c.args.place) c.self.view_is
