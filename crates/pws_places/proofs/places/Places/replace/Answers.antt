use Rattle.std.proofs.Common.{◌∙◌, sym, ap}
use Rattle.std.specs.FinMap.{get, insert}
use Rattle.pws_base.specs.Places.{is_in_window}
use Rattle.pws_places.specs.PlaceMaps.{PlaceMap}
use Rattle.pws_places.specs.Rings.{rows_in}
use Rattle.pws_places.proofs.Answered.{is_other}
use Rattle.pws_places.proofs.RingLemmas.{put_is, get_open}
use Rattle.pws_places.proofs.places.Places.replace.Goals as goal

pub returns-clause-value : goal.returns-clause-value
returns-clause-value g c =
    let within = ap (λ (m : PlaceMap _). is_in_window m.low c.args.place) c.self.view_is ∙ c.has.ensures.inside c.if-not-has.false in
    c.swap_row.ensures.value ∙ (sym (get_open c.self.inside.low c.self.inside.ring.items c.args.place within) ∙ ap (λ (m : PlaceMap _). get m.rows c.args.place) c.self.view_is)

pub returns-clause-map : goal.returns-clause-map
returns-clause-map g c =
    let low = c.self.inside.low in
    let within = ap (λ (m : PlaceMap _). is_in_window m.low c.args.place) c.self.view_is ∙ c.has.ensures.inside c.if-not-has.false in
    ap (λ rows. record { low = low; rows = rows }) (ap (rows_in low) c.swap_row.ensures.ring ∙ put_is low c.self.inside.ring.items c.args.place c.args.row c.self.invariant.whole within)
    ∙ (ap (λ (m : PlaceMap _). record m { rows = insert m.rows c.args.place c.args.row }) c.self.view_is
    ∙ sym (is_other c.args.self.now c.args.place c.args.row (sym c.has.ensures.value ∙ c.if-not-has.false)))
