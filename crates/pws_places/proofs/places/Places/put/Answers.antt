use Rattle.std.proofs.Common.{◌∙◌, sym, ap}
use Rattle.std.specs.FinMap.{insert}
use Rattle.pws_base.specs.Places.{is_in_window}
use Rattle.pws_places.specs.PlaceMaps.{PlaceMap, after_answer}
use Rattle.pws_places.specs.Rings.{rows_in}
use Rattle.pws_places.proofs.Answered.{is_kept}
use Rattle.pws_places.proofs.RingLemmas.{put_is}
use Rattle.pws_places.proofs.places.Places.put.Goals as goal

pub returns-clause-map : goal.returns-clause-map
returns-clause-map g c =
    let low = c.self.inside.low in
    let within = sym c.is_in_window.ensures ∙ c.if-not-is_in_window.false in
    let here = ap (λ (m : PlaceMap _). is_in_window m.low c.args.place) (sym c.self.view_is) ∙ within in
    ap (λ rows. record { low = low; rows = rows }) (ap (rows_in low) c.set_row.ensures ∙ put_is low c.self.inside.ring.items c.args.place c.args.row c.self.invariant.whole within)
    ∙ (ap (λ (m : PlaceMap _). record m { rows = insert m.rows c.args.place c.args.row }) c.self.view_is
    ∙ ap (λ a. after_answer a c.args.self.now c.args.place c.args.row) (sym (is_kept c.args.self.now c.args.place here (sym c.has.ensures.value ∙ c.if-has.false))))
