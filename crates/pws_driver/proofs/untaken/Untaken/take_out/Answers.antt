use Rattle.std.proofs.Common.{ℕ, List, map, sym, ◌∙◌, ap}
use Rattle.pws_event.specs.declared.events.Event.{Event}
use Rattle.pws_driver.specs.Places.{places_of, lowered, without_place}
use Rattle.pws_driver.proofs.Others.{places_out}
use Rattle.pws_driver.proofs.untaken.Untaken.take_out.Goals as goal

pub invariant_of-self-2 : goal.invariant_of-self-2
invariant_of-self-2 c =
    let place = c.args.place in
    let es : List Event = c.self.inside.items.items in
    c.lower.ensures
    ∙ (ap (map (lowered place)) (c.take_place.ensures ∙ ap (without_place place) c.self.invariant)
    ∙ (sym (places_out es place) ∙ ap places_of (sym c.in_ok-event.ensures.items)))
