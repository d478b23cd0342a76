use Rattle.std.proofs.Common.{◌≡◌, ◌≤◌, nat_lt, ◌∙◌, ap, arith}
use Rattle.std.specs.FinMap.{retain_keys}
use Rattle.pws_places.specs.PlaceMaps.{PlaceMap, raised_to}
use Rattle.pws_places.specs.Rings.{rows_in}
use Rattle.pws_places.proofs.RingLemmas.{near_is, far_is}
use Rattle.pws_places.proofs.places.Places.raise_to.Goals.{then-low-self-lt-PLACE_WINDOW, else-low-self-lt-PLACE_WINDOW}
use Rattle.pws_places.proofs.places.Places.raise_to.Goals as goal

pub returns : goal.returns
returns g c =
    let low = c.self.inside.low in
    let high = c.args.low in
    let ring = c.self.inside.ring.items in
    let same : low ≡ c.args.self.now.low = ap (λ (m : PlaceMap _). m.low) c.self.view_is in
    let r = c.requires.rises in
    let rises : low ≤ high = omega arith in
    let rows : rows_in high c.if-low-self-lt-PLACE_WINDOW.self-inside.ring.items ≡ retain_keys (rows_in low ring) (λ p. nat_lt high p) =
    elim c.if-low-self-lt-PLACE_WINDOW.branch [
      | then-low-self-lt-PLACE_WINDOW w ↦
          let t = w.if-low-self-lt-PLACE_WINDOW.true in
          ap (λ s. rows_in high s.ring.items) w.self-inside-is ∙ near_is low high ring w.free_between.new.ring.items (record { rises = rises; near = omega arith; freed = w.free_between.ensures.freed; kept = w.free_between.ensures.kept })
      | else-low-self-lt-PLACE_WINDOW w ↦
          let t = w.if-low-self-lt-PLACE_WINDOW.false in
          ap (λ s. rows_in high s.ring.items) w.self-inside-is ∙ far_is low high ring w.free_all.new.ring.items (omega arith) w.free_all.ensures.free
    ]
    in
    ap (λ rows. record { low = high; rows = rows }) rows ∙ ap (raised_to high) c.self.view_is
