use Rattle.std.proofs.Common.{◌≡◌, ◌∙◌, sym, ap}
use Rattle.std.specs.FinMap.{empty, get, insert}
use Rattle.std.specs.Option.{unwrap_or}
use Rattle.pws_places.specs.PlaceMaps.{PlaceMap, after_put}
use Rattle.pws_votes.specs.Masks.{Tallied}
use Rattle.pws_votes.proofs.BookLemmas.{in_empty, put_back}
use Rattle.pws_votes.proofs.mask_book.add_at.Goals.{in-Some, in-None}
use Rattle.pws_votes.proofs.mask_book.add_at.Goals as goal

pub add-requires-clause-none : goal.add-requires-clause-none
add-requires-clause-none c =
    let found = get c.args.places.now.rows c.args.place in
    let tally : c.match-remove.tally ≡ unwrap_or found empty = elim c.match-remove.branch [
      | in-Some w ↦ w.tally-is ∙ ap (λ o. unwrap_or o empty) (sym w.in-Some.is ∙ c.remove.ensures.value)
      | in-None w ↦ w.tally-is ∙ (w.new-tally.ensures ∙ ap (λ o. unwrap_or o empty) (sym w.in-None.is ∙ c.remove.ensures.value))
    ] in
    ap (λ (m : Tallied). get m c.args.voter) tally ∙ (in_empty found c.args.voter ∙ c.requires.none)

pub returns : goal.returns
returns c =
    let m = c.args.places.now in
    let found = get m.rows c.args.place in
    let tally : c.match-remove.tally ≡ unwrap_or found empty = elim c.match-remove.branch [
      | in-Some w ↦ w.tally-is ∙ ap (λ o. unwrap_or o empty) (sym w.in-Some.is ∙ c.remove.ensures.value)
      | in-None w ↦ w.tally-is ∙ (w.new-tally.ensures ∙ ap (λ o. unwrap_or o empty) (sym w.in-None.is ∙ c.remove.ensures.value))
    ] in
    c.put-answer.ensures.map
    ∙ (ap (λ (x : PlaceMap Tallied). after_put x c.args.place c.add.new.self) c.remove.ensures.map
    ∙ (put_back m c.args.place c.add.new.self c.requires.inside
    ∙ ap (λ x. record m { rows = insert m.rows c.args.place x }) (c.add.ensures ∙ ap (λ (x : Tallied). insert x c.args.voter c.args.digest.now) tally)))
