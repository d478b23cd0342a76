use Rattle.std.proofs.Common.{◌≡◌, ◌≤◌, rules, ◌∙◌, sym, ap}
use Rattle.std.specs.FinMap.{len}
use Rattle.pws_places.specs.PlaceMaps.{PlaceMap, no_places}
use Rattle.pws_votes.specs.Masks.{Tallied}
use Rattle.pws_votes.specs.MaskBooks.{votes_of}
use Rattle.pws_votes.specs.declared.mask_book.Tallies.{Tallies}
use Rattle.pws_votes.proofs.BookLemmas.{none_is, none_counted}
use Rattle.pws_votes.proofs.mask_book.MaskBookVoteBook.new.Goals as goal

together : (a b d : PlaceMap Tallied) → a ≡ no_places → b ≡ no_places → d ≡ no_places
    → ◌≡◌ {A = Tallies} (record { prepares = a; commits = b; checkpoints = d }) (record { prepares = no_places; commits = no_places; checkpoints = no_places })
together a b d e g h = λ i. record { prepares = e i; commits = g i; checkpoints = h i }

pub invariant_of-result : goal.invariant_of-result
invariant_of-result c =
    let a = c.in_ok-new.ensures in
    let b = c.in_ok-new-2.ensures in
    let d = c.in_ok-new-3.ensures in
    let small : c.args.shape ≤ 3 = search rules in
    record {
      shape = small;
      commits = ap (λ (m : PlaceMap Tallied). m.low) b ∙ sym (ap (λ (m : PlaceMap Tallied). m.low) a);
      checkpoints = ap (λ (m : PlaceMap Tallied). m.low) d ∙ sym (ap (λ (m : PlaceMap Tallied). m.low) a);
      counted = none_counted c.args.shape small ∙ sym (ap (λ t. len (votes_of c.args.shape t)) (together c.in_ok-new.field-0 c.in_ok-new-2.field-0 c.in_ok-new-3.field-0 a b d));
    }

pub returns : goal.returns
returns c =
    let f = c.args.shape in
    let small : f ≤ 3 = search rules in
    ap (λ (t : Tallies). record { f = f; low = t.prepares.low; votes = votes_of f t }) (together c.in_ok-new.field-0 c.in_ok-new-2.field-0 c.in_ok-new-3.field-0 c.in_ok-new.ensures c.in_ok-new-2.ensures c.in_ok-new-3.ensures)
    ∙ ap (λ votes. record { f = f; low = 0; votes = votes }) (none_is f small)
