use Rattle.std.proofs.Common.{◌≡◌, true, is_some, Some, None, ◌∙◌, sym, ap}
use Rattle.std.specs.FinMap.{get}
use Rattle.std.specs.Option.{option_copied}
use Rattle.pws_base.specs.Counts.{count_below}
use Rattle.pws_base.specs.Places.{is_in_window}
use Rattle.pws_places.specs.PlaceMaps.{PlaceMap}
use Rattle.pws_votes.specs.Masks.{Tallied, is_said}
use Rattle.pws_votes.specs.MaskBooks.{map_of}
use Rattle.pws_votes.specs.Votes.{Book, matching_of}
use Rattle.pws_votes.proofs.BookLemmas.{matching_some, matching_none}
use Rattle.pws_votes.proofs.mask_book.MaskBookVoteBook.matching.Goals as goal

pub returns-in-Some : goal.returns-in-Some
returns-in-Some c =
    let f = c.self.inside.shape in
    let t = c.self.inside.tallies in
    let d = c.args.digest.now in
    let tally = c.in-Some.tally.now in
    let there : get (map_of c.args.kind t).rows c.args.place ≡ Some tally = ap (λ (m : PlaceMap Tallied). get m.rows c.args.place) (sym c.map_of.ensures) ∙ (sym c.get.ensures.value ∙ ap option_copied c.in-Some.is) in
    let inside : is_in_window (map_of c.args.kind t).low c.args.place ≡ true = ap (λ (m : PlaceMap Tallied). is_in_window m.low c.args.place) (sym c.map_of.ensures) ∙ c.get.ensures.inside (ap is_some c.in-Some.is) in
    c.matching.ensures.value
    ∙ (ap (λ n. count_below n (λ v. is_said tally v d)) c.n.ensures.value
    ∙ (matching_some f t c.self.invariant.shape (record { commits = c.self.invariant.commits; checkpoints = c.self.invariant.checkpoints }) c.args.kind c.args.place d tally inside there
    ∙ ap (λ (b : Book). matching_of b c.args.kind c.args.place d) c.self.view_is))

pub returns-in-None : goal.returns-in-None
returns-in-None c =
    let f = c.self.inside.shape in
    let t = c.self.inside.tallies in
    let d = c.args.digest.now in
    let none : get (map_of c.args.kind t).rows c.args.place ≡ None = ap (λ (m : PlaceMap Tallied). get m.rows c.args.place) (sym c.map_of.ensures) ∙ (sym c.get.ensures.value ∙ ap option_copied c.in-None.is) in
    matching_none f t c.self.invariant.shape c.args.kind c.args.place d none ∙ ap (λ (b : Book). matching_of b c.args.kind c.args.place d) c.self.view_is
