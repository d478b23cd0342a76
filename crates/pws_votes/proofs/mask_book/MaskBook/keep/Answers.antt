use Rattle.std.proofs.Common.{◌≡◌, ◌+◌, ◌&&◌, nat_lt, is_some, ◌∙◌, sym, ap, subst, arith}
use Rattle.std.specs.FinMap.{insert}
use Rattle.pws_base.specs.Places.{is_in_window}
use Rattle.pws_base.specs.Shapes.{size_of_group}
use Rattle.pws_votes.specs.declared.mask_book.Tallies.{Tallies}
use Rattle.pws_votes.specs.Votes.{Book, key, can_vote, has_vote, after_answer}
use Rattle.pws_votes.specs.MaskBooks.{vote_in, votes_of, with_vote, IsBook}
use Rattle.pws_votes.proofs.BookLemmas.{low_stays, commits_stay, checkpoints_stay, added, counted, is_already, is_kept_vote, book_of}
use Rattle.pws_votes.proofs.Numbered.{get_is, len_is, listed_few}
use Rattle.pws_votes.proofs.mask_book.MaskBook.keep.Goals as goal

pub returns-then-is_some-clause-answer : goal.returns-then-is_some-clause-answer
returns-then-is_some-clause-answer c =
    let k = key c.args.kind c.args.place c.args.voter in
    let inside = ap (λ l. nat_lt c.args.voter (size_of_group c.self.inside.shape) && is_in_window l c.args.place) (sym c.low-low.ensures.value) ∙ (sym c.can_vote.ensures ∙ c.if-not-can_vote.false) in
    let can = ap (λ (b : Book). can_vote b k) (sym c.self.view_is) ∙ inside in
    let has = ap (λ (b : Book). has_vote b k) (sym c.self.view_is) ∙ (ap is_some (get_is c.self.inside.shape c.self.inside.tallies c.self.invariant.shape k) ∙ (ap is_some (sym c.vote_in.ensures) ∙ (sym c.is_some.ensures ∙ c.if-is_some.true))) in
    sym (is_already c.args.self.now k can has)

pub returns-then-is_some-clause-book : goal.returns-then-is_some-clause-book
returns-then-is_some-clause-book c =
    let k = key c.args.kind c.args.place c.args.voter in
    let inside = ap (λ l. nat_lt c.args.voter (size_of_group c.self.inside.shape) && is_in_window l c.args.place) (sym c.low-low.ensures.value) ∙ (sym c.can_vote.ensures ∙ c.if-not-can_vote.false) in
    let can = ap (λ (b : Book). can_vote b k) (sym c.self.view_is) ∙ inside in
    let has = ap (λ (b : Book). has_vote b k) (sym c.self.view_is) ∙ (ap is_some (get_is c.self.inside.shape c.self.inside.tallies c.self.invariant.shape k) ∙ (ap is_some (sym c.vote_in.ensures) ∙ (sym c.is_some.ensures ∙ c.if-is_some.true))) in
    sym (ap (λ a. after_answer a c.args.self.now k c.args.digest.now) (is_already c.args.self.now k can has))

pub overflow_add-self : goal.overflow_add-self
overflow_add-self c =
    let t = c.self.inside.tallies in
    let count = c.self.invariant.counted in
    let listed = len_is c.self.inside.shape t in
    let few = listed_few t.prepares.low (vote_in c.self.inside.shape t) 960 in
    omega arith

pub invariant_of-self : goal.invariant_of-self
invariant_of-self c =
    let f = c.self.inside.shape in
    let t = c.self.inside.tallies in
    let d = c.args.digest.now in
    let k = key c.args.kind c.args.place c.args.voter in
    let inside = ap (λ l. nat_lt c.args.voter (size_of_group f) && is_in_window l c.args.place) (sym c.low-low.ensures.value) ∙ (sym c.can_vote.ensures ∙ c.if-not-can_vote.false) in
    let none = ap is_some (sym c.vote_in.ensures) ∙ (sym c.is_some.ensures ∙ c.if-is_some.false) in
    let low = low_stays c.args.kind t c.args.place c.args.voter d in
    subst (λ (u : Tallies). IsBook f u (c.self.inside.count + 1)) (sym c.add_vote.ensures)
    (record {
      shape = c.self.invariant.shape;
      commits = commits_stay c.args.kind t c.args.place c.args.voter d ∙ (c.self.invariant.commits ∙ sym low);
      checkpoints = checkpoints_stay c.args.kind t c.args.place c.args.voter d ∙ (c.self.invariant.checkpoints ∙ sym low);
      counted = ap (λ n. n + 1) c.self.invariant.counted ∙ counted f t c.args.kind c.args.place c.args.voter d c.self.invariant.shape inside none;
    })

pub returns-clause-answer : goal.returns-clause-answer
returns-clause-answer c =
    let k = key c.args.kind c.args.place c.args.voter in
    let inside = ap (λ l. nat_lt c.args.voter (size_of_group c.self.inside.shape) && is_in_window l c.args.place) (sym c.low-low.ensures.value) ∙ (sym c.can_vote.ensures ∙ c.if-not-can_vote.false) in
    let can = ap (λ (b : Book). can_vote b k) (sym c.self.view_is) ∙ inside in
    let has = ap (λ (b : Book). has_vote b k) (sym c.self.view_is) ∙ (ap is_some (get_is c.self.inside.shape c.self.inside.tallies c.self.invariant.shape k) ∙ (ap is_some (sym c.vote_in.ensures) ∙ (sym c.is_some.ensures ∙ c.if-is_some.false))) in
    sym (is_kept_vote c.args.self.now k can has)

pub returns-clause-book : goal.returns-clause-book
returns-clause-book c =
    let f = c.self.inside.shape in
    let t = c.self.inside.tallies in
    let d = c.args.digest.now in
    let k = key c.args.kind c.args.place c.args.voter in
    let inside = ap (λ l. nat_lt c.args.voter (size_of_group f) && is_in_window l c.args.place) (sym c.low-low.ensures.value) ∙ (sym c.can_vote.ensures ∙ c.if-not-can_vote.false) in
    let can = ap (λ (b : Book). can_vote b k) (sym c.self.view_is) ∙ inside in
    let has = ap (λ (b : Book). has_vote b k) (sym c.self.view_is) ∙ (ap is_some (get_is f t c.self.invariant.shape k) ∙ (ap is_some (sym c.vote_in.ensures) ∙ (sym c.is_some.ensures ∙ c.if-is_some.false))) in
    let low = low_stays c.args.kind t c.args.place c.args.voter d in
    let votes = added f t c.args.kind c.args.place c.args.voter d c.self.invariant.shape inside in
    let made : book_of f (with_vote c.args.kind t c.args.place c.args.voter d) ≡ record { f = f; low = t.prepares.low; votes = insert (votes_of f t) k d } = λ i. record { f = f; low = low i; votes = votes i } in
    ap (book_of f) c.add_vote.ensures
    ∙ (made
    ∙ (ap (λ (b : Book). record b { votes = insert b.votes k d }) c.self.view_is
    ∙ ap (λ a. after_answer a c.args.self.now k d) (sym (is_kept_vote c.args.self.now k can has))))
