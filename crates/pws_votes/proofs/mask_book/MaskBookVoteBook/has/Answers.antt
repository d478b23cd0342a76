use Rattle.std.proofs.Common.{is_some, ◌∙◌, sym, ap}
use Rattle.pws_votes.specs.Votes.{Book, key, has_vote}
use Rattle.pws_votes.proofs.Numbered.{get_is}
use Rattle.pws_votes.proofs.mask_book.MaskBookVoteBook.has.Goals as goal

pub returns-clause-value : goal.returns-clause-value
returns-clause-value c =
    let k = key c.args.kind c.args.place c.args.voter in
    c.is_some.ensures ∙ (ap is_some c.vote_in.ensures ∙ (sym (ap is_some (get_is c.self.inside.shape c.self.inside.tallies c.self.invariant.shape k)) ∙ ap (λ (b : Book). has_vote b k) c.self.view_is))
