use Rattle.std.proofs.Common.{◌∙◌, sym, ap}
use Rattle.std.specs.FinMap.{get}
use Rattle.pws_votes.specs.declared.list_book.Entry.{Entry}
use Rattle.pws_votes.specs.Votes.{Book, key}
use Rattle.pws_votes.proofs.Kept.{kept_push, is_none}
use Rattle.pws_votes.proofs.list_book.ListBookVoteBook.vote.Goals as goal

pub invariant_of-self-2 : goal.invariant_of-self-2
invariant_of-self-2 c =
    let k = key c.args.kind c.args.place c.args.voter in
    let e : Entry = record { kind = c.args.kind; place = c.args.place; voter = c.args.voter; digest = c.args.digest.now } in
    let none = is_none _ (sym c.has.ensures.value ∙ c.if-has.false) in
    rw c.in_ok-push.ensures.items
    (kept_push c.self.inside.shape c.self.inside.low c.self.inside.entries.items e c.self.invariant
    (ap (λ (b : Book). get b.votes k) c.self.view_is ∙ none) (sym c.can_vote.ensures ∙ c.if-not-can_vote.false))
