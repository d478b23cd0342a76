use Rattle.std.proofs.Common.{◌≡◌, true, is_some, ◌∙◌, sym, ap, subst, find}
use Rattle.std.specs.Option.{option_map}
use Rattle.std.specs.FinMap.{get}
use Rattle.pws_votes.specs.declared.list_book.Entry.{Entry}
use Rattle.pws_votes.specs.Votes.{Book, key, can_vote}
use Rattle.pws_votes.specs.ListBooks.{key_of, is_same_key}
use Rattle.pws_votes.proofs.Found.{get_is}
use Rattle.pws_votes.proofs.Inside.{found_inside}
use Rattle.pws_votes.proofs.list_book.ListBook.said.Goals as goal

pub returns-clause-value : goal.returns-clause-value
returns-clause-value c =
    let k = key c.args.kind c.args.place c.args.voter in
    c.digest_at.ensures
    ∙ (ap (λ es. option_map (λ (e : Entry). e.digest) (find (λ e. is_same_key k (key_of e)) es)) c.deref.ensures.value
    ∙ (sym (get_is c.self.inside.entries.items k) ∙ ap (λ (b : Book). get b.votes k) c.self.view_is))

pub returns-clause-inside : goal.returns-clause-inside
returns-clause-inside c h =
    let k = key c.args.kind c.args.place c.args.voter in
    let found = c.digest_at.ensures ∙ ap (λ es. option_map (λ (e : Entry). e.digest) (find (λ e. is_same_key k (key_of e)) es)) c.deref.ensures.value in
    let inside = found_inside c.self.inside.shape c.self.inside.low c.self.inside.entries.items k c.self.invariant.inside (sym (ap is_some found) ∙ h) in
    subst (λ (b : Book). can_vote b k ≡ true) c.self.view_is inside
