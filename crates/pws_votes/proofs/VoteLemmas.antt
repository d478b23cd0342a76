-- What a book has after a vote, and as the view is left or the low mark rises. For proofs alone; the crates above cite
-- it.
use Rattle.std.proofs.Common.{◌≡◌, ◌⊎◌, inr, ℕ, ◌<◌, Bool, true, false, cond, is_some, List, Some, refl, sym, ◌∙◌, ap, subst, arith, nat_lt}
use Rattle.std.specs.FinMap.{get}
use Rattle.std.proofs.lemmas.Bool.{false≢true, lt-ltb, ltb-true}
use Rattle.pws_base.proofs.Maps.{put_cases, put_here, put_other, retain_cases, retain_kept}
use Rattle.pws_votes.specs.declared.kinds.Vote.{Vote}
use Rattle.pws_votes.specs.declared.kinds.Vote.TheVariants.{Kept, Outside, Already}
use Rattle.pws_votes.specs.Votes.{Book, Key, is_checkpoint, can_vote, has_vote, answer_to, after_answer, after_vote, raised_to}
use Rattle.pws_votes.specs.Laws.{KeysAreOrdered, VotesAfterAVote, VotesAfterTheView, VotesAboveTheMark}
use Rattle.pws_votes.proofs.Found.{keys_total, keys_exact}

pub keys_are_ordered : KeysAreOrdered
keys_are_ordered = record { total = keys_total; exact = keys_exact }

from_by : (b : Book) (k q : Key) (d e : List ℕ) (v : Vote) → get (after_answer v b k d).votes q ≡ Some e → ((q ≡ k) × (d ≡ e)) ⊎ (get b.votes q ≡ Some e)
from_by b k q d e Kept h = put_cases keys_total keys_exact b.votes k q d e h
from_by b k q d e Outside h = inr h
from_by b k q d e Already h = inr h

-- a vote that stands after another is that other, or it stood before
pub vote_cases : (b : Book) (k q : Key) (d e : List ℕ) → get (after_vote b k d).votes q ≡ Some e → ((q ≡ k) × (d ≡ e)) ⊎ (get b.votes q ≡ Some e)
vote_cases b k q d e h = from_by b k q d e (answer_to b k) h

-- a vote is kept only where the voter had none
none_there : (can has : Bool) → cond can (cond has Already Kept) Outside ≡ Kept → has ≡ false
none_there true true h = absurd (let i : ◌≡◌ {A = Vote} Already Kept = h in cc)
none_there true false h = refl
none_there false has h = absurd (let i : ◌≡◌ {A = Vote} Outside Kept = h in cc)

stays_by : (b : Book) (k q : Key) (d e : List ℕ) (v : Vote) → answer_to b k ≡ v → get b.votes q ≡ Some e → get (after_answer v b k d).votes q ≡ Some e
stays_by b k q d e Kept a h =
    let none = none_there (can_vote b k) (has_vote b k) a in
    put_other keys_total keys_exact b.votes k q d (λ s. false≢true (sym none ∙ subst (λ x. is_some (get b.votes x) ≡ true) s (ap is_some h))) ∙ h
stays_by b k q d e Outside a h = h
stays_by b k q d e Already a h = h

has_go : (b : Book) (k : Key) (d : List ℕ) (h : Bool) → has_vote b k ≡ h → has_vote (after_answer (cond h Already Kept) b k d) k ≡ true
has_go b k d true e = e
has_go b k d false e = ap is_some (put_here keys_total b.votes k d)

-- whoever could vote has a vote afterwards
has_after : (b : Book) (k : Key) (d : List ℕ) → can_vote b k ≡ true → has_vote (after_vote b k d) k ≡ true
has_after b k d c = ap (λ t. has_vote (after_answer (cond t (cond (has_vote b k) Already Kept) Outside) b k d) k) c ∙ has_go b k d (has_vote b k) refl

pub votes_after_a_vote : VotesAfterAVote
votes_after_a_vote = record {
  kept = λ b k d a. ap (λ v. get (after_answer v b k d).votes k) a ∙ put_here keys_total b.votes k d;
  has = has_after;
  stays = λ b k q d e h. stays_by b k q d e (answer_to b k) refl h;
  from = vote_cases;
}

pub votes_after_the_view : VotesAfterTheView
votes_after_the_view b q e = (
  retain_cases keys_exact b.votes (λ k. is_checkpoint k.kind) q e,
  λ h. retain_kept keys_exact b.votes (λ k. is_checkpoint k.kind) q h.0 ∙ h.1,
)

raised_from : (b : Book) (low : ℕ) (q : Key) (e : List ℕ) → get (raised_to low b).votes q ≡ Some e → (low < q.place) × (get b.votes q ≡ Some e)
raised_from b low q e h =
    let r = retain_cases keys_exact b.votes (λ k. nat_lt low k.place) q e h in
    (ltb-true low q.place r.0, r.1)

pub votes_above_the_mark : VotesAboveTheMark
votes_above_the_mark b low q e = (
  raised_from b low q e,
  λ h. retain_kept keys_exact b.votes (λ k. nat_lt low k.place) q (lt-ltb low q.place h.0) ∙ h.1,
)
