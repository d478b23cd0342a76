-- What follows from the definition of a book; this project's own.
use Rattle.std.specs.Prelude.{◌≡◌, ℕ, ◌<◌, ◌⊎◌, ◌↔◌, List, Some, IsTrue}
use Rattle.std.specs.Cmp.{IsTotalOrder}
use Rattle.std.specs.FinMap.{IsAntisymmetric, get}
use Rattle.pws_votes.specs.declared.kinds.Vote.TheVariants.{Kept}
use Rattle.pws_votes.specs.Votes.{Book, Key, key_cmp, can_vote, has_vote, answer_to, after_vote, is_checkpoint, without_view, raised_to}

-- the order of keys is total, and only a key ties with itself
pub record KeysAreOrdered : Type 0 where
  pub total : IsTotalOrder key_cmp
  pub exact : IsAntisymmetric key_cmp

-- after a vote a book has that vote, if it was kept, and those that it had, and no others; whoever could vote has one
pub record VotesAfterAVote : Type 0 where
  pub kept : (b : Book) (k : Key) (d : List ℕ) → answer_to b k ≡ Kept → get (after_vote b k d).votes k ≡ Some d
  pub has : (b : Book) (k : Key) (d : List ℕ) → IsTrue (can_vote b k) → IsTrue (has_vote (after_vote b k d) k)
  pub stays : (b : Book) (k q : Key) (d e : List ℕ) → get b.votes q ≡ Some e → get (after_vote b k d).votes q ≡ Some e
  pub from :
      (b : Book) (k q : Key) (d e : List ℕ) → get (after_vote b k d).votes q ≡ Some e
      → ((q ≡ k) × (d ≡ e)) ⊎ (get b.votes q ≡ Some e)

-- leaving the view keeps the votes for checkpoints, and no others
abbrev pub VotesAfterTheView : Type 0
VotesAfterTheView =
    (b : Book) (q : Key) (e : List ℕ)
    → (get (without_view b).votes q ≡ Some e) ↔ (IsTrue (is_checkpoint q.kind) × (get b.votes q ≡ Some e))

-- raising the low mark keeps the votes above it, and no others
abbrev pub VotesAboveTheMark : Type 0
VotesAboveTheMark =
    (b : Book) (low : ℕ) (q : Key) (e : List ℕ)
    → (get (raised_to low b).votes q ≡ Some e) ↔ ((low < q.place) × (get b.votes q ≡ Some e))
