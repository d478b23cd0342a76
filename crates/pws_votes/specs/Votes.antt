-- Votes as a finite map, after the certificates of Castro and Liskov; the answers are this project's own.
use Rattle.std.specs.Prelude.{ℕ, ◌&&◌, Bool, true, false, nat_lt, is_some, if◌then◌else◌, List}
use Rattle.std.specs.Option.{option_map_or}
use Rattle.std.specs.Str.{bytes_eq}
use Rattle.std.specs.Ordering.{nat_cmp, ordering_then}
use Rattle.std.specs.declared.cmp.Ordering.{Ordering}
use Rattle.std.specs.Coded.{Coded, code_by, coded×, coded_ℕ, coded_list}
use Rattle.std.specs.FinMap.{FinMap, get, insert, retain_keys}
use Rattle.std.specs.FinMap as finite
use Rattle.std.proofs.Common.{refl}
use Rattle.pws_base.specs.Counts.{count_below}
use Rattle.pws_base.specs.Places.{is_in_window}
use Rattle.pws_base.specs.Shapes.{size_of_group}
use Rattle.pws_votes.specs.contracts.kinds.VoteKind as vote_kind
use Rattle.pws_votes.specs.declared.kinds.VoteKind.{VoteKind}
use Rattle.pws_votes.specs.declared.kinds.VoteKind.TheVariants.{Prepare, Commit, Checkpoint}
use Rattle.pws_votes.specs.declared.kinds.Vote.{Vote}
use Rattle.pws_votes.specs.declared.kinds.Vote.TheVariants.{Kept, Outside, Already}

-- what a vote is about, and whose it is
pub record Key : Type 0 where
  pub kind : VoteKind
  pub place : ℕ
  pub voter : ℕ

abbrev pub key : VoteKind → ℕ → ℕ → Key
key kind place voter = record { kind = kind; place = place; voter = voter }

-- a kind's place in the order of kinds
abbrev pub number_of : VoteKind → ℕ
number_of Prepare = 0
number_of Commit = 1
number_of Checkpoint = 2

-- the order of keys: by kind, place and voter
abbrev pub key_cmp : Key → Key → Ordering
key_cmp a b = ordering_then (nat_cmp (number_of a.kind) (number_of b.kind)) (ordering_then (nat_cmp a.place b.place) (nat_cmp a.voter b.voter))

-- the votes in one view of a group that bears f compromised replicas, and the low mark
pub record Book : Type 0 where
  pub f : ℕ
  pub low : ℕ
  pub votes : FinMap key_cmp (List ℕ)

-- how a book is stored as a value
abbrev key_code : Coded Key
key_code = code_by (VoteKind × (ℕ × ℕ)) (coded× vote_kind.the_row.coded (coded× coded_ℕ coded_ℕ)) (λ k. (k.kind, (k.place, k.voter))) (λ p. record { kind = p.0; place = p.1.0; voter = p.1.1 }) (λ _. refl)

abbrev pub book_code : Coded Book
book_code = code_by (ℕ × (ℕ × FinMap key_cmp (List ℕ))) (coded× coded_ℕ (coded× coded_ℕ (finite.code key_code (coded_list coded_ℕ)))) (λ b. (b.f, (b.low, b.votes))) (λ p. record { f = p.0; low = p.1.0; votes = p.1.1 }) (λ _. refl)

abbrev pub new_book : ℕ → Book
new_book f = record { f = f; low = 0; votes = finite.empty }

abbrev pub has_vote : Book → Key → Bool
has_vote book k = is_some (get book.votes k)

-- whether a book may have a vote: the voter is a replica of the group, and the place is in the window
abbrev pub can_vote : Book → Key → Bool
can_vote book k = nat_lt k.voter (size_of_group book.f) && is_in_window book.low k.place

-- how a vote is answered
abbrev pub answer_to : Book → Key → Vote
answer_to book k =
    if can_vote book k
    then (if has_vote book k then Already else Kept)
    else Outside

abbrev pub after_answer : Vote → Book → Key → List ℕ → Book
after_answer Kept book k digest = record book { votes = insert book.votes k digest }
after_answer Outside book k digest = book
after_answer Already book k digest = book

-- the book after a vote
abbrev pub after_vote : Book → Key → List ℕ → Book
after_vote book k digest = after_answer (answer_to book k) book k digest

abbrev pub is_checkpoint : VoteKind → Bool
is_checkpoint Prepare = false
is_checkpoint Commit = false
is_checkpoint Checkpoint = true

-- the book of the next view, which keeps checkpoints alone
abbrev pub without_view : Book → Book
without_view book = record book { votes = retain_keys book.votes (λ k. is_checkpoint k.kind) }

-- the book with a low mark, at or below which nothing is kept
abbrev pub raised_to : ℕ → Book → Book
raised_to low book = record book { low = low; votes = retain_keys book.votes (λ k. nat_lt low k.place) }

-- whether a voter voted for this digest
abbrev pub is_vote_for : Book → VoteKind → ℕ → List ℕ → ℕ → Bool
is_vote_for book kind place digest voter = option_map_or (λ said. bytes_eq said digest) (get book.votes (key kind place voter)) false

-- how many replicas voted for this digest
unfoldable pub matching_of : Book → VoteKind → ℕ → List ℕ → ℕ
matching_of book kind place digest = count_below (size_of_group book.f) (is_vote_for book kind place digest)
