-- For proofs alone. A book by tallies: the votes that they stand for, numbered.
use Rattle.std.specs.Prelude.{◌≡◌, ℕ, ◌+◌, ◌/◌, ◌%◌, ◌≤◌, ◌==◌, ◌&&◌, Bool, true, is_some, nat_lt, if◌then◌else◌, List, Option, None}
use Rattle.std.specs.List.{filter_map, range_with_len}
use Rattle.std.specs.Option.{option_map, option_and_then, unwrap_or}
use Rattle.std.specs.FinMap.{FinMap, empty, get, insert, from_sorted, len}
use Rattle.pws_base.specs.Places.{is_in_window}
use Rattle.pws_base.specs.Shapes.{size_of_group}
use Rattle.pws_places.specs.PlaceMaps.{PlaceMap, cleared, raised_to}
use Rattle.pws_votes.specs.declared.kinds.VoteKind.{VoteKind}
use Rattle.pws_votes.specs.declared.kinds.VoteKind.TheVariants.{Prepare, Commit, Checkpoint}
use Rattle.pws_votes.specs.declared.mask_book.Tallies.{Tallies}
use Rattle.pws_votes.specs.Votes.{Key, key, key_cmp}
use Rattle.pws_votes.specs.Masks.{Tallied}

-- the tallies of a kind, by place
abbrev pub map_of : VoteKind → Tallies → PlaceMap Tallied
map_of Prepare t = t.prepares
map_of Commit t = t.commits
map_of Checkpoint t = t.checkpoints

-- a voter's vote in the tallies of its kind
abbrev pub vote_at : PlaceMap Tallied → ℕ → ℕ → Option (List ℕ)
vote_at m place voter = option_and_then (λ tally. get tally voter) (get m.rows place)

-- whether there may be such a vote
abbrev pub is_inside : ℕ → ℕ → Key → Bool
is_inside f low k = nat_lt k.voter (size_of_group f) && is_in_window low k.place

-- the vote of a key
abbrev pub vote_in : ℕ → Tallies → Key → Option (List ℕ)
vote_in f t k = if is_inside f t.prepares.low k then vote_at (map_of k.kind t) k.place k.voter else None

-- the kind of a number
abbrev pub kind_at : ℕ → VoteKind
kind_at m = if m == 0 then Prepare else (if m == 1 then Commit else Checkpoint)

-- the keys that there may be are numbered, 0 to 959
abbrev pub key_at : ℕ → ℕ → Key
key_at low i = key (kind_at (i / 320)) (low + 1 + i % 320 / 10) (i % 10)

-- the vote of a number, if there is one
abbrev pub numbered : ℕ → (Key → Option (List ℕ)) → ℕ → Option (Key × List ℕ)
numbered low vote i = option_map (λ digest. (key_at low i, digest)) (vote (key_at low i))

-- the votes of the first numbers
unfoldable pub listed : ℕ → (Key → Option (List ℕ)) → ℕ → List (Key × List ℕ)
listed low vote count = filter_map (numbered low vote) (range_with_len 0 count)

-- the votes of tallies
unfoldable pub votes_of : ℕ → Tallies → FinMap key_cmp (List ℕ)
votes_of f t = from_sorted (listed t.prepares.low (vote_in f t) 960)

-- the tallies of one kind with one vote more
abbrev pub with_vote_at : PlaceMap Tallied → ℕ → ℕ → List ℕ → PlaceMap Tallied
with_vote_at m place voter digest = record m { rows = insert m.rows place (insert (unwrap_or (get m.rows place) empty) voter digest) }

abbrev pub with_vote : VoteKind → Tallies → ℕ → ℕ → List ℕ → Tallies
with_vote Prepare t place voter digest = record t { prepares = with_vote_at t.prepares place voter digest }
with_vote Commit t place voter digest = record t { commits = with_vote_at t.commits place voter digest }
with_vote Checkpoint t place voter digest = record t { checkpoints = with_vote_at t.checkpoints place voter digest }

-- the tallies without those that don't outlive a view
abbrev pub left_view : Tallies → Tallies
left_view t = record t { prepares = cleared t.prepares; commits = cleared t.commits }

-- the tallies of a low mark
abbrev pub raised : ℕ → Tallies → Tallies
raised low t = record { prepares = raised_to low t.prepares; commits = raised_to low t.commits; checkpoints = raised_to low t.checkpoints }

-- what has votes is in the window
abbrev pub IsWithin : PlaceMap Tallied → Type 0
IsWithin m = (place : ℕ) → is_some (get m.rows place) ≡ true → is_in_window m.low place ≡ true

abbrev pub AreWithin : Tallies → Type 0
AreWithin t = (kind : VoteKind) → IsWithin (map_of kind t)

-- what a book keeps
pub record IsBook (f : ℕ) (t : Tallies) (count : ℕ) : Type 0 where
  pub shape : f ≤ 3
  pub commits : t.commits.low ≡ t.prepares.low
  pub checkpoints : t.checkpoints.low ≡ t.prepares.low
  pub counted : count ≡ len (votes_of f t)
