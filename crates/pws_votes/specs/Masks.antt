-- For proofs alone. Votes of one kind at one place as masks of voters, and the map that they stand for.
use Rattle.std.specs.Prelude.{◌≡◌, ◌≢◌, ℕ, ◌<◌, ◌==◌, ◌&&◌, Bool, true, false, nat_lt, List, find, replicate, length, slice_index_or, Option, Some, None}
use Rattle.std.specs.Int.{bit_at}
use Rattle.std.specs.Option.{option_map, option_map_or}
use Rattle.std.specs.Ordering.{nat_cmp}
use Rattle.std.specs.Str.{bytes_eq}
use Rattle.std.specs.Coded.{Coded, coded_ℕ, coded_list}
use Rattle.std.specs.FinMap.{FinMap, get, from_sorted}
use Rattle.std.specs.FinMap as finite
use Rattle.pws_places.specs.Rings.{entries_by}
use Rattle.pws_votes.specs.declared.tallies.MaskRow.{MaskRow}

-- from voters to digests
abbrev pub Tallied : Type 0
Tallied = FinMap nat_cmp (List ℕ)

abbrev pub tallied_code : Coded Tallied
tallied_code = finite.code coded_ℕ (coded_list coded_ℕ)

-- whether a mask of 16 bits has a voter
abbrev pub has_voter : ℕ → ℕ → Bool
has_voter mask voter = nat_lt voter 16 && bit_at mask voter == 1

-- a row without voters
abbrev pub free_row : MaskRow
free_row = record { digest = replicate 32 0; voters = 0 }

-- the digest that a voter voted for
abbrev pub said_in : List MaskRow → ℕ → Option (List ℕ)
said_in rows voter = option_map (λ r. r.digest) (find (λ r. has_voter r.voters voter) rows)

-- whether a row has a voter for a digest
abbrev pub is_for : List ℕ → ℕ → MaskRow → Bool
is_for digest voter r = bytes_eq r.digest digest && has_voter r.voters voter

-- whether a voter voted for a digest
abbrev pub is_said : Tallied → ℕ → List ℕ → Bool
is_said m voter digest = option_map_or (λ said. bytes_eq said digest) (get m voter) false

-- the map of the ten voters that there may be
unfoldable pub votes_at : List MaskRow → Tallied
votes_at rows = from_sorted (entries_by (said_in rows) 0 10)

-- what the rows keep: one with any voter has that of its index, and each voter is in the rows of one digest
pub record IsTally (rows : List MaskRow) : Type 0 where
  pub whole : length rows ≡ 10
  pub own : (i v : ℕ) → has_voter (slice_index_or rows i free_row).voters v ≡ true → has_voter (slice_index_or rows i free_row).voters i ≡ true
  pub said : (i v : ℕ) → has_voter (slice_index_or rows i free_row).voters v ≡ true → said_in rows v ≡ Some (slice_index_or rows i free_row).digest

-- a row of a digest, with the voter of its index
pub record IsRowOf (rows : List MaskRow) (i : ℕ) (digest : List ℕ) : Type 0 where
  pub place : i < 10
  pub digest_is : (slice_index_or rows i free_row).digest ≡ digest
  pub used : has_voter (slice_index_or rows i free_row).voters i ≡ true

-- a row that may be written for the vote of a voter that has none
pub record IsRowFor (rows : List MaskRow) (i : ℕ) (r : MaskRow) (v : ℕ) (d : List ℕ) : Type 0 where
  pub place : i < 10
  pub none : said_in rows v ≡ None
  pub digest : r.digest ≡ d
  pub voter : has_voter r.voters v ≡ true
  pub others : (q : ℕ) → q ≢ v → has_voter r.voters q ≡ has_voter (slice_index_or rows i free_row).voters q
  pub before : (q : ℕ) → has_voter (slice_index_or rows i free_row).voters q ≡ true → (slice_index_or rows i free_row).digest ≡ d
  pub own : has_voter r.voters i ≡ true
