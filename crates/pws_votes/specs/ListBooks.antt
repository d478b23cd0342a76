-- For proofs alone. A book that is a list: the votes that its entries stand for, and what the list keeps.
use Rattle.std.specs.Prelude.{◌≡◌, ℕ, ◌≤◌, ◌&&◌, ◌==◌, Bool, true, false, not, nat_lt, List, [], ◌∷◌, map}
use Rattle.std.specs.List.{list_any, list_all}
use Rattle.std.specs.FinMap.{FinMap, from_entries}
use Rattle.pws_votes.specs.declared.kinds.VoteKind.{VoteKind}
use Rattle.pws_votes.specs.declared.kinds.VoteKind.TheVariants.{Prepare, Commit, Checkpoint}
use Rattle.pws_votes.specs.declared.list_book.Entry.{Entry}
use Rattle.pws_base.specs.Places.{is_in_window}
use Rattle.pws_base.specs.Shapes.{size_of_group}
use Rattle.pws_votes.specs.Votes.{Key, key, key_cmp}

abbrev pub key_of : Entry → Key
key_of e = key e.kind e.place e.voter

abbrev pub row_of : Entry → Key × List ℕ
row_of e = (key_of e, e.digest)

unfoldable pub votes_in : List Entry → FinMap key_cmp (List ℕ)
votes_in entries = from_entries (map row_of entries)

abbrev pub is_same_kind : VoteKind → VoteKind → Bool
is_same_kind Prepare Prepare = true
is_same_kind Commit Commit = true
is_same_kind Checkpoint Checkpoint = true
is_same_kind k l = false

abbrev pub is_same_key : Key → Key → Bool
is_same_key a b = is_same_kind a.kind b.kind && a.place == b.place && a.voter == b.voter

-- whether no two entries have one key
abbrev pub are_apart : List Entry → Bool
are_apart [] = true
are_apart (e ∷ es) = not (list_any (λ x. is_same_key (key_of e) (key_of x)) es) && are_apart es

-- whether an entry is of a replica and in the window
abbrev pub is_inside : ℕ → ℕ → Entry → Bool
is_inside f low e = nat_lt e.voter (size_of_group f) && is_in_window low e.place

-- what a list of entries keeps
pub record IsKept (f low : ℕ) (entries : List Entry) : Type 0 where
  pub shape : f ≤ 3
  pub apart : are_apart entries ≡ true
  pub inside : list_all (is_inside f low) entries ≡ true
