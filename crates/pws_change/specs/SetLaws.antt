-- What the rows of the sets tell of the sets, and what is a row after a digest was noted and after the sets were
-- trimmed; this project's own.
use Rattle.std.specs.Prelude.{◌≡◌, ℕ, ◌<◌, ◌⊎◌, ◌↔◌, List, Some, nat_lt, IsTrue}
use Rattle.std.specs.List.{Contains}
use Rattle.std.specs.FinMap.{get}
use Rattle.pws_msg.specs.declared.changes.PRow.{PRow}
use Rattle.pws_msg.specs.declared.changes.QRow.{QRow}
use Rattle.pws_msg.specs.declared.changes.Seen.{Seen}
use Rattle.pws_change.specs.Rising.{rises, is_digest_below}
use Rattle.pws_change.specs.Sets.{Prepared, PrePrepared, Digests, p_rows, q_rows, seen_of, row_at, with_prepared, with_pre_prepared, trimmed}

-- what a prepared set has at a place is its row there
abbrev pub PreparedRows : Type 0
PreparedRows = (m : Prepared) (r : PRow) → Contains (p_rows m) r ↔ (get m r.place ≡ Some (r.digest, r.view))

-- what a pre-prepared set has at a place is its row there, and each of its rows is such a one
pub record PrePreparedRows : Type 0 where
  pub row :
      (m : PrePrepared) (place : ℕ) (digests : Digests) → get m place ≡ Some digests
      → Contains (q_rows m) (record { place = place; digests = seen_of digests })
  pub from :
      (m : PrePrepared) (row : QRow) → Contains (q_rows m) row
      → (digests : Digests) × (get m row.place ≡ Some digests) × (row.digests ≡ seen_of digests)

-- a digest has a view at a place of a pre-prepared set exactly where some row there has both
abbrev pub SeenRows : Type 0
SeenRows =
    (m : PrePrepared) (place : ℕ) (s : Seen)
    → (get (row_at m place) s.digest ≡ Some s.view) ↔ ((row : QRow) × Contains (q_rows m) row × (row.place ≡ place) × Contains row.digests s)

-- rows rise by place, and the digests of a row rise
pub record RowsRise : Type 0 where
  pub prepared : (m : Prepared) → IsTrue (rises (λ a b. nat_lt a.place b.place) (p_rows m))
  pub pre_prepared : (m : PrePrepared) → IsTrue (rises (λ a b. nat_lt a.place b.place) (q_rows m))
  pub digests : (m : Digests) → IsTrue (rises (λ a b. is_digest_below a.digest b.digest) (seen_of m))

-- after a digest is noted as prepared, its row is there, and the rows of the other places
abbrev pub NotedPrepared : Type 0
NotedPrepared =
    (m : Prepared) (place : ℕ) (digest : List ℕ) (view : ℕ) (r : PRow)
    → Contains (p_rows (with_prepared m place digest view)) r
    ↔ ((r ≡ record { place = place; digest = digest; view = view }) ⊎ ((r.place ≡ place → ⊥) × Contains (p_rows m) r))

-- after a digest is noted as pre-prepared, it has this view at the place, and all else is as before
abbrev pub NotedPrePrepared : Type 0
NotedPrePrepared =
    (m : PrePrepared) (place : ℕ) (digest : List ℕ) (view : ℕ) (p : ℕ) (s : Seen)
    → (get (row_at (with_pre_prepared m place digest view) p) s.digest ≡ Some s.view)
    ↔ (((p ≡ place) × (s.digest ≡ digest) × (s.view ≡ view))
    ⊎ (((p ≡ place) × (s.digest ≡ digest) → ⊥) × (get (row_at m p) s.digest ≡ Some s.view)))

-- trimming keeps the rows above the low mark, and no others
pub record TrimmedRows : Type 0 where
  pub prepared : (m : Prepared) (low : ℕ) (r : PRow) → Contains (p_rows (trimmed low m)) r ↔ ((low < r.place) × Contains (p_rows m) r)
  pub pre_prepared : (m : PrePrepared) (low : ℕ) (r : QRow) → Contains (q_rows (trimmed low m)) r ↔ ((low < r.place) × Contains (q_rows m) r)
