-- For proofs alone. The rows by which a set is kept.
use Rattle.std.specs.List.{list_any}
use Rattle.std.specs.Str.{bytes_eq}
use Rattle.std.specs.Prelude.{◌≡◌, ℕ, ◌<◌, ◌≤◌, ◌&&◌, Bool, nat_le, not, List, length, map, slice_index_or}
use Rattle.std.specs.declared.cmp.Ordering.{Ordering}
use Rattle.std.specs.declared.cmp.Ordering.TheVariants.{Less, Equal, Greater}
use Rattle.std.specs.FinMap.{from_sorted}
use Rattle.pws_msg.specs.declared.changes.PRow.{PRow}
use Rattle.pws_msg.specs.declared.changes.QRow.{QRow}
use Rattle.pws_msg.specs.declared.changes.Seen.{Seen}
use Rattle.pws_change.specs.Sets.{Prepared, Digests, PrePrepared}

abbrev pub p_entry : PRow → ℕ × (List ℕ × ℕ)
p_entry r = (r.place, (r.digest, r.view))

-- the prepared set of rows that rise
unfoldable pub prepared_in : List PRow → Prepared
prepared_in rows = from_sorted (map p_entry rows)

abbrev pub seen_entry : Seen → List ℕ × ℕ
seen_entry s = (s.digest, s.view)

-- the row of digests that rise
unfoldable pub digests_in : List Seen → Digests
digests_in digests = from_sorted (map seen_entry digests)

abbrev pub q_entry : QRow → ℕ × Digests
q_entry r = (r.place, digests_in r.digests)

-- the pre-prepared set of rows that rise
unfoldable pub pre_prepared_in : List QRow → PrePrepared
pre_prepared_in rows = from_sorted (map q_entry rows)

-- where a key is found among items that rise by their keys: those before it are below the key
pub record IsFoundAt {X K : Type 0} (R : K → K → Ordering) (key : X → K) (items : List X) (k : K) (i : ℕ) : Type 0 where
  pub within : i < length items
  pub before : (j : ℕ) (d : X) → j < i → R k (key (slice_index_or items j d)) ≡ Greater
  pub at : (d : X) → R k (key (slice_index_or items i d)) ≡ Equal

-- where a key that isn't found belongs
pub record IsMissingAt {X K : Type 0} (R : K → K → Ordering) (key : X → K) (items : List X) (k : K) (i : ℕ) : Type 0 where
  pub within : i ≤ length items
  pub before : (j : ℕ) (d : X) → j < i → R k (key (slice_index_or items j d)) ≡ Greater
  pub after : (d : X) → i < length items → R k (key (slice_index_or items i d)) ≡ Less

-- whether a row has this digest
abbrev pub row_has : List ℕ → QRow → Bool
row_has digest r = list_any (λ s. bytes_eq digest s.digest) r.digests

-- whether a row has 16 digests, and not this one
abbrev pub is_row_full : List ℕ → QRow → Bool
is_row_full digest r = nat_le 16 (length r.digests) && not (row_has digest r)
