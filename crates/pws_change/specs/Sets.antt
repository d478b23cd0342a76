-- What a replica prepared and pre-prepared in earlier views, as finite maps, after Castro and Liskov (2002), Practical
-- Byzantine Fault Tolerance and Proactive Recovery; that a row has at most 16 digests is this project's own.
use Rattle.std.specs.Prelude.{ℕ, ◌&&◌, not, Bool, nat_lt, nat_le, List, length, map, sum}
use Rattle.std.specs.List.{list_all, list_any}
use Rattle.std.specs.Option.{unwrap_or}
use Rattle.std.specs.Ordering.{nat_cmp}
use Rattle.std.specs.Cmp.Lexicographic.{slice_cmp}
use Rattle.std.specs.Coded.{Coded, coded×, coded_ℕ, coded_list}
use Rattle.std.specs.FinMap.{FinMap, entries, values, get, insert, contains_key, len, retain_keys}
use Rattle.std.specs.FinMap as finite
use Rattle.pws_msg.specs.declared.changes.PRow.{PRow}
use Rattle.pws_msg.specs.declared.changes.QRow.{QRow}
use Rattle.pws_msg.specs.declared.changes.Seen.{Seen}
use Rattle.pws_change.specs.Rising.{rises, is_digest_below}

-- a prepared set: by place, the digest that was prepared last, and the view
abbrev pub Prepared : Type 0
Prepared = FinMap nat_cmp (List ℕ × ℕ)

-- a row of a pre-prepared set: by digest, the view in which it was pre-prepared last
abbrev pub Digests : Type 0
Digests = FinMap (slice_cmp nat_cmp) ℕ

-- a pre-prepared set: by place, its row
abbrev pub PrePrepared : Type 0
PrePrepared = FinMap nat_cmp Digests

-- how these are stored as values
abbrev pub prepared_code : Coded Prepared
prepared_code = finite.code coded_ℕ (coded× (coded_list coded_ℕ) coded_ℕ)

abbrev pub pre_prepared_code : Coded PrePrepared
pre_prepared_code = finite.code coded_ℕ (finite.code (coded_list coded_ℕ) coded_ℕ)

-- the rows of a prepared set, by rising place
abbrev pub p_rows : Prepared → List PRow
p_rows m = map (λ e. record { place = e.0; digest = e.1.0; view = e.1.1 }) (entries m)

-- the digests of a row, rising, with their views
abbrev pub seen_of : Digests → List Seen
seen_of m = map (λ e. record { digest = e.0; view = e.1 }) (entries m)

-- the rows of a pre-prepared set, by rising place
abbrev pub q_rows : PrePrepared → List QRow
q_rows m = map (λ e. record { place = e.0; digests = seen_of e.1 }) (entries m)

-- the row at a place, empty where there is none
abbrev pub row_at : PrePrepared → ℕ → Digests
row_at m place = unwrap_or (get m place) finite.empty

-- whether a digest was pre-prepared at the place, and whether it was at some place
abbrev pub has_digest : PrePrepared → ℕ → List ℕ → Bool
has_digest m place digest = contains_key (row_at m place) digest

abbrev pub names_digest : PrePrepared → List ℕ → Bool
names_digest m digest = list_any (λ row. contains_key row digest) (values m)

-- how many digests were pre-prepared, at all places together
abbrev pub count_of_digests : PrePrepared → ℕ
count_of_digests m = sum (map len (values m))

-- whether the row at the place has 16 other digests
abbrev pub is_full : PrePrepared → ℕ → List ℕ → Bool
is_full m place digest = nat_le 16 (len (row_at m place)) && not (contains_key (row_at m place) digest)

-- the prepared set after a digest is noted: the row of the place is replaced
abbrev pub with_prepared : Prepared → ℕ → List ℕ → ℕ → Prepared
with_prepared m place digest view = insert m place (digest, view)

-- the pre-prepared set after a digest is noted: its view is set in the row of the place
abbrev pub with_pre_prepared : PrePrepared → ℕ → List ℕ → ℕ → PrePrepared
with_pre_prepared m place digest view = insert m place (insert (row_at m place) digest view)

-- a set without the places at or below a low mark
abbrev pub trimmed : {X : Type 0} → ℕ → FinMap nat_cmp X → FinMap nat_cmp X
trimmed low m = retain_keys m (λ place. nat_lt low place)

-- whether a row has 1 to 16 digests, which rise
abbrev pub is_q_row_lawful : QRow → Bool
is_q_row_lawful r = nat_le 1 (length r.digests) && nat_le (length r.digests) 16 && rises (λ a b. is_digest_below a.digest b.digest) r.digests

-- whether rows rise by place, and each is lawful
abbrev pub are_q_rows_lawful : List QRow → Bool
are_q_rows_lawful rows = list_all is_q_row_lawful rows && rises (λ a b. nat_lt a.place b.place) rows
