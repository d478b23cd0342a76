-- Finite maps by digest that have a bound, and what is done with them; this project's own.
use Rattle.std.specs.Prelude.{ℕ, List, Bool, nat_lt, if◌then◌else◌}
use Rattle.std.specs.Ordering.{nat_cmp}
use Rattle.std.specs.Cmp.Lexicographic.{slice_cmp}
use Rattle.std.specs.Coded.{Coded, code_by, coded×, coded_ℕ, coded_list}
use Rattle.std.specs.FinMap.{FinMap, contains_key, insert, remove, retain_keys, len}
use Rattle.std.specs.FinMap as finite
use Rattle.std.proofs.Common.{refl}
use Rattle.pws_places.specs.declared.digests.DigestPut.{DigestPut}
use Rattle.pws_places.specs.declared.digests.DigestPut.TheVariants.{Kept, Full, Already}

-- how many rows there may be, and a row for each digest that has one
pub record DigestMap (X : Type 0) : Type 0 where
  pub most : ℕ
  pub rows : FinMap (slice_cmp nat_cmp) X

-- how such a map is stored as a value
abbrev pub digest_map_code : {X : Type 0} → Coded X → Coded (DigestMap X)
digest_map_code {X} x = code_by (ℕ × FinMap (slice_cmp nat_cmp) X) (coded× coded_ℕ (finite.code (coded_list coded_ℕ) x)) (λ m. (m.most, m.rows)) (λ p. record { most = p.0; rows = p.1 }) (λ _. refl)

-- a map without digests, that may have so many
abbrev pub no_digests : {X : Type 0} → ℕ → DigestMap X
no_digests most = record { most = most; rows = finite.empty }

-- how it is answered that a row is to be put at a digest
abbrev pub answer_to_put : {X : Type 0} → DigestMap X → List ℕ → DigestPut
answer_to_put m digest =
    if contains_key m.rows digest
    then Already
    else (if nat_lt (len m.rows) m.most then Kept else Full)

abbrev pub after_answer : {X : Type 0} → DigestPut → DigestMap X → List ℕ → X → DigestMap X
after_answer Kept m digest row = record m { rows = insert m.rows digest row }
after_answer Full m digest row = m
after_answer Already m digest row = m

-- the map after a row was to be put at a digest
abbrev pub after_put : {X : Type 0} → DigestMap X → List ℕ → X → DigestMap X
after_put m digest row = after_answer (answer_to_put m digest) m digest row

-- the map with another row at a digest that has one
abbrev pub with_other : {X : Type 0} → DigestMap X → List ℕ → X → DigestMap X
with_other m digest row = if contains_key m.rows digest then record m { rows = insert m.rows digest row } else m

-- the map without a digest
abbrev pub without_digest : {X : Type 0} → DigestMap X → List ℕ → DigestMap X
without_digest m digest = record m { rows = remove m.rows digest }

-- the map without all its digests
abbrev pub cleared : {X : Type 0} → DigestMap X → DigestMap X
cleared m = record m { rows = finite.empty }

-- the map of the digests that pass a test
abbrev pub with_passing : {X : Type 0} → (List ℕ → Bool) → DigestMap X → DigestMap X
with_passing passes m = record m { rows = retain_keys m.rows passes }
