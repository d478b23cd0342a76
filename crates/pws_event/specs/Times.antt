-- What a group agrees on from the readings and shares of its replicas; this project's own, over SHA-256
-- (FIPS 180-4, section 6.2).
use Rattle.std.specs.Prelude.{ℕ, ◌-◌, ◌&&◌, min, Bool, nat_lt, nat_le, List, length, count_by, find}
use Rattle.std.specs.List.{flat_map}
use Rattle.std.specs.Option.{option_map_or}
use Rattle.sha2.specs.Sha256.{sha256}
use Rattle.pws_event.specs.declared.readings.Reading.{Reading}
use Rattle.pws_event.specs.declared.readings.Share.{Share}

-- how many readings are below the agreed one: f, or all others where there are no more than f
abbrev pub rank_of : ℕ → List Reading → ℕ
rank_of f readings = min f (length readings - 1)

-- whether a time stands at this rank: at most so many readings are below it, and more are at most it
unfoldable pub is_ranked : ℕ → List Reading → ℕ → Bool
is_ranked rank readings time = nat_le (count_by (λ r. nat_lt r.ms time) readings) rank && nat_lt rank (count_by (λ r. nat_le r.ms time) readings)

-- the agreed time: the (f + 1)-th smallest reading, or the largest where there are no more than f
abbrev pub agreed_time : ℕ → List Reading → ℕ
agreed_time f readings = option_map_or (λ r. r.ms) (find (λ r. is_ranked (rank_of f readings) readings r.ms) readings) 0

-- the agreed seed: the SHA-256 of the shares, joined in the order of their replicas
abbrev pub agreed_seed : List Share → List ℕ
agreed_seed shares = sha256 (flat_map (λ s. s.bytes) shares)
