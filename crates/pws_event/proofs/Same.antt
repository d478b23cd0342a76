-- Two answers to an ask compare as equal exactly where they are one.
use Rattle.std.proofs.Common.{◌≡◌, ℕ, Bool, true, List, ◌&&◌, nat_eq, refl, ap}
use Rattle.std.specs.Bool.{Decides}
use Rattle.std.specs.Cmp.{unsigned_Decides}
use Rattle.std.specs.Cmp.Lexicographic.{pointwise, pointwise_decides}
use Rattle.std.proofs.lemmas.Bool.{and_parts}
use Rattle.pws_event.specs.Readings.{ClockFields, RandomFields}
use Rattle.pws_event.specs.declared.readings.Reading.{Reading}
use Rattle.pws_event.specs.declared.readings.Share.{Share}
use Rattle.pws_event.specs.declared.events.Event.TheVariants as event
use Rattle.pws_event.specs.Equal.{same_reading, same_clock, same_share, same_random}

-- where both tests hold they decide on both fields
both_from : (a b : Bool) → a ≡ true → b ≡ true → (a && b) ≡ true
both_from a b h g = rw (h, g) refl

bytes_decide : (xs ys : List ℕ) → Decides (pointwise nat_eq xs ys) (xs ≡ ys)
bytes_decide = pointwise_decides unsigned_Decides

one_reading : (i j m n : ℕ) → i ≡ j → m ≡ n → ◌≡◌ {A = Reading} (record { index = i; ms = m }) (record { index = j; ms = n })
one_reading i j m n a b = rw (a, b) refl

reading_decides : (r s : Reading) → Decides (same_reading r s) (r ≡ s)
reading_decides r s = (
  λ h. let p = and_parts (nat_eq r.index s.index) (nat_eq r.ms s.ms) h in one_reading r.index s.index r.ms s.ms ((unsigned_Decides r.index s.index).0 p.0) ((unsigned_Decides r.ms s.ms).0 p.1),
  λ e. both_from (nat_eq r.index s.index) (nat_eq r.ms s.ms) ((unsigned_Decides r.index s.index).1 (ap (λ (x : Reading). x.index) e)) ((unsigned_Decides r.ms s.ms).1 (ap (λ (x : Reading). x.ms) e)),
)

one_clock : (i j : ℕ) (rs ss : List Reading) → i ≡ j → rs ≡ ss → ◌≡◌ {A = ClockFields} (record { ask = i; readings = rs }) (record { ask = j; readings = ss })
one_clock i j rs ss a b = rw (a, b) refl

pub clock_decides : (c d : ClockFields) → Decides (same_clock c d) (c ≡ d)
clock_decides c d = (
  λ h. let p = and_parts (nat_eq c.ask d.ask) (pointwise same_reading c.readings d.readings) h in one_clock c.ask d.ask c.readings d.readings ((unsigned_Decides c.ask d.ask).0 p.0) ((pointwise_decides reading_decides c.readings d.readings).0 p.1),
  λ e. both_from (nat_eq c.ask d.ask) (pointwise same_reading c.readings d.readings) ((unsigned_Decides c.ask d.ask).1 (ap (λ (x : ClockFields). x.ask) e)) ((pointwise_decides reading_decides c.readings d.readings).1 (ap (λ (x : ClockFields). x.readings) e)),
)

one_share : (i j : ℕ) (m n : List ℕ) → i ≡ j → m ≡ n → ◌≡◌ {A = Share} (record { index = i; bytes = m }) (record { index = j; bytes = n })
one_share i j m n a b = rw (a, b) refl

share_decides : (r s : Share) → Decides (same_share r s) (r ≡ s)
share_decides r s = (
  λ h. let p = and_parts (nat_eq r.index s.index) (pointwise nat_eq r.bytes s.bytes) h in one_share r.index s.index r.bytes s.bytes ((unsigned_Decides r.index s.index).0 p.0) ((bytes_decide r.bytes s.bytes).0 p.1),
  λ e. both_from (nat_eq r.index s.index) (pointwise nat_eq r.bytes s.bytes) ((unsigned_Decides r.index s.index).1 (ap (λ (x : Share). x.index) e)) ((bytes_decide r.bytes s.bytes).1 (ap (λ (x : Share). x.bytes) e)),
)

one_random : (i j : ℕ) (rs ss : List Share) → i ≡ j → rs ≡ ss → ◌≡◌ {A = RandomFields} (record { ask = i; shares = rs }) (record { ask = j; shares = ss })
one_random i j rs ss a b = rw (a, b) refl

pub random_decides : (c d : RandomFields) → Decides (same_random c d) (c ≡ d)
random_decides c d = (
  λ h. let p = and_parts (nat_eq c.ask d.ask) (pointwise same_share c.shares d.shares) h in one_random c.ask d.ask c.shares d.shares ((unsigned_Decides c.ask d.ask).0 p.0) ((pointwise_decides share_decides c.shares d.shares).0 p.1),
  λ e. both_from (nat_eq c.ask d.ask) (pointwise same_share c.shares d.shares) ((unsigned_Decides c.ask d.ask).1 (ap (λ (x : RandomFields). x.ask) e)) ((pointwise_decides share_decides c.shares d.shares).1 (ap (λ (x : RandomFields). x.shares) e)),
)

one_clock_event : (c d : ClockFields) → event.Clock c ≡ event.Clock d → c ≡ d
one_clock_event c d e = cc

pub clocks_decide : (c d : ClockFields) → Decides (same_clock c d) (event.Clock c ≡ event.Clock d)
clocks_decide c d = (λ h. ap event.Clock ((clock_decides c d).0 h), λ e. (clock_decides c d).1 (one_clock_event c d e))

one_random_event : (c d : RandomFields) → event.Random c ≡ event.Random d → c ≡ d
one_random_event c d e = cc

pub randoms_decide : (c d : RandomFields) → Decides (same_random c d) (event.Random c ≡ event.Random d)
randoms_decide c d = (λ h. ap event.Random ((random_decides c d).0 h), λ e. (random_decides c d).1 (one_random_event c d e))
