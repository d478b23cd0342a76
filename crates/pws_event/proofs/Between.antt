-- Among the readings of a quorum a correct one is at or below the agreed time, and a correct one at or above it.
use Rattle.std.proofs.Common.{◌≡◌, ℕ, zero, suc, ◌+◌, ◌*◌, ◌-◌, ◌<◌, ◌≤◌, Bool, true, false, List, [], ◌∷◌, length, map, count_by, refl, sym, ◌∙◌, ap, subst, arith, cond, nat_lt, nat_le, All, min}
use Rattle.std.specs.List.{Contains}
use Rattle.std.proofs.lemmas.Bool.Decides.{nat_tests}
use Rattle.std.proofs.lemmas.List.Elements.{All-head, All-tail}
use Rattle.pws_base.specs.Counts.{count_below}
use Rattle.pws_base.specs.Shapes.{size_of_group}
use Rattle.pws_event.specs.declared.readings.Reading.{Reading}
use Rattle.pws_event.specs.Readings.{RiseFrom}
use Rattle.pws_event.specs.Times.{rank_of, is_ranked, agreed_time}
use Rattle.pws_event.specs.Laws.{IsCorrectReading, TimeIsBetween}
use Rattle.pws_event.proofs.Ranked.{one, count-cons, both_low, both_high, agreed_time_is_ranked}

-- ---- compromised readings are no more than compromised replicas

abbrev bad : (ℕ → Bool) → Reading → Bool
bad compromised r = compromised r.index

below_by : (n : ℕ) (test : ℕ → Bool) (b : Bool) → test n ≡ b → cond b (suc (count_below n test)) (count_below n test) ≡ one b + count_below n test
unfolding one
below_by n test true e = omega arith
below_by n test false e = omega arith

below_suc : (n : ℕ) (test : ℕ → Bool) → count_below (suc n) test ≡ one (test n) + count_below n test
below_suc n test = below_by n test (test n) refl

-- a count below more replicas is no less
below_more : (k : ℕ) (test : ℕ → Bool) (n : ℕ) → count_below n test ≤ count_below (k + n) test
below_more zero test n = let e : 0 + n ≡ n = omega arith in omega (arith, ap (λ m. count_below m test) e)
below_more (suc k) test n = let e : suc k + n ≡ suc (k + n) = omega arith in omega (arith, ap (λ m. count_below m test) e, below_more k test n, below_suc (k + n) test)

below_le : (test : ℕ → Bool) (m n : ℕ) → m ≤ n → count_below m test ≤ count_below n test
below_le test m n l = let e : n - m + m ≡ n = omega (arith, l) in subst (λ k. count_below m test ≤ count_below k test) e (below_more (n - m) test m)

counted : (test : ℕ → Bool) (least n : ℕ) (rs : List Reading) → least ≤ n → RiseFrom least (map (λ (r : Reading). r.index) rs) → All (λ r. r.index < n) rs → count_by (bad test) rs + count_below least test ≤ count_below n test
counted test least n [] l h g = let none : count_by (bad test) [] ≡ 0 = refl in omega (arith, none, below_le test least n l)
counted test least n (r ∷ rs) l h g =
    let first : r.index < n = All-head (λ (r : Reading). r.index < n) r rs g in
    let rest = counted test (r.index + 1) n rs (omega (arith, first)) h.2 (All-tail (λ (r : Reading). r.index < n) r rs g) in
    let step : count_below (r.index + 1) test ≡ one (test r.index) + count_below r.index test = let one_more : r.index + 1 ≡ suc r.index = omega arith in ap (λ k. count_below k test) one_more ∙ below_suc r.index test in
    omega (arith, rest, step, count-cons (bad test) r rs, below_le test least r.index h.0)

-- ---- where more pass one test than another, one passes the first alone

here : (r : Reading) (rs : List Reading) → Contains (r ∷ rs) r
here r rs = (0, omega arith, refl)

later : (r x : Reading) (rs : List Reading) → Contains rs x → Contains (r ∷ rs) x
later r x rs c = (suc c.0, omega (arith, c.1), c.2)

Apart : (Reading → Bool) → (Reading → Bool) → List Reading → Type 0
Apart p q rs = (r : Reading) × Contains rs r × (p r ≡ true) × (q r ≡ false)

apart_later : (p q : Reading → Bool) (r : Reading) (rs : List Reading) → Apart p q rs → Apart p q (r ∷ rs)
unfolding Apart
apart_later p q r rs a = (a.0, later r a.0 rs a.1, a.2, a.3)

apart_by : (p q : Reading → Bool) (r : Reading) (rs : List Reading) (a b : Bool) → p r ≡ a → q r ≡ b → one b + count_by q rs < one a + count_by p rs → (count_by q rs < count_by p rs → Apart p q rs) → Apart p q (r ∷ rs)
unfolding Apart one
apart_by p q r rs true false e f l more = (r, here r rs, e, f)
apart_by p q r rs true true e f l more = apart_later p q r rs (more (omega (arith, l)))
apart_by p q r rs false true e f l more = apart_later p q r rs (more (omega (arith, l)))
apart_by p q r rs false false e f l more = apart_later p q r rs (more (omega (arith, l)))

apart : (p q : Reading → Bool) (rs : List Reading) → count_by q rs < count_by p rs → Apart p q rs
apart p q [] l = absurd (omega (arith, l))
apart p q (r ∷ rs) l = apart_by p q r rs (p r) (q r) refl refl (omega (arith, l, count-cons p r rs, count-cons q r rs)) (apart p q rs)

-- ---- the two sides of the agreed time

other_by : (x t : ℕ) (b : Bool) → nat_lt x t ≡ b → one b + one (nat_le t x) ≡ 1
unfolding one
other_by x t true e = let f : nat_le t x ≡ false = grind (arith, nat_tests, e) in ap (λ c. 1 + cond c 1 0) f
other_by x t false e = let f : nat_le t x ≡ true = grind (arith, nat_tests, e) in ap (λ c. 0 + cond c 1 0) f

sides : (t : ℕ) (rs : List Reading) → count_by (λ (r : Reading). nat_lt r.ms t) rs + count_by (λ (r : Reading). nat_le t r.ms) rs ≡ length rs
sides t [] = refl
sides t (r ∷ rs) = omega (arith, count-cons (λ (r : Reading). nat_lt r.ms t) r rs, count-cons (λ (r : Reading). nat_le t r.ms) r rs, other_by r.ms t (nat_lt r.ms t) refl, sides t rs)

le_is : (a b : ℕ) → nat_le a b ≡ true → a ≤ b
le_is a b h = grind (arith, nat_tests, h)

below_side : (compromised : ℕ → Bool) (rs : List Reading) (t : ℕ) → Apart (λ r. nat_le r.ms t) (bad compromised) rs → (r : Reading) × IsCorrectReading compromised rs r × (r.ms ≤ t)
unfolding Apart
below_side compromised rs t a = (a.0, record { among = a.1; correct = a.3 }, le_is (a.0).ms t a.2)

above_side : (compromised : ℕ → Bool) (rs : List Reading) (t : ℕ) → Apart (λ r. nat_le t r.ms) (bad compromised) rs → (r : Reading) × IsCorrectReading compromised rs r × (t ≤ r.ms)
unfolding Apart
above_side compromised rs t a = (a.0, record { among = a.1; correct = a.3 }, le_is t (a.0).ms a.2)

rank_is : (f n : ℕ) → n ≡ 2 * f + 1 → min f (n - 1) ≡ f
rank_is f n e = grind (arith, nat_tests, e)

pub time_is_between : TimeIsBetween
unfolding is_ranked
time_is_between = λ f compromised rs few size rise all.
    let t = agreed_time f rs in
    let some : 1 ≤ length rs = omega (arith, size) in
    let rank : rank_of f rs ≡ f = rank_is f (length rs) size in
    let ranked : is_ranked f rs t ≡ true = ap (λ k. is_ranked k rs t) (sym rank) ∙ ((agreed_time_is_ranked f rs some).0 t).1 refl in
    let low = both_low (count_by (λ (r : Reading). nat_lt r.ms t) rs) (count_by (λ (r : Reading). nat_le r.ms t) rs) f ranked in
    let high = both_high (count_by (λ (r : Reading). nat_lt r.ms t) rs) (count_by (λ (r : Reading). nat_le r.ms t) rs) f ranked in
    let bads : count_by (bad compromised) rs ≤ f = omega (arith, counted compromised 0 (size_of_group f) rs (omega arith) rise all, few) in (
      below_side compromised rs t (apart (λ (r : Reading). nat_le r.ms t) (bad compromised) rs (omega (arith, bads, high))),
      above_side compromised rs t (apart (λ (r : Reading). nat_le t r.ms) (bad compromised) rs (omega (arith, bads, low, size, sides t rs))),
    )
