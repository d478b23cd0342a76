-- Among readings there is one at each rank, and all that stand at it are equal.
use Rattle.std.proofs.Common.{◌≡◌, inl, inr, ℕ, zero, suc, ◌+◌, ◌<◌, ◌≤◌, ◌&&◌, Bool, true, false, List, [], ◌∷◌, length, slice_get, find, count_by, Option, Some, refl, sym, ◌∙◌, ap, arith, cond, nat_lt, nat_le}
use Rattle.std.specs.Option.{option_map_or}
use Rattle.std.proofs.lemmas.Bool.{cases_lt, cases_eq, cases_order}
use Rattle.std.proofs.lemmas.Bool.Decides.{nat_tests}
use Rattle.std.proofs.lemmas.List.Sums.{sum_by-cons}
use Rattle.pws_event.specs.declared.readings.Reading.{Reading}
use Rattle.pws_event.specs.Times.{rank_of, is_ranked, agreed_time}
use Rattle.pws_event.specs.Laws.{AgreedTimeIsRanked}

-- how many readings are below a time, and at most it
abbrev below : List Reading → ℕ → ℕ
below rs t = count_by (λ r. nat_lt r.ms t) rs

abbrev up_to : List Reading → ℕ → ℕ
up_to rs t = count_by (λ r. nat_le r.ms t) rs

unfoldable pub one : Bool → ℕ
one b = cond b 1 0

pub count-cons : (p : Reading → Bool) (r : Reading) (rs : List Reading) → count_by p (r ∷ rs) ≡ one (p r) + count_by p rs
unfolding one
count-cons p r rs = sum_by-cons (λ x. cond (p x) 1 0) r rs

one_le : (a b : Bool) → (a ≡ true → b ≡ true) → one a ≤ one b
unfolding one
one_le true true h = omega arith
one_le true false h = absurd (let e = h refl in cc)
one_le false b h = omega arith

pub one_at : (a : Bool) → a ≡ true → one a ≡ 1
unfolding one
one_at true h = refl
one_at false h = absurd (cc)

pub none_at : (a : Bool) → a ≡ false → one a ≡ 0
unfolding one
none_at false h = refl
none_at true h = absurd (cc)

pub both_low : (a b k : ℕ) → (nat_le a k && nat_lt k b) ≡ true → a ≤ k
both_low a b k h = grind (arith, nat_tests)

pub both_high : (a b k : ℕ) → (nat_le a k && nat_lt k b) ≡ true → k < b
both_high a b k h = grind (arith, nat_tests)

both_from : (a b k : ℕ) → a ≤ k → k < b → (nat_le a k && nat_lt k b) ≡ true
both_from a b k l m = grind (arith, nat_tests)

-- a wider test counts no less
wider : (p q : Reading → Bool) → ((r : Reading) → p r ≡ true → q r ≡ true) → (rs : List Reading) → count_by p rs ≤ count_by q rs
wider p q h [] = omega arith
wider p q h (r ∷ rs) = omega (arith, count-cons p r rs, count-cons q r rs, one_le (p r) (q r) (h r), wider p q h rs)

lt_lt : (x a b : ℕ) → a ≤ b → nat_lt x a ≡ true → nat_lt x b ≡ true
lt_lt x a b l h = grind (arith, nat_tests)

le_lt : (x a b : ℕ) → a < b → nat_le x a ≡ true → nat_lt x b ≡ true
le_lt x a b l h = grind (arith, nat_tests)

lt_le : (x a : ℕ) → nat_lt x (suc a) ≡ true → nat_le x a ≡ true
lt_le x a h = grind (arith, nat_tests)

above : (x a : ℕ) → x < a → nat_lt x a ≡ true
above x a h = grind (arith, nat_tests)

-- all readings are below some time
bound : (rs : List Reading) → (b : ℕ) × (length rs ≤ below rs b)
bound [] = (0, omega arith)
bound (r ∷ rs) =
    let m = bound rs in
    let b = m.0 + (r.ms + 1) in
    let head = one_at (nat_lt r.ms b) (above r.ms b (omega arith)) in
    let rest = wider (λ x. nat_lt x.ms m.0) (λ x. nat_lt x.ms b) (λ x h. lt_lt x.ms m.0 b (omega arith) h) rs in
    (b, omega (arith, count-cons (λ x. nat_lt x.ms b) r rs, head, rest, m.1))

none_below : (rs : List Reading) → below rs 0 ≡ 0
none_below [] = refl
none_below (r ∷ rs) =
    let head : one (nat_lt r.ms 0) ≡ 0 = none_at (nat_lt r.ms 0) (grind (arith, nat_tests)) in
    omega (arith, count-cons (λ x. nat_lt x.ms 0) r rs, head, none_below rs)

-- a time with at most k readings below it and more than k at most it
ranked_time : (rs : List Reading) (k b : ℕ) → k < below rs b → (t : ℕ) × (below rs t ≤ k) × (k < up_to rs t)
ranked_time rs k zero h = absurd (omega (arith, none_below rs, h))
ranked_time rs k (suc b) h =
    elim (cases_lt k (below rs b)) [
      | inl l ↦ ranked_time rs k b l
      | inr l ↦ (b, l, omega (arith, h, wider (λ x. nat_lt x.ms (suc b)) (λ x. nat_le x.ms b) (λ x e. lt_le x.ms b e) rs))
    ]

not_equal : (x t : ℕ) → (x ≡ t → ⊥) → nat_le x t ≡ true → nat_lt x t ≡ true
not_equal x t n h = grind (arith, nat_tests)

-- a reading stands at a time that more are at most than are below
stands_at : (rs : List Reading) (t : ℕ) → below rs t < up_to rs t → (place : ℕ) × (r : Reading) × (slice_get rs place ≡ Some r) × (r.ms ≡ t)
stands_at [] t h = absurd (omega arith)
stands_at (r ∷ rs) t h =
    elim (cases_eq r.ms t) [
      | inl e ↦ (0, r, refl, e)
      | inr n ↦
          let head = one_le (nat_le r.ms t) (nat_lt r.ms t) (not_equal r.ms t n) in
          let more = stands_at rs t (omega (arith, h, head, count-cons (λ x. nat_lt x.ms t) r rs, count-cons (λ x. nat_le x.ms t) r rs)) in
          (suc more.0, more.1, more.2, more.3)
    ]

first_passes : (p : Reading → Bool) (x r : Reading) → p x ≡ false → ◌≡◌ {A = Option Reading} (Some x) (Some r) → p r ≡ true → ⊥
first_passes p x r e g t = cc

found_by : (p : Reading → Bool) (x : Reading) (rs : List Reading) (b : Bool) → p x ≡ b → (place : ℕ) (r : Reading) → slice_get (x ∷ rs) place ≡ Some r → p r ≡ true → ((place : ℕ) → slice_get rs place ≡ Some r → (s : Reading) × (find p rs ≡ Some s) × (p s ≡ true) × (at : ℕ) × (slice_get rs at ≡ Some s))
    → (s : Reading) × (cond b (Some x) (find p rs) ≡ Some s) × (p s ≡ true) × (at : ℕ) × (slice_get (x ∷ rs) at ≡ Some s)
found_by p x rs true e place r g t more = (x, refl, e, 0, refl)
found_by p x rs false e zero r g t more = absurd (first_passes p x r e g t)
found_by p x rs false e (suc place) r g t more = let m = more place g in (m.0, m.1, m.2, suc m.3, m.4)

-- where a reading passes a test, one is found
found : (p : Reading → Bool) (rs : List Reading) (place : ℕ) (r : Reading) → slice_get rs place ≡ Some r → p r ≡ true → (s : Reading) × (find p rs ≡ Some s) × (p s ≡ true) × (at : ℕ) × (slice_get rs at ≡ Some s)
found p [] place r g t = absurd (cc)
found p (x ∷ rs) place r g t = found_by p x rs (p x) refl place r g t (λ place g. found p rs place r g t)

ranked_parts : (k : ℕ) (rs : List Reading) (t : ℕ) → is_ranked k rs t ≡ true → (below rs t ≤ k) × (k < up_to rs t)
unfolding is_ranked
ranked_parts k rs t h = (both_low (below rs t) (up_to rs t) k h, both_high (below rs t) (up_to rs t) k h)

ranked_from : (k : ℕ) (rs : List Reading) (t : ℕ) → below rs t ≤ k → k < up_to rs t → is_ranked k rs t ≡ true
unfolding is_ranked
ranked_from k rs t a b = both_from (below rs t) (up_to rs t) k a b

-- no two times stand at one rank
earlier : (rs : List Reading) (k s t : ℕ) → is_ranked k rs s ≡ true → is_ranked k rs t ≡ true → s < t → ⊥
earlier rs k s t a b l = omega (arith, (ranked_parts k rs s a).1, (ranked_parts k rs t b).0, wider (λ x. nat_le x.ms s) (λ x. nat_lt x.ms t) (λ x h. le_lt x.ms s t l h) rs)

one_time : (rs : List Reading) (k s t : ℕ) → is_ranked k rs s ≡ true → is_ranked k rs t ≡ true → s ≡ t
one_time rs k s t a b =
    elim (cases_order s t) [
      | inl e ↦ e
      | inr o ↦ elim o [
        | inl l ↦ absurd (earlier rs k s t a b l)
        | inr l ↦ absurd (earlier rs k t s b a l)
      ]
    ]

pub agreed_time_is_ranked : AgreedTimeIsRanked
agreed_time_is_ranked f readings h =
    let k = rank_of f readings in
    let m = bound readings in
    let t = ranked_time readings k m.0 (omega (arith, m.1, h)) in
    let r = stands_at readings t.0 (omega (arith, t.1, t.2)) in
    let p : Reading → Bool = λ r. is_ranked k readings r.ms in
    let s = found p readings r.0 r.1 r.2 (ap (is_ranked k readings) r.3 ∙ ranked_from k readings t.0 t.1 t.2) in
    let agreed : agreed_time f readings ≡ s.0.ms = ap (λ (o : Option Reading). option_map_or (λ r. r.ms) o 0) s.1 in
    (λ time. (λ ranked. one_time readings k time s.0.ms ranked s.2 ∙ sym agreed, λ same. ap (is_ranked k readings) (same ∙ agreed) ∙ s.2), (s.3, s.0, s.4, agreed))
