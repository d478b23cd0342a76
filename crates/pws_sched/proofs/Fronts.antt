-- Lists of bytes, and reading from their front: what was written there is read, and what was read stood there.
use Rattle.std.proofs.Common.{◌≡◌, ℕ, zero, suc, ◌+◌, ◌^◌, ◌<◌, ◌≤◌, Bool, true, false, cond, inl, inr, List, [], ◌∷◌, ◌++◌, length, get_or, take, drop, Option, Some, None, unwrap_or, refl, sym, subst, ◌∙◌, ap, arith, ltb}
use Rattle.std.specs.Int.{from_be_bytes, to_be_bytes, byte_at, bytes_high_first, w32}
use Rattle.std.specs.Str.{bytes_eq}
use Rattle.std.proofs.lemmas.Bool.{cases_lt, le-ltb, ltb-false}
use Rattle.std.proofs.lemmas.List.{get_or-take, get_or-drop, get_or_past, length-append, length-take, length-take-le, take-append-drop, take_at, drop_at}
use Rattle.std.proofs.lemmas.Nat.{be_bytes_4, from_be_bytes-to_be_bytes_4}
use Rattle.std.proofs.lemmas.Option.{cond_some}
use Rattle.std.proofs.lemmas.Slice.Eq.{bytes_eq-Decides}
use Rattle.hex.specs.Hex.{IsBytes}
use Rattle.pws_base.specs.Cursors.{u8_at, u32_at, bytes_at}
use Rattle.pws_base.specs.Texts.{u32_text}
use Rattle.pws_sched.specs.FirstForm.{after, ◌>>=◌}

-- ---- bytes

pub IsBytes-nil : IsBytes []
IsBytes-nil i = omega arith

pub IsBytes-cons : (b : ℕ) (rest : List ℕ) → b < 256 → IsBytes rest → IsBytes (b ∷ rest)
IsBytes-cons b rest h hs zero = h
IsBytes-cons b rest h hs (suc i) = hs i

pub IsBytes-append : (xs ys : List ℕ) → IsBytes xs → IsBytes ys → IsBytes (xs ++ ys)
IsBytes-append [] ys h k = k
IsBytes-append (x ∷ xs) ys h k = IsBytes-cons x (xs ++ ys) (h 0) (IsBytes-append xs ys (λ i. h (suc i)) k)

pub IsBytes-take : (n : ℕ) (xs : List ℕ) → IsBytes xs → IsBytes (take n xs)
IsBytes-take n xs h i =
    elim (cases_lt i n) [
      | inl below ↦ rw (get_or-take n xs i 0 below) (h i)
      | inr past ↦
          let none : get_or (take n xs) i 0 ≡ 0 = get_or_past (take n xs) i 0 (omega (arith, length-take n xs)) in
          rw none (omega arith)
    ]

pub IsBytes-drop : (n : ℕ) (xs : List ℕ) → IsBytes xs → IsBytes (drop n xs)
IsBytes-drop n xs h i = rw (get_or-drop n xs i 0) (h (n + i))

byte_at-small : (k n : ℕ) → byte_at k n < 256
byte_at-small zero n = omega arith
byte_at-small (suc k) n = omega arith

IsBytes-bytes_high_first : (k n : ℕ) → IsBytes (bytes_high_first k n)
IsBytes-bytes_high_first zero n = IsBytes-nil
IsBytes-bytes_high_first (suc k) n = IsBytes-cons (byte_at k n) (bytes_high_first k n) (byte_at-small k n) (IsBytes-bytes_high_first k n)

pub IsBytes-u32_text : (n : ℕ) → IsBytes (u32_text n)
unfolding u32_text
IsBytes-u32_text n = IsBytes-bytes_high_first 4 n

-- ---- what a step answers

-- what a value after two steps shows of each
pub bind_some : {A B : Type 0} (o : Option A) (f : A → Option B) (y : B) → (o >>= f) ≡ Some y → (x : A) × (o ≡ Some x) × (f x ≡ Some y)
bind_some (Some x) f y h = (x, refl, h)
bind_some None f y h = cc h

same_some : {A : Type 0} (x y : A) → Some x ≡ Some y → x ≡ y
same_some x y h = ap (λ o. unwrap_or o x) h

unless : {A : Type 0} (b : Bool) (x y : A) → cond b None (Some x) ≡ Some y → (b ≡ false) × (x ≡ y)
unless true x y h = cc h
unless false x y h = (refl, same_some x y h)

-- ---- the next bytes

pub bytes_at-front : (front rest : List ℕ) (n : ℕ) → length front ≡ n → bytes_at n (front ++ rest) ≡ Some (front, rest)
bytes_at-front front rest n h =
    let room : ltb (length (front ++ rest)) n ≡ false = le-ltb (length (front ++ rest)) n (omega (arith, length-append front rest)) in
    rw (room, take_at front rest n h, drop_at front rest n h) refl

-- the bytes that were read, and the rest
pub record Read (text front rest : List ℕ) (n : ℕ) : Type 0 where
  pub whole : text ≡ front ++ rest
  pub size : length front ≡ n

pub bytes_at-read : (n : ℕ) (text : List ℕ) (p : List ℕ × List ℕ) → bytes_at n text ≡ Some p → Read text p.0 p.1 n
bytes_at-read n text p h =
    let got = unless (ltb (length text) n) (take n text, drop n text) p h in
    let room : n ≤ length text = ltb-false _ _ got.0 in
    subst (λ (q : List ℕ × List ℕ). Read text q.0 q.1 n) got.1 (record { whole = sym (take-append-drop n text); size = length-take-le n text room })

-- ---- the next number

pub u8_at-front : (b : ℕ) (rest : List ℕ) → u8_at (b ∷ rest) ≡ Some (b, rest)
u8_at-front b rest = rw (le-ltb (suc (length rest)) 1 (omega arith)) refl

pub u8_at-read : (text : List ℕ) (p : ℕ × List ℕ) → u8_at text ≡ Some p → text ≡ p.0 ∷ p.1
u8_at-read [] p h = cc h
u8_at-read (b ∷ rest) p h = ap (λ (q : ℕ × List ℕ). q.0 ∷ q.1) (same_some (b, rest) p (sym (u8_at-front b rest) ∙ h))

u32_at-bytes : (front rest : List ℕ) (n : ℕ) → length front ≡ 4 → from_be_bytes w32 front ≡ n → u32_at (front ++ rest) ≡ Some (n, rest)
u32_at-bytes front rest n h e =
    let room : ltb (length (front ++ rest)) 4 ≡ false = le-ltb (length (front ++ rest)) 4 (omega (arith, length-append front rest)) in
    rw (room, take_at front rest 4 h, drop_at front rest 4 h, e) refl

pub u32_at-front : (n : ℕ) (rest : List ℕ) → n < 2 ^ 32 → u32_at (u32_text n ++ rest) ≡ Some (n, rest)
unfolding u32_text
u32_at-front n rest fits = u32_at-bytes (to_be_bytes w32 n) rest n refl (from_be_bytes-to_be_bytes_4 n fits)

u32_text-read : (front : List ℕ) (n : ℕ) → length front ≡ 4 → IsBytes front → n ≡ from_be_bytes w32 front → u32_text n ≡ front
unfolding u32_text
u32_text-read front n size bytes e = be_bytes_4 front n size bytes e

pub u32_at-read : (text : List ℕ) (p : ℕ × List ℕ) → IsBytes text → u32_at text ≡ Some p → (text ≡ u32_text p.0 ++ p.1) × IsBytes p.1
u32_at-read text p bytes h =
    let got = unless (ltb (length text) 4) (from_be_bytes w32 (take 4 text), drop 4 text) p h in
    let room : 4 ≤ length text = ltb-false _ _ got.0 in
    let spelled : u32_text (from_be_bytes w32 (take 4 text)) ≡ take 4 text = u32_text-read (take 4 text) _ (length-take-le 4 text room) (IsBytes-take 4 text bytes) refl in
    let here : (text ≡ u32_text (from_be_bytes w32 (take 4 text)) ++ drop 4 text) × IsBytes (drop 4 text) =
    (sym (take-append-drop 4 text) ∙ ap (λ front. front ++ drop 4 text) (sym spelled), IsBytes-drop 4 text bytes) in
    subst (λ (q : ℕ × List ℕ). (text ≡ u32_text q.0 ++ q.1) × IsBytes q.1) got.1 here

-- ---- the text after a front

pub after-front : (front rest : List ℕ) → after front (front ++ rest) ≡ Some rest
after-front front rest =
    let same : bytes_eq front front ≡ true = (bytes_eq-Decides front front).1 refl in
    rw (take_at front rest (length front) refl, drop_at front rest (length front) refl, same) refl

pub after-read : (front text rest : List ℕ) → after front text ≡ Some rest → text ≡ front ++ rest
after-read front text rest h =
    let got = cond_some (bytes_eq (take (length front) text) front) (drop (length front) text) rest h in
    let same : take (length front) text ≡ front = (bytes_eq-Decides (take (length front) text) front).0 got.0 in
    sym (take-append-drop (length front) text) ∙ (ap (λ f. f ++ drop (length front) text) same ∙ ap (λ r. front ++ r) got.1)
