-- The fields of a text, read and spelled.
use Rattle.std.proofs.Common.{◌≡◌, ◌⊎◌, inl, inr, ℕ, zero, suc, ◌+◌, ◌-◌, ◌<◌, ◌≤◌, ◌^◌, ◌&&◌, Bool, true, false, nat_lt, nat_le, if◌then◌else◌, List, [], ◌∷◌, ◌++◌, length, take, drop, get_or, Result, Ok, Err, refl, sym, ◌∙◌, ap, subst, arith, append_assoc, length-append}
use Rattle.std.specs.Int.{from_be_bytes, w8, w32, w64}
use Rattle.std.proofs.lemmas.Nat.{be_bytes_4, be_bytes_8, from_be_bytes-to_be_bytes_4, from_be_bytes-to_be_bytes_8}
use Rattle.std.proofs.lemmas.Bool.{ltb-false, le-ltb}
use Rattle.std.proofs.lemmas.Bool.Decides.{nat_tests}
use Rattle.std.proofs.lemmas.List.{take-append-drop, length-take-le, get_or-append-add, take_at, drop_at}
use Rattle.pws_base.specs.Texts.{u32_text, u64_text, sized_text}
use Rattle.pws_base.specs.declared.fields.FieldFault.{FieldFault}
use Rattle.pws_base.specs.declared.fields.FaultKind.{FaultKind}
use Rattle.pws_base.specs.declared.fields.FaultKind.TheVariants.{Short, Range}
use Rattle.pws_base.specs.Fields.{Unread, ◌>>=◌, refused, past_bytes, bytes_field, u8_field, u32_field, u64_field, u8_within, u32_within, sized_field}
use Rattle.pws_msg.specs.Bytes.{IsBytes}
use Rattle.pws_msg.proofs.Ranges.{test_passed, between}
use Rattle.pws_msg.proofs.Exact.{ReadAs, IsExact, seq_sound, seq_complete, exact_as}
use Rattle.pws_msg.proofs.Streams.{length-u32_text}
use Rattle.pws_msg.proofs.Lengths.{length-u64_text}

-- what follows bytes is bytes, and what stands in front of them
pub rest_bytes : (xs ys zs : List ℕ) → IsBytes xs → xs ≡ ys ++ zs → IsBytes zs
rest_bytes xs ys zs b e i = subst (λ n. n < 256) (ap (λ (xs : List ℕ). get_or xs (length ys + i) 0) e ∙ get_or-append-add ys zs i 0) (b (length ys + i))

pub take_bytes : (k : ℕ) (xs : List ℕ) → IsBytes xs → IsBytes (take k xs)
take_bytes zero xs b i = omega arith
take_bytes (suc k) [] b i = omega arith
take_bytes (suc k) (x ∷ xs) b zero = b 0
take_bytes (suc k) (x ∷ xs) b (suc i) = take_bytes k xs (λ i. b (suc i)) i

-- what is answered where a test fails
pub untested : {A : Type 0} (b : Bool) (x y : A) (e : FieldFault) → ◌≡◌ {A = Result A FieldFault} (if b then Err e else Ok x) (Ok y) → (b ≡ false) × (x ≡ y)
untested true x y e h = absurd (cc)
untested false x y e h = (refl, cc)

pub inside : (low high n : ℕ) → low ≤ n → n ≤ high → (nat_le low n && nat_le n high) ≡ true
inside low high n a b = grind (arith, nat_tests)

-- so many bytes that stand for a value
pub fixed_exact : {A : Type 0} (k : ℕ) (value : List ℕ → A) (text : A → List ℕ) (lawful : A → Type 0)
    → ((xs : List ℕ) → IsBytes xs → length xs ≡ k → (text (value xs) ≡ xs) × lawful (value xs))
    → ((x : A) → lawful x → length (text x) ≡ k)
    → ((x : A) → lawful x → value (text x) ≡ x)
    → IsExact A (λ u. if nat_lt (length u.left) k then refused Short u else Ok (value (take k u.left), past_bytes k u)) text lawful
fixed_exact {A = A} k value text lawful front size back =
    record {
      sound = λ u v x b e.
          let t = untested (nat_lt (length u.left) k) (value (take k u.left), past_bytes k u) (x, v) (record { kind = Short; at = u.at }) e in
          let n : length (take k u.left) ≡ k = length-take-le k u.left (ltb-false (length u.left) k t.0) in
          let f = front (take k u.left) (take_bytes k u.left b) n in
          let split : u.left ≡ take k u.left ++ drop k u.left = sym (take-append-drop k u.left) in
          let P : A × Unread → Type 0 = λ z. ReadAs A text lawful u z.1 z.0 in
          subst P t.1 (record {
            in_range = f.1;
            spelled = split ∙ ap (λ (xs : List ℕ). xs ++ drop k u.left) (sym f.0);
            bytes = rest_bytes u.left (take k u.left) (drop k u.left) b split;
          });
      complete = λ x rest at l.
          let whole : Unread = record { left = text x ++ rest; at = at } in
          let answer : A → List ℕ → Result (A × Unread) FieldFault = λ y ys. Ok (y, record { left = ys; at = at + k }) in
          let tested : Bool → Result (A × Unread) FieldFault = λ b. if b then refused Short whole else answer (value (take k (text x ++ rest))) (drop k (text x ++ rest)) in
          let room : nat_lt (length (text x ++ rest)) k ≡ false = le-ltb (length (text x ++ rest)) k (omega (arith, length-append (text x) rest, size x l)) in
          let first : value (take k (text x ++ rest)) ≡ x = ap value (take_at (text x) rest k (size x l)) ∙ back x l in
          let last : drop k (text x ++ rest) ≡ rest = drop_at (text x) rest k (size x l) in
          (at + k, ap tested room ∙ (ap (λ y. answer y (drop k (text x ++ rest))) first ∙ ap (answer x) last));
    }

pub bytes_exact : (k : ℕ) → IsExact (List ℕ) (bytes_field k) (λ xs. xs) (λ xs. length xs ≡ k)
bytes_exact k = fixed_exact k (λ xs. xs) (λ xs. xs) (λ xs. length xs ≡ k) (λ xs b n. (refl, n)) (λ x l. l) (λ x l. refl)

one_byte : (xs : List ℕ) → length xs ≡ 1 → from_be_bytes w8 xs ∷ [] ≡ xs
one_byte [] n = absurd (omega arith)
one_byte (x ∷ []) n = refl
one_byte (x ∷ y ∷ xs) n = absurd (omega arith)

abbrev pub byte_text : ℕ → List ℕ
byte_text n = n ∷ []

pub u8_exact : IsExact ℕ u8_field byte_text (λ n. Unit {0})
u8_exact = fixed_exact 1 (from_be_bytes w8) byte_text (λ n. Unit {0}) (λ xs b n. (one_byte xs n, tt)) (λ x l. refl) (λ x l. refl)

small_u32 : (xs : List ℕ) → IsBytes xs → from_be_bytes w32 xs < 2 ^ 32
small_u32 xs b = omega (arith, b 0, b 1, b 2, b 3)

small_u64 : (xs : List ℕ) → IsBytes xs → from_be_bytes w64 xs < 2 ^ 64
small_u64 xs b = omega (arith, b 0, b 1, b 2, b 3, b 4, b 5, b 6, b 7)

pub u32_exact : IsExact ℕ u32_field u32_text (λ n. n < 2 ^ 32)
unfolding u32_text
u32_exact = fixed_exact 4 (from_be_bytes w32) u32_text (λ n. n < 2 ^ 32) (λ xs b n. (be_bytes_4 xs (from_be_bytes w32 xs) n b refl, small_u32 xs b)) (λ x l. length-u32_text x) (λ x l. from_be_bytes-to_be_bytes_4 x l)

pub u64_exact : IsExact ℕ u64_field u64_text (λ n. n < 2 ^ 64)
unfolding u64_text
u64_exact = fixed_exact 8 (from_be_bytes w64) u64_text (λ n. n < 2 ^ 64) (λ xs b n. (be_bytes_8 xs (from_be_bytes w64 xs) n b refl, small_u64 xs b)) (λ x l. length-u64_text x) (λ x l. from_be_bytes-to_be_bytes_8 x l)

-- a field that passes a test
pub where_exact : {A : Type 0} {read : Unread → Result (A × Unread) FieldFault} {text : A → List ℕ} {lawful : A → Type 0} (test : A → Bool) (kind : FaultKind) → IsExact A read text lawful → IsExact A (λ u. read u >>= (λ x. if test x.0 then Ok x else refused kind u)) text (λ x. lawful x × (test x ≡ true))
where_exact {A = A} {read = read} {text = text} {lawful = lawful} test kind h =
    record {
      sound = λ u v x b e.
          let (y, w, r, k) = seq_sound read text lawful h u (λ x. if test x.0 then Ok x else refused kind u) (x, v) b e in
          let t = test_passed (test y) (y, w) (x, v) (record { kind = kind; at = u.at }) k in
          let P : A × Unread → Type 0 = λ z. ReadAs A text (λ x. lawful x × (test x ≡ true)) u z.1 z.0 in
          subst P t.1 (record { in_range = (r.in_range, t.0); spelled = r.spelled; bytes = r.bytes });
      complete = λ x rest at l.
          let whole : Unread = record { left = text x ++ rest; at = at } in
          let (to, c) = seq_complete read text lawful h x rest at (λ x. if test x.0 then Ok x else refused kind whole) l.0 in
          let answer : Bool → Result (A × Unread) FieldFault = λ b. if b then Ok (x, record { left = rest; at = to }) else refused kind whole in
          (to, c ∙ ap answer l.1);
    }

pub u8_within_exact : (low high : ℕ) → IsExact ℕ (u8_within low high) byte_text (λ n. (low ≤ n) × (n ≤ high))
u8_within_exact low high = exact_as (λ n. (low ≤ n) × (n ≤ high)) (where_exact (λ n. nat_le low n && nat_le n high) Range u8_exact) (λ n h. between low high n h.1) (λ n h. (tt, inside low high n h.0 h.1))

pub u32_within_exact : (low high : ℕ) → high < 2 ^ 32 → IsExact ℕ (u32_within low high) u32_text (λ n. (low ≤ n) × (n ≤ high))
u32_within_exact low high small = exact_as (λ n. (low ≤ n) × (n ≤ high)) (where_exact (λ n. nat_le low n && nat_le n high) Range u32_exact) (λ n h. between low high n h.1) (λ n h. (omega (arith, h.1), inside low high n h.0 h.1))

-- bytes after their length
pub sized_exact : (bound : ℕ) → bound < 2 ^ 32 → IsExact (List ℕ) (sized_field bound) sized_text (λ xs. length xs ≤ bound)
unfolding sized_field
sized_exact bound small =
    record {
      sound = λ u v x b e.
          let (n, w, r, k) = seq_sound (u32_within 0 bound) u32_text (λ n. (0 ≤ n) × (n ≤ bound)) (u32_within_exact 0 bound small) u (λ size. if nat_lt (length size.1.left) size.0 then refused Short u else Ok (take size.0 size.1.left, past_bytes size.0 size.1)) (x, v) b e in
          let t = untested (nat_lt (length w.left) n) (take n w.left, past_bytes n w) (x, v) (record { kind = Short; at = u.at }) k in
          let size : length (take n w.left) ≡ n = length-take-le n w.left (ltb-false (length w.left) n t.0) in
          let split : w.left ≡ take n w.left ++ drop n w.left = sym (take-append-drop n w.left) in
          let named : u.left ≡ u32_text (length (take n w.left)) ++ w.left = r.spelled ∙ ap (λ m. u32_text m ++ w.left) (sym size) in
          let whole : u.left ≡ sized_text (take n w.left) ++ drop n w.left = named ∙ (ap (λ (xs : List ℕ). u32_text (length (take n w.left)) ++ xs) split ∙ sym (append_assoc (u32_text (length (take n w.left))) (take n w.left) (drop n w.left))) in
          let P : List ℕ × Unread → Type 0 = λ z. ReadAs (List ℕ) sized_text (λ xs. length xs ≤ bound) u z.1 z.0 in
          subst P t.1 (record { in_range = omega (arith, size, r.in_range); spelled = whole; bytes = rest_bytes w.left (take n w.left) (drop n w.left) r.bytes split });
      complete = λ x rest at l.
          let whole : Unread = record { left = sized_text x ++ rest; at = at } in
          let (to, c) = seq_complete (u32_within 0 bound) u32_text (λ n. (0 ≤ n) × (n ≤ bound)) (u32_within_exact 0 bound small) (length x) (x ++ rest) at (λ size. if nat_lt (length size.1.left) size.0 then refused Short whole else Ok (take size.0 size.1.left, past_bytes size.0 size.1)) (omega arith, l) in
          let answer : List ℕ → List ℕ → Result (List ℕ × Unread) FieldFault = λ y ys. Ok (y, record { left = ys; at = to + length x }) in
          let tested : Bool → Result (List ℕ × Unread) FieldFault = λ b. if b then refused Short whole else answer (take (length x) (x ++ rest)) (drop (length x) (x ++ rest)) in
          let room : nat_lt (length (x ++ rest)) (length x) ≡ false = le-ltb (length (x ++ rest)) (length x) (omega (arith, length-append x rest)) in
          let place : sized_text x ++ rest ≡ u32_text (length x) ++ (x ++ rest) = append_assoc (u32_text (length x)) x rest in
          let read : List ℕ → Result (List ℕ × Unread) FieldFault = λ xs. u32_within 0 bound (record { left = xs; at = at }) >>= (λ size. if nat_lt (length size.1.left) size.0 then refused Short whole else Ok (take size.0 size.1.left, past_bytes size.0 size.1)) in
          (to + length x, ap read place ∙ (c ∙ (ap tested room ∙ (ap (λ y. answer y (drop (length x) (x ++ rest))) (take_at x rest (length x) refl) ∙ ap (answer x) (drop_at x rest (length x) refl)))));
    }
