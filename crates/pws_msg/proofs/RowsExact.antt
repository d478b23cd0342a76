-- Lists of rows, read and spelled.
use Rattle.std.proofs.Common.{◌≡◌, ℕ, zero, suc, ◌+◌, ◌<◌, ◌≤◌, List, [], ◌∷◌, ◌++◌, length, map, Result, Ok, Err, refl, sym, ◌∙◌, ap, subst, arith, append_assoc, All}
use Rattle.std.specs.List.{flat_map}
use Rattle.std.proofs.lemmas.List.Elements.{All-nil, All-cons, All-head, All-tail}
use Rattle.pws_base.specs.declared.fields.FieldFault.{FieldFault}
use Rattle.pws_base.specs.Fields.{Unread, ◌>>=◌, u8_within}
use Rattle.pws_event.specs.EventFields.{rising_at}
use Rattle.pws_event.specs.Readings.{RiseFrom}
use Rattle.pws_msg.specs.Bytes.{IsBytes}
use Rattle.pws_msg.specs.RowFields.{rows_at, counted_at}
use Rattle.pws_msg.specs.StatementTexts.{counted_text}
use Rattle.pws_msg.proofs.Ranges.{bind_ok}
use Rattle.pws_msg.proofs.Exact.{ReadAs, IsExact, seq_sound, seq_complete, finish}
use Rattle.pws_msg.proofs.FieldsExact.{byte_text, u8_within_exact}

-- a row in front of others, and what follows
pub row_front : {A : Type 0} (text : A → List ℕ) (u v w : Unread) (x : A) (xs : List A) → u.left ≡ text x ++ v.left → v.left ≡ flat_map text xs ++ w.left → u.left ≡ flat_map text (x ∷ xs) ++ w.left
row_front text u v w x xs e f = e ∙ (ap (λ (ys : List ℕ). text x ++ ys) f ∙ sym (append_assoc (text x) (flat_map text xs) w.left))

abbrev pub AreRows : {A : Type 0} → (A → Type 0) → ℕ → List A → Type 0
AreRows lawful n xs = (length xs ≡ n) × All lawful xs

pub rows_sound : {A : Type 0} (row_at : Unread → Result (A × Unread) FieldFault) (text : A → List ℕ) (lawful : A → Type 0) → IsExact A row_at text lawful → (n : ℕ) (u v : Unread) (xs : List A) → IsBytes u.left → rows_at row_at n u ≡ Ok (xs, v) → ReadAs (List A) (flat_map text) (AreRows lawful n) u v xs
unfolding rows_at
rows_sound row_at text lawful h zero u v xs b e = finish (flat_map text) (AreRows lawful 0) u u v [] xs e (refl, All-nil lawful) refl b
rows_sound row_at text lawful h (suc n) u v xs b e =
    let (x, w, r, k) = seq_sound row_at text lawful h u (λ first. rows_at row_at n first.1 >>= (λ more. Ok (first.0 ∷ more.0, more.1))) (xs, v) b e in
    let (p, f, g) = bind_ok (rows_at row_at n w) (λ more. Ok (x ∷ more.0, more.1)) (xs, v) k in
    let s = rows_sound row_at text lawful h n w p.1 p.0 r.bytes f in
    finish (flat_map text) (AreRows lawful (suc n)) u p.1 v (x ∷ p.0) xs g (ap suc s.in_range.0, All-cons lawful x p.0 r.in_range s.in_range.1) (row_front text u w p.1 x p.0 r.spelled s.spelled) s.bytes

pub rows_complete : {A : Type 0} (row_at : Unread → Result (A × Unread) FieldFault) (text : A → List ℕ) (lawful : A → Type 0) → IsExact A row_at text lawful → (xs : List A) (rest : List ℕ) (at : ℕ) → All lawful xs → (to : ℕ) × (rows_at row_at (length xs) (record { left = flat_map text xs ++ rest; at = at }) ≡ Ok (xs, record { left = rest; at = to }))
unfolding rows_at
rows_complete row_at text lawful h [] rest at l = (at, refl)
rows_complete {A = A} row_at text lawful h (x ∷ xs) rest at l =
    let f : A × Unread → Result (List A × Unread) FieldFault = λ first. rows_at row_at (length xs) first.1 >>= (λ more. Ok (first.0 ∷ more.0, more.1)) in
    let read : List ℕ → Result (List A × Unread) FieldFault = λ ys. row_at (record { left = ys; at = at }) >>= f in
    let (to, c) = seq_complete row_at text lawful h x (flat_map text xs ++ rest) at f (All-head lawful x xs l) in
    let (end, d) = rows_complete row_at text lawful h xs rest to (All-tail lawful x xs l) in
    let more : Result (List A × Unread) FieldFault → Result (List A × Unread) FieldFault = λ r. r >>= (λ more. Ok (x ∷ more.0, more.1)) in
    (end, ap read (append_assoc (text x) (flat_map text xs) rest) ∙ (c ∙ ap more d))

-- rows after their count
abbrev pub AreCounted : {A : Type 0} → (A → Type 0) → ℕ → ℕ → List A → Type 0
AreCounted lawful low high xs = (low ≤ length xs) × (length xs ≤ high) × All lawful xs

pub counted_exact : {A : Type 0} (row_at : Unread → Result (A × Unread) FieldFault) (text : A → List ℕ) (lawful : A → Type 0) (low high : ℕ) → IsExact A row_at text lawful → IsExact (List A) (counted_at row_at low high) (counted_text text) (AreCounted lawful low high)
unfolding counted_at
counted_exact {A = A} row_at text lawful low high h =
    record {
      sound = λ u v xs b e.
          let (n, w, r, k) = seq_sound (u8_within low high) byte_text (λ n. (low ≤ n) × (n ≤ high)) (u8_within_exact low high) u (λ count. rows_at row_at count.0 count.1) (xs, v) b e in
          let s = rows_sound row_at text lawful h n w v xs r.bytes k in
          let named : u.left ≡ (length xs ∷ []) ++ w.left = r.spelled ∙ ap (λ n. (n ∷ []) ++ w.left) (sym s.in_range.0) in
          record {
            in_range = (omega (arith, r.in_range, s.in_range.0), omega (arith, r.in_range, s.in_range.0), s.in_range.1);
            spelled = named ∙ (ap (λ (ys : List ℕ). (length xs ∷ []) ++ ys) s.spelled ∙ sym (append_assoc (length xs ∷ []) (flat_map text xs) v.left));
            bytes = s.bytes;
          };
      complete = λ xs rest at l.
          let f : ℕ × Unread → Result (List A × Unread) FieldFault = λ count. rows_at row_at count.0 count.1 in
          let (to, c) = seq_complete (u8_within low high) byte_text (λ n. (low ≤ n) × (n ≤ high)) (u8_within_exact low high) (length xs) (flat_map text xs ++ rest) at f (l.0, l.1) in
          let (end, d) = rows_complete row_at text lawful h xs rest to l.2 in
          let read : List ℕ → Result (List A × Unread) FieldFault = λ ys. u8_within low high (record { left = ys; at = at }) >>= f in
          (end, ap read (append_assoc (length xs ∷ []) (flat_map text xs) rest) ∙ (c ∙ d));
    }

-- items whose indices rise
abbrev pub AreRising : {A : Type 0} → (A → ℕ) → (A → Type 0) → ℕ → ℕ → List A → Type 0
AreRising index lawful n least xs = (length xs ≡ n) × RiseFrom least (map index xs) × All lawful xs

abbrev pub IsAbove : {A : Type 0} → (A → ℕ) → (A → Type 0) → ℕ → A → Type 0
IsAbove index lawful least x = (least ≤ index x) × (index x ≤ 9) × lawful x

pub rising_sound : {A : Type 0} (item_at : ℕ → Unread → Result (A × Unread) FieldFault) (index : A → ℕ) (text : A → List ℕ) (lawful : A → Type 0) → ((least : ℕ) → IsExact A (item_at least) text (IsAbove index lawful least)) → (n least : ℕ) (u v : Unread) (xs : List A) → IsBytes u.left → rising_at item_at index n least u ≡ Ok (xs, v) → ReadAs (List A) (flat_map text) (AreRising index lawful n least) u v xs
unfolding rising_at
rising_sound item_at index text lawful h zero least u v xs b e = finish (flat_map text) (AreRising index lawful 0 least) u u v [] xs e (refl, tt, All-nil lawful) refl b
rising_sound item_at index text lawful h (suc n) least u v xs b e =
    let (x, w, r, k) = seq_sound (item_at least) text (IsAbove index lawful least) (h least) u (λ first. rising_at item_at index n (index first.0 + 1) first.1 >>= (λ more. Ok (first.0 ∷ more.0, more.1))) (xs, v) b e in
    let (p, f, g) = bind_ok (rising_at item_at index n (index x + 1) w) (λ more. Ok (x ∷ more.0, more.1)) (xs, v) k in
    let s = rising_sound item_at index text lawful h n (index x + 1) w p.1 p.0 r.bytes f in
    finish (flat_map text) (AreRising index lawful (suc n) least) u p.1 v (x ∷ p.0) xs g (ap suc s.in_range.0, (r.in_range.0, r.in_range.1, s.in_range.1), All-cons lawful x p.0 r.in_range.2 s.in_range.2) (row_front text u w p.1 x p.0 r.spelled s.spelled) s.bytes

pub rising_complete : {A : Type 0} (item_at : ℕ → Unread → Result (A × Unread) FieldFault) (index : A → ℕ) (text : A → List ℕ) (lawful : A → Type 0) → ((least : ℕ) → IsExact A (item_at least) text (IsAbove index lawful least)) → (xs : List A) (least : ℕ) (rest : List ℕ) (at : ℕ) → RiseFrom least (map index xs) → All lawful xs → (to : ℕ) × (rising_at item_at index (length xs) least (record { left = flat_map text xs ++ rest; at = at }) ≡ Ok (xs, record { left = rest; at = to }))
unfolding rising_at
rising_complete item_at index text lawful h [] least rest at s l = (at, refl)
rising_complete {A = A} item_at index text lawful h (x ∷ xs) least rest at s l =
    let f : A × Unread → Result (List A × Unread) FieldFault = λ first. rising_at item_at index (length xs) (index first.0 + 1) first.1 >>= (λ more. Ok (first.0 ∷ more.0, more.1)) in
    let read : List ℕ → Result (List A × Unread) FieldFault = λ ys. item_at least (record { left = ys; at = at }) >>= f in
    let (to, c) = seq_complete (item_at least) text (IsAbove index lawful least) (h least) x (flat_map text xs ++ rest) at f (s.0, s.1, All-head lawful x xs l) in
    let (end, d) = rising_complete item_at index text lawful h xs (index x + 1) rest to s.2 (All-tail lawful x xs l) in
    let more : Result (List A × Unread) FieldFault → Result (List A × Unread) FieldFault = λ r. r >>= (λ more. Ok (x ∷ more.0, more.1)) in
    (end, ap read (append_assoc (text x) (flat_map text xs) rest) ∙ (c ∙ ap more d))

pub rising_exact : {A : Type 0} (item_at : ℕ → Unread → Result (A × Unread) FieldFault) (index : A → ℕ) (text : A → List ℕ) (lawful : A → Type 0) → ((least : ℕ) → IsExact A (item_at least) text (IsAbove index lawful least)) → (n : ℕ) → IsExact (List A) (rising_at item_at index n 0) (flat_map text) (AreRising index lawful n 0)
rising_exact {A = A} item_at index text lawful h n = record {
  sound = λ u v xs b e. rising_sound item_at index text lawful h n 0 u v xs b e;
  complete = λ xs rest at l.
      let (to, c) = rising_complete item_at index text lawful h xs 0 rest at l.1 l.2 in
      let read : ℕ → Result (List A × Unread) FieldFault = λ n. rising_at item_at index n 0 (record { left = flat_map text xs ++ rest; at = at }) in
      (to, ap read (sym l.0) ∙ c);
}
