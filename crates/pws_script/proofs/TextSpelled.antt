-- A lawful text that is quoted is read as itself.
use Rattle.std.proofs.Common.{◌≡◌, ℕ, zero, suc, ◌<◌, ◌≤◌, ◌==◌, ◌&&◌, not, Bool, true, false, if◌then◌else◌, List, [], ◌∷◌, ◌++◌, length, get_or, Ok, refl, sym, ◌∙◌, ap, subst, arith, append_assoc, codes, lit<, nat_lt, nat_le, append-nil}
use lib.Utf8.{encode, encodes, scalar, scalars}
use Rattle.std.proofs.lemmas.List.Concat.{flat_map-append}
use Rattle.std.proofs.lemmas.Str.{IsUtf8-from_ascii, IsUtf8-from_is_utf8, IsUtf8-encode, IsUtf8-nil, IsUtf8-append, encode_ascii, inside_one}
use Rattle.std.specs.List.{flat_map, list_all}
use Rattle.std.specs.Str.{IsUtf8, is_utf8, IsAscii, chars}
use Rattle.std.proofs.lemmas.Bool.Decides.{nat_tests}
use Rattle.pws_script.specs.Texts.{is_text, is_line, is_character}
use Rattle.pws_script.specs.Spelling.{escape, quoted}
use Rattle.pws_script.specs.Reading.{unescaped, bytes_after, text_at}
use Rattle.pws_script.proofs.PieceLemmas.{both}

-- a byte that stands for itself
plain_read : (c : ℕ) (rest bs : List ℕ) → (c == 34) ≡ false → (c == 92) ≡ false → bytes_after false rest ≡ Ok bs → bytes_after false (c ∷ rest) ≡ Ok (c ∷ bs)
plain_read c rest bs q s h = rw (q, s, h) refl

-- a byte that is escaped by itself
itself_read : (c : ℕ) (rest bs : List ℕ) → unescaped c ≡ Ok c → bytes_after false rest ≡ Ok bs → bytes_after false (92 ∷ c ∷ rest) ≡ Ok (c ∷ bs)
itself_read c rest bs u h = rw (u, h) refl

feed_read : (rest bs : List ℕ) → bytes_after false rest ≡ Ok bs → bytes_after false (92 ∷ 110 ∷ rest) ≡ Ok (10 ∷ bs)
feed_read rest bs h = rw h refl

byte_read : (c : ℕ) (rest bs : List ℕ) (q s n : Bool) → (c == 34) ≡ q → (c == 92) ≡ s → (c == 10) ≡ n → bytes_after false rest ≡ Ok bs → bytes_after false ((if q then codes "\\\"" else if s then codes "\\\\" else if n then codes "\\n" else c ∷ []) ++ rest) ≡ Ok (c ∷ bs)
byte_read c rest bs true s n e f g h =
    let same : 34 ≡ c = grind (arith, nat_tests, e) in
    itself_read 34 rest bs refl h ∙ ap (λ x. Ok (x ∷ bs)) same
byte_read c rest bs false true n e f g h =
    let same : 92 ≡ c = grind (arith, nat_tests, f) in
    itself_read 92 rest bs refl h ∙ ap (λ x. Ok (x ∷ bs)) same
byte_read c rest bs false false true e f g h =
    let same : 10 ≡ c = grind (arith, nat_tests, g) in
    feed_read rest bs h ∙ ap (λ x. Ok (x ∷ bs)) same
byte_read c rest bs false false false e f g h = plain_read c rest bs e f h

bytes_read : (text : List ℕ) → bytes_after false (flat_map escape text ++ 34 ∷ []) ≡ Ok text
bytes_read [] = refl
bytes_read (c ∷ cs) =
    ap (bytes_after false) (append_assoc (escape c) (flat_map escape cs) (34 ∷ [])) ∙ byte_read c (flat_map escape cs ++ 34 ∷ []) cs (c == 34) (c == 92) (c == 10) refl refl refl (bytes_read cs)

pub text_read : (text : List ℕ) → is_text text ≡ true → text_at (quoted text) ≡ Ok text
unfolding text_at quoted
text_read text h = rw (bytes_read text, h) refl

-- ---- a quoted text holds no line feed

escape_plain : (c : ℕ) (q s n : Bool) → (c == 10) ≡ n → is_line (if q then codes "\\\"" else if s then codes "\\\\" else if n then codes "\\n" else c ∷ []) ≡ true
escape_plain c true s n e = refl
escape_plain c false true n e = refl
escape_plain c false false true e = refl
escape_plain c false false false e = rw e refl

pub line_append : (xs ys : List ℕ) → is_line xs ≡ true → is_line ys ≡ true → is_line (xs ++ ys) ≡ true
line_append [] ys h k = k
line_append (x ∷ xs) ys h k =
    let parts = both (not (x == 10)) (is_line xs) h in
    rw parts.0 (line_append xs ys parts.1 k)

escaped_plain : (text : List ℕ) → is_line (flat_map escape text) ≡ true
escaped_plain [] = refl
escaped_plain (c ∷ cs) = line_append (escape c) (flat_map escape cs) (escape_plain c (c == 34) (c == 92) (c == 10) refl) (escaped_plain cs)

pub quoted_plain : (text : List ℕ) → is_line (quoted text) ≡ true
unfolding quoted
quoted_plain text = line_append (flat_map escape text) (34 ∷ []) (escaped_plain text) refl

-- ---- a quoted text is UTF-8

abbrev pub is_ascii : ℕ → Bool
is_ascii b = nat_lt b 128

ascii_is : (bs : List ℕ) → list_all is_ascii bs ≡ true → IsAscii bs
ascii_is [] h i = lit< tt
ascii_is (x ∷ xs) h zero = grind (arith, nat_tests, (both (is_ascii x) (list_all is_ascii xs) h).0)
ascii_is (x ∷ xs) h (suc i) = ascii_is xs (both (is_ascii x) (list_all is_ascii xs) h).1 i

pub ascii_utf8 : (bs : List ℕ) → list_all is_ascii bs ≡ true → IsUtf8 bs
ascii_utf8 bs h = IsUtf8-from_ascii bs (ascii_is bs h)

escape_ascii : (c : ℕ) (q s n : Bool) → is_ascii c ≡ true → list_all is_ascii (if q then codes "\\\"" else if s then codes "\\\\" else if n then codes "\\n" else c ∷ []) ≡ true
escape_ascii c true s n h = refl
escape_ascii c false true n h = refl
escape_ascii c false false true h = refl
escape_ascii c false false false h = rw h refl

high_kept : (bs : List ℕ) → ((k : ℕ) → k < length bs → 128 ≤ get_or bs k 0) → flat_map escape bs ≡ bs
high_kept [] h = refl
high_kept (x ∷ xs) h =
    let high : 128 ≤ x = h 0 (omega arith) in
    let q : (x == 34) ≡ false = grind (arith, nat_tests, high) in
    let s : (x == 92) ≡ false = grind (arith, nat_tests, high) in
    let n : (x == 10) ≡ false = grind (arith, nat_tests, high) in
    let rest = high_kept xs (λ k l. h (suc k) (omega (arith, l))) in
    rw (q, s, n, rest) refl

at_least : (m n : ℕ) (b : Bool) → nat_lt n m ≡ b → (n < m → ⊥) → m ≤ n
at_least m n true e h = absurd (h (grind (arith, nat_tests, e)))
at_least m n false e h = grind (arith, nat_tests, e)

high_bytes : (c k : ℕ) → 128 ≤ c → k < length (encode c) → 128 ≤ get_or (encode c) k 0
high_bytes c k h l =
    at_least 128 (get_or (encode c) k 0) (nat_lt (get_or (encode c) k 0) 128) refl
    (λ low. let same : c ≡ get_or (encode c) k 0 = inside_one c [] (encode c) k (sym (append-nil (encode c))) l low in omega (arith, same, low, h))

char_utf8 : (c : ℕ) (b : Bool) → nat_lt c 128 ≡ b → scalar c ≡ true → IsUtf8 (flat_map escape (encode c))
char_utf8 c true e s =
    let low : c < 128 = grind (arith, nat_tests, e) in
    subst (λ bs. IsUtf8 (flat_map escape bs)) (sym (encode_ascii c low)) (subst IsUtf8 (sym (append-nil (escape c))) (ascii_utf8 (escape c) (escape_ascii c (c == 34) (c == 92) (c == 10) e)))
char_utf8 c false e s =
    let high : 128 ≤ c = grind (arith, nat_tests, e) in
    subst IsUtf8 (sym (high_kept (encode c) (λ k l. high_bytes c k high l))) (IsUtf8-encode c s)

chars_utf8 : (cs : List ℕ) → scalars cs ≡ true → IsUtf8 (flat_map escape (encodes cs))
chars_utf8 [] h = IsUtf8-nil
chars_utf8 (c ∷ cs) h =
    let parts = both (scalar c) (scalars cs) h in
    subst IsUtf8 (sym (flat_map-append escape (encode c) (encodes cs))) (IsUtf8-append (flat_map escape (encode c)) (flat_map escape (encodes cs)) (char_utf8 c (nat_lt c 128) refl parts.0) (chars_utf8 cs parts.1))

escaped_utf8 : (text : List ℕ) → IsUtf8 text → IsUtf8 (flat_map escape text)
escaped_utf8 text u = subst (λ bs. IsUtf8 (flat_map escape bs)) u.1.1 (chars_utf8 u.0 u.1.0)

text_utf8 : (text : List ℕ) → is_text text ≡ true → is_utf8 text ≡ true
unfolding is_text
text_utf8 text h = (both (is_utf8 text) (list_all is_character (chars text)) (both (is_utf8 text && list_all is_character (chars text)) (nat_le (length text) 4096) h).0).0

pub quoted_utf8 : (text : List ℕ) → is_text text ≡ true → IsUtf8 (quoted text)
unfolding quoted
quoted_utf8 text h =
    IsUtf8-append (34 ∷ []) (flat_map escape text ++ 34 ∷ []) (ascii_utf8 (34 ∷ []) refl) (IsUtf8-append (flat_map escape text) (34 ∷ []) (escaped_utf8 text (IsUtf8-from_is_utf8 text (text_utf8 text h))) (ascii_utf8 (34 ∷ []) refl))
