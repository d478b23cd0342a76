-- Texts of printable ASCII without spaces have only XML characters, and the names of groups, calls and replies are such texts.
use Rattle.std.proofs.Common.{◌≡◌, ℕ, zero, suc, ◌+◌, ◌/◌, ◌%◌, ◌<◌, ◌≤◌, ◌==◌, Bool, true, false, cond, ◌&&◌, nat_le, nat_lt, List, [], ◌∷◌, ◌++◌, refl, ap, ◌∙◌, arith, IsTrue}
use Rattle.std.specs.List.{list_all}
use Rattle.std.specs.Fmt.{decimal, digits, digits_onto, digit_glyph}
use Rattle.std.specs.Str.{IsAscii, is_utf8, chars}
use Rattle.std.proofs.lemmas.Bool.{and_parts, and_from, or_left, or_right, leb-true, le-leb}
use Rattle.std.proofs.lemmas.List.Folds.{list_all-append}
use Rattle.std.proofs.lemmas.Str.{chars-IsAscii, IsUtf8-from_ascii, is_utf8-from_IsUtf8}
use Rattle.pws_tree.specs.Characters.{xml_ranges, is_xml_char, is_xml_text}
use Rattle.pws_addr.specs.Identifiers.{group_word, call_word, reply_word, group_address, three_numbers, call_id, reply_id}

abbrev pub is_printable : ℕ → Bool
is_printable c = nat_le 33 c && nat_le c 126

abbrev pub are_printable : List ℕ → Bool
are_printable text = list_all is_printable text

printable_char : (c : ℕ) → is_printable c ≡ true → is_xml_char c ≡ true
unfolding xml_ranges
printable_char c h =
    let parts = and_parts (nat_le 33 c) (nat_le c 126) h in
    let low : 33 ≤ c = leb-true 33 c parts.0 in
    let high : c ≤ 126 = leb-true c 126 parts.1 in
    or_right (nat_le 9 c && nat_le c 10) _ (or_right (nat_le 13 c && nat_le c 13) _ (or_left (nat_le 32 c && nat_le c 55295) _ (and_from (nat_le 32 c) (nat_le c 55295) (le-leb 32 c (omega arith)) (le-leb c 55295 (omega arith)))))

printable_chars : (text : List ℕ) → are_printable text ≡ true → list_all is_xml_char text ≡ true
printable_chars [] h = refl
printable_chars (c ∷ cs) h =
    let parts = and_parts (is_printable c) (are_printable cs) h in
    and_from (is_xml_char c) (list_all is_xml_char cs) (printable_char c parts.0) (printable_chars cs parts.1)

printable_ascii : (text : List ℕ) → are_printable text ≡ true → IsAscii text
printable_ascii [] h i = omega arith
printable_ascii (c ∷ cs) h zero =
    let parts = and_parts (is_printable c) (are_printable cs) h in
    let high : c ≤ 126 = leb-true c 126 (and_parts (nat_le 33 c) (nat_le c 126) parts.0).1 in
    omega arith
printable_ascii (c ∷ cs) h (suc i) = printable_ascii cs (and_parts (is_printable c) (are_printable cs) h).1 i

pub printable_xml : (text : List ℕ) → are_printable text ≡ true → IsTrue (is_xml_text text)
unfolding is_xml_text
printable_xml text h =
    let ascii : IsAscii text = printable_ascii text h in
    and_from (is_utf8 text) (list_all is_xml_char (chars text)) (is_utf8-from_IsUtf8 text (IsUtf8-from_ascii text ascii))
    (ap (list_all is_xml_char) (chars-IsAscii text ascii) ∙ printable_chars text h)

glyph_either : (b : Bool) (d : ℕ) → d < 10 → is_printable (cond b (48 + d) (87 + d)) ≡ true
glyph_either true d low = and_from (nat_le 33 (48 + d)) (nat_le (48 + d) 126) (le-leb 33 (48 + d) (omega arith)) (le-leb (48 + d) 126 (omega arith))
glyph_either false d low = and_from (nat_le 33 (87 + d)) (nat_le (87 + d) 126) (le-leb 33 (87 + d) (omega arith)) (le-leb (87 + d) 126 (omega arith))

either_printable : (b : Bool) (xs ys : List ℕ) → are_printable xs ≡ true → are_printable ys ≡ true → are_printable (cond b xs ys) ≡ true
either_printable true xs ys hx hy = hx
either_printable false xs ys hx hy = hy

onto_printable : (k n : ℕ) (acc : List ℕ) → are_printable acc ≡ true → are_printable (digits_onto k 10 false n acc) ≡ true
onto_printable zero n acc h = h
onto_printable (suc k) n acc h =
    let more : are_printable (digit_glyph false (n % 10) ∷ acc) ≡ true =
    and_from (is_printable (digit_glyph false (n % 10))) (are_printable acc) (glyph_either (nat_lt (n % 10) 10) (n % 10) (omega arith)) h in
    either_printable (n / 10 == 0) (digit_glyph false (n % 10) ∷ acc) (digits_onto k 10 false (n / 10) (digit_glyph false (n % 10) ∷ acc)) more (onto_printable k (n / 10) (digit_glyph false (n % 10) ∷ acc) more)

decimal_printable : (n : ℕ) → are_printable (decimal n) ≡ true
unfolding digits
decimal_printable n = onto_printable 64 n [] refl

pub join_printable : (xs ys : List ℕ) → are_printable xs ≡ true → are_printable ys ≡ true → are_printable (xs ++ ys) ≡ true
join_printable xs ys hx hy = list_all-append is_printable xs ys ∙ and_from (are_printable xs) (are_printable ys) hx hy

colon_printable : (ys : List ℕ) → are_printable ys ≡ true → are_printable (58 ∷ ys) ≡ true
colon_printable ys h = h

three_printable : (a b c : ℕ) → are_printable (three_numbers a b c) ≡ true
three_printable a b c =
    join_printable (decimal a) (58 ∷ (decimal b ++ 58 ∷ decimal c)) (decimal_printable a)
    (colon_printable (decimal b ++ 58 ∷ decimal c) (join_printable (decimal b) (58 ∷ decimal c) (decimal_printable b) (colon_printable (decimal c) (decimal_printable c))))

pub group_printable : (g : ℕ) → are_printable (group_address g) ≡ true
unfolding group_word
group_printable g = join_printable group_word (decimal g) refl (decimal_printable g)

pub call_printable : (a b c : ℕ) → are_printable (call_id a b c) ≡ true
unfolding call_word
call_printable a b c = join_printable call_word (three_numbers a b c) refl (three_printable a b c)

pub reply_printable : (a b c : ℕ) → are_printable (reply_id a b c) ≡ true
unfolding reply_word
reply_printable a b c = join_printable reply_word (three_numbers a b c) refl (three_printable a b c)

pub group_xml : (g : ℕ) → IsTrue (is_xml_text (group_address g))
group_xml g = printable_xml (group_address g) (group_printable g)

pub call_xml : (a b c : ℕ) → IsTrue (is_xml_text (call_id a b c))
call_xml a b c = printable_xml (call_id a b c) (call_printable a b c)

pub reply_xml : (a b c : ℕ) → IsTrue (is_xml_text (reply_id a b c))
reply_xml a b c = printable_xml (reply_id a b c) (reply_printable a b c)
