-- The text of a lawful instruction is read as this instruction.
use Rattle.std.proofs.Common.{◌≡◌, ℕ, ◌<◌, ◌≤◌, ◌^◌, ◌==◌, not, true, false, nat_le, List, [], ◌∷◌, ◌++◌, map, refl, ◌∙◌, ap, arith, decimal, All, append-nil}
use Rattle.std.specs.List.{list_all}
use Rattle.std.specs.Str.{IsUtf8, is_utf8}
use Rattle.std.proofs.lemmas.Bool.Decides.{nat_tests}
use Rattle.std.proofs.lemmas.List.Elements.{All-cons, All-nil}
use Rattle.std.proofs.lemmas.List.Splits.{slice_split_at, slice_split_none}
use Rattle.std.proofs.lemmas.Fmt.{digits_decimal, IsAscii-decimal}
use Rattle.std.proofs.lemmas.Str.{IsUtf8-from_ascii, IsUtf8-from_is_utf8, is_utf8-from_IsUtf8, IsUtf8-nil, IsUtf8-append}
use Rattle.pws_script.specs.Numbers.{is_digit}
use Rattle.pws_script.specs.Texts.{is_line, is_word, is_word_byte, is_name}
use Rattle.pws_script.specs.Operations.{name_of}
use Rattle.pws_script.specs.Spelling.{register_text, operands_of, spaced, two, three, IsRegister, IsLawful}
use Rattle.pws_script.specs.Reading.{words_of}
use Rattle.pws_script.specs.declared.operations.Operation.{Operation}
use Rattle.pws_script.specs.declared.operations.Operation.TheVariants as operation
use Rattle.pws_script.specs.declared.instructions.Literal.TheVariants as literal
use Rattle.pws_script.specs.declared.instructions.Instruction.{Instruction}
use Rattle.pws_script.specs.declared.instructions.Instruction.TheVariants as line
use Rattle.pws_script.proofs.NumberLemmas.{digits_model}
use Rattle.pws_script.proofs.PieceLemmas.{both, both_from}
use Rattle.pws_script.proofs.OperandsRead.{is_plain}
use Rattle.pws_script.proofs.OperandsSpelled.{name_known, has_words, head_of, tail_of}
use Rattle.pws_script.proofs.TextRead.{not_true}
use Rattle.pws_script.proofs.TextSpelled.{is_ascii, ascii_utf8, line_append}

-- ---- words hold no space and no line feed, and are UTF-8

digits_word : (digits : List ℕ) → list_all is_digit digits ≡ true → list_all is_word_byte digits ≡ true
digits_word [] h = refl
digits_word (d ∷ ds) h =
    let parts = both (is_digit d) (list_all is_digit ds) h in
    let low : nat_le 48 d ≡ true = (both (nat_le 48 d) (nat_le d 57) parts.0).0 in
    let space : (d == 32) ≡ false = grind (arith, nat_tests, low) in
    let feed : (d == 10) ≡ false = grind (arith, nat_tests, low) in
    rw (space, feed) (digits_word ds parts.1)

decimal_word : (n : ℕ) → n < 2 ^ 64 → is_word (decimal n) ≡ true
unfolding is_word
decimal_word n h = digits_word (decimal n) (digits_decimal digits_model n h)

decimal_utf8 : (n : ℕ) → n < 2 ^ 64 → IsUtf8 (decimal n)
decimal_utf8 n h = IsUtf8-from_ascii (decimal n) (IsAscii-decimal n h)

decimal_plain : (n : ℕ) → n < 2 ^ 64 → is_plain (decimal n) ≡ true
decimal_plain n h = both_from (is_word (decimal n)) (is_utf8 (decimal n)) (decimal_word n h) (is_utf8-from_IsUtf8 (decimal n) (decimal_utf8 n h))

register_word : (n : ℕ) → is_word (decimal n) ≡ true → is_word (register_text n) ≡ true
unfolding is_word register_text
register_word n h = h

register_utf8 : (n : ℕ) → IsUtf8 (decimal n) → IsUtf8 (register_text n)
unfolding register_text
register_utf8 n u = IsUtf8-append (114 ∷ []) (decimal n) (ascii_utf8 (114 ∷ []) refl) u

pub register_plain : (n : ℕ) → n < 32 → is_plain (register_text n) ≡ true
register_plain n h =
    let small : n < 2 ^ 64 = omega arith in
    both_from (is_word (register_text n)) (is_utf8 (register_text n)) (register_word n (decimal_word n small)) (is_utf8-from_IsUtf8 (register_text n) (register_utf8 n (decimal_utf8 n small)))

name_plain : (name : List ℕ) → is_name name ≡ true → is_plain name ≡ true
name_plain name h = let k = name_known name h in both_from (is_word name) (is_utf8 name) k.word k.utf8

registers_plain : (indices : List ℕ) → All IsRegister indices → list_all is_plain (map register_text indices) ≡ true
registers_plain [] h = refl
registers_plain (x ∷ xs) h =
    both_from (is_plain (register_text x)) (list_all is_plain (map register_text xs)) (register_plain x (head_of IsRegister x xs h)) (registers_plain xs (tail_of IsRegister x xs h))

one_plain : (a : List ℕ) → is_plain a ≡ true → list_all is_plain (a ∷ []) ≡ true
one_plain a h = both_from (is_plain a) true h refl

pub cons_plain : (a : List ℕ) (ws : List (List ℕ)) → is_plain a ≡ true → list_all is_plain ws ≡ true → list_all is_plain (a ∷ ws) ≡ true
cons_plain a ws h k = both_from (is_plain a) (list_all is_plain ws) h k

two_plain : (a b : ℕ) → a < 32 → b < 32 → list_all is_plain (two a b) ≡ true
two_plain a b h k = cons_plain (register_text a) (register_text b ∷ []) (register_plain a h) (one_plain (register_text b) (register_plain b k))

three_plain : (a b c : ℕ) → a < 32 → b < 32 → c < 32 → list_all is_plain (three a b c) ≡ true
three_plain a b c h k l = cons_plain (register_text a) (two b c) (register_plain a h) (two_plain b c k l)

pub operands_plain : (lines : ℕ) (i : Instruction) → lines ≤ 1000 → has_words i ≡ true → IsLawful lines i → list_all is_plain (operands_of i) ≡ true
operands_plain lines (line.Set target (literal.Text text)) m w h = absurd (cc)
operands_plain lines (line.Set target (literal.Number n)) m w h = cons_plain (register_text target) (decimal n ∷ []) (register_plain target h.0) (one_plain (decimal n) (decimal_plain n h.1))
operands_plain lines (line.Add target left right) m w h = three_plain target left right h.0 h.1 h.2
operands_plain lines (line.Sub target left right) m w h = three_plain target left right h.0 h.1 h.2
operands_plain lines (line.Less target left right) m w h = three_plain target left right h.0 h.1 h.2
operands_plain lines (line.Same target left right) m w h = three_plain target left right h.0 h.1 h.2
operands_plain lines (line.Jump to test) m w h = cons_plain (decimal to) (register_text test ∷ []) (decimal_plain to (omega (arith, h.1))) (one_plain (register_text test) (register_plain test h.2))
operands_plain lines (line.Join target left right) m w h = three_plain target left right h.0 h.1 h.2
operands_plain lines (line.Field target message name) m w h = cons_plain (register_text target) (register_text message ∷ name ∷ []) (register_plain target h.0) (cons_plain (register_text message) (name ∷ []) (register_plain message h.1) (one_plain name (name_plain name h.2)))
operands_plain lines (line.Receive request message) m w h = two_plain request message h.0 h.1
operands_plain lines (line.Call target group text timeout) m w h =
    cons_plain (register_text target) (decimal group ∷ register_text text ∷ decimal timeout ∷ []) (register_plain target h.0) (cons_plain (decimal group) (register_text text ∷ decimal timeout ∷ []) (decimal_plain group (omega (arith, h.1))) (cons_plain (register_text text) (decimal timeout ∷ []) (register_plain text h.2) (one_plain (decimal timeout) (decimal_plain timeout (omega (arith, h.3))))))
operands_plain lines (line.Await message call) m w h = two_plain message call h.0 h.1
operands_plain lines (line.AwaitAny call message calls) m w h = cons_plain (register_text call) (register_text message ∷ map register_text calls) (register_plain call h.0) (cons_plain (register_text message) (map register_text calls) (register_plain message h.1) (registers_plain calls h.4))
operands_plain lines (line.Next source message) m w h = two_plain source message h.0 h.1
operands_plain lines (line.Reply request text) m w h = two_plain request text h.0 h.1
operands_plain lines (line.Clock target) m w h = one_plain (register_text target) (register_plain target h)
operands_plain lines line.Seed m w h = refl
operands_plain lines (line.Draw target modulus) m w h = two_plain target modulus h.0 h.1
operands_plain lines line.Stop m w h = refl

name_word : (o : Operation) → is_word (name_of o) ≡ true
unfolding is_word
name_word operation.Set = refl
name_word operation.Add = refl
name_word operation.Sub = refl
name_word operation.Less = refl
name_word operation.Same = refl
name_word operation.Jump = refl
name_word operation.Join = refl
name_word operation.Field = refl
name_word operation.Receive = refl
name_word operation.Call = refl
name_word operation.Await = refl
name_word operation.AwaitAny = refl
name_word operation.Next = refl
name_word operation.Reply = refl
name_word operation.Clock = refl
name_word operation.Seed = refl
name_word operation.Draw = refl
name_word operation.Stop = refl

name_ascii : (o : Operation) → list_all is_ascii (name_of o) ≡ true
name_ascii operation.Set = refl
name_ascii operation.Add = refl
name_ascii operation.Sub = refl
name_ascii operation.Less = refl
name_ascii operation.Same = refl
name_ascii operation.Jump = refl
name_ascii operation.Join = refl
name_ascii operation.Field = refl
name_ascii operation.Receive = refl
name_ascii operation.Call = refl
name_ascii operation.Await = refl
name_ascii operation.AwaitAny = refl
name_ascii operation.Next = refl
name_ascii operation.Reply = refl
name_ascii operation.Clock = refl
name_ascii operation.Seed = refl
name_ascii operation.Draw = refl
name_ascii operation.Stop = refl

pub name_utf8 : (o : Operation) → IsUtf8 (name_of o)
name_utf8 o = ascii_utf8 (name_of o) (name_ascii o)

pub name_of_plain : (o : Operation) → is_plain (name_of o) ≡ true
name_of_plain o = both_from (is_word (name_of o)) (is_utf8 (name_of o)) (name_word o) (is_utf8-from_IsUtf8 (name_of o) (name_utf8 o))

-- ---- words that are spelled are the words of the line

lacks_space : (word : List ℕ) → list_all is_word_byte word ≡ true → All (λ b. (b == 32) ≡ false) word
lacks_space [] h = All-nil (λ b. (b == 32) ≡ false)
lacks_space (b ∷ bs) h =
    let parts = both (is_word_byte b) (list_all is_word_byte bs) h in
    All-cons (λ b. (b == 32) ≡ false) b bs (not_true (b == 32) (both (not (b == 32)) (not (b == 10)) parts.0).0) (lacks_space bs parts.1)

word_lacks : (word : List ℕ) → is_word word ≡ true → All (λ b. (b == 32) ≡ false) word
unfolding is_word
word_lacks word h = lacks_space word h

pub plain_lacks : (word : List ℕ) → is_plain word ≡ true → All (λ b. (b == 32) ≡ false) word
plain_lacks word h = word_lacks word (both (is_word word) (is_utf8 word) h).0

pub split_spaced : (word : List ℕ) (words : List (List ℕ)) → is_plain word ≡ true → list_all is_plain words ≡ true → words_of (word ++ spaced words) ≡ word ∷ words
split_spaced word [] h k = ap words_of (append-nil word) ∙ slice_split_none (λ b. b == 32) word (plain_lacks word h)
split_spaced word (next ∷ words) h k =
    let parts = both (is_plain next) (list_all is_plain words) k in
    slice_split_at (λ b. b == 32) word 32 (next ++ spaced words) (plain_lacks word h) refl ∙ ap (λ ws. word ∷ ws) (split_spaced next words parts.0 parts.1)

pub spaced_utf8 : (words : List (List ℕ)) → list_all is_plain words ≡ true → IsUtf8 (spaced words)
spaced_utf8 [] h = IsUtf8-nil
spaced_utf8 (w ∷ words) h =
    let parts = both (is_plain w) (list_all is_plain words) h in
    let utf8 = IsUtf8-from_is_utf8 w (both (is_word w) (is_utf8 w) parts.0).1 in
    IsUtf8-append (32 ∷ w) (spaced words) (IsUtf8-append (32 ∷ []) w (ascii_utf8 (32 ∷ []) refl) utf8) (spaced_utf8 words parts.1)

word_line : (word : List ℕ) → list_all is_word_byte word ≡ true → is_line word ≡ true
word_line [] h = refl
word_line (b ∷ bs) h =
    let parts = both (is_word_byte b) (list_all is_word_byte bs) h in
    both_from (not (b == 10)) (is_line bs) (both (not (b == 32)) (not (b == 10)) parts.0).1 (word_line bs parts.1)

pub plain_line : (word : List ℕ) → is_plain word ≡ true → is_line word ≡ true
unfolding is_word
plain_line word h = word_line word (both (list_all is_word_byte word) (is_utf8 word) h).0

pub spaced_line : (words : List (List ℕ)) → list_all is_plain words ≡ true → is_line (spaced words) ≡ true
spaced_line [] h = refl
spaced_line (w ∷ words) h =
    let parts = both (is_plain w) (list_all is_plain words) h in
    line_append w (spaced words) (plain_line w parts.0) (spaced_line words parts.1)
