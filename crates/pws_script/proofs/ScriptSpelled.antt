-- The text of a lawful script is read as this script.
use Rattle.std.proofs.Common.{◌≡◌, ℕ, zero, suc, ◌+◌, ◌<◌, ◌≤◌, ◌^◌, ◌==◌, not, Bool, true, false, nat_lt, List, [], ◌∷◌, ◌++◌, length, map, get_or, Option, Some, None, Ok, refl, ◌∙◌, ap, arith, decimal, All, codes, append-nil, append_assoc, lit<}
use Rattle.std.specs.List.{flat_map, slice_split, onto_first, join_with_byte}
use Rattle.std.specs.Str.{IsUtf8, is_utf8}
use Rattle.std.proofs.lemmas.Bool.Decides.{nat_tests}
use Rattle.std.proofs.lemmas.List.Elements.{All-cons, All-nil}
use Rattle.std.proofs.lemmas.List.{length-map}
use Rattle.std.proofs.lemmas.List.Splits.{slice_split_at, length-slice_split, join_with_byte-slice_split}
use Rattle.std.proofs.lemmas.Fmt.{first_decimal, decimal_digit}
use Rattle.std.proofs.lemmas.Str.{is_utf8-from_IsUtf8, IsUtf8-from_is_utf8, IsUtf8-append}
use Rattle.pws_script.specs.Texts.{is_line, is_text}
use Rattle.pws_script.specs.Operations.{name_of}
use Rattle.pws_script.specs.Spelling.{register_text, escape, quoted, operation_of, operands_of, spaced, spelling, IsLawful, IsScript, script_text}
use Rattle.pws_script.specs.Reading.{words_of, text_set_in}
use Rattle.pws_script.specs.Steps.{text_set_at, words_at, words_or_text_at, line_at, each_line, script_of_lines, script_of}
use Rattle.pws_script.specs.Lines.{TextLine, lines_from, lines_of}
use Rattle.pws_script.specs.declared.operations.Operation.TheVariants as operation
use Rattle.pws_script.specs.declared.instructions.Literal.TheVariants as literal
use Rattle.pws_script.specs.declared.instructions.Instruction.{Instruction}
use Rattle.pws_script.specs.declared.instructions.Instruction.TheVariants as line
use Rattle.pws_script.proofs.LineLemmas.{lines_more}
use Rattle.pws_script.proofs.PieceLemmas.{both}
use Rattle.pws_script.proofs.OperandsSpelled.{named_read, register_read, has_words, instruction_read, head_of, tail_of}
use Rattle.pws_script.proofs.TextRead.{not_true}
use Rattle.pws_script.proofs.TextSpelled.{ascii_utf8, line_append, text_read, quoted_plain, quoted_utf8}
use Rattle.pws_script.proofs.LineSpelled.{operands_plain, name_of_plain, name_utf8, split_spaced, spaced_utf8, plain_line, spaced_line, register_plain, plain_lacks}

-- ---- an instruction that is no `set` with a text

digit_no_quote : (n : ℕ) → n < 2 ^ 64 → (get_or (decimal n) 0 0 == 34) ≡ false
digit_no_quote zero h = rw (decimal_digit 0 (lit< tt)) refl
digit_no_quote (suc n) h =
    let above = first_decimal (suc n) (omega arith) h in
    grind (arith, nat_tests, above)

no_text_set : (lines : ℕ) (i : Instruction) → has_words i ≡ true → IsLawful lines i → text_set_in (name_of (operation_of i) ∷ operands_of i) ≡ None
no_text_set lines (line.Set target (literal.Text text)) w h = absurd (cc)
no_text_set lines (line.Set target (literal.Number n)) w h = rw (digit_no_quote n h.1) refl
no_text_set lines (line.Add target left right) w h = refl
no_text_set lines (line.Sub target left right) w h = refl
no_text_set lines (line.Less target left right) w h = refl
no_text_set lines (line.Same target left right) w h = refl
no_text_set lines (line.Jump to test) w h = refl
no_text_set lines (line.Join target left right) w h = refl
no_text_set lines (line.Field target message name) w h = refl
no_text_set lines (line.Receive request message) w h = refl
no_text_set lines (line.Call target group text timeout) w h = refl
no_text_set lines (line.Await message call) w h = refl
no_text_set lines (line.AwaitAny call message calls) w h = refl
no_text_set lines (line.Next source message) w h = refl
no_text_set lines (line.Reply request text) w h = refl
no_text_set lines (line.Clock target) w h = refl
no_text_set lines line.Seed w h = refl
no_text_set lines (line.Draw target modulus) w h = refl
no_text_set lines line.Stop w h = refl

words_read : (lines : ℕ) (i : Instruction) → lines ≤ 1000 → has_words i ≡ true → IsLawful lines i → words_at lines true (name_of (operation_of i) ∷ operands_of i) ≡ Ok i
unfolding words_at
words_read lines i m w h = rw (named_read (operation_of i)) (instruction_read lines i m w h)

utf8_line : (lines : ℕ) (bytes : List ℕ) (words : List (List ℕ)) (o : Option (List ℕ × List ℕ)) → IsUtf8 bytes → words_of bytes ≡ words → text_set_in words ≡ o → line_at lines true bytes ≡ words_or_text_at lines true words o
unfolding line_at
utf8_line lines bytes words o u w t = rw (is_utf8-from_IsUtf8 bytes u, w, t) refl

plain_line_read : (lines : ℕ) (i : Instruction) → lines ≤ 1000 → has_words i ≡ true → IsLawful lines i → line_at lines true (spelling i) ≡ Ok i
unfolding spelling
plain_line_read lines i m w h =
    let operands = operands_plain lines i m w h in
    let name = name_of_plain (operation_of i) in
    let utf8 : IsUtf8 (name_of (operation_of i) ++ spaced (operands_of i)) = IsUtf8-append (name_of (operation_of i)) (spaced (operands_of i)) (name_utf8 (operation_of i)) (spaced_utf8 (operands_of i) operands) in
    utf8_line lines (name_of (operation_of i) ++ spaced (operands_of i)) (name_of (operation_of i) ∷ operands_of i) None utf8 (split_spaced (name_of (operation_of i)) (operands_of i) name operands) (no_text_set lines i w h) ∙ words_read lines i m w h

plain_line_plain : (lines : ℕ) (i : Instruction) → lines ≤ 1000 → has_words i ≡ true → IsLawful lines i → is_line (spelling i) ≡ true
unfolding spelling
plain_line_plain lines i m w h = line_append (name_of (operation_of i)) (spaced (operands_of i)) (plain_line (name_of (operation_of i)) (name_of_plain (operation_of i))) (spaced_line (operands_of i) (operands_plain lines i m w h))

-- ---- a `set` with a text

abbrev set_line : ℕ → List ℕ → List ℕ
set_line target text = codes "set" ++ (32 ∷ (register_text target ++ (32 ∷ quoted text)))

set_spelled : (target : ℕ) (text : List ℕ) → spelling (line.Set target (literal.Text text)) ≡ set_line target text
unfolding spelling
set_spelled target text = ap (λ xs. codes "set" ++ (32 ∷ (register_text target ++ (32 ∷ xs)))) (append-nil (quoted text))

set_words : (target : ℕ) (text : List ℕ) → target < 32 → words_of (set_line target text) ≡ codes "set" ∷ register_text target ∷ words_of (quoted text)
set_words target text h =
    slice_split_at (λ b. b == 32) (codes "set") 32 (register_text target ++ (32 ∷ quoted text)) (plain_lacks (codes "set") (name_of_plain operation.Set)) refl ∙ ap (λ ws. codes "set" ∷ ws) (slice_split_at (λ b. b == 32) (register_text target) 32 (quoted text) (plain_lacks (register_text target) (register_plain target h)) refl)

set_found : (word : List ℕ) (pieces : List (List ℕ)) → text_set_in (codes "set" ∷ word ∷ onto_first 34 pieces) ≡ Some (word, join_with_byte 32 (onto_first 34 pieces))
set_found word [] = refl
set_found word (piece ∷ pieces) = refl

quoted_found : (word text : List ℕ) → text_set_in (codes "set" ∷ word ∷ words_of (quoted text)) ≡ Some (word, quoted text)
unfolding quoted
quoted_found word text =
    set_found word (words_of (flat_map escape text ++ 34 ∷ [])) ∙ ap (λ q. Some (word, q)) (join_with_byte-slice_split 32 (34 ∷ (flat_map escape text ++ 34 ∷ [])))

set_utf8 : (target : ℕ) (text : List ℕ) → target < 32 → is_text text ≡ true → IsUtf8 (set_line target text)
set_utf8 target text h t =
    let register = IsUtf8-from_is_utf8 (register_text target) (both _ (is_utf8 (register_text target)) (register_plain target h)).1 in
    IsUtf8-append (codes "set") (32 ∷ (register_text target ++ (32 ∷ quoted text))) (name_utf8 operation.Set) (IsUtf8-append (32 ∷ []) (register_text target ++ (32 ∷ quoted text)) (ascii_utf8 (32 ∷ []) refl) (IsUtf8-append (register_text target) (32 ∷ quoted text) register (IsUtf8-append (32 ∷ []) (quoted text) (ascii_utf8 (32 ∷ []) refl) (quoted_utf8 text t))))

set_read : (target : ℕ) (text : List ℕ) → target < 32 → is_text text ≡ true → text_set_at true (register_text target) (quoted text) ≡ Ok (line.Set target (literal.Text text))
unfolding text_set_at
set_read target text h t = rw (text_read text t, register_read target h) refl

text_line_read : (lines target : ℕ) (text : List ℕ) → target < 32 → is_text text ≡ true → line_at lines true (spelling (line.Set target (literal.Text text))) ≡ Ok (line.Set target (literal.Text text))
text_line_read lines target text h t =
    ap (line_at lines true) (set_spelled target text) ∙ (utf8_line lines (set_line target text) (codes "set" ∷ register_text target ∷ words_of (quoted text)) (Some (register_text target, quoted text)) (set_utf8 target text h t) (set_words target text h) (quoted_found (register_text target) text) ∙ set_read target text h t)

text_line_plain : (target : ℕ) (text : List ℕ) → target < 32 → is_line (spelling (line.Set target (literal.Text text))) ≡ true
text_line_plain target text h =
    ap is_line (set_spelled target text) ∙ line_append (codes "set") (32 ∷ (register_text target ++ (32 ∷ quoted text))) refl (line_append (register_text target) (32 ∷ quoted text) (plain_line (register_text target) (register_plain target h)) (quoted_plain text))

-- ---- any instruction

pub line_read : (lines : ℕ) (i : Instruction) (b : Bool) → lines ≤ 1000 → has_words i ≡ b → IsLawful lines i → line_at lines true (spelling i) ≡ Ok i
line_read lines i true m w h = plain_line_read lines i m w h
line_read lines (line.Set target (literal.Text text)) false m w h = text_line_read lines target text h.0 h.1
line_read lines i false m w h = absurd (cc)

line_plain : (lines : ℕ) (i : Instruction) (b : Bool) → lines ≤ 1000 → has_words i ≡ b → IsLawful lines i → is_line (spelling i) ≡ true
line_plain lines i true m w h = plain_line_plain lines i m w h
line_plain lines (line.Set target (literal.Text text)) false m w h = text_line_plain target text h.0
line_plain lines i false m w h = absurd (cc)

-- ---- the lines of a script

abbrev line_of : Instruction → TextLine
line_of i = record { bytes = spelling i; ended = true }

lacks_feed : (bytes : List ℕ) → is_line bytes ≡ true → All (λ b. (b == 10) ≡ false) bytes
lacks_feed [] h = All-nil (λ b. (b == 10) ≡ false)
lacks_feed (b ∷ bs) h =
    let parts = both (not (b == 10)) (is_line bs) h in
    All-cons (λ b. (b == 10) ≡ false) b bs (not_true (b == 10) parts.0) (lacks_feed bs parts.1)

script_lines : (lines : ℕ) (instructions : List Instruction) → lines ≤ 1000 → All (IsLawful lines) instructions → lines_of (script_text instructions) ≡ map line_of instructions
unfolding lines_of script_text
script_lines lines [] m h = refl
script_lines lines (i ∷ is) m h =
    let plain = lacks_feed (spelling i) (line_plain lines i (has_words i) m refl (head_of (IsLawful lines) i is h)) in
    let cut = ap (slice_split (λ b. b == 10)) (append_assoc (spelling i) (10 ∷ []) (script_text is)) ∙ slice_split_at (λ b. b == 10) (spelling i) 10 (script_text is) plain refl in
    let pieces = slice_split (λ b. b == 10) (script_text is) in
    let some : 0 < length pieces = omega (arith, length-slice_split (λ b. b == 10) (script_text is)) in
    ap lines_from cut ∙ (lines_more (spelling i) pieces some ∙ ap (λ ls. line_of i ∷ ls) (script_lines lines is m (tail_of (IsLawful lines) i is h)))

each_read : (lines number : ℕ) (instructions : List Instruction) → lines ≤ 1000 → All (IsLawful lines) instructions → each_line lines number (map line_of instructions) ≡ Ok instructions
each_read lines number [] m h = refl
each_read lines number (i ∷ is) m h =
    rw (line_read lines i (has_words i) m refl (head_of (IsLawful lines) i is h), each_read lines (number + 1) is m (tail_of (IsLawful lines) i is h)) refl

-- reading the text of a script gives the script
pub script_read : (instructions : List Instruction) → IsScript instructions → script_of (script_text instructions) ≡ Ok instructions
unfolding script_of_lines
script_read instructions h =
    let count = length-map instructions line_of in
    let few : nat_lt 1000 (length (map line_of instructions)) ≡ false = grind (arith, nat_tests, count, h.few) in
    let some : (length (map line_of instructions) == 0) ≡ false = grind (arith, nat_tests, count, h.some) in
    ap script_of_lines (script_lines (length instructions) instructions h.few h.lawful) ∙ rw (few, some, count) (each_read (length instructions) 1 instructions h.few h.lawful)
