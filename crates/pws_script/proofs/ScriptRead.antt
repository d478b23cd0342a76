-- A script that is read is spelled by its text.
use Rattle.std.proofs.Common.{◌≡◌, ℕ, suc, ◌+◌, ◌≤◌, ◌==◌, Bool, true, false, nat_lt, if◌then◌else◌, List, [], ◌∷◌, ◌++◌, length, Result, Ok, Err, refl, sym, ◌∙◌, ap, subst, arith, append_assoc, All}
use Rattle.std.specs.List.{join_with_byte, slice_split, flat_map, list_all}
use Rattle.std.proofs.lemmas.Bool.Decides.{nat_tests}
use Rattle.std.proofs.lemmas.List.Elements.{All-cons, All-nil}
use Rattle.std.proofs.lemmas.List.Splits.{join_with_byte-slice_split}
use Rattle.pws_script.specs.Texts.{is_line}
use Rattle.pws_script.specs.Spelling.{IsLawful, IsScript, script_text}
use Rattle.pws_script.specs.Reading.{◌>>=◌}
use Rattle.pws_script.specs.Steps.{line_at, at_line, each_line, script_of_lines, script_of}
use Rattle.pws_script.specs.Lines.{TextLine, lines_from, lines_of}
use Rattle.pws_script.specs.declared.faults.ScriptFault.{ScriptFault}
use Rattle.pws_script.specs.declared.faults.ScriptFault.TheVariants as fault
use Rattle.pws_script.specs.declared.faults.ScriptError.{ScriptError}
use Rattle.pws_script.specs.declared.instructions.Instruction.{Instruction}
use Rattle.pws_script.proofs.PieceLemmas.{both, pieces_lack}
use Rattle.pws_script.proofs.OperandsRead.{chained}
use Rattle.pws_script.proofs.LineRead.{line_is}
use Rattle.pws_script.proofs.TextRead.{empty_is}

-- each line and a line feed
abbrev pub text_of : List TextLine → List ℕ
text_of lines = flat_map (λ l. l.bytes ++ 10 ∷ []) lines

abbrev pub are_ended : List TextLine → Bool
are_ended lines = list_all (λ l. l.ended) lines

abbrev pub are_lines : List TextLine → Bool
are_lines lines = list_all (λ l. is_line l.bytes) lines

-- what is known of instructions that are read from lines, in a script of so many
pub record AreLinesRead (count : ℕ) (lines : List TextLine) (instructions : List Instruction) : Type 0 where
  pub ended : are_ended lines ≡ true
  pub spelled : script_text instructions ≡ text_of lines
  pub lawful : All (IsLawful count) instructions
  pub many : length instructions ≡ length lines

at_line_ok : {A : Type 0} (number : ℕ) (r : Result A ScriptFault) (x : A) → at_line number r ≡ Ok x → r ≡ Ok x
at_line_ok number (Ok y) x h = cc
at_line_ok number (Err kind) x h = absurd (cc)

lines_are : (count number : ℕ) (lines : List TextLine) (instructions : List Instruction) → are_lines lines ≡ true → each_line count number lines ≡ Ok instructions → AreLinesRead count lines instructions
unfolding script_text
lines_are count number [] instructions l h =
    let same : [] ≡ instructions = cc in
    subst (AreLinesRead count []) same (record { ended = refl; spelled = refl; lawful = All-nil (IsLawful count); many = refl })
lines_are count number (line ∷ lines) instructions l h =
    let parts = both (is_line line.bytes) (are_lines lines) l in
    let a = chained (at_line number (line_at count line.ended line.bytes)) (λ i. each_line count (number + 1) lines >>= λ more. Ok (i ∷ more)) instructions h in
    let b = chained (each_line count (number + 1) lines) (λ more. Ok (a.value ∷ more)) instructions a.gives in
    let same : a.value ∷ b.value ≡ instructions = cc in
    let first = line_is count line.ended line.bytes a.value parts.0 (at_line_ok number (line_at count line.ended line.bytes) a.value a.is) in
    let rest = lines_are count (number + 1) lines b.value parts.1 b.is in
    subst (AreLinesRead count (line ∷ lines)) same
    (record {
      ended = rw (first.whole, rest.ended) refl;
      spelled = ap (λ xs. (xs ++ 10 ∷ []) ++ script_text b.value) first.spelled ∙ ap (λ xs. (line.bytes ++ 10 ∷ []) ++ xs) rest.spelled;
      lawful = All-cons (IsLawful count) a.value b.value first.lawful rest.lawful;
      many = ap suc rest.many;
    })

-- ---- the lines of a text

last_text : (rest : List ℕ) (b : Bool) → (length rest == 0) ≡ b → are_ended (if b then [] else record { bytes = rest; ended = false } ∷ []) ≡ true → text_of (if b then [] else record { bytes = rest; ended = false } ∷ []) ≡ rest
last_text rest true e h = sym (empty_is rest e)
last_text rest false e h = absurd (cc)

text_back : (pieces : List (List ℕ)) → are_ended (lines_from pieces) ≡ true → text_of (lines_from pieces) ≡ join_with_byte 10 pieces
text_back [] h = refl
text_back (rest ∷ []) h = last_text rest (length rest == 0) refl h
text_back (bytes ∷ more ∷ pieces) h =
    append_assoc bytes (10 ∷ []) (text_of (lines_from (more ∷ pieces))) ∙ ap (λ xs. bytes ++ (10 ∷ xs)) (text_back (more ∷ pieces) h)

last_plain : (rest : List ℕ) (b : Bool) → is_line rest ≡ true → are_lines (if b then [] else record { bytes = rest; ended = false } ∷ []) ≡ true
last_plain rest true h = refl
last_plain rest false h = rw h refl

pieces_plain : (pieces : List (List ℕ)) → list_all is_line pieces ≡ true → are_lines (lines_from pieces) ≡ true
pieces_plain [] h = refl
pieces_plain (rest ∷ []) h = last_plain rest (length rest == 0) (both (is_line rest) true h).0
pieces_plain (bytes ∷ more ∷ pieces) h =
    let parts = both (is_line bytes) (list_all is_line (more ∷ pieces)) h in
    rw parts.0 (pieces_plain (more ∷ pieces) parts.1)

pub lines_back : (text : List ℕ) → are_ended (lines_of text) ≡ true → text_of (lines_of text) ≡ text
unfolding lines_of
lines_back text h = text_back (slice_split (λ b. b == 10) text) h ∙ join_with_byte-slice_split 10 text

lines_plain : (text : List ℕ) → are_lines (lines_of text) ≡ true
unfolding lines_of
lines_plain text = pieces_plain (slice_split (λ b. b == 10) text) (pieces_lack text)

-- ---- a script

-- what is known of a script that is read
pub record IsScriptRead (text : List ℕ) (instructions : List Instruction) : Type 0 where
  pub lawful : IsScript instructions
  pub spelled : script_text instructions ≡ text

counted : (long none : Bool) (lines : List TextLine) (r : Result (List Instruction) ScriptError) (e f : ScriptError) (x : List Instruction) → (if long then Err e else if none then Err f else r) ≡ Ok x → (long ≡ false) × (none ≡ false) × (r ≡ Ok x)
counted true none lines r e f x h = absurd (cc)
counted false true lines r e f x h = absurd (cc)
counted false false lines r e f x h = (refl, refl, h)

pub script_is : (text : List ℕ) (instructions : List Instruction) → script_of text ≡ Ok instructions → IsScriptRead text instructions
unfolding script_of_lines
script_is text instructions h =
    let lines = lines_of text in
    let c = counted (nat_lt 1000 (length lines)) (length lines == 0) lines (each_line (length lines) 1 lines) (record { line = 1001; kind = fault.Long }) (record { line = 1; kind = fault.Count }) instructions h in
    let read = lines_are (length lines) 1 lines instructions (lines_plain text) c.2 in
    let few : length (lines_of text) ≤ 1000 = grind (arith, nat_tests, c.0) in
    let some : 1 ≤ length (lines_of text) = grind (arith, nat_tests, c.1) in
    let many : length instructions ≡ length (lines_of text) = read.many in
    record {
      lawful = record { some = omega (arith, many, some); few = omega (arith, many, few); lawful = subst (λ n. All (IsLawful n) instructions) (sym many) read.lawful };
      spelled = read.spelled ∙ lines_back text read.ended;
    }
