-- The faults by their tests are those that reading answers.
use Rattle.std.proofs.Common.{◌≡◌, ℕ, ◌+◌, ◌<◌, ◌^◌, ◌==◌, ◌&&◌, ◌||◌, not, Bool, true, false, nat_lt, nat_le, is_some, is_ok, if◌then◌else◌, List, [], ◌∷◌, length, drop, Option, Some, None, Result, Ok, Err, refl, sym, ◌∙◌, ap, arith}
use Rattle.std.specs.List.{list_all}
use Rattle.std.specs.Str.{is_utf8}
use Rattle.std.proofs.lemmas.Bool.Decides.{nat_tests}
use Rattle.pws_script.specs.Texts.{is_text}
use Rattle.pws_script.specs.Numbers.{number_of, below, register_of}
use Rattle.pws_script.proofs.NumberLemmas.{decimal-number_of}
use Rattle.pws_script.specs.Operations.{operation_named}
use Rattle.pws_script.specs.Reading.{◌>>=◌, unescaped, bytes_after, text_at, text_set_in, words_of}
use Rattle.pws_script.specs.Steps.{or_fault, registers_at, one_at, two_at, three_at, set_at, jump_at, field_at, call_at, awaitany_at, none_at, of_one, of_two, of_three, instruction_at, text_set_at, words_at, words_or_text_at, line_at, at_line, each_line, script_of_lines, script_of}
use Rattle.pws_script.specs.Lines.{TextLine, lines_of}
use Rattle.pws_script.specs.Refusals.{register, number_below, line_number, name, exactly, shape_of, two_registers, three_registers, is_line_number, operand_fault, operation_fault, words_fault, is_text_bad, rest_fault, line_fault, or_later, first_fault, refusal_in, refusal_of}
use Rattle.pws_script.specs.declared.faults.ScriptFault.{ScriptFault}
use Rattle.pws_script.specs.declared.faults.ScriptFault.TheVariants as fault
use Rattle.pws_script.specs.declared.faults.ScriptError.{ScriptError}
use Rattle.pws_script.specs.declared.operations.Operation.{Operation}
use Rattle.pws_script.specs.declared.operations.Operation.TheVariants as operation
use Rattle.pws_script.specs.declared.instructions.Literal.TheVariants as literal
use Rattle.pws_script.specs.declared.instructions.Instruction.{Instruction}
use Rattle.pws_script.specs.declared.instructions.Instruction.TheVariants as line

-- what a result is refused with
abbrev pub err_of : {A E : Type 0} → Result A E → Option E
err_of (Ok x) = None
err_of (Err e) = Some e

too_many : (word : List ℕ) (words : List (List ℕ)) → nat_le (length (word ∷ words)) 0 ≡ false
too_many word words = grind (arith, nat_tests)

one_err : (make : ℕ → Instruction) (a : Option ℕ) → err_of (or_fault fault.Register a >>= λ x. Ok (make x)) ≡ (if not (is_some a && true) then Some fault.Register else None)
one_err make None = refl
one_err make (Some x) = refl

of_one_err : (make : ℕ → Instruction) (lines : ℕ) (words : List (List ℕ)) → err_of (of_one make words) ≡ operand_fault lines (exactly (register ∷ [])) words
unfolding one_at
of_one_err make lines [] = refl
of_one_err make lines (a ∷ []) = one_err make (register_of a)
of_one_err make lines (a ∷ b ∷ more) = rw (too_many b more) refl

abbrev pair_of : Option ℕ → Option ℕ → Result (ℕ × ℕ) ScriptFault
pair_of a b = or_fault fault.Register a >>= λ x. or_fault fault.Register b >>= λ y. Ok (x, y)

two_err : (make : ℕ → ℕ → Instruction) (a b : Option ℕ) → err_of (pair_of a b >>= λ r. Ok (make r.0 r.1)) ≡ (if not (is_some a && (is_some b && true)) then Some fault.Register else None)
two_err make None b = refl
two_err make (Some x) None = refl
two_err make (Some x) (Some y) = refl

of_two_err : (make : ℕ → ℕ → Instruction) (lines : ℕ) (words : List (List ℕ)) → err_of (of_two make words) ≡ operand_fault lines two_registers words
unfolding two_at
of_two_err make lines [] = refl
of_two_err make lines (a ∷ []) = refl
of_two_err make lines (a ∷ b ∷ []) = two_err make (register_of a) (register_of b)
of_two_err make lines (a ∷ b ∷ c ∷ more) = rw (too_many c more) refl

abbrev triple_of : Option ℕ → Option ℕ → Option ℕ → Result (ℕ × ℕ × ℕ) ScriptFault
triple_of a b c = or_fault fault.Register a >>= λ x. or_fault fault.Register b >>= λ y. or_fault fault.Register c >>= λ z. Ok (x, y, z)

three_err : (make : ℕ → ℕ → ℕ → Instruction) (a b c : Option ℕ) → err_of (triple_of a b c >>= λ r. Ok (make r.0 r.1 r.2)) ≡ (if not (is_some a && (is_some b && (is_some c && true))) then Some fault.Register else None)
three_err make None b c = refl
three_err make (Some x) None c = refl
three_err make (Some x) (Some y) None = refl
three_err make (Some x) (Some y) (Some z) = refl

of_three_err : (make : ℕ → ℕ → ℕ → Instruction) (lines : ℕ) (words : List (List ℕ)) → err_of (of_three make words) ≡ operand_fault lines three_registers words
unfolding three_at
of_three_err make lines [] = refl
of_three_err make lines (a ∷ []) = refl
of_three_err make lines (a ∷ b ∷ []) = refl
of_three_err make lines (a ∷ b ∷ c ∷ []) = three_err make (register_of a) (register_of b) (register_of c)
of_three_err make lines (a ∷ b ∷ c ∷ d ∷ more) = rw (too_many d more) refl

set_err : (a b : Option ℕ) → err_of (or_fault fault.Register a >>= λ x. or_fault fault.Number b >>= λ y. Ok (line.Set x (literal.Number y))) ≡ (if not (is_some a && true) then Some fault.Register else if not (is_some b && true) then Some fault.Number else None)
set_err None b = refl
set_err (Some x) None = refl
set_err (Some x) (Some y) = refl

-- every number is below 2^64
number_fits : (o : Option ℕ) → ((n : ℕ) → o ≡ Some n → n < 2 ^ 64) → below (2 ^ 64) o ≡ o
number_fits None h = refl
number_fits (Some n) h =
    let less : nat_lt n (2 ^ 64) ≡ true = grind (arith, nat_tests, h n refl) in
    rw less refl

set_at_err : (lines : ℕ) (words : List (List ℕ)) → err_of (set_at words) ≡ operand_fault lines (exactly (register ∷ number_below (2 ^ 64) ∷ [])) words
unfolding set_at
set_at_err lines [] = refl
set_at_err lines (a ∷ []) = refl
set_at_err lines (a ∷ b ∷ []) = rw (number_fits (number_of b) (λ n e. (decimal-number_of b n e).1)) (set_err (register_of a) (number_of b))
set_at_err lines (a ∷ b ∷ c ∷ more) = rw (too_many c more) refl

jump_err : (lines : ℕ) (a b : Option ℕ) → err_of (or_fault fault.Register b >>= λ x. or_fault fault.Number a >>= λ y. if nat_le 1 y && nat_le y lines then Ok (line.Jump y x) else Err fault.Target) ≡ (if not (is_some b && true) then Some fault.Register else if not (is_some a && true) then Some fault.Number else if not (is_line_number lines a && true) then Some fault.Target else None)
jump_err lines a None = refl
jump_err lines None (Some x) = refl
jump_err lines (Some y) (Some x) = in_range (nat_le 1 y && nat_le y lines) where
  in_range : (t : Bool) → err_of (if t then Ok (line.Jump y x) else Err fault.Target) ≡ (if not (t && true) then Some fault.Target else None)
  in_range true = refl
  in_range false = refl

jump_at_err : (lines : ℕ) (words : List (List ℕ)) → err_of (jump_at lines words) ≡ operand_fault lines (exactly (line_number ∷ register ∷ [])) words
unfolding jump_at
jump_at_err lines [] = refl
jump_at_err lines (a ∷ []) = refl
jump_at_err lines (a ∷ b ∷ []) = jump_err lines (number_of a) (register_of b)
jump_at_err lines (a ∷ b ∷ c ∷ more) = rw (too_many c more) refl

call_err : (a b c d : Option ℕ) → err_of (or_fault fault.Register a >>= λ x. or_fault fault.Register c >>= λ z. or_fault fault.Number b >>= λ y. or_fault fault.Number d >>= λ w. Ok (line.Call x y z w)) ≡ (if not (is_some a && (is_some c && true)) then Some fault.Register else if not (is_some b && (is_some d && true)) then Some fault.Number else None)
call_err None b c d = refl
call_err (Some x) b None d = refl
call_err (Some x) None (Some z) d = refl
call_err (Some x) (Some y) (Some z) None = refl
call_err (Some x) (Some y) (Some z) (Some w) = refl

call_at_err : (lines : ℕ) (words : List (List ℕ)) → err_of (call_at words) ≡ operand_fault lines (exactly (register ∷ number_below 16 ∷ register ∷ number_below (2 ^ 32) ∷ [])) words
unfolding call_at
call_at_err lines [] = refl
call_at_err lines (a ∷ []) = refl
call_at_err lines (a ∷ b ∷ []) = refl
call_at_err lines (a ∷ b ∷ c ∷ []) = refl
call_at_err lines (a ∷ b ∷ c ∷ d ∷ []) = call_err (register_of a) (below 16 (number_of b)) (register_of c) (below (2 ^ 32) (number_of d))
call_at_err lines (a ∷ b ∷ c ∷ d ∷ e ∷ more) = rw (too_many e more) refl

field_err : (word : List ℕ) (none : Bool) (a b : Option ℕ) → err_of (if none then Err fault.Count else (or_fault fault.Register a >>= λ x. or_fault fault.Register b >>= λ y. Ok (line.Field x y word))) ≡ (if not (not none && true) then Some fault.Count else if not (is_some a && (is_some b && true)) then Some fault.Register else None)
field_err word true a b = refl
field_err word false None b = refl
field_err word false (Some x) None = refl
field_err word false (Some x) (Some y) = refl

never : (b : Bool) → b && false ≡ false
never true = refl
never false = refl

field_at_err : (lines : ℕ) (words : List (List ℕ)) → err_of (field_at words) ≡ operand_fault lines (exactly (register ∷ register ∷ name ∷ [])) words
unfolding field_at
field_at_err lines [] = refl
field_at_err lines (a ∷ []) = refl
field_at_err lines (a ∷ b ∷ []) = refl
field_at_err lines (a ∷ b ∷ c ∷ []) = field_err c (length c == 0) (register_of a) (register_of b)
field_at_err lines (a ∷ b ∷ c ∷ d ∷ more) = rw (too_many d more, never (not (length c == 0))) refl

map_keeps : {A B E : Type 0} (r : Result A E) (f : A → B) → err_of (r >>= λ x. Ok (f x)) ≡ err_of r
map_keeps (Ok x) f = refl
map_keeps (Err e) f = refl

first_err : (o : Option ℕ) (words : List (List ℕ)) → err_of (registers_at words) ≡ (if not (list_all (λ w. is_some (register_of w)) words) then Some fault.Register else None) → err_of (or_fault fault.Register o >>= λ x. registers_at words >>= λ xs. Ok (x ∷ xs)) ≡ (if not (is_some o && list_all (λ w. is_some (register_of w)) words) then Some fault.Register else None)
first_err None words h = refl
first_err (Some x) words h = map_keeps (registers_at words) (λ xs. x ∷ xs) ∙ h

registers_err : (words : List (List ℕ)) → err_of (registers_at words) ≡ (if not (list_all (λ w. is_some (register_of w)) words) then Some fault.Register else None)
registers_err [] = refl
registers_err (w ∷ words) = first_err (register_of w) words (registers_err words)

awaitany_err : (many : Bool) (a b : Option ℕ) (words : List (List ℕ)) → err_of (if many then Err fault.Count else (or_fault fault.Register a >>= λ x. or_fault fault.Register b >>= λ y. registers_at words >>= λ zs. Ok (line.AwaitAny x y zs))) ≡ (if not (not many) then Some fault.Count else if not (is_some a && (is_some b && list_all (λ w. is_some (register_of w)) words)) then Some fault.Register else None)
awaitany_err true a b words = refl
awaitany_err false None b words = refl
awaitany_err false (Some x) None words = refl
awaitany_err false (Some x) (Some y) words = map_keeps (registers_at words) (λ zs. line.AwaitAny x y zs) ∙ registers_err words

few_or_many : (n : ℕ) (b : Bool) → nat_lt 7 n ≡ b → nat_le n 7 ≡ not b
few_or_many n true e = grind (arith, nat_tests, e)
few_or_many n false e = grind (arith, nat_tests, e)

passes_all : (words : List (List ℕ)) → list_all (λ w. true) words ≡ true
passes_all [] = refl
passes_all (w ∷ words) = passes_all words

awaitany_at_err : (lines : ℕ) (words : List (List ℕ)) → err_of (awaitany_at words) ≡ operand_fault lines (shape_of operation.AwaitAny) words
unfolding awaitany_at
awaitany_at_err lines [] = refl
awaitany_at_err lines (a ∷ []) = refl
awaitany_at_err lines (a ∷ b ∷ []) = refl
awaitany_at_err lines (a ∷ b ∷ c ∷ more) = rw (few_or_many (length more) (nat_lt 7 (length more)) refl, passes_all more) (awaitany_err (nat_lt 7 (length more)) (register_of a) (register_of b) (c ∷ more))

none_at_err : (instruction : Instruction) (lines : ℕ) (words : List (List ℕ)) → err_of (none_at instruction words) ≡ operand_fault lines (exactly []) words
unfolding none_at
none_at_err instruction lines [] = refl
none_at_err instruction lines (a ∷ more) = rw (too_many a more) refl

instruction_err : (lines : ℕ) (op : Operation) (words : List (List ℕ)) → err_of (instruction_at lines op words) ≡ operand_fault lines (shape_of op) words
unfolding instruction_at
instruction_err lines operation.Set words = set_at_err lines words
instruction_err lines operation.Add words = of_three_err line.Add lines words
instruction_err lines operation.Sub words = of_three_err line.Sub lines words
instruction_err lines operation.Less words = of_three_err line.Less lines words
instruction_err lines operation.Same words = of_three_err line.Same lines words
instruction_err lines operation.Jump words = jump_at_err lines words
instruction_err lines operation.Join words = of_three_err line.Join lines words
instruction_err lines operation.Field words = field_at_err lines words
instruction_err lines operation.Receive words = of_two_err line.Receive lines words
instruction_err lines operation.Call words = call_at_err lines words
instruction_err lines operation.Await words = of_two_err line.Await lines words
instruction_err lines operation.AwaitAny words = awaitany_at_err lines words
instruction_err lines operation.Next words = of_two_err line.Next lines words
instruction_err lines operation.Reply words = of_two_err line.Reply lines words
instruction_err lines operation.Clock words = of_one_err line.Clock lines words
instruction_err lines operation.Seed words = none_at_err line.Seed lines words
instruction_err lines operation.Draw words = of_two_err line.Draw lines words
instruction_err lines operation.Stop words = none_at_err line.Stop lines words

operation_err : (lines : ℕ) (operands : List (List ℕ)) (o : Option Operation) → err_of (or_fault fault.Word o >>= λ op. instruction_at lines op operands) ≡ operation_fault lines operands o
operation_err lines operands None = refl
operation_err lines operands (Some op) = instruction_err lines op operands

words_err : (lines : ℕ) (words : List (List ℕ)) → err_of (words_at lines true words) ≡ words_fault lines words
unfolding words_at
words_err lines [] = refl
words_err lines (word ∷ operands) = operation_err lines operands (operation_named word)

unended_err : (lines : ℕ) (words : List (List ℕ)) → err_of (words_at lines false words) ≡ Some fault.Word
unfolding words_at
unended_err lines [] = refl
unended_err lines (word ∷ operands) = refl

-- ---- a text literal is refused as Text

abbrev all_text : {A : Type 0} → Result A ScriptFault → Type 0
all_text (Ok x) = Unit {0}
all_text (Err kind) = kind ≡ fault.Text

escape_text : (q s n : Bool) → all_text {A = ℕ} (if q then Ok 34 else if s then Ok 92 else if n then Ok 10 else Err fault.Text)
escape_text true s n = tt
escape_text false true n = tt
escape_text false false true = tt
escape_text false false false = refl

chain_text : {A B : Type 0} (r : Result A ScriptFault) (f : A → Result B ScriptFault) → all_text r → ((x : A) → all_text (f x)) → all_text (r >>= f)
chain_text (Ok x) f h k = k x
chain_text (Err kind) f h k = h

closing_text : (b : Bool) → all_text {A = List ℕ} (if b then Ok [] else Err fault.Text)
closing_text true = tt
closing_text false = refl

plain_text : (c : ℕ) (cs : List ℕ) (q s : Bool) → all_text (bytes_after true cs) → all_text (bytes_after false cs) → all_text (if q then (if length cs == 0 then Ok [] else Err fault.Text) else if s then bytes_after true cs else (bytes_after false cs >>= λ more. Ok (c ∷ more)))
plain_text c cs true s h k = closing_text (length cs == 0)
plain_text c cs false true h k = h
plain_text c cs false false h k = chain_text (bytes_after false cs) (λ more. Ok (c ∷ more)) k (λ more. tt)

bytes_text : (escaped : Bool) (cs : List ℕ) → all_text (bytes_after escaped cs)
bytes_text true [] = refl
bytes_text false [] = refl
bytes_text true (c ∷ cs) = chain_text (unescaped c) (λ b. bytes_after false cs >>= λ more. Ok (b ∷ more)) (escape_text (c == 34) (c == 92) (c == 110)) (λ b. chain_text (bytes_after false cs) (λ more. Ok (b ∷ more)) (bytes_text false cs) (λ more. tt))
bytes_text false (c ∷ cs) = plain_text c cs (c == 34) (c == 92) (bytes_text true cs) (bytes_text false cs)

lawful_text : (bytes : List ℕ) (b : Bool) → all_text (if b then Ok bytes else Err fault.Text)
lawful_text bytes true = tt
lawful_text bytes false = refl

text_text : (quote : List ℕ) → all_text (text_at quote)
unfolding text_at
text_text quote = chain_text (bytes_after false (drop 1 quote)) (λ bytes. if is_text bytes then Ok bytes else Err fault.Text) (bytes_text false (drop 1 quote)) (λ bytes. lawful_text bytes (is_text bytes))

-- ---- a line

set_answer : (text : Result (List ℕ) ScriptFault) (ended : Bool) (o : Option ℕ) → all_text text → err_of (text >>= λ t. if ended then (or_fault fault.Register o >>= λ r. Ok (line.Set r (literal.Text t))) else Err fault.Word) ≡ (if not (is_ok text) then Some fault.Text else if not ended then Some fault.Word else if is_some o then None else Some fault.Register)
set_answer (Ok t) false o h = refl
set_answer (Ok t) true None h = refl
set_answer (Ok t) true (Some r) h = refl
set_answer (Err kind) ended o h = ap Some h

set_line_err : (ended : Bool) (word quote : List ℕ) → err_of (text_set_at ended word quote) ≡ (if not (is_ok (text_at quote)) then Some fault.Text else if not ended then Some fault.Word else if is_some (register_of word) then None else Some fault.Register)
unfolding text_set_at
set_line_err ended word quote = set_answer (text_at quote) ended (register_of word) (text_text quote)

choice_err : (lines : ℕ) (ended : Bool) (words : List (List ℕ)) (o : Option (List ℕ × List ℕ)) → err_of (words_or_text_at lines ended words o) ≡ (if is_text_bad o then Some fault.Text else if not ended then Some fault.Word else rest_fault lines words o)
choice_err lines true words None = words_err lines words
choice_err lines false words None = unended_err lines words
choice_err lines ended words (Some set) = set_line_err ended set.0 set.1

utf8_err : (lines : ℕ) (ended : Bool) (words : List (List ℕ)) (b : Bool) → err_of (if b then words_or_text_at lines ended words (text_set_in words) else Err fault.Text) ≡ (if not b || is_text_bad (text_set_in words) then Some fault.Text else if not ended then Some fault.Word else rest_fault lines words (text_set_in words))
utf8_err lines ended words true = choice_err lines ended words (text_set_in words)
utf8_err lines ended words false = refl

pub line_err : (lines : ℕ) (l : TextLine) → err_of (line_at lines l.ended l.bytes) ≡ line_fault lines l
unfolding line_at
line_err lines l = utf8_err lines l.ended (words_of l.bytes) (is_utf8 l.bytes)

-- ---- a text

step_err : (at : ℕ) (r : Result Instruction ScriptFault) (rest : Result (List Instruction) ScriptError) → err_of (at_line at r >>= λ i. rest >>= λ is. Ok (i ∷ is)) ≡ or_later at (err_of r) (err_of rest)
step_err at (Ok i) (Ok is) = refl
step_err at (Ok i) (Err e) = refl
step_err at (Err kind) rest = refl

each_err : (lines at : ℕ) (ls : List TextLine) → err_of (each_line lines at ls) ≡ first_fault lines at ls
each_err lines at [] = refl
each_err lines at (l ∷ more) =
    step_err at (line_at lines l.ended l.bytes) (each_line lines (at + 1) more) ∙ (ap (λ o. or_later at o (err_of (each_line lines (at + 1) more))) (line_err lines l) ∙ ap (or_later at (line_fault lines l)) (each_err lines (at + 1) more))

count_err : (long none : Bool) (r : Result (List Instruction) ScriptError) (e f : ScriptError) → err_of (if long then Err e else if none then Err f else r) ≡ (if long then Some e else if none then Some f else err_of r)
count_err true none r e f = refl
count_err false true r e f = refl
count_err false false r e f = refl

lines_err : (ls : List TextLine) → err_of (script_of_lines ls) ≡ refusal_in ls
unfolding script_of_lines refusal_in
lines_err ls =
    count_err (nat_lt 1000 (length ls)) (length ls == 0) (each_line (length ls) 1 ls) (record { line = 1001; kind = fault.Long }) (record { line = 1; kind = fault.Count }) ∙ rw (each_err (length ls) 1 ls) refl

-- a text that isn't read is refused by the tests, at the same line and for the same reason
pub refusal_is : (text : List ℕ) (e : ScriptError) → script_of text ≡ Err e → refusal_of text ≡ Some e
refusal_is text e h = sym (lines_err (lines_of text)) ∙ ap err_of h

pub no_refusal : (text : List ℕ) (instructions : List Instruction) → script_of text ≡ Ok instructions → refusal_of text ≡ None
no_refusal text instructions h = sym (lines_err (lines_of text)) ∙ ap err_of h
