-- How a script is read: one word, one line and one text after the other. Only the private functions of the reader
-- speak of these steps; what reading answers is stated without them, by the one text of a script and the first fault.
use Rattle.std.specs.Prelude.{◌≡◌, ℕ, ◌+◌, ◌^◌, ◌==◌, ◌&&◌, Bool, nat_lt, nat_le, if◌then◌else◌, List, [], ◌∷◌, length, Option, Some, None, Result, Ok, Err}
use Rattle.std.specs.Str.{is_utf8}
use Rattle.pws_script.specs.Numbers.{number_of, below, register_of}
use Rattle.pws_script.specs.Operations.{operation_named}
use Rattle.pws_script.specs.Reading.{◌>>=◌, text_at, text_set_in, words_of}
use Rattle.pws_script.specs.Lines.{TextLine, lines_of}
use Rattle.pws_script.specs.declared.faults.ScriptFault.{ScriptFault}
use Rattle.pws_script.specs.declared.faults.ScriptFault.TheVariants as fault
use Rattle.pws_script.specs.declared.faults.ScriptError.{ScriptError}
use Rattle.pws_script.specs.declared.faults.ReadScriptError.{ReadScriptError}
use Rattle.pws_script.specs.declared.faults.ReadScriptError.TheVariants as read_error
use Rattle.pws_script.specs.declared.faults.LineError.{LineError}
use Rattle.pws_script.specs.declared.faults.LineError.TheVariants as line_error
use Rattle.pws_script.specs.declared.operations.Operation.{Operation}
use Rattle.pws_script.specs.declared.operations.Operation.TheVariants as operation
use Rattle.pws_script.specs.declared.instructions.Literal.TheVariants as literal
use Rattle.pws_script.specs.declared.instructions.Instruction.{Instruction}
use Rattle.pws_script.specs.declared.instructions.Instruction.TheVariants as line

-- the value, or a fault where there is none
abbrev pub or_fault : {A : Type 0} → ScriptFault → Option A → Result A ScriptFault
or_fault kind None = Err kind
or_fault kind (Some x) = Ok x

-- what a function returned, seen by view, is what is wanted, unless memory ran out
abbrev pub Gives : {A B : Type 0} → (A → B) → Result A LineError → Result B ScriptFault → Type 0
Gives view (Ok x) wanted = wanted ≡ Ok (view x)
Gives view (Err (line_error.Fault kind)) wanted = wanted ≡ Err kind
Gives view (Err line_error.Memory) wanted = Unit {0}

-- ---- operands

abbrev pub register_at : List ℕ → Result ℕ ScriptFault
register_at word = or_fault fault.Register (register_of word)

abbrev pub number_at : List ℕ → Result ℕ ScriptFault
number_at word = or_fault fault.Number (number_of word)

abbrev pub number_below_at : ℕ → List ℕ → Result ℕ ScriptFault
number_below_at limit word = or_fault fault.Number (below limit (number_of word))

abbrev pub registers_at : List (List ℕ) → Result (List ℕ) ScriptFault
registers_at [] = Ok []
registers_at (word ∷ words) = do
  index ← register_at word
  indices ← registers_at words
  Ok (index ∷ indices)

-- ---- the operands of each operation: their count, then registers, then numbers, then the target of a jump

unfoldable pub one_at : List (List ℕ) → Result ℕ ScriptFault
one_at (a ∷ []) = register_at a
one_at words = Err fault.Count

unfoldable pub two_at : List (List ℕ) → Result (ℕ × ℕ) ScriptFault
two_at (a ∷ b ∷ []) = do
  first ← register_at a
  second ← register_at b
  Ok (first, second)
two_at words = Err fault.Count

unfoldable pub three_at : List (List ℕ) → Result (ℕ × ℕ × ℕ) ScriptFault
three_at (a ∷ b ∷ c ∷ []) = do
  first ← register_at a
  second ← register_at b
  third ← register_at c
  Ok (first, second, third)
three_at words = Err fault.Count

unfoldable pub set_at : List (List ℕ) → Result Instruction ScriptFault
set_at (a ∷ b ∷ []) = do
  target ← register_at a
  number ← number_at b
  Ok (line.Set target (literal.Number number))
set_at words = Err fault.Count

unfoldable pub jump_at : ℕ → List (List ℕ) → Result Instruction ScriptFault
jump_at lines (a ∷ b ∷ []) = do
  test ← register_at b
  to ← number_at a
  if nat_le 1 to && nat_le to lines then Ok (line.Jump to test) else Err fault.Target
jump_at lines words = Err fault.Count

unfoldable pub field_at : List (List ℕ) → Result Instruction ScriptFault
field_at (a ∷ b ∷ name ∷ []) = if length name == 0 then Err fault.Count else do
  target ← register_at a
  message ← register_at b
  Ok (line.Field target message name)
field_at words = Err fault.Count

unfoldable pub call_at : List (List ℕ) → Result Instruction ScriptFault
call_at (a ∷ b ∷ c ∷ d ∷ []) = do
  target ← register_at a
  text ← register_at c
  group ← number_below_at 16 b
  timeout ← number_below_at (2 ^ 32) d
  Ok (line.Call target group text timeout)
call_at words = Err fault.Count

unfoldable pub awaitany_at : List (List ℕ) → Result Instruction ScriptFault
awaitany_at (a ∷ b ∷ c ∷ more) = if nat_lt 7 (length more) then Err fault.Count else do
  call ← register_at a
  message ← register_at b
  calls ← registers_at (c ∷ more)
  Ok (line.AwaitAny call message calls)
awaitany_at words = Err fault.Count

unfoldable pub none_at : Instruction → List (List ℕ) → Result Instruction ScriptFault
none_at instruction [] = Ok instruction
none_at instruction words = Err fault.Count

abbrev pub of_one : (ℕ → Instruction) → List (List ℕ) → Result Instruction ScriptFault
of_one make words = do
  a ← one_at words
  Ok (make a)

abbrev pub of_two : (ℕ → ℕ → Instruction) → List (List ℕ) → Result Instruction ScriptFault
of_two make words = do
  r ← two_at words
  Ok (make r.0 r.1)

abbrev pub of_three : (ℕ → ℕ → ℕ → Instruction) → List (List ℕ) → Result Instruction ScriptFault
of_three make words = do
  r ← three_at words
  Ok (make r.0 r.1 r.2)

-- the instruction of an operation with these words after it, in a script of so many lines
unfoldable pub instruction_at : ℕ → Operation → List (List ℕ) → Result Instruction ScriptFault
instruction_at lines operation.Set words = set_at words
instruction_at lines operation.Add words = of_three line.Add words
instruction_at lines operation.Sub words = of_three line.Sub words
instruction_at lines operation.Less words = of_three line.Less words
instruction_at lines operation.Same words = of_three line.Same words
instruction_at lines operation.Jump words = jump_at lines words
instruction_at lines operation.Join words = of_three line.Join words
instruction_at lines operation.Field words = field_at words
instruction_at lines operation.Receive words = of_two line.Receive words
instruction_at lines operation.Call words = call_at words
instruction_at lines operation.Await words = of_two line.Await words
instruction_at lines operation.AwaitAny words = awaitany_at words
instruction_at lines operation.Next words = of_two line.Next words
instruction_at lines operation.Reply words = of_two line.Reply words
instruction_at lines operation.Clock words = of_one line.Clock words
instruction_at lines operation.Seed words = none_at line.Seed words
instruction_at lines operation.Draw words = of_two line.Draw words
instruction_at lines operation.Stop words = none_at line.Stop words

-- ---- a line

unfoldable pub text_set_at : Bool → List ℕ → List ℕ → Result Instruction ScriptFault
text_set_at ended word quoted = do
  text ← text_at quoted
  if ended then (do
    target ← register_at word
    Ok (line.Set target (literal.Text text))) else Err fault.Word

unfoldable pub words_at : ℕ → Bool → List (List ℕ) → Result Instruction ScriptFault
words_at lines ended [] = Err fault.Word
words_at lines ended (name ∷ operands) =
    if ended then (do
      operation ← or_fault fault.Word (operation_named name)
      instruction_at lines operation operands) else Err fault.Word

abbrev pub words_or_text_at : ℕ → Bool → List (List ℕ) → Option (List ℕ × List ℕ) → Result Instruction ScriptFault
words_or_text_at lines ended words None = words_at lines ended words
words_or_text_at lines ended words (Some set) = text_set_at ended set.0 set.1

-- the instruction of a line, which ends by a line feed or not, in a script of so many lines
unfoldable pub line_at : ℕ → Bool → List ℕ → Result Instruction ScriptFault
line_at lines ended bytes =
    if is_utf8 bytes then words_or_text_at lines ended (words_of bytes) (text_set_in (words_of bytes)) else Err fault.Text

-- ---- the lines of a text

-- a fault of the line of this number
abbrev pub at_line : {A : Type 0} → ℕ → Result A ScriptFault → Result A ScriptError
at_line number (Ok x) = Ok x
at_line number (Err kind) = Err (record { line = number; kind = kind })

-- the instructions of these lines, of which the first has this number, in a script of so many lines
abbrev pub each_line : ℕ → ℕ → List TextLine → Result (List Instruction) ScriptError
each_line lines number [] = Ok []
each_line lines number (l ∷ more) = do
  instruction ← at_line number (line_at lines l.ended l.bytes)
  instructions ← each_line lines (number + 1) more
  Ok (instruction ∷ instructions)

-- the script of these lines: at most 1,000 and at least one
unfoldable pub script_of_lines : List TextLine → Result (List Instruction) ScriptError
script_of_lines lines =
    if nat_lt 1000 (length lines) then Err (record { line = 1001; kind = fault.Long })
    else if length lines == 0 then Err (record { line = 1; kind = fault.Count })
    else each_line (length lines) 1 lines

abbrev pub script_of : List ℕ → Result (List Instruction) ScriptError
script_of text = script_of_lines (lines_of text)

-- what a function returned, seen by view, is what is wanted, unless memory ran out
abbrev pub GivesLines : {A B : Type 0} → (A → B) → Result A ReadScriptError → Result B ScriptError → Type 0
GivesLines view (Ok x) wanted = wanted ≡ Ok (view x)
GivesLines view (Err (read_error.Script e)) wanted = wanted ≡ Err e
GivesLines view (Err read_error.Memory) wanted = Unit {0}

abbrev pub fault_at : ℕ → LineError → ReadScriptError
fault_at number (line_error.Fault kind) = read_error.Script (record { line = number; kind = kind })
fault_at number line_error.Memory = read_error.Memory
