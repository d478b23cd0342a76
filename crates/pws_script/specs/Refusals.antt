-- What is wrong with a text: the first line that isn't in the grammar, and of its faults the first in the order of the
-- kinds; this project's own rules.
use Rattle.std.specs.Prelude.{ℕ, ◌+◌, ◌^◌, ◌==◌, ◌&&◌, ◌||◌, not, Bool, true, false, nat_lt, nat_le, is_some, is_ok, if◌then◌else◌, List, [], ◌∷◌, length, Option, Some, None}
use Rattle.std.specs.List.{list_all}
use Rattle.std.specs.Str.{is_utf8}
use Rattle.pws_script.specs.Numbers.{number_of, below, register_of}
use Rattle.pws_script.specs.Operations.{operation_named}
use Rattle.pws_script.specs.Reading.{text_at, text_set_in, words_of}
use Rattle.pws_script.specs.Lines.{TextLine, lines_of}
use Rattle.pws_script.specs.declared.faults.ScriptFault.{ScriptFault}
use Rattle.pws_script.specs.declared.faults.ScriptFault.TheVariants as fault
use Rattle.pws_script.specs.declared.faults.ScriptError.{ScriptError}
use Rattle.pws_script.specs.declared.operations.Operation.{Operation}
use Rattle.pws_script.specs.declared.operations.Operation.TheVariants as operation

-- what an operand is to be: a register, a number below a limit, the number of a line, or a name
pub data Operand : Type 0 where
  register : Operand
  number_below : ℕ → Operand
  line_number : Operand
  name : Operand

-- the operands of an operation, and how many further registers may follow them
pub record Shape : Type 0 where
  pub operands : List Operand
  pub further : ℕ

abbrev pub exactly : List Operand → Shape
exactly operands = record { operands = operands; further = 0 }

abbrev pub two_registers : Shape
two_registers = exactly (register ∷ register ∷ [])

abbrev pub three_registers : Shape
three_registers = exactly (register ∷ register ∷ register ∷ [])

abbrev pub shape_of : Operation → Shape
shape_of operation.Set = exactly (register ∷ number_below (2 ^ 64) ∷ [])
shape_of operation.Add = three_registers
shape_of operation.Sub = three_registers
shape_of operation.Less = three_registers
shape_of operation.Same = three_registers
shape_of operation.Jump = exactly (line_number ∷ register ∷ [])
shape_of operation.Join = three_registers
shape_of operation.Field = exactly (register ∷ register ∷ name ∷ [])
shape_of operation.Receive = two_registers
shape_of operation.Call = exactly (register ∷ number_below 16 ∷ register ∷ number_below (2 ^ 32) ∷ [])
shape_of operation.Await = two_registers
shape_of operation.AwaitAny = record { operands = register ∷ register ∷ register ∷ []; further = 7 }
shape_of operation.Next = two_registers
shape_of operation.Reply = two_registers
shape_of operation.Clock = exactly (register ∷ [])
shape_of operation.Seed = exactly []
shape_of operation.Draw = two_registers
shape_of operation.Stop = exactly []

-- ---- the words of an instruction

abbrev pub is_there : Operand → List ℕ → Bool
is_there name word = not (length word == 0)
is_there register word = true
is_there (number_below limit) word = true
is_there line_number word = true

abbrev pub is_register : Operand → List ℕ → Bool
is_register register word = is_some (register_of word)
is_register (number_below limit) word = true
is_register line_number word = true
is_register name word = true

abbrev pub is_number : Operand → List ℕ → Bool
is_number (number_below limit) word = is_some (below limit (number_of word))
is_number line_number word = is_some (number_of word)
is_number register word = true
is_number name word = true

abbrev pub is_line_number : ℕ → Option ℕ → Bool
is_line_number lines (Some n) = nat_le 1 n && nat_le n lines
is_line_number lines None = false

abbrev pub is_target : ℕ → Operand → List ℕ → Bool
is_target lines line_number word = is_line_number lines (number_of word)
is_target lines register word = true
is_target lines (number_below limit) word = true
is_target lines name word = true

-- whether there is one word an operand, no empty name, and then at most so many words
abbrev pub is_count_right : List Operand → ℕ → List (List ℕ) → Bool
is_count_right [] further words = nat_le (length words) further
is_count_right (operand ∷ operands) further [] = false
is_count_right (operand ∷ operands) further (word ∷ words) = is_there operand word && is_count_right operands further words

-- whether each operand passes a test; the words after them are to be registers
abbrev pub each_passes : (Operand → List ℕ → Bool) → List Operand → List (List ℕ) → Bool
each_passes test [] words = list_all (test register) words
each_passes test (operand ∷ operands) [] = true
each_passes test (operand ∷ operands) (word ∷ words) = test operand word && each_passes test operands words

-- what is wrong with the operands of an operation, in a script of so many lines
abbrev pub operand_fault : ℕ → Shape → List (List ℕ) → Option ScriptFault
operand_fault lines shape words =
    if not (is_count_right shape.operands shape.further words) then Some fault.Count
    else if not (each_passes is_register shape.operands words) then Some fault.Register
    else if not (each_passes is_number shape.operands words) then Some fault.Number
    else if not (each_passes (is_target lines) shape.operands words) then Some fault.Target
    else None

abbrev pub operation_fault : ℕ → List (List ℕ) → Option Operation → Option ScriptFault
operation_fault lines operands None = Some fault.Word
operation_fault lines operands (Some op) = operand_fault lines (shape_of op) operands

abbrev pub words_fault : ℕ → List (List ℕ) → Option ScriptFault
words_fault lines [] = Some fault.Word
words_fault lines (word ∷ operands) = operation_fault lines operands (operation_named word)

-- ---- a line

-- whether there is a text literal, and it is none
abbrev pub is_text_bad : Option (List ℕ × List ℕ) → Bool
is_text_bad None = false
is_text_bad (Some set) = not (is_ok (text_at set.1))

-- what is wrong with the words after the checks on texts and the line feed
abbrev pub rest_fault : ℕ → List (List ℕ) → Option (List ℕ × List ℕ) → Option ScriptFault
rest_fault lines words None = words_fault lines words
rest_fault lines words (Some set) = if is_some (register_of set.0) then None else Some fault.Register

-- what is wrong with a line, in a script of so many lines
abbrev pub line_fault : ℕ → TextLine → Option ScriptFault
line_fault lines l =
    if not (is_utf8 l.bytes) || is_text_bad (text_set_in (words_of l.bytes)) then Some fault.Text
    else if not l.ended then Some fault.Word
    else rest_fault lines (words_of l.bytes) (text_set_in (words_of l.bytes))

-- ---- a text

abbrev pub or_later : ℕ → Option ScriptFault → Option ScriptError → Option ScriptError
or_later at (Some kind) later = Some (record { line = at; kind = kind })
or_later at None later = later

-- the first fault of these lines, of which the first has this number
abbrev pub first_fault : ℕ → ℕ → List TextLine → Option ScriptError
first_fault lines at [] = None
first_fault lines at (l ∷ more) = or_later at (line_fault lines l) (first_fault lines (at + 1) more)

unfoldable pub refusal_in : List TextLine → Option ScriptError
refusal_in lines =
    if nat_lt 1000 (length lines) then Some (record { line = 1001; kind = fault.Long })
    else if length lines == 0 then Some (record { line = 1; kind = fault.Count })
    else first_fault (length lines) 1 lines

-- what is wrong with a text, or None where it is the text of a script
abbrev pub refusal_of : List ℕ → Option ScriptError
refusal_of text = refusal_in (lines_of text)
