-- What reading a text answers, and laws of the grammar; this project's own rules.
use Rattle.std.specs.Prelude.{◌≡◌, ◌≢◌, ◌⊎◌, ◌↔◌, ℕ, ◌<◌, ◌≤◌, ◌^◌, ◌==◌, true, slice_index, decimal, List, Some, None, Result, Ok, Err}
use Rattle.pws_script.specs.Spelling.{IsLawful, IsScript, spelling, script_text, register_text, quoted}
use Rattle.pws_script.specs.Numbers.{number_of, register_of}
use Rattle.pws_script.specs.Texts.{is_line, is_text}
use Rattle.pws_script.specs.Reading.{text_at}
use Rattle.pws_script.specs.Lines.{TextLine}
use Rattle.pws_script.specs.Refusals.{line_fault, refusal_of}
use Rattle.pws_script.specs.declared.faults.ScriptError.{ScriptError}
use Rattle.pws_script.specs.declared.faults.ReadScriptError.{ReadScriptError}
use Rattle.pws_script.specs.declared.faults.ReadScriptError.TheVariants as read_error
use Rattle.pws_script.specs.declared.instructions.Instruction.{Instruction}

-- this is the script of the text
pub record IsScriptOf (text : List ℕ) (instructions : List Instruction) : Type 0 where
  pub lawful : IsScript instructions
  pub spelled : script_text instructions ≡ text

-- no script has this text, and this is the fault of the first line that isn't in the grammar
pub record IsRefused (text : List ℕ) (e : ScriptError) : Type 0 where
  pub first : refusal_of text ≡ Some e
  pub unspelled : (instructions : List Instruction) → IsScript instructions → script_text instructions ≢ text

-- reading answers the script of the text, or why there is none, unless memory runs out
abbrev pub Reads : Result (List Instruction) ReadScriptError → List ℕ → Type 0
Reads (Ok instructions) text = IsScriptOf text instructions
Reads (Err (read_error.Script e)) text = IsRefused text e
Reads (Err read_error.Memory) text = Unit {0}

-- two scripts with one text are one script
abbrev pub OneScript : Type 0
OneScript = (a b : List Instruction) → IsScript a → IsScript b → script_text a ≡ script_text b → a ≡ b

-- an answer of reading that is these instructions, or the want of memory
abbrev pub IsReadAs : Result (List Instruction) ReadScriptError → List Instruction → Type 0
IsReadAs (Ok read) instructions = read ≡ instructions
IsReadAs (Err (read_error.Script e)) instructions = ⊥
IsReadAs (Err read_error.Memory) instructions = Unit {0}

-- what a script prints is read as this script
abbrev pub ReadsWhatIsPrinted : Type 0
ReadsWhatIsPrinted =
    (answer : Result (List Instruction) ReadScriptError) (instructions : List Instruction) → IsScript instructions → Reads answer (script_text instructions) → IsReadAs answer instructions

-- a line has no fault exactly where it has a line feed and is the text of a lawful instruction
abbrev pub LinesAreSpelled : Type 0
LinesAreSpelled =
    (lines : ℕ) (l : TextLine) → lines ≤ 1000 → is_line l.bytes ≡ true → (line_fault lines l ≡ None) ↔ ((l.ended ≡ true) × ((i : Instruction) × IsLawful lines i × (spelling i ≡ l.bytes)))

-- the text of a script isn't refused
abbrev pub ScriptsAreRead : Type 0
ScriptsAreRead = (instructions : List Instruction) → IsScript instructions → refusal_of (script_text instructions) ≡ None

-- each text is the text of a script, or is refused
abbrev pub ReadOrRefused : Type 0
ReadOrRefused = (text : List ℕ) → ((instructions : List Instruction) × IsScriptOf text instructions) ⊎ ((e : ScriptError) × IsRefused text e)

-- a word is read as a register exactly where it is the text of this register
abbrev pub RegistersAreSpelled : Type 0
RegistersAreSpelled = (word : List ℕ) (index : ℕ) → (register_of word ≡ Some index) ↔ ((index < 32) × (register_text index ≡ word))

-- a word is read as a number exactly where it is the decimal of this number
abbrev pub NumbersAreDecimals : Type 0
NumbersAreDecimals = (word : List ℕ) (n : ℕ) → (number_of word ≡ Some n) ↔ ((n < 2 ^ 64) × (decimal n ≡ word))

-- what begins with a double quote in a line is read as a text exactly where it is this text in double quotes
abbrev pub TextsAreQuoted : Type 0
TextsAreQuoted =
    (literal text : List ℕ) → is_line literal ≡ true → (slice_index literal 0 == 34) ≡ true → (text_at literal ≡ Ok text) ↔ ((is_text text ≡ true) × (quoted text ≡ literal))
