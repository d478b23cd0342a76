-- The one text of an instruction and of a script, and which are lawful; this project's own rules.
use Rattle.std.specs.Prelude.{◌≡◌, ℕ, ◌<◌, ◌≤◌, ◌^◌, ◌==◌, true, if◌then◌else◌, List, [], ◌∷◌, ◌++◌, length, map, All, codes, decimal}
use Rattle.std.specs.List.{flat_map}
use Rattle.pws_script.specs.Texts.{is_text, is_name}
use Rattle.pws_script.specs.Operations.{name_of}
use Rattle.pws_script.specs.declared.operations.Operation.{Operation}
use Rattle.pws_script.specs.declared.operations.Operation.TheVariants as operation
use Rattle.pws_script.specs.declared.instructions.Literal.{Literal}
use Rattle.pws_script.specs.declared.instructions.Literal.TheVariants as literal
use Rattle.pws_script.specs.declared.instructions.Instruction.{Instruction}
use Rattle.pws_script.specs.declared.instructions.Instruction.TheVariants as line

-- ---- texts

-- r and the index
unfoldable pub register_text : ℕ → List ℕ
register_text index = 114 ∷ decimal index

-- a double quote, a backslash and a line feed have a backslash in front; a line feed is then an n
abbrev pub escape : ℕ → List ℕ
escape c = if c == 34 then codes "\\\"" else if c == 92 then codes "\\\\" else if c == 10 then codes "\\n" else c ∷ []

-- a text in double quotes
unfoldable pub quoted : List ℕ → List ℕ
quoted text = 34 ∷ (flat_map escape text ++ 34 ∷ [])

abbrev pub literal_text : Literal → List ℕ
literal_text (literal.Number n) = decimal n
literal_text (literal.Text text) = quoted text

-- ---- an instruction

abbrev pub operation_of : Instruction → Operation
operation_of (line.Set target value) = operation.Set
operation_of (line.Add target left right) = operation.Add
operation_of (line.Sub target left right) = operation.Sub
operation_of (line.Less target left right) = operation.Less
operation_of (line.Same target left right) = operation.Same
operation_of (line.Jump to test) = operation.Jump
operation_of (line.Join target left right) = operation.Join
operation_of (line.Field target message name) = operation.Field
operation_of (line.Receive request message) = operation.Receive
operation_of (line.Call target group text timeout) = operation.Call
operation_of (line.Await message call) = operation.Await
operation_of (line.AwaitAny call message calls) = operation.AwaitAny
operation_of (line.Next source message) = operation.Next
operation_of (line.Reply request text) = operation.Reply
operation_of (line.Clock target) = operation.Clock
operation_of line.Seed = operation.Seed
operation_of (line.Draw target modulus) = operation.Draw
operation_of line.Stop = operation.Stop

abbrev pub two : ℕ → ℕ → List (List ℕ)
two a b = register_text a ∷ register_text b ∷ []

abbrev pub three : ℕ → ℕ → ℕ → List (List ℕ)
three a b c = register_text a ∷ two b c

-- the texts of the operands of an instruction that puts what it makes of two registers into a third; none of any other
abbrev pub three_of : Instruction → List (List ℕ)
three_of (line.Add target left right) = three target left right
three_of (line.Sub target left right) = three target left right
three_of (line.Less target left right) = three target left right
three_of (line.Same target left right) = three target left right
three_of (line.Join target left right) = three target left right
three_of other = []

-- the texts of the operands, in order
abbrev pub operands_of : Instruction → List (List ℕ)
operands_of (line.Set target value) = register_text target ∷ literal_text value ∷ []
operands_of (line.Add target left right) = three target left right
operands_of (line.Sub target left right) = three target left right
operands_of (line.Less target left right) = three target left right
operands_of (line.Same target left right) = three target left right
operands_of (line.Jump to test) = decimal to ∷ register_text test ∷ []
operands_of (line.Join target left right) = three target left right
operands_of (line.Field target message name) = register_text target ∷ register_text message ∷ name ∷ []
operands_of (line.Receive request message) = two request message
operands_of (line.Call target group text timeout) = register_text target ∷ decimal group ∷ register_text text ∷ decimal timeout ∷ []
operands_of (line.Await message call) = two message call
operands_of (line.AwaitAny call message calls) = register_text call ∷ register_text message ∷ map register_text calls
operands_of (line.Next source message) = two source message
operands_of (line.Reply request text) = two request text
operands_of (line.Clock target) = register_text target ∷ []
operands_of line.Seed = []
operands_of (line.Draw target modulus) = two target modulus
operands_of line.Stop = []

-- each operand after one space
abbrev pub spaced : List (List ℕ) → List ℕ
spaced operands = flat_map (λ operand. 32 ∷ operand) operands

-- the one text of an instruction: its name and its operands
unfoldable pub spelling : Instruction → List ℕ
spelling i = name_of (operation_of i) ++ spaced (operands_of i)

abbrev pub IsRegister : ℕ → Type 0
IsRegister index = index < 32

abbrev pub IsLiteral : Literal → Type 0
IsLiteral (literal.Number n) = n < 2 ^ 64
IsLiteral (literal.Text text) = is_text text ≡ true

abbrev pub AreTwo : ℕ → ℕ → Type 0
AreTwo a b = IsRegister a × IsRegister b

abbrev pub AreThree : ℕ → ℕ → ℕ → Type 0
AreThree a b c = IsRegister a × IsRegister b × IsRegister c

-- an instruction of a script of so many lines
abbrev pub IsLawful : ℕ → Instruction → Type 0
IsLawful lines (line.Set target value) = IsRegister target × IsLiteral value
IsLawful lines (line.Add target left right) = AreThree target left right
IsLawful lines (line.Sub target left right) = AreThree target left right
IsLawful lines (line.Less target left right) = AreThree target left right
IsLawful lines (line.Same target left right) = AreThree target left right
IsLawful lines (line.Jump to test) = (1 ≤ to) × (to ≤ lines) × IsRegister test
IsLawful lines (line.Join target left right) = AreThree target left right
IsLawful lines (line.Field target message name) = IsRegister target × IsRegister message × (is_name name ≡ true)
IsLawful lines (line.Receive request message) = AreTwo request message
IsLawful lines (line.Call target group text timeout) = IsRegister target × (group < 16) × IsRegister text × (timeout < 2 ^ 32)
IsLawful lines (line.Await message call) = AreTwo message call
IsLawful lines (line.AwaitAny call message calls) = IsRegister call × IsRegister message × (1 ≤ length calls) × (length calls ≤ 8) × All IsRegister calls
IsLawful lines (line.Next source message) = AreTwo source message
IsLawful lines (line.Reply request text) = AreTwo request text
IsLawful lines (line.Clock target) = IsRegister target
IsLawful lines line.Seed = Unit {0}
IsLawful lines (line.Draw target modulus) = AreTwo target modulus
IsLawful lines line.Stop = Unit {0}

-- ---- a script

-- the instructions of a script: 1 to 1,000 of them, whose jumps go to lines of the script
pub record IsScript (instructions : List Instruction) : Type 0 where
  pub some : 1 ≤ length instructions
  pub few : length instructions ≤ 1000
  pub lawful : All (IsLawful (length instructions)) instructions

-- the one text of a script: each instruction and a line feed
unfoldable pub script_text : List Instruction → List ℕ
script_text instructions = flat_map (λ i. spelling i ++ 10 ∷ []) instructions
