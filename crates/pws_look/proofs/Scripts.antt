-- The answer to a text that is to be a script.
use Rattle.std.proofs.Common.{◌≡◌, ℕ, List, Result, Ok, Err, IfOk, subst}
use Rattle.pws_base.specs.declared.memory.Memory.{Memory}
use Rattle.pws_script.specs.Scripts.{Reads}
use Rattle.pws_script.specs.declared.faults.ReadScriptError.{ReadScriptError}
use Rattle.pws_script.specs.declared.faults.ReadScriptError.TheVariants as read_error
use Rattle.pws_script.specs.declared.faults.ScriptError.{ScriptError}
use Rattle.pws_script.specs.declared.instructions.Instruction.{Instruction}
use Rattle.pws_look.specs.Answers.{script_answer, IsReadAs, ScriptAnswers}
use Rattle.pws_look.specs.declared.answers.Answer.{Answer}

answers : (text : List ℕ) (r : Result (List Instruction) ScriptError) (answer : Result Answer Memory) → IsReadAs text r → IfOk answer (λ a. a ≡ script_answer r) → IfOk answer (ScriptAnswers text)
answers text r (Ok a) read is = record { read = r; is_read = read; answer = is }
answers text r (Err e) read is = tt

pub read_answers : (text : List ℕ) (result : Result (List Instruction) ReadScriptError) (instructions : List Instruction) (answer : Result Answer Memory)
    → Reads result text → result ≡ Ok instructions → IfOk answer (λ a. a ≡ script_answer (Ok instructions)) → IfOk answer (ScriptAnswers text)
read_answers text result instructions answer read e is = answers text (Ok instructions) answer (subst (λ r. Reads r text) e read) is

pub refused_answers : (text : List ℕ) (result : Result (List Instruction) ReadScriptError) (error : ScriptError) (answer : Result Answer Memory)
    → Reads result text → result ≡ Err (read_error.Script error) → IfOk answer (λ a. a ≡ script_answer (Err error)) → IfOk answer (ScriptAnswers text)
refused_answers text result error answer read e is = answers text (Err error) answer (subst (λ r. Reads r text) e read) is
