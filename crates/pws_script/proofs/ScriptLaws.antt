-- The laws of the grammar of scripts.
use Rattle.std.proofs.Common.{◌≡◌, ◌≢◌, ◌⊎◌, inl, inr, ℕ, ◌≤◌, Bool, true, List, Option, Some, None, Result, Ok, Err, refl, sym, ◌∙◌, ap}
use Rattle.pws_script.specs.Spelling.{IsLawful, IsScript, spelling, script_text}
use Rattle.pws_script.specs.Lines.{TextLine}
use Rattle.pws_script.specs.Texts.{is_line}
use Rattle.pws_script.specs.Refusals.{line_fault}
use Rattle.pws_script.specs.Steps.{line_at, script_of, GivesLines}
use Rattle.pws_script.specs.Scripts.{IsScriptOf, IsRefused, Reads, OneScript, ReadsWhatIsPrinted, LinesAreSpelled, ScriptsAreRead, ReadOrRefused, RegistersAreSpelled, NumbersAreDecimals, TextsAreQuoted}
use Rattle.pws_script.specs.declared.faults.ScriptFault.{ScriptFault}
use Rattle.pws_script.specs.declared.faults.ScriptError.{ScriptError}
use Rattle.pws_script.specs.declared.faults.ReadScriptError.{ReadScriptError}
use Rattle.pws_script.specs.declared.faults.ReadScriptError.TheVariants as read_error
use Rattle.pws_script.specs.declared.instructions.Instruction.{Instruction}
use Rattle.pws_script.specs.Numbers.{number_of, register_of}
use Rattle.pws_script.specs.Reading.{text_at}
use Rattle.pws_script.proofs.NumberLemmas.{decimal-number_of, number_of-decimal}
use Rattle.pws_script.proofs.OperandsRead.{register_of_is}
use Rattle.pws_script.proofs.OperandsSpelled.{has_words, register_of_text}
use Rattle.pws_script.proofs.TextRead.{text_is}
use Rattle.pws_script.proofs.TextSpelled.{text_read}
use Rattle.pws_script.proofs.ScriptRead.{script_is}
use Rattle.pws_script.proofs.LineRead.{line_is}
use Rattle.pws_script.proofs.ScriptSpelled.{line_read, script_read}
use Rattle.pws_script.proofs.RefusalLemmas.{err_of, line_err, refusal_is, no_refusal}

pub one_script : OneScript
one_script a b h k e =
    let same : ◌≡◌ {A = Result (List Instruction) ScriptError} (Ok a) (Ok b) = sym (script_read a h) ∙ (ap script_of e ∙ script_read b k) in
    cc

pub reads_what_is_printed : ReadsWhatIsPrinted
reads_what_is_printed (Ok read) instructions h r = one_script read instructions r.lawful h r.spelled
reads_what_is_printed (Err (read_error.Script e)) instructions h r = absurd (r.unspelled instructions h refl)
reads_what_is_printed (Err read_error.Memory) instructions h r = tt

abbrev IsSpelledBy : ℕ → TextLine → Type 0
IsSpelledBy lines l = (l.ended ≡ true) × ((i : Instruction) × IsLawful lines i × (spelling i ≡ l.bytes))

spelled_by : (lines : ℕ) (l : TextLine) (r : Result Instruction ScriptFault) → is_line l.bytes ≡ true → line_at lines l.ended l.bytes ≡ r → err_of r ≡ None → IsSpelledBy lines l
spelled_by lines l (Ok i) p h n = let read = line_is lines l.ended l.bytes i p h in (read.whole, (i, read.lawful, read.spelled))
spelled_by lines l (Err kind) p h n = let k : ◌≡◌ {A = Option ScriptFault} (Some kind) None = n in absurd (cc)

spelled_read : (lines : ℕ) (l : TextLine) (i : Instruction) → lines ≤ 1000 → l.ended ≡ true → IsLawful lines i → spelling i ≡ l.bytes → line_fault lines l ≡ None
spelled_read lines l i few ended h s =
    let whole : line_at lines l.ended l.bytes ≡ line_at lines true (spelling i) = ap (λ (b : Bool). line_at lines b l.bytes) ended ∙ ap (line_at lines true) (sym s) in
    sym (line_err lines l) ∙ ap err_of (whole ∙ line_read lines i (has_words i) few refl h)

pub lines_are_spelled : LinesAreSpelled
lines_are_spelled lines l few p = (
  λ h. spelled_by lines l (line_at lines l.ended l.bytes) p refl (line_err lines l ∙ h),
  λ h. spelled_read lines l h.1.0 few h.0 h.1.1 h.1.2,
)

pub scripts_are_read : ScriptsAreRead
scripts_are_read instructions h = no_refusal (script_text instructions) instructions (script_read instructions h)

pub unspelled : (text : List ℕ) (e : ScriptError) → script_of text ≡ Err e → (instructions : List Instruction) → IsScript instructions → script_text instructions ≢ text
unspelled text e h instructions s t =
    let both : ◌≡◌ {A = Result (List Instruction) ScriptError} (Ok instructions) (Err e) = sym (script_read instructions s) ∙ (ap script_of t ∙ h) in
    absurd (cc)

pub refused : (text : List ℕ) (e : ScriptError) → script_of text ≡ Err e → IsRefused text e
refused text e h = record { first = refusal_is text e h; unspelled = unspelled text e h }

by_answer : (text : List ℕ) (r : Result (List Instruction) ScriptError) → script_of text ≡ r → ((instructions : List Instruction) × IsScriptOf text instructions) ⊎ ((e : ScriptError) × IsRefused text e)
by_answer text (Ok instructions) h =
    let read = script_is text instructions h in
    inl (instructions, record { lawful = read.lawful; spelled = read.spelled })
by_answer text (Err e) h = inr (e, refused text e h)

pub read_or_refused : ReadOrRefused
read_or_refused text = by_answer text (script_of text) refl

-- what a reader of instructions answers in place of them
pub reads_given : (e : ReadScriptError) (text : List ℕ) → GivesLines {A = List Instruction} (λ is. is) (Err e) (script_of text) → Reads (Err e) text
reads_given (read_error.Script e) text h = refused text e h
reads_given read_error.Memory text h = tt

pub registers_are_spelled : RegistersAreSpelled
registers_are_spelled word index = (
  λ h. let r = register_of_is word index h in (r.1, r.0),
  λ h. ap register_of (sym h.1) ∙ register_of_text index h.0,
)

pub numbers_are_decimals : NumbersAreDecimals
numbers_are_decimals word n =
    (λ h. let r = decimal-number_of word n h in (r.1, r.0), λ h. ap number_of (sym h.1) ∙ number_of-decimal n h.0)

pub texts_are_quoted : TextsAreQuoted
texts_are_quoted literal text l q =
    (λ h. let t = text_is literal text l q h in (t.1, t.0), λ h. ap text_at (sym h.1) ∙ text_read text h.0)
