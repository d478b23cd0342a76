-- Words and bytes have an outcome.
use Rattle.std.proofs.Common.{◌≡◌, ◌⊎◌, inl, inr, ℕ, Bool, true, false, List, [], ◌∷◌, length, nat_lt, Option, Some, None, Ok, Err, refl}
use Rattle.std.specs.List.{AllZip}
use Rattle.pws_event.specs.EventFields.{event_of}
use Rattle.pws_mark.specs.Reading.{Reads}
use Rattle.pws_mark.specs.declared.errors.MarkError.{MarkError}
use Rattle.pws_mark.specs.declared.errors.ReadError.TheVariants as read_error
use Rattle.pws_mark.proofs.Answered.{texts_are_answered}
use Rattle.pws_msg.specs.PacketFields.{packet_of}
use Rattle.pws_sched.specs.Hexadecimal.{lower_hex}
use Rattle.pws_script.specs.Lines.{TextLine, lines_of}
use Rattle.pws_script.specs.Scripts.{IsScriptOf, IsRefused}
use Rattle.pws_script.specs.declared.faults.ScriptError.{ScriptError}
use Rattle.pws_script.specs.declared.instructions.Instruction.{Instruction}
use Rattle.pws_script.proofs.ScriptLaws.{read_or_refused}
use Rattle.pws_soap.proofs.TextsRead.{texts_are_read}
use Rattle.pws_tree.specs.Trees.{Tree}
use Rattle.pws_look.specs.Answers.{event_answer, packet_answer, script_answer, ScriptAnswers, Answers}
use Rattle.pws_look.specs.Envelopes.{envelope_answer, EnvelopeAnswers, soap_answer, SoapAnswers}
use Rattle.pws_look.specs.Looks.{not_hexadecimal, TextAnswers, LineAnswers, report_of, ReportsLines, ReportsWhole, ReportsBy}
use Rattle.pws_look.specs.Outcomes.{Outcome, usage, limit, outcome_of, IsOutcomeOf, SomeOutcome}
use Rattle.pws_look.specs.declared.answers.Answer.{Answer}
use Rattle.pws_look.specs.declared.lines.Report.{Report}
use Rattle.pws_look.specs.declared.words.Command.{Command}
use Rattle.pws_look.specs.declared.words.Kind.{Kind}
use Rattle.pws_look.specs.declared.words.Kind.TheVariants as kind

-- ---- one text

of_element : (lines : Bool) (text : List ℕ) → ((t : Tree) × Reads text (Ok t)) ⊎ ((e : MarkError) × Reads text (Err (read_error.Mark e))) → (a : Answer) × EnvelopeAnswers lines text a
of_element lines text (inl r) = (envelope_answer lines (Ok r.0), record { read = Ok r.0; is_read = r.1; answer = refl })
of_element lines text (inr r) = (envelope_answer lines (Err r.0), record { read = Err r.0; is_read = r.1; answer = refl })

of_envelope : (text : List ℕ) → (a : Answer) × SoapAnswers text a
of_envelope text = let r = texts_are_read text in (soap_answer r.0, record { read = r.0; is_read = r.2; told = r.1; answer = refl })

of_script : (text : List ℕ) → ((instructions : List Instruction) × IsScriptOf text instructions) ⊎ ((e : ScriptError) × IsRefused text e) → (a : Answer) × ScriptAnswers text a
of_script text (inl r) = (script_answer (Ok r.0), record { read = Ok r.0; is_read = r.1; answer = refl })
of_script text (inr r) = (script_answer (Err r.0), record { read = Err r.0; is_read = r.1; answer = refl })

some_answer : (lines : Bool) (k : Kind) (text : List ℕ) → (a : Answer) × Answers lines k text a
some_answer lines kind.Event text = (event_answer (event_of text), refl)
some_answer lines kind.Packet text = (packet_answer (packet_of text), refl)
some_answer lines kind.Envelope text = of_element lines text (texts_are_answered text)
some_answer lines kind.Soap text = of_envelope text
some_answer lines kind.Script text = of_script text (read_or_refused text)

-- ---- a whole input

some_text_answer : (k : Kind) (text : Option (List ℕ)) → (a : Answer) × TextAnswers k text a
some_text_answer k None = (not_hexadecimal, refl)
some_text_answer k (Some text) = some_answer true k text

some_line_answer : (k : Kind) (line : List ℕ) → (a : Answer) × LineAnswers k line a
some_line_answer k line = some_text_answer k (lower_hex line)

some_list : (k : Kind) (lines : List TextLine) → (answers : List Answer) × AllZip (λ (l : TextLine) (a : Answer). LineAnswers k l.bytes a) lines answers
some_list k [] = ([], tt)
some_list k (l ∷ ls) = let a = some_line_answer k l.bytes in let more = some_list k ls in (a.0 ∷ more.0, (a.1, more.1))

some_report_by : (lines : Bool) (k : Kind) (input : List ℕ) → (r : Report) × ReportsBy lines k input r
some_report_by true k input = let all = some_list k (lines_of input) in (report_of all.0, record { answers = all.0; each = all.1; report = refl })
some_report_by false k input = let a = some_answer false k input in (report_of (a.0 ∷ []), record { answer = a.0; answers = a.1; report = refl })

of_command : (command : Command) (bytes : List ℕ) (many : Bool) → (o : Outcome) × IsOutcomeOf command bytes many o
of_command command bytes true = (limit, refl)
of_command command bytes false = let r = some_report_by command.lines command.kind bytes in (outcome_of r.0, (r.0, r.1, refl))

pub some_outcome : SomeOutcome
some_outcome None bytes = (usage, refl)
some_outcome (Some command) bytes = of_command command bytes (nat_lt 67108864 (length bytes))
