-- Words and bytes have one outcome at most.
use Rattle.std.proofs.Common.{◌≡◌, ℕ, Bool, true, false, List, [], ◌∷◌, length, nat_lt, Option, Some, None, refl, ap, sym, ◌∙◌}
use Rattle.std.specs.List.{AllZip}
use Rattle.pws_sched.specs.Hexadecimal.{lower_hex}
use Rattle.pws_script.specs.Lines.{TextLine, lines_of}
use Rattle.pws_look.specs.Looks.{TextAnswers, LineAnswers, report_of, ReportsLines, ReportsWhole, ReportsBy, Reports}
use Rattle.pws_look.specs.Outcomes.{Outcome, outcome_of, IsOutcome, IsOutcomeOf, OneOutcome}
use Rattle.pws_look.specs.declared.answers.Answer.{Answer}
use Rattle.pws_look.specs.declared.lines.Report.{Report}
use Rattle.pws_look.specs.declared.words.Command.{Command}
use Rattle.pws_look.specs.declared.words.Kind.{Kind}
use Rattle.pws_look.proofs.OneAnswer.{one_answer}

one_text_answer : (k : Kind) (text : Option (List ℕ)) (a b : Answer) → TextAnswers k text a → TextAnswers k text b → a ≡ b
one_text_answer k None a b x y = x ∙ sym y
one_text_answer k (Some text) a b x y = one_answer true k text a b x y

one_line_answer : (k : Kind) (line : List ℕ) (a b : Answer) → LineAnswers k line a → LineAnswers k line b → a ≡ b
one_line_answer k line a b x y = one_text_answer k (lower_hex line) a b x y

abbrev AreAnswered : Kind → List TextLine → List Answer → Type 0
AreAnswered k lines answers = AllZip (λ (l : TextLine) (a : Answer). LineAnswers k l.bytes a) lines answers

same_answers : (a b : Answer) (more others : List Answer) → a ≡ b → more ≡ others → a ∷ more ≡ b ∷ others
same_answers a b more others one rest = cc

one_list : (k : Kind) (lines : List TextLine) (answers others : List Answer) → AreAnswered k lines answers → AreAnswered k lines others → answers ≡ others
one_list k [] [] [] x y = refl
one_list k [] [] (b ∷ others) x y = absurd y
one_list k [] (a ∷ answers) others x y = absurd x
one_list k (l ∷ ls) [] others x y = absurd x
one_list k (l ∷ ls) (a ∷ answers) [] x y = absurd y
one_list k (l ∷ ls) (a ∷ answers) (b ∷ others) x y = same_answers a b answers others (one_line_answer k l.bytes a b x.0 y.0) (one_list k ls answers others x.1 y.1)

one_of_lines : (k : Kind) (input : List ℕ) (q r : Report) → ReportsLines k input q → ReportsLines k input r → q ≡ r
one_of_lines k input q r x y = x.report ∙ (ap report_of (one_list k (lines_of input) x.answers y.answers x.each y.each) ∙ sym y.report)

one_of_whole : (k : Kind) (input : List ℕ) (q r : Report) → ReportsWhole k input q → ReportsWhole k input r → q ≡ r
one_of_whole k input q r x y = x.report ∙ (ap (λ (a : Answer). report_of (a ∷ [])) (one_answer false k input x.answer y.answer x.answers y.answers) ∙ sym y.report)

one_report_by : (lines : Bool) (k : Kind) (input : List ℕ) (q r : Report) → ReportsBy lines k input q → ReportsBy lines k input r → q ≡ r
one_report_by true k input q r x y = one_of_lines k input q r x y
one_report_by false k input q r x y = one_of_whole k input q r x y

one_report : (command : Command) (input : List ℕ) (q r : Report) → Reports command input q → Reports command input r → q ≡ r
one_report command input q r x y = one_report_by command.lines command.kind input q r x y

one_of_command : (command : Command) (bytes : List ℕ) (many : Bool) (o p : Outcome) → IsOutcomeOf command bytes many o → IsOutcomeOf command bytes many p → o ≡ p
one_of_command command bytes true o p x y = x ∙ sym y
one_of_command command bytes false o p x y = x.2 ∙ (ap outcome_of (one_report command bytes x.0 y.0 x.1 y.1) ∙ sym y.2)

pub one_outcome : OneOutcome
one_outcome None bytes o p x y = x ∙ sym y
one_outcome (Some command) bytes o p x y = one_of_command command bytes (nat_lt 67108864 (length bytes)) o p x y
