-- What is said of a whole input; this project's own.
use Rattle.std.specs.Prelude.{◌≡◌, ℕ, Bool, true, false, ◌&&◌, List, [], ◌∷◌, ◌++◌, flat_map, codes, Option, Some, None}
use Rattle.std.specs.List.{list_all, AllZip}
use Rattle.pws_sched.specs.Hexadecimal.{lower_hex}
use Rattle.pws_script.specs.Lines.{TextLine, lines_of}
use Rattle.pws_look.specs.Answers.{Answers}
use Rattle.pws_look.specs.Good.{refused}
use Rattle.pws_look.specs.declared.answers.Answer.{Answer}
use Rattle.pws_look.specs.declared.lines.Report.{Report}
use Rattle.pws_look.specs.declared.words.Kind.{Kind}
use Rattle.pws_look.specs.declared.words.Command.{Command}

abbrev pub not_hexadecimal : Answer
not_hexadecimal = refused (codes "not hexadecimal")

abbrev pub TextAnswers : Kind → Option (List ℕ) → Answer → Type 0
TextAnswers k None a = a ≡ not_hexadecimal
TextAnswers k (Some text) a = Answers true k text a

-- the answer to a line, which is to be a text in lower-case hexadecimal
abbrev pub LineAnswers : Kind → List ℕ → Answer → Type 0
LineAnswers k line a = TextAnswers k (lower_hex line) a

abbrev pub line_of : Answer → List ℕ
line_of a = a.line ++ codes "\n"

-- a line an answer, in order, and whether all texts were good
abbrev pub report_of : List Answer → Report
report_of answers = record { text = flat_map line_of answers; good = list_all (λ a. a.good) answers }

abbrev pub with_answer : Report → Answer → Report
with_answer r a = record { text = r.text ++ line_of a; good = r.good && a.good }

-- the report on an input of which each line is a text
pub record ReportsLines (k : Kind) (input : List ℕ) (r : Report) : Type 0 where
  pub answers : List Answer
  pub each : AllZip (λ (l : TextLine) a. LineAnswers k l.bytes a) (lines_of input) answers
  pub report : r ≡ report_of answers

-- the report on an input that is one text
pub record ReportsWhole (k : Kind) (input : List ℕ) (r : Report) : Type 0 where
  pub answer : Answer
  pub answers : Answers false k input answer
  pub report : r ≡ report_of (answer ∷ [])

abbrev pub ReportsBy : Bool → Kind → List ℕ → Report → Type 0
ReportsBy true k input r = ReportsLines k input r
ReportsBy false k input r = ReportsWhole k input r

-- the report on an input by a command
abbrev pub Reports : Command → List ℕ → Report → Type 0
Reports c input r = ReportsBy c.lines c.kind input r
