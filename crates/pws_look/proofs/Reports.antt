-- Answers to the lines of an input, one after another.
use Rattle.std.proofs.Common.{◌≡◌, ℕ, Bool, true, false, List, [], ◌∷◌, ◌++◌, refl, sym, ◌∙◌, ap, subst, append-nil, append_assoc}
use Rattle.std.specs.Prelude.{◌&&◌, flat_map}
use Rattle.std.specs.List.{AllZip, list_all}
use Rattle.pws_script.specs.Lines.{TextLine, lines_of}
use Rattle.pws_look.specs.Looks.{LineAnswers, line_of, report_of, with_answer, ReportsLines}
use Rattle.pws_look.specs.declared.answers.Answer.{Answer}
use Rattle.pws_look.specs.declared.lines.Report.{Report}
use Rattle.pws_look.specs.declared.words.Kind.{Kind}

abbrev pub AreAnswered : Kind → List TextLine → List Answer → Type 0
AreAnswered k lines answers = AllZip (λ (l : TextLine) (a : Answer). LineAnswers k l.bytes a) lines answers

-- so far these answers were given, and those to the lines that are left complete them
pub record AnsweredSoFar (k : Kind) (all left : List TextLine) (r : Report) : Type 0 where
  pub answers : List Answer
  pub report : r ≡ report_of answers
  pub more : (rest : List Answer) → AreAnswered k left rest → AreAnswered k all (answers ++ rest)

flat_map_more : (answers : List Answer) (a : Answer) → flat_map line_of (answers ++ a ∷ []) ≡ flat_map line_of answers ++ line_of a
flat_map_more [] a = append-nil (line_of a)
flat_map_more (x ∷ xs) a = ap (λ t. line_of x ++ t) (flat_map_more xs a) ∙ sym (append_assoc (line_of x) (flat_map line_of xs) (line_of a))

and_true : (b : Bool) → (b && true) ≡ b
and_true true = refl
and_true false = refl

and_and : (a b c : Bool) → (a && (b && c)) ≡ ((a && b) && c)
and_and true b c = refl
and_and false b c = refl

all_more : (answers : List Answer) (a : Answer) → list_all (λ (x : Answer). x.good) (answers ++ a ∷ []) ≡ (list_all (λ (x : Answer). x.good) answers && a.good)
all_more [] a = and_true a.good
all_more (x ∷ xs) a = ap (λ b. x.good && b) (all_more xs a) ∙ and_and x.good (list_all (λ (y : Answer). y.good) xs) a.good

reported_more : (answers : List Answer) (a : Answer) → with_answer (report_of answers) a ≡ report_of (answers ++ a ∷ [])
reported_more answers a =
    ap (λ t. let r : Report = record { text = t; good = list_all (λ (x : Answer). x.good) answers && a.good } in r) (sym (flat_map_more answers a))
    ∙ ap (λ g. let r : Report = record { text = flat_map line_of (answers ++ a ∷ []); good = g } in r) (sym (all_more answers a))

pub begun : (k : Kind) (all : List TextLine) (r : Report) → r ≡ report_of [] → AnsweredSoFar k all all r
begun k all r is = record { answers = []; report = is; more = λ rest h. h }

pub one_more : (k : Kind) (all left : List TextLine) (line : TextLine) (next : List TextLine) (r s : Report) (a : Answer)
    → AnsweredSoFar k all left r → left ≡ line ∷ next → LineAnswers k line.bytes a → s ≡ with_answer r a → AnsweredSoFar k all next s
one_more k all left line next r s a so is answer added = record {
  answers = so.answers ++ a ∷ [];
  report = added ∙ (ap (λ q. with_answer q a) so.report ∙ reported_more so.answers a);
  more = λ rest h. subst (AreAnswered k all) (sym (append_assoc so.answers (a ∷ []) rest)) (so.more (a ∷ rest) (subst (λ ls. AreAnswered k ls (a ∷ rest)) (sym is) (answer, h)));
}

pub ended : (k : Kind) (input : List ℕ) (left : List TextLine) (r : Report) → AnsweredSoFar k (lines_of input) left r → left ≡ [] → ReportsLines k input r
ended k input left r so is = record {
  answers = so.answers;
  each = subst (AreAnswered k (lines_of input)) (append-nil so.answers) (so.more [] (subst (λ ls. AreAnswered k ls []) (sym is) tt));
  report = so.report;
}
