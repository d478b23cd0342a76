-- A text has one answer at most.
use Rattle.std.proofs.Common.{◌≡◌, ℕ, Bool, true, List, Option, Some, None, Result, Ok, Err, refl, ap, sym, ◌∙◌}
use Rattle.pws_mark.specs.Reading.{Reads}
use Rattle.pws_mark.specs.declared.errors.MarkError.{MarkError}
use Rattle.pws_mark.specs.declared.errors.ReadError.TheVariants as read_error
use Rattle.pws_mark.proofs.OneRefusal.{one_refusal}
use Rattle.pws_mark.proofs.TreeOf.{reading_gives_the_tree}
use Rattle.pws_script.specs.declared.faults.ScriptError.{ScriptError}
use Rattle.pws_script.specs.declared.instructions.Instruction.{Instruction}
use Rattle.pws_script.proofs.ScriptLaws.{one_script}
use Rattle.pws_soap.proofs.OneEnvelope.{one_envelope}
use Rattle.pws_tree.specs.Trees.{Tree}
use Rattle.pws_look.specs.Answers.{script_answer, IsReadAs, ScriptAnswers, Answers}
use Rattle.pws_look.specs.Envelopes.{envelope_answer, IsElement, EnvelopeAnswers, soap_answer, SoapAnswers}
use Rattle.pws_look.specs.declared.answers.Answer.{Answer}
use Rattle.pws_look.specs.declared.words.Kind.{Kind}
use Rattle.pws_look.specs.declared.words.Kind.TheVariants as kind

-- ---- elements

never_both : (text : List ℕ) (t : Tree) (e : MarkError) → Reads text (Ok t) → Reads text (Err (read_error.Mark e)) → ⊥
never_both text t e r s =
    let none : ◌≡◌ {A = Option Tree} (Some t) None = sym (reading_gives_the_tree text (Ok t) r) ∙ reading_gives_the_tree text (Err (read_error.Mark e)) s in
    absurd (cc)

one_element : (text : List ℕ) (q r : Result Tree MarkError) → IsElement text q → IsElement text r → q ≡ r
one_element text (Ok t) (Ok u) q r =
    let same : ◌≡◌ {A = Option Tree} (Some t) (Some u) = sym (reading_gives_the_tree text (Ok t) q) ∙ reading_gives_the_tree text (Ok u) r in
    cc
one_element text (Ok t) (Err e) q r = absurd (never_both text t e q r)
one_element text (Err d) (Ok u) q r = absurd (never_both text u d r q)
one_element text (Err d) (Err e) q r = ap Err (one_refusal text d e q r)

one_element_answer : (lines : Bool) (text : List ℕ) (a b : Answer) → EnvelopeAnswers lines text a → EnvelopeAnswers lines text b → a ≡ b
one_element_answer lines text a b x y = x.answer ∙ (ap (envelope_answer lines) (one_element text x.read y.read x.is_read y.is_read) ∙ sym y.answer)

-- ---- envelopes

one_soap_answer : (text : List ℕ) (a b : Answer) → SoapAnswers text a → SoapAnswers text b → a ≡ b
one_soap_answer text a b x y = x.answer ∙ (ap soap_answer (one_envelope text x.read y.read x.told y.told x.is_read y.is_read) ∙ sym y.answer)

-- ---- scripts

one_read : (text : List ℕ) (q r : Result (List Instruction) ScriptError) → IsReadAs text q → IsReadAs text r → q ≡ r
one_read text (Ok a) (Ok b) q r = ap Ok (one_script a b q.lawful r.lawful (q.spelled ∙ sym r.spelled))
one_read text (Ok a) (Err e) q r = absurd (r.unspelled a q.lawful q.spelled)
one_read text (Err d) (Ok b) q r = absurd (q.unspelled b r.lawful r.spelled)
one_read text (Err d) (Err e) q r =
    let same : ◌≡◌ {A = Option ScriptError} (Some d) (Some e) = sym q.first ∙ r.first in
    cc

one_script_answer : (text : List ℕ) (a b : Answer) → ScriptAnswers text a → ScriptAnswers text b → a ≡ b
one_script_answer text a b x y = x.answer ∙ (ap script_answer (one_read text x.read y.read x.is_read y.is_read) ∙ sym y.answer)

-- ---- all kinds

pub one_answer : (lines : Bool) (k : Kind) (text : List ℕ) (a b : Answer) → Answers lines k text a → Answers lines k text b → a ≡ b
one_answer lines kind.Event text a b x y = x ∙ sym y
one_answer lines kind.Packet text a b x y = x ∙ sym y
one_answer lines kind.Envelope text a b x y = one_element_answer lines text a b x y
one_answer lines kind.Soap text a b x y = one_soap_answer text a b x y
one_answer lines kind.Script text a b x y = one_script_answer text a b x y
