-- The answers to texts that are to be elements or envelopes.
use Rattle.std.proofs.Common.{◌≡◌, ℕ, Bool, List, Result, Ok, Err, IfOk, sym, ◌∙◌, ap, subst}
use Rattle.pws_addr.specs.Reading.{addressing_of, Answers}
use Rattle.pws_addr.specs.declared.headers.Addressing.{Addressing}
use Rattle.pws_addr.specs.declared.reading.AddrError.{AddrError}
use Rattle.pws_addr.specs.declared.reading.AddrError.TheVariants as addr_error
use Rattle.pws_base.specs.declared.memory.Memory.{Memory}
use Rattle.pws_mark.specs.Reading.{Reads}
use Rattle.pws_mark.specs.declared.errors.MarkError.{MarkError}
use Rattle.pws_mark.specs.declared.errors.ReadError.{ReadError}
use Rattle.pws_mark.specs.declared.errors.ReadError.TheVariants as read_error
use Rattle.pws_soap.specs.Envelopes.{Enveloped}
use Rattle.pws_soap.specs.Reading.{ReadsEnvelope, IsTold}
use Rattle.pws_soap.specs.declared.errors.SoapError.{SoapError}
use Rattle.pws_tree.specs.Trees.{Tree}
use Rattle.pws_look.specs.Envelopes.{envelope_answer, IsElement, EnvelopeAnswers, addressed_answer, IsWanted, soap_answer, SoapAnswers}
use Rattle.pws_look.specs.declared.answers.Answer.{Answer}

element_answers : (lines : Bool) (text : List ℕ) (r : Result Tree MarkError) (answer : Result Answer Memory) → IsElement text r → IfOk answer (λ a. a ≡ envelope_answer lines r) → IfOk answer (EnvelopeAnswers lines text)
element_answers lines text r (Ok a) read is = record { read = r; is_read = read; answer = is }
element_answers lines text r (Err e) read is = tt

pub read_element_answers : (lines : Bool) (text : List ℕ) (result : Result Tree ReadError) (t : Tree) (answer : Result Answer Memory)
    → Reads text result → result ≡ Ok t → IfOk answer (λ a. a ≡ envelope_answer lines (Ok t)) → IfOk answer (EnvelopeAnswers lines text)
read_element_answers lines text result t answer read e is = element_answers lines text (Ok t) answer (subst (Reads text) e read) is

pub refused_element_answers : (lines : Bool) (text : List ℕ) (result : Result Tree ReadError) (error : MarkError) (answer : Result Answer Memory)
    → Reads text result → result ≡ Err (read_error.Mark error) → IfOk answer (λ a. a ≡ envelope_answer lines (Err error)) → IfOk answer (EnvelopeAnswers lines text)
refused_element_answers lines text result error answer read e is = element_answers lines text (Err error) answer (subst (Reads text) e read) is

soap_answers : (text : List ℕ) (r : Result Enveloped SoapError) (answer : Result Answer Memory) → ReadsEnvelope text r → IfOk answer (λ a. IsTold r) → IfOk answer (λ a. a ≡ soap_answer r) → IfOk answer (SoapAnswers text)
soap_answers text r (Ok a) read told is = record { read = r; is_read = read; told = told; answer = is }
soap_answers text r (Err e) read told is = tt

always_told : (e : Enveloped) (answer : Result Answer Memory) → IfOk answer (λ a. IsTold (Ok e))
always_told e (Ok a) = tt
always_told e (Err m) = tt

pub read_soap_answers : (text : List ℕ) (result : Result Enveloped SoapError) (e : Enveloped) (answer : Result Answer Memory)
    → ReadsEnvelope text result → result ≡ Ok e → IfOk answer (λ a. a ≡ soap_answer (Ok e)) → IfOk answer (SoapAnswers text)
read_soap_answers text result e answer read same is = soap_answers text (Ok e) answer (subst (ReadsEnvelope text) same read) (always_told e answer) is

pub refused_soap_answers : (text : List ℕ) (result : Result Enveloped SoapError) (error : SoapError) (answer : Result Answer Memory)
    → ReadsEnvelope text result → result ≡ Err error → IfOk answer (λ a. a ≡ soap_answer (Err error)) → IfOk answer (λ a. IsTold (Err error)) → IfOk answer (SoapAnswers text)
refused_soap_answers text result error answer read same is told = soap_answers text (Err error) answer (subst (ReadsEnvelope text) same read) told is

-- what is answered for want of memory aside
wanted_is : (wanted : Result Addressing AddrError) (error : AddrError) → IsWanted error → Answers wanted (Err error) → wanted ≡ Err error
wanted_is wanted (addr_error.Cardinality n) h e = e
wanted_is wanted addr_error.Required h e = e
wanted_is wanted (addr_error.Invalid n) h e = e
wanted_is wanted addr_error.Memory h e = absurd h

pub addressed_answers : (e : Enveloped) (result : Result Addressing AddrError) (a : Addressing) (answer : Result Answer Memory)
    → Answers (addressing_of e.headers) result → result ≡ Ok a → IfOk answer (λ x. x ≡ addressed_answer e (Ok a)) → IfOk answer (λ x. x ≡ soap_answer (Ok e))
addressed_answers e result a (Ok x) said same is = is ∙ ap (addressed_answer e) (sym (subst (Answers (addressing_of e.headers)) same said))
addressed_answers e result a (Err m) said same is = tt

pub refused_addressing_answers : (e : Enveloped) (result : Result Addressing AddrError) (error : AddrError) (answer : Result Answer Memory)
    → Answers (addressing_of e.headers) result → result ≡ Err error → IfOk answer (λ x. x ≡ addressed_answer e (Err error)) → IfOk answer (λ x. IsWanted error) → IfOk answer (λ x. x ≡ soap_answer (Ok e))
refused_addressing_answers e result error (Ok x) said same is wanted = is ∙ ap (addressed_answer e) (sym (wanted_is (addressing_of e.headers) error wanted (subst (Answers (addressing_of e.headers)) same said)))
refused_addressing_answers e result error (Err m) said same is wanted = tt
