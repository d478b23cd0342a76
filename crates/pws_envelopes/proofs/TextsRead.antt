-- What was read of a text is what the text says.
use Rattle.std.proofs.Common.{◌≡◌, ℕ, List, Option, Some, None, refl, ap, sym, ◌∙◌}
use Rattle.std.specs.Prelude.{Result, Ok, Err}
use Rattle.std.specs.Result.{result_ok}
use Rattle.pws_tree.specs.Trees.{Tree}
use Rattle.pws_mark.specs.TreeOf.{tree_of, ReadingGivesTheTree}
use Rattle.pws_mark.specs.Reading.{Reads}
use Rattle.pws_mark.specs.declared.errors.MarkError.{MarkError}
use Rattle.pws_mark.specs.declared.errors.ReadError.TheVariants as read_error
use Rattle.pws_soap.specs.Envelopes.{Enveloped, envelope_of}
use Rattle.pws_soap.specs.Reading.{ReadsEnvelope}
use Rattle.pws_soap.specs.declared.errors.SoapError.{SoapError}
use Rattle.pws_soap.specs.declared.errors.SoapError.TheVariants as soap_error
use Rattle.pws_addr.specs.Causes.{refusal_of, addressing_in}
use Rattle.pws_addr.specs.Requests.{IsRequest}
use Rattle.pws_addr.specs.declared.causes.Cause.{Cause}
use Rattle.pws_addr.specs.declared.causes.Request.{Request}
use Rattle.pws_addr.specs.declared.causes.Request.TheVariants as request
use Rattle.pws_addr.specs.declared.headers.Addressing.{Addressing}
use Rattle.pws_envelopes.specs.SoapWords.{envelope_in, addressing_by, cause_by, envelope_at, addressing_at, cause_at, IsRequestAt}

-- ---- the tree

record TreeIs (text : List ℕ) (answer : Result Enveloped SoapError) : Type 0 where
  pub tree : Tree
  pub is : tree_of text ≡ Some tree
  pub answers : envelope_of tree ≡ answer

read_tree : ReadingGivesTheTree → (text : List ℕ) (t : Tree) → Reads text (Ok t) → tree_of text ≡ Some t
read_tree law text t h = law text (Ok t) h

no_tree : ReadingGivesTheTree → (text : List ℕ) (e : MarkError) → Reads text (Err (read_error.Mark e)) → tree_of text ≡ None
no_tree law text e h = law text (Err (read_error.Mark e)) h

-- ---- an envelope

by_tree : (text : List ℕ) (answer : Result Enveloped SoapError) → TreeIs text answer → envelope_at text ≡ result_ok answer
by_tree text answer t = ap envelope_in t.is ∙ ap result_ok t.answers

tree_is : ReadingGivesTheTree → (text : List ℕ) (answer : Result Enveloped SoapError) (t : Tree) → Reads text (Ok t) → envelope_of t ≡ answer → TreeIs text answer
tree_is law text answer t h g = record { tree = t; is = read_tree law text t h; answers = g }

pub read_one : ReadingGivesTheTree → (text : List ℕ) (e : Enveloped) → ReadsEnvelope text (Ok e) → Some e ≡ envelope_at text
read_one law text e h = sym (by_tree text (Ok e) (tree_is law text (Ok e) h.0 h.1.0 h.1.1))

pub read_none : ReadingGivesTheTree → (text : List ℕ) (e : SoapError) → ReadsEnvelope text (Err e) → (e ≡ soap_error.Memory → ⊥) → None ≡ envelope_at text
read_none law text (soap_error.Mark e) h n = sym (ap envelope_in (no_tree law text e h))
read_none law text soap_error.NotEnvelope h n = sym (by_tree text (Err soap_error.NotEnvelope) (tree_is law text (Err soap_error.NotEnvelope) h.0 h.1.0 h.1.1))
read_none law text soap_error.Version h n = sym (by_tree text (Err soap_error.Version) (tree_is law text (Err soap_error.Version) h.0 h.1.0 h.1.1))
read_none law text soap_error.Order h n = sym (by_tree text (Err soap_error.Order) (tree_is law text (Err soap_error.Order) h.0 h.1.0 h.1.1))
read_none law text (soap_error.MustUnderstand b) h n = sym (by_tree text (Err (soap_error.MustUnderstand b)) (tree_is law text (Err (soap_error.MustUnderstand b)) h.0 h.1.0 h.1.1))
read_none law text soap_error.Memory h n = absurd (n refl)

-- ---- a request

said : (text : List ℕ) (read : Result Enveloped SoapError) (r : Request) → addressing_at text ≡ addressing_in read → cause_at text ≡ refusal_of read → IsRequest read r → IsRequestAt text r
said text read (request.Readable a) h g i = (h ∙ i.0, g ∙ i.1)
said text read (request.Refused c) h g i = (h ∙ i.0, g ∙ i.1)

said_by_tree : (text : List ℕ) (read : Result Enveloped SoapError) (r : Request) → TreeIs text read → IsRequest read r → IsRequestAt text r
said_by_tree text read r t i = said text read r (ap addressing_by t.is ∙ ap addressing_in t.answers) (ap cause_by t.is ∙ ap refusal_of t.answers) i

without_memory : (text : List ℕ) (r : Request) → IsRequest (Err soap_error.Memory) r → IsRequestAt text r
without_memory text (request.Readable a) i = let e : ◌≡◌ {A = Option Addressing} None (Some a) = i.0 in absurd (cc)
without_memory text (request.Refused c) i = let e : ◌≡◌ {A = Option Cause} None (Some c) = i.1 in absurd (cc)

pub request_read : ReadingGivesTheTree → (text : List ℕ) (read : Result Enveloped SoapError) (r : Request) → ReadsEnvelope text read → IsRequest read r → IsRequestAt text r
request_read law text (Ok e) r h i = said_by_tree text (Ok e) r (tree_is law text (Ok e) h.0 h.1.0 h.1.1) i
request_read law text (Err (soap_error.Mark e)) r h i = said text (Err (soap_error.Mark e)) r (ap addressing_by (no_tree law text e h)) (ap cause_by (no_tree law text e h)) i
request_read law text (Err soap_error.NotEnvelope) r h i = said_by_tree text (Err soap_error.NotEnvelope) r (tree_is law text (Err soap_error.NotEnvelope) h.0 h.1.0 h.1.1) i
request_read law text (Err soap_error.Version) r h i = said_by_tree text (Err soap_error.Version) r (tree_is law text (Err soap_error.Version) h.0 h.1.0 h.1.1) i
request_read law text (Err soap_error.Order) r h i = said_by_tree text (Err soap_error.Order) r (tree_is law text (Err soap_error.Order) h.0 h.1.0 h.1.1) i
request_read law text (Err (soap_error.MustUnderstand b)) r h i = said_by_tree text (Err (soap_error.MustUnderstand b)) r (tree_is law text (Err (soap_error.MustUnderstand b)) h.0 h.1.0 h.1.1) i
request_read law text (Err soap_error.Memory) r h i = without_memory text r i
