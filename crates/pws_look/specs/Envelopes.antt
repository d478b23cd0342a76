-- What is said of texts of elements and of envelopes; this project's own.
use Rattle.std.specs.Prelude.{◌≡◌, ℕ, suc, Bool, true, false, List, [], ◌++◌, length, codes, decimal, Result, Ok, Err}
use Rattle.hex.specs.Hex.{encode_lower}
use Rattle.pws_addr.specs.Reading.{addressing_of}
use Rattle.pws_addr.specs.declared.headers.Addressing.{Addressing}
use Rattle.pws_addr.specs.declared.reading.AddrError.{AddrError}
use Rattle.pws_addr.specs.declared.reading.AddrError.TheVariants as addr_error
use Rattle.pws_mark.specs.Canonical.{canonical}
use Rattle.pws_mark.specs.Reading.{Reads}
use Rattle.pws_mark.specs.declared.errors.MarkError.{MarkError}
use Rattle.pws_mark.specs.declared.errors.MarkKind.{MarkKind}
use Rattle.pws_mark.specs.declared.errors.MarkKind.TheVariants as kind
use Rattle.pws_mark.specs.declared.errors.ReadError.TheVariants as read_error
use Rattle.pws_soap.specs.Envelopes.{Enveloped}
use Rattle.pws_soap.specs.Reading.{ReadsEnvelope, IsTold}
use Rattle.pws_soap.specs.declared.errors.SoapError.{SoapError}
use Rattle.pws_soap.specs.declared.errors.SoapError.TheVariants as soap_error
use Rattle.pws_tree.specs.Trees.{Tree, Nodes, NoNode, TextThen, QualifiedThen, ElementThen}
use Rattle.pws_tree.specs.declared.texts.Name.{Name}
use Rattle.pws_look.specs.Good.{good, refused}
use Rattle.pws_look.specs.declared.answers.Answer.{Answer}

-- ---- elements

abbrev pub mark_word : MarkKind → List ℕ
mark_word kind.Size = codes "Size"
mark_word kind.Utf8 = codes "Utf8"
mark_word kind.Doctype = codes "Doctype"
mark_word kind.Instruction = codes "Instruction"
mark_word kind.Depth = codes "Depth"
mark_word kind.Prefix = codes "Prefix"
mark_word kind.Twice = codes "Twice"
mark_word kind.Entity = codes "Entity"
mark_word kind.Syntax = codes "Syntax"

abbrev pub mark_words : MarkError → List ℕ
mark_words e = mark_word e.kind ++ codes " at " ++ decimal e.at

-- a text in hexadecimal where each line of the input is one, and else as it is
abbrev pub envelope_line : Bool → List ℕ → List ℕ
envelope_line true text = codes "ok " ++ encode_lower text
envelope_line false text = text

-- the canonical text of the element, or the refusal and its place
abbrev pub envelope_answer : Bool → Result Tree MarkError → Answer
envelope_answer lines (Ok t) = good (envelope_line lines (canonical t))
envelope_answer lines (Err e) = refused (mark_words e)

-- what a text is read as, memory aside
abbrev pub IsElement : List ℕ → Result Tree MarkError → Type 0
IsElement text (Ok t) = Reads text (Ok t)
IsElement text (Err e) = Reads text (Err (read_error.Mark e))

pub record EnvelopeAnswers (lines : Bool) (text : List ℕ) (a : Answer) : Type 0 where
  pub read : Result Tree MarkError
  pub is_read : IsElement text read
  pub answer : a ≡ envelope_answer lines read

-- ---- envelopes

abbrev pub node_count : Nodes → ℕ
node_count NoNode = 0
node_count (TextThen t rest) = suc (node_count rest)
node_count (QualifiedThen n rest) = suc (node_count rest)
node_count (ElementThen n attrs inner rest) = suc (node_count rest)

abbrev pub name_words : Name → List ℕ
name_words n = codes "{" ++ n.space ++ codes "}" ++ n.local

-- how many header blocks, and nodes in the body
unfoldable pub header_words : ℕ → List ℕ
header_words headers = codes "ok headers " ++ decimal headers

unfoldable pub body_words : ℕ → List ℕ
body_words body = codes " body " ++ decimal body

unfoldable pub envelope_sizes : Enveloped → List ℕ
envelope_sizes e = header_words (length e.headers) ++ body_words (node_count e.body)

-- where a message goes, and what it is for, both in hexadecimal
unfoldable pub target_words : List ℕ → List ℕ → List ℕ
target_words to action = codes "to " ++ to ++ codes " action " ++ action

abbrev pub target : Addressing → List ℕ
target a = target_words (encode_lower a.to) (encode_lower a.action)

abbrev pub addressing_refusal : AddrError → List ℕ
addressing_refusal (addr_error.Cardinality n) = codes "Cardinality " ++ name_words n
addressing_refusal addr_error.Required = codes "Required"
addressing_refusal (addr_error.Invalid n) = codes "Invalid " ++ name_words n
addressing_refusal addr_error.Memory = []

-- the want of memory is no refusal
abbrev pub IsWanted : AddrError → Type 0
IsWanted addr_error.Memory = ⊥
IsWanted e = Unit {0}

abbrev pub addressed_answer : Enveloped → Result Addressing AddrError → Answer
addressed_answer e (Ok a) = good (envelope_sizes e ++ codes " " ++ target a)
addressed_answer e (Err x) = refused (envelope_sizes e ++ codes " " ++ addressing_refusal x)

abbrev pub soap_refusal : SoapError → List ℕ
soap_refusal (soap_error.Mark e) = codes "Mark " ++ mark_words e
soap_refusal soap_error.NotEnvelope = codes "NotEnvelope"
soap_refusal soap_error.Version = codes "Version"
soap_refusal soap_error.Order = codes "Order"
soap_refusal (soap_error.MustUnderstand n) = codes "MustUnderstand " ++ name_words n
soap_refusal soap_error.Memory = []

-- an envelope's sizes and addressing, or why its addressing is refused, or why it is none
abbrev pub soap_answer : Result Enveloped SoapError → Answer
soap_answer (Ok e) = addressed_answer e (addressing_of e.headers)
soap_answer (Err x) = refused (soap_refusal x)

pub record SoapAnswers (text : List ℕ) (a : Answer) : Type 0 where
  pub read : Result Enveloped SoapError
  pub is_read : ReadsEnvelope text read
  pub told : IsTold read
  pub answer : a ≡ soap_answer read
