-- Which envelope a text is: the one that its tree is, or the first cause of refusal.
use Rattle.std.specs.Prelude.{◌≡◌, ℕ, ◌≤◌, List, length, None, Result, Ok, Err, IsTrue}
use Rattle.std.specs.List.{list_all, find}
use Rattle.pws_tree.specs.Lawful.{is_lawful}
use Rattle.pws_tree.specs.Trees.{Tree}
use Rattle.pws_mark.specs.Canonical.{canonical}
use Rattle.pws_mark.specs.Reading.{Reads}
use Rattle.pws_mark.specs.declared.errors.ReadError.TheVariants as read_error
use Rattle.pws_soap.specs.Blocks.{is_well_marked, is_not_understood}
use Rattle.pws_soap.specs.Envelopes.{Enveloped, root_of, envelope_of, Answers}
use Rattle.pws_soap.specs.declared.errors.SoapError.{SoapError}
use Rattle.pws_soap.specs.declared.errors.SoapError.TheVariants as soap_error

-- the text is that of a tree, for which this is answered
abbrev pub ReadsTree : List ℕ → Result Enveloped SoapError → Type 0
ReadsTree text answer = (t : Tree) × (Reads text (Ok t) × Answers (envelope_of t) answer)

-- a text that is no element is refused first; for want of memory there is no rule
abbrev pub ReadsEnvelope : List ℕ → Result Enveloped SoapError → Type 0
ReadsEnvelope text (Err (soap_error.Mark e)) = Reads text (Err (read_error.Mark e))
ReadsEnvelope text (Err soap_error.Memory) = Unit {0}
ReadsEnvelope text answer = ReadsTree text answer

-- the want of memory is no answer
abbrev pub IsTold : Result Enveloped SoapError → Type 0
IsTold (Err soap_error.Memory) = ⊥
IsTold answer = Unit {0}

-- a text is read as one envelope, or refused for one cause
abbrev pub OneEnvelope : Type 0
OneEnvelope = (text : List ℕ) (a b : Result Enveloped SoapError) → IsTold a → IsTold b → ReadsEnvelope text a → ReadsEnvelope text b → a ≡ b

-- and each text is
abbrev pub TextsAreRead : Type 0
TextsAreRead = (text : List ℕ) → (a : Result Enveloped SoapError) × IsTold a × ReadsEnvelope text a

-- reading may answer the envelope that was written
abbrev pub WrittenAreRead : Type 0
WrittenAreRead =
    (e : Enveloped) → IsTrue (is_lawful (root_of e)) → length (canonical (root_of e)) ≤ 32768 → IsTrue (list_all is_well_marked e.headers) → find is_not_understood e.headers ≡ None
    → ReadsEnvelope (canonical (root_of e)) (Ok e)

-- whatever reading this text answers is this envelope, want of memory apart
abbrev pub IsReadAs : List ℕ → Enveloped → Type 0
IsReadAs text e = (answer : Result Enveloped SoapError) → ReadsEnvelope text answer → Answers (Ok e) answer

-- and reading answers nothing else than the envelope that was written
abbrev pub NothingElseIsRead : Type 0
NothingElseIsRead =
    (e : Enveloped) → IsTrue (is_lawful (root_of e)) → length (canonical (root_of e)) ≤ 32768 → IsTrue (list_all is_well_marked e.headers) → find is_not_understood e.headers ≡ None
    → IsReadAs (canonical (root_of e)) e
