-- What refuses a text; the order of the refusals and their places are this project's own rule.
use Rattle.std.specs.Prelude.{◌≡◌, ◌⊎◌, ℕ, ◌<◌, ◌≤◌, false, List, length, take, Contains, IsTrue, codes}
use Rattle.pws_mark.specs.Documents.{Document, spell_head, spell_prolog}
use Rattle.pws_mark.specs.Beginnings.{IsText, Completes, IsLongest}
use Rattle.pws_mark.specs.Faults.{Fault, faults}
use Rattle.pws_mark.specs.Places.{is_inside, is_at, is_declared}
use Rattle.pws_mark.specs.declared.errors.MarkKind.{MarkKind}
use Rattle.pws_mark.specs.declared.errors.MarkKind.TheVariants as kind
use Rattle.pws_mark.specs.declared.errors.MarkError.{MarkError}

-- a refusal of a document that begins as the text does, complete within the longest such front
pub record HasFault (bytes : List ℕ) (k : MarkKind) (at : ℕ) : Type 0 where
  pub size : ℕ
  pub longest : IsLongest bytes size
  pub document : Document
  pub completes : Completes document (take size bytes)
  pub fault : Fault
  pub among : Contains (faults document) fault
  pub kind_is : fault.kind ≡ k
  pub at_is : fault.at ≡ at
  pub complete : fault.end ≤ size

-- a document type in the prolog, behind a declaration and outside of comments
pub record HasDoctype (bytes : List ℕ) (at : ℕ) : Type 0 where
  pub document : Document
  pub completes : Completes document (take at bytes)
  pub stands : IsTrue (is_at bytes at (codes "<!DOCTYPE"))
  pub behind : length (spell_head document) ≤ at
  pub before : at ≤ length (spell_prolog document)
  pub outside : is_inside document at ≡ false

-- a processing instruction outside of comments and CDATA sections
pub record HasInstruction (bytes : List ℕ) (at : ℕ) : Type 0 where
  pub document : Document
  pub completes : Completes document (take at bytes)
  pub stands : IsTrue (is_at bytes at (codes "<?"))
  pub undeclared : is_declared bytes at ≡ false
  pub outside : is_inside document at ≡ false

-- what refuses a text of UTF-8, by its kind and its place; a text that isn't in the grammar ceases to fit it at a place
abbrev pub IsCause : List ℕ → MarkKind → ℕ → Type 0
IsCause bytes kind.Size at = ⊥
IsCause bytes kind.Utf8 at = ⊥
IsCause bytes kind.Doctype at = HasDoctype bytes at
IsCause bytes kind.Instruction at = HasInstruction bytes at
IsCause bytes kind.Depth at = HasFault bytes kind.Depth at
IsCause bytes kind.Prefix at = HasFault bytes kind.Prefix at
IsCause bytes kind.Twice at = HasFault bytes kind.Twice at
IsCause bytes kind.Entity at = HasFault bytes kind.Entity at
IsCause bytes kind.Syntax at = HasFault bytes kind.Syntax at ⊎ ((¬ (IsText bytes)) × IsLongest bytes at)

-- of two refusals at one place the first of this order is answered
abbrev pub rank : MarkKind → ℕ
rank kind.Size = 0
rank kind.Utf8 = 1
rank kind.Doctype = 2
rank kind.Instruction = 3
rank kind.Depth = 4
rank kind.Prefix = 5
rank kind.Twice = 6
rank kind.Entity = 7
rank kind.Syntax = 8

-- the refusal with the least place, and of these the first
pub record IsLeastCause (bytes : List ℕ) (e : MarkError) : Type 0 where
  pub cause : IsCause bytes e.kind e.at
  pub least : (k : MarkKind) (at : ℕ) → IsCause bytes k at → (e.at < at) ⊎ ((e.at ≡ at) × (rank e.kind ≤ rank k))
