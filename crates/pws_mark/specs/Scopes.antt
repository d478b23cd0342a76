-- The open elements, as the reader keeps them: each with the declarations of its own tag. It is here for the proofs
-- alone: no contract of another crate names it.
use Rattle.std.specs.Prelude.{◌≡◌, ℕ, Bool, false, not, ◌&&◌, ◌==◌, length, filter, List, [], ◌∷◌, ◌++◌, fold, if◌then◌else◌, Option, Some, None}
use Rattle.std.specs.List.{filter_map}
use Rattle.std.specs.Str.{bytes_eq}
use Rattle.pws_mark.specs.Bindings.{Bindings, xmlns_word, element_name}
use Rattle.pws_mark.specs.Canonical.{xml_word}
use Rattle.pws_mark.specs.Faults.{is_value_name}
use Rattle.pws_mark.specs.Meaning.{name_of}
use Rattle.pws_mark.specs.Scan.{has_at}
use Rattle.pws_mark.specs.States.{Open, bound_at, with_char, read_declared, read_bound, read_attrs}
use Rattle.pws_mark.specs.Values.{Marked}
use Rattle.pws_mark.specs.declared.modes.ReadAttribute.{ReadAttribute}
use Rattle.pws_mark.specs.declared.modes.ReadTag.{ReadTag}
use Rattle.pws_mark.specs.declared.outer.Begun.{Begun}
use Rattle.pws_mark.specs.declared.scopes.OpenElement.{OpenElement}

abbrev pub opened : List Open → OpenElement → List Open
opened xs x = record { name = x.name; at = x.at; bound = x.scope ++ bound_at xs; word = x.word } ∷ xs

-- the outermost comes first where they are kept
abbrev pub opens_of : List OpenElement → List Open
opens_of items = fold opened [] items

-- what the content of the innermost element is so far
abbrev pub word_at : List Open → Option (Option Marked)
word_at [] = None
word_at (x ∷ xs) = x.word

-- a character of the innermost element is kept, where it is Value
abbrev pub kept : List Open → ℕ → Option ℕ → List Open
kept [] at c = []
kept (x ∷ xs) at c = record { name = x.name; at = x.at; bound = x.bound; word = with_char x.word at c } ∷ xs

-- the innermost element, as it is kept, and what is around it
abbrev pub Pops : List Open → Option OpenElement → List Open → Type 0
Pops old None new = (old ≡ []) × (new ≡ [])
Pops old (Some x) new = old ≡ opened new x

-- the bindings inside of a tag with these declarations
abbrev pub inside_of : Bindings → List Open → Bindings
inside_of scope xs = scope ++ bound_at xs

-- the character at a place of the innermost element's name, and the name's end
abbrev pub name_has : List Open → ℕ → ℕ → Bool
name_has [] n c = false
name_has (x ∷ xs) n c = has_at x.name n c

abbrev pub name_ends : List Open → ℕ → Bool
name_ends [] n = false
name_ends (x ∷ xs) n = n == length x.name

-- what attributes bind
abbrev pub own_bound : List ReadAttribute → Bindings
own_bound attributes = filter (λ b. not (bytes_eq b.0 xml_word) && not (bytes_eq b.0 xmlns_word)) (filter_map read_declared attributes)

-- what a complete tag begins
pub record Begins (b : Begun) (tag : ReadTag) (xs : List Open) : Type 0 where
  pub scope : b.scope ≡ own_bound tag.attributes
  pub name : b.name ≡ name_of (read_bound tag.attributes (bound_at xs)) tag.name
  pub attrs : b.attrs ≡ read_attrs (read_bound tag.attributes (bound_at xs)) tag.attributes
  pub word : b.is_word ≡ is_value_name (element_name (read_bound tag.attributes (bound_at xs)) tag.name)

-- an element as a tag with these declarations opens it
pub record IsOpened (x : OpenElement) (tag : ReadTag) (own : Bindings) (is_word : Bool) : Type 0 where
  pub name : x.name ≡ tag.name
  pub at : x.at ≡ tag.at
  pub scope : x.scope ≡ own
  pub word : x.word ≡ (if is_word then Some (Some []) else None)
