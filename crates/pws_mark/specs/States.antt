-- What a reader that takes one character after another knows. It is here for the proofs: of other crates' contracts it
-- stands behind `tree_of` alone (`TreeOf`), where a law says what that means without it.
use Rattle.std.specs.Prelude.{ℕ, Bool, true, false, not, ◌&&◌, if◌then◌else◌, List, [], ◌∷◌, ◌++◌, filter, option_map, Option, Some, None, unwrap_or, is_none}
use Rattle.std.specs.List.{filter_map}
use Rattle.std.specs.Option.{option_and_then}
use Rattle.std.specs.Str.{bytes_eq}
use Rattle.pws_tree.specs.declared.texts.Attr.{Attr}
use Rattle.pws_mark.specs.Bindings.{Bindings, xmlns_word, outermost, has_colon, written_prefix, written_local, element_name, attribute_name}
use Rattle.pws_mark.specs.Canonical.{xml_word}
use Rattle.pws_mark.specs.Faults.{is_value_name}
use Rattle.pws_mark.specs.Meaning.{no_name, name_of}
use Rattle.pws_mark.specs.Values.{Marked, first_word, letters, is_one_name}
use Rattle.pws_mark.specs.declared.modes.Mode.{Mode}
use Rattle.pws_mark.specs.declared.modes.Event.{Event}
use Rattle.pws_mark.specs.declared.modes.Event.TheVariants as event
use Rattle.pws_mark.specs.declared.modes.ReadAttribute.{ReadAttribute}
use Rattle.pws_mark.specs.declared.modes.ReadTag.{ReadTag}

-- An open element: its name as written, the place of its <, the bindings inside of it, and what its content is so far:
-- nothing where it isn't Value; else its characters with their places, or nothing where it can't be a name any more.
pub record Open : Type 0 where
  pub name : List ℕ
  pub at : ℕ
  pub bound : Bindings
  pub word : Option (Option Marked)

-- the open elements, the innermost first; whether the root is closed; what was read, and the text behind it
pub record Outer : Type 0 where
  pub opens : List Open
  pub behind : Bool
  pub events : List Event
  pub text : List ℕ

pub record State : Type 0 where
  pub at : ℕ
  pub mode : Mode
  pub outer : Outer

abbrev pub bound_at : List Open → Bindings
bound_at [] = outermost
bound_at (x ∷ xs) = x.bound

-- the prefix that an attribute of this name declares
abbrev pub prefix_declared : List ℕ → Option (List ℕ)
prefix_declared name =
    if bytes_eq name xmlns_word then Some []
    else if has_colon name && bytes_eq (written_prefix name) xmlns_word then Some (written_local name)
    else None

abbrev pub read_declared : ReadAttribute → Option (List ℕ × Option (List ℕ))
read_declared a = option_map (λ prefix. (prefix, a.value)) (prefix_declared a.name)

-- what attributes bind, and then what was bound before
unfoldable pub read_bound : List ReadAttribute → Bindings → Bindings
read_bound attributes m = filter (λ b. not (bytes_eq b.0 xml_word) && not (bytes_eq b.0 xmlns_word)) (filter_map read_declared attributes) ++ m

abbrev pub read_attr : Bindings → ReadAttribute → Option Attr
read_attr m a =
    if is_none (prefix_declared a.name)
    then Some (record { name = unwrap_or (attribute_name m a.name) no_name; value = unwrap_or a.value [] })
    else None

-- in the order of the text
unfoldable pub read_attrs : Bindings → List ReadAttribute → List Attr
read_attrs m attributes = filter_map (read_attr m) attributes

-- the events with the text behind them
abbrev pub flushed : List Event → List ℕ → List Event
flushed events [] = events
flushed events (b ∷ bs) = events ++ event.Text (b ∷ bs) ∷ []

-- an element is no part of a name
abbrev pub spoiled : List Open → List Open
spoiled [] = []
spoiled (x ∷ xs) = record { name = x.name; at = x.at; bound = x.bound; word = option_map (λ w. None) x.word } ∷ xs

abbrev pub is_empty : List Open → Bool
is_empty [] = true
is_empty (x ∷ xs) = false

-- what the content of Value may become
abbrev pub word_in : Bindings → List ℕ → Option (Option Marked)
word_in m name = if is_value_name (element_name m name) then Some (Some []) else None

-- a start tag is complete
unfoldable pub started : Outer → ReadTag → Outer
started o tag =
    let m = read_bound tag.attributes (bound_at o.opens) in
    record {
      opens = record { name = tag.name; at = tag.at; bound = m; word = word_in m tag.name } ∷ spoiled o.opens;
      behind = o.behind;
      events = flushed o.events o.text ++ event.Open (name_of m tag.name) (read_attrs m tag.attributes) ∷ [];
      text = [];
    }

-- an empty tag is complete
unfoldable pub hollowed : Outer → ReadTag → Outer
hollowed o tag =
    let m = read_bound tag.attributes (bound_at o.opens) in
    record {
      opens = spoiled o.opens;
      behind = is_empty o.opens;
      events = flushed o.events o.text ++ event.Open (name_of m tag.name) (read_attrs m tag.attributes) ∷ event.Close ∷ [];
      text = [];
    }

-- the one name among these characters
abbrev pub word_of : Option Marked → Option Marked
word_of w = option_and_then (λ chars. if is_one_name chars then Some (first_word chars) else None) w

-- the name that the content of Value is
abbrev pub qualified_event : Bindings → Option (Option Marked) → List Event
qualified_event m None = []
qualified_event m (Some w) = event.Qualified (name_of m (letters (unwrap_or (word_of w) []))) ∷ []

-- an end tag is complete
unfoldable pub ended : Open → List Open → List Event → List ℕ → Outer
ended x xs events text = record {
  opens = xs;
  behind = is_empty xs;
  events = flushed events text ++ (qualified_event x.bound x.word ++ event.Close ∷ []);
  text = [];
}

-- a character of content, at its place: those of Value are kept, and the others are text, as these bytes
abbrev pub with_char : Option (Option Marked) → ℕ → Option ℕ → Option (Option Marked)
with_char (Some (Some chars)) at (Some c) = Some (Some (chars ++ (c, at) ∷ []))
with_char (Some w) at c = Some None
with_char None at c = None

abbrev pub text_after : Option (Option Marked) → List ℕ → List ℕ → List ℕ
text_after None text bytes = text ++ bytes
text_after (Some w) text bytes = text

abbrev pub taken_in : List Open → Bool → List Event → List ℕ → ℕ → Option ℕ → List ℕ → Outer
taken_in [] behind events text at c bytes = record { opens = []; behind = behind; events = events; text = text }
taken_in (x ∷ xs) behind events text at c bytes = record {
  opens = record { name = x.name; at = x.at; bound = x.bound; word = with_char x.word at c } ∷ xs;
  behind = behind;
  events = events;
  text = text_after x.word text bytes;
}

unfoldable pub taken : Outer → ℕ → Option ℕ → List ℕ → Outer
taken o at c bytes = taken_in o.opens o.behind o.events o.text at c bytes
