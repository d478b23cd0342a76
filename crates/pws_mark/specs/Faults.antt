-- What is refused in a document of the grammar: what it is, where it stands, and where what shows it is complete.
-- Which places are told is this project's own rule.
use Rattle.std.specs.Prelude.{ℕ, ◌+◌, Bool, false, not, ◌||◌, nat_le, if◌then◌else◌, List, [], ◌∷◌, ◌++◌, length, Option, Some, None, is_none, encode_utf8, encode_utf8_all}
use Rattle.std.specs.List.{list_any}
use Rattle.pws_tree.specs.Names.{is_value}
use Rattle.pws_tree.specs.declared.texts.Name.{Name}
use Rattle.pws_mark.specs.Documents.{Piece, Attribute, Tag, Content, Nothing, Text, Section, Comment, Hollow, Element, Document, spell_piece, spell_attribute, spell_tag, spell_content, spell_prolog, section_start, section_end, comment_start, comment_end}
use Rattle.pws_mark.specs.Bindings.{Bindings, piece_char, value_of, written_prefix, has_two_colons, declared_prefix, bound_by, outermost, is_bound, element_name, are_twice, is_wrong_declaration}
use Rattle.pws_mark.specs.Values.{Marked, letters}
use Rattle.pws_mark.specs.Meaning.{name_within}
use Rattle.pws_mark.specs.declared.errors.MarkKind.{MarkKind}
use Rattle.pws_mark.specs.declared.errors.MarkKind.TheVariants as kind

pub record Fault : Type 0 where
  pub kind : MarkKind
  pub at : ℕ
  pub end : ℕ

abbrev pub if_wrong : Bool → MarkKind → ℕ → ℕ → List Fault
if_wrong wrong k at end = if wrong then record { kind = k; at = at; end = end } ∷ [] else []

-- a reference to another entity, or to a number that is no XML character, is complete with its semicolon
abbrev pub piece_faults : ℕ → Piece → List Fault
piece_faults at piece = if_wrong (is_none (piece_char piece)) kind.Entity at (at + length (spell_piece piece))

abbrev pub value_faults : ℕ → List Piece → List Fault
value_faults at [] = []
value_faults at (p ∷ ps) = piece_faults at p ++ value_faults (at + length (spell_piece p)) ps

abbrev pub is_wrong_name : Bindings → List ℕ → Bool
is_wrong_name m name = has_two_colons name || not (is_bound m (written_prefix name))

abbrev pub is_wrong_attribute : Bindings → Attribute → Option (List ℕ) → Bool
is_wrong_attribute m a None = is_wrong_name m a.name
is_wrong_attribute m a (Some prefix) = has_two_colons a.name || is_wrong_declaration prefix (value_of a.value)

-- the faults of attributes: those of values at once, and the others once the tag is complete
abbrev pub attributes_faults : Bindings → ℕ → ℕ → List Attribute → List Attribute → List Fault
attributes_faults m end at seen [] = []
attributes_faults m end at seen (a ∷ more) =
    let name_at = at + length (encode_utf8_all a.gap) in
    let value_at = name_at + (length (encode_utf8_all a.name) + (length (encode_utf8_all a.before) + (length (encode_utf8_all a.after) + 2))) in
    if_wrong (is_wrong_attribute m a (declared_prefix a)) kind.Prefix name_at end
    ++ (if_wrong (list_any (are_twice m a) seen) kind.Twice name_at end
    ++ (value_faults value_at a.value
    ++ attributes_faults m end (at + length (spell_attribute a)) (a ∷ seen) more))

-- a start tag of the 65th level, known by the first character of its name
abbrev pub depth_faults : ℕ → ℕ → List ℕ → List Fault
depth_faults level at [] = []
depth_faults level at (c ∷ cs) = if_wrong (nat_le 64 level) kind.Depth at (at + (1 + length (encode_utf8 c)))

-- of a tag whose < is at this place, in so many open elements; its > ends at the place end
abbrev pub tag_faults : Bindings → ℕ → ℕ → ℕ → Tag → List Fault
tag_faults m level at end tag =
    depth_faults level at tag.name
    ++ (if_wrong (is_wrong_name m tag.name) kind.Prefix (at + 1) end
    ++ attributes_faults m end (at + (1 + length (encode_utf8_all tag.name))) [] tag.attributes)

abbrev pub first_place : Marked → ℕ
first_place [] = 0
first_place (c ∷ cs) = c.1

-- the content of a Value has to be one qualified name, whose prefix is bound
abbrev pub content_faults_of : Bindings → ℕ → ℕ → Option Marked → List Fault
content_faults_of m at end None = record { kind = kind.Syntax; at = at; end = end } ∷ []
content_faults_of m at end (Some word) = if_wrong (not (is_bound m (written_prefix (letters word)))) kind.Prefix (first_place word) end

abbrev pub is_value_name : Option Name → Bool
is_value_name None = false
is_value_name (Some n) = is_value n

-- of an element whose start tag is at this place, with its content
abbrev pub element_faults : Bindings → ℕ → ℕ → ℕ → Tag → Content → List Fault
element_faults m at inner_at end tag inner =
    if is_value_name (element_name m tag.name) then content_faults_of m at end (name_within inner_at inner) else []

abbrev pub open_length : Tag → ℕ
open_length tag = 2 + length (spell_tag tag)

abbrev pub close_length : Tag → List ℕ → ℕ
close_length tag gap = 3 + length (encode_utf8_all tag.name ++ encode_utf8_all gap)

-- of content at this place, in so many open elements
abbrev pub faults_in : Bindings → ℕ → ℕ → Content → List Fault
faults_in m level at Nothing = []
faults_in m level at (Text piece rest) = piece_faults at piece ++ faults_in m level (at + length (spell_piece piece)) rest
faults_in m level at (Section chars rest) = faults_in m level (at + length (section_start ++ (encode_utf8_all chars ++ section_end))) rest
faults_in m level at (Comment chars rest) = faults_in m level (at + length (comment_start ++ (encode_utf8_all chars ++ comment_end))) rest
faults_in m level at (Hollow tag rest) =
    let end = at + (open_length tag + 1) in
    tag_faults (bound_by tag m) level at end tag
    ++ (element_faults (bound_by tag m) at end end tag Nothing
    ++ faults_in m level end rest)
faults_in m level at (Element tag inner gap rest) =
    let inner_at = at + open_length tag in
    let end = inner_at + (length (spell_content inner) + close_length tag gap) in
    tag_faults (bound_by tag m) level at inner_at tag
    ++ (faults_in (bound_by tag m) (level + 1) inner_at inner
    ++ (element_faults (bound_by tag m) at inner_at end tag inner
    ++ faults_in m level end rest))

abbrev pub faults : Document → List Fault
faults d = faults_in outermost 0 (length (spell_prolog d)) d.root
