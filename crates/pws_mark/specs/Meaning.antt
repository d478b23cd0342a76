-- The tree that a document stands for.
use Rattle.std.specs.Prelude.{ℕ, Bool, true, false, ◌&&◌, ◌==◌, if◌then◌else◌, List, [], ◌∷◌, ◌++◌, Option, Some, None, unwrap_or, is_none, encode_utf8, encode_utf8_all}
use Rattle.std.specs.List.{filter_map}
use Rattle.std.specs.Option.{option_and_then}
use Rattle.std.specs.Str.{bytes_eq}
use Rattle.std.specs.Ordering.{is_lt}
use Rattle.pws_tree.specs.Names.{name_cmp, is_value}
use Rattle.pws_tree.specs.Trees.{Tree, Nodes, NoNode, TextThen, QualifiedThen, ElementThen}
use Rattle.pws_tree.specs.declared.texts.Name.{Name}
use Rattle.pws_tree.specs.declared.texts.Attr.{Attr}
use Rattle.pws_mark.specs.Documents.{Tag, Attribute, Content, Nothing, Text, Section, Comment, Hollow, Element, Document}
use Rattle.pws_mark.specs.Bindings.{Bindings, piece_char, is_char, value_of, declared_prefix, bound_by, outermost, element_name, attribute_name}
use Rattle.pws_mark.specs.Values.{Marked, marked, first_word, letters, is_one_name}

abbrev pub no_name : Name
no_name = record { space = []; local = [] }

-- an attribute that isn't a declaration
abbrev pub attr_of : Bindings → Attribute → Option Attr
attr_of m a =
    if is_none (declared_prefix a)
    then Some (record { name = unwrap_or (attribute_name m a.name) no_name; value = unwrap_or (value_of a.value) [] })
    else None

-- into the order of the names
abbrev pub insert_attr : Attr → List Attr → List Attr
insert_attr a [] = a ∷ []
insert_attr a (b ∷ more) = if is_lt (name_cmp b.name a.name) then b ∷ insert_attr a more else a ∷ b ∷ more

abbrev pub in_order : List Attr → List Attr
in_order [] = []
in_order (a ∷ more) = insert_attr a (in_order more)

-- the attributes of a tag, where these bindings hold
unfoldable pub attrs_of : Bindings → Tag → List Attr
attrs_of m tag = in_order (filter_map (attr_of m) tag.attributes)

unfoldable pub name_of : Bindings → List ℕ → Name
name_of m name = unwrap_or (element_name m name) no_name

-- section 2.11: CR LF and CR become LF; whether a CR stands before
abbrev pub line_ends : Bool → List ℕ → List ℕ
line_ends after_return [] = []
line_ends after_return (c ∷ cs) =
    if c == 13 then 10 ∷ line_ends true cs
    else if after_return && c == 10 then line_ends false cs
    else c ∷ line_ends false cs

-- neighbouring texts are one, and there is no empty text
abbrev pub joined : List ℕ → Nodes → Nodes
joined t (TextThen u rest) = TextThen (t ++ u) rest
joined t NoNode = TextThen t NoNode
joined t (QualifiedThen n rest) = TextThen t (QualifiedThen n rest)
joined t (ElementThen n attrs inner rest) = TextThen t (ElementThen n attrs inner rest)

unfoldable pub with_text : List ℕ → Nodes → Nodes
with_text t nodes = if bytes_eq t [] then nodes else joined t nodes

abbrev pub char_text : Option ℕ → List ℕ
char_text None = []
char_text (Some c) = encode_utf8 c

-- the name that is the content of a Value, with its place, where it is one name
abbrev pub name_within : ℕ → Content → Option Marked
name_within at content = option_and_then (λ chars. if is_one_name chars then Some (first_word chars) else None) (marked at content)

-- the name that is the content of a Value
unfoldable pub qualified_in : Bindings → Content → Name
qualified_in m content = name_of m (letters (unwrap_or (name_within 0 content) []))

-- what content stands for, where these bindings hold and a CR stands before or not
abbrev pub nodes_in : Bindings → Bool → Content → Nodes
nodes_in m after_return Nothing = NoNode
nodes_in m after_return (Text piece rest) =
    if is_char 13 piece then with_text (10 ∷ []) (nodes_in m true rest)
    else if after_return && is_char 10 piece then nodes_in m false rest
    else with_text (char_text (piece_char piece)) (nodes_in m false rest)
nodes_in m after_return (Section chars rest) = with_text (encode_utf8_all (line_ends false chars)) (nodes_in m false rest)
nodes_in m after_return (Comment chars rest) = nodes_in m false rest
nodes_in m after_return (Hollow tag rest) =
    ElementThen (name_of (bound_by tag m) tag.name) (attrs_of (bound_by tag m) tag) NoNode (nodes_in m false rest)
nodes_in m after_return (Element tag inner gap rest) =
    ElementThen (name_of (bound_by tag m) tag.name) (attrs_of (bound_by tag m) tag)
    (if is_value (name_of (bound_by tag m) tag.name) then QualifiedThen (qualified_in (bound_by tag m) inner) NoNode else nodes_in (bound_by tag m) false inner)
    (nodes_in m false rest)

abbrev pub first_tree : Nodes → Tree
first_tree (ElementThen n attrs inner rest) = record { name = n; attrs = attrs; children = inner }
first_tree _ = record { name = no_name; attrs = []; children = NoNode }

abbrev pub meaning : Document → Tree
meaning d = first_tree (nodes_in outermost false d.root)
