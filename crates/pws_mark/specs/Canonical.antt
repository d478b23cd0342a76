-- The canonical text of a tree; it is this project's own.
use Rattle.std.specs.Prelude.{ℕ, Bool, not, ◌&&◌, ◌==◌, if◌then◌else◌, List, [], ◌∷◌, ◌++◌, map, fold, position, unwrap_or, codes}
use Rattle.std.specs.List.{flat_map, list_any, enumerate_from}
use Rattle.std.specs.Fmt.{decimal}
use Rattle.std.specs.Str.{bytes_eq}
use Rattle.pws_tree.specs.Trees.{Tree, Nodes, NoNode, TextThen, QualifiedThen, ElementThen}
use Rattle.pws_tree.specs.declared.texts.Name.{Name}
use Rattle.pws_tree.specs.declared.texts.Attr.{Attr}

-- the namespace to which the prefix xml is bound (Namespaces in XML 1.0, section 3)
unfoldable pub xml_space : List ℕ
xml_space = codes "http://www.w3.org/XML/1998/namespace"

unfoldable pub xml_word : List ℕ
xml_word = codes "xml"

-- the namespaces of an element's name, of its attributes, and then of its children, in the order of the text
abbrev pub tag_uses : Name → List Attr → List (List ℕ)
tag_uses name attrs = name.space ∷ map (λ a. a.name.space) attrs

abbrev pub uses : Nodes → List (List ℕ)
uses NoNode = []
uses (TextThen t rest) = uses rest
uses (QualifiedThen n rest) = n.space ∷ uses rest
uses (ElementThen n attrs inner rest) = tag_uses n attrs ++ (uses inner ++ uses rest)

abbrev pub tree_uses : Tree → List (List ℕ)
tree_uses t = tag_uses t.name t.attrs ++ uses t.children

-- names in no namespace have no prefix, and those of xml have their own
abbrev pub needs_prefix : List ℕ → Bool
needs_prefix space = not (bytes_eq space []) && not (bytes_eq space xml_space)

-- a namespace is noted where it is used first
abbrev pub with_space : List (List ℕ) → List ℕ → List (List ℕ)
with_space spaces space = if needs_prefix space && not (list_any (bytes_eq space) spaces) then spaces ++ space ∷ [] else spaces

abbrev pub spaces_of : Tree → List (List ℕ)
spaces_of t = fold with_space [] (tree_uses t)

-- the prefixes are n0, n1 and so on, in order of first use
abbrev pub prefix_text : List (List ℕ) → List ℕ → List ℕ
prefix_text spaces space = if bytes_eq space xml_space then xml_word else 110 ∷ decimal (unwrap_or (position (bytes_eq space) spaces) 0)

abbrev pub name_text : List (List ℕ) → Name → List ℕ
name_text spaces n = if bytes_eq n.space [] then n.local else prefix_text spaces n.space ++ 58 ∷ n.local

-- how a byte is written in a text: & < > and CR by reference
unfoldable pub text_byte : ℕ → List ℕ
text_byte b =
    if b == 38 then codes "&amp;"
    else if b == 60 then codes "&lt;"
    else if b == 62 then codes "&gt;"
    else if b == 13 then codes "&#13;"
    else b ∷ []

-- and in a value: & < " tab LF and CR by reference
unfoldable pub value_byte : ℕ → List ℕ
value_byte b =
    if b == 38 then codes "&amp;"
    else if b == 60 then codes "&lt;"
    else if b == 34 then codes "&quot;"
    else if b == 9 then codes "&#9;"
    else if b == 10 then codes "&#10;"
    else if b == 13 then codes "&#13;"
    else b ∷ []

-- = and a value in double quotes
abbrev pub value_text : List ℕ → List ℕ
value_text value = 61 ∷ 34 ∷ (flat_map value_byte value ++ 34 ∷ [])

abbrev pub attr_text : List (List ℕ) → Attr → List ℕ
attr_text spaces a = 32 ∷ (name_text spaces a.name ++ value_text a.value)

unfoldable pub declaration_word : List ℕ
declaration_word = codes " xmlns:n"

-- the declaration of the namespace at this place of the list
abbrev pub declaration_text : ℕ × List ℕ → List ℕ
declaration_text d = declaration_word ++ (decimal d.0 ++ value_text d.1)

-- a start tag; the root's has all declarations before its attributes
abbrev pub start_text : List (List ℕ) → List ℕ → Name → List Attr → List ℕ
start_text spaces declarations name attrs = 60 ∷ (name_text spaces name ++ (declarations ++ (flat_map (attr_text spaces) attrs ++ 62 ∷ [])))

abbrev pub end_text : List (List ℕ) → Name → List ℕ
end_text spaces name = 60 ∷ 47 ∷ (name_text spaces name ++ 62 ∷ [])

abbrev pub nodes_text : List (List ℕ) → Nodes → List ℕ
nodes_text spaces NoNode = []
nodes_text spaces (TextThen t rest) = flat_map text_byte t ++ nodes_text spaces rest
nodes_text spaces (QualifiedThen n rest) = name_text spaces n ++ nodes_text spaces rest
nodes_text spaces (ElementThen n attrs inner rest) = start_text spaces [] n attrs ++ (nodes_text spaces inner ++ (end_text spaces n ++ nodes_text spaces rest))

abbrev pub declarations_text : List (List ℕ) → List ℕ
declarations_text spaces = flat_map declaration_text (enumerate_from 0 spaces)

abbrev pub canonical : Tree → List ℕ
canonical t =
    let spaces = spaces_of t in
    start_text spaces (declarations_text spaces) t.name t.attrs ++ (nodes_text spaces t.children ++ end_text spaces t.name)
