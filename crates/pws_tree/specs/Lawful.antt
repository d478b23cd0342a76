-- Which trees are lawful: those that the text of an envelope can stand for; the depth and the rule of Value are this project's own.
use Rattle.std.specs.Prelude.{ℕ, ◌+◌, max, Bool, true, false, not, ◌&&◌, nat_le, if◌then◌else◌, List, []}
use Rattle.std.specs.List.{list_all}
use Rattle.std.specs.Str.{bytes_eq}
use Rattle.pws_tree.specs.Characters.{is_xml_text}
use Rattle.pws_tree.specs.Names.{is_lawful_name, is_lawful_attr, ascend, is_value}
use Rattle.pws_tree.specs.Trees.{Nodes, NoNode, TextThen, QualifiedThen, ElementThen, Tree}
use Rattle.pws_tree.specs.declared.texts.Name.{Name}
use Rattle.pws_tree.specs.declared.texts.Attr.{Attr}

abbrev pub starts_with_text : Nodes → Bool
starts_with_text NoNode = false
starts_with_text (TextThen t rest) = true
starts_with_text (QualifiedThen n rest) = false
starts_with_text (ElementThen n attrs inner rest) = false

-- whether a qualified name is among these children
abbrev pub has_qualified : Nodes → Bool
has_qualified NoNode = false
has_qualified (TextThen t rest) = has_qualified rest
has_qualified (QualifiedThen n rest) = true
has_qualified (ElementThen n attrs inner rest) = has_qualified rest

abbrev pub is_empty : Nodes → Bool
is_empty NoNode = true
is_empty (TextThen t rest) = false
is_empty (QualifiedThen n rest) = false
is_empty (ElementThen n attrs inner rest) = false

-- whether the only child is a qualified name
abbrev pub is_one_qualified : Nodes → Bool
is_one_qualified NoNode = false
is_one_qualified (TextThen t rest) = false
is_one_qualified (QualifiedThen n rest) = is_empty rest
is_one_qualified (ElementThen n attrs inner rest) = false

-- the content of Value in the envelope namespace is one qualified name, and no other element has one
abbrev pub fits_name : Name → Nodes → Bool
fits_name name children = if is_value name then is_one_qualified children else not (has_qualified children)

-- how many levels of elements there are
abbrev pub levels : Nodes → ℕ
levels NoNode = 0
levels (TextThen t rest) = levels rest
levels (QualifiedThen n rest) = levels rest
levels (ElementThen n attrs inner rest) = max (levels inner + 1) (levels rest)

abbrev pub tree_depth : Tree → ℕ
tree_depth t = levels t.children + 1

-- a text is not empty, and all its characters are XML characters
abbrev pub is_lawful_text : List ℕ → Bool
is_lawful_text t = not (bytes_eq t []) && is_xml_text t

-- no two attributes have one name
abbrev pub is_lawful_tag : Name → List Attr → Nodes → Bool
is_lawful_tag name attrs children = is_lawful_name name && (list_all is_lawful_attr attrs && (ascend attrs && fits_name name children))

-- no two texts stand side by side
abbrev pub are_lawful : Nodes → Bool
are_lawful NoNode = true
are_lawful (TextThen t rest) = is_lawful_text t && (not (starts_with_text rest) && are_lawful rest)
are_lawful (QualifiedThen n rest) = is_lawful_name n && are_lawful rest
are_lawful (ElementThen n attrs inner rest) = (is_lawful_tag n attrs inner && are_lawful inner) && are_lawful rest

abbrev pub is_lawful : Tree → Bool
is_lawful t = (is_lawful_tag t.name t.attrs t.children && are_lawful t.children) && nat_le (tree_depth t) 64
