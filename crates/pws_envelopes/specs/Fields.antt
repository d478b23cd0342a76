-- The texts of a message: this project's own rules. A name counts by its local part.
use Rattle.std.specs.Prelude.{ℕ, if◌then◌else◌, List, [], ◌++◌, Option, Some, None, option_and_then}
use Rattle.std.specs.Option.{option_map_or}
use Rattle.std.specs.Str.{bytes_eq}
use Rattle.pws_tree.specs.Trees.{Tree, Nodes, NoNode, TextThen, QualifiedThen, ElementThen}

-- all texts among children and within them, in order; a qualified name counts as its local part
abbrev pub texts_within : Nodes → List ℕ
texts_within NoNode = []
texts_within (TextThen t rest) = t ++ texts_within rest
texts_within (QualifiedThen n rest) = n.local ++ texts_within rest
texts_within (ElementThen n attrs inner rest) = texts_within inner ++ texts_within rest

-- the first element among children; texts are passed over
abbrev pub first_element : Nodes → Option Tree
first_element NoNode = None
first_element (TextThen t rest) = first_element rest
first_element (QualifiedThen n rest) = first_element rest
first_element (ElementThen n attrs inner rest) = Some (record { name = n; attrs = attrs; children = inner })

-- the first element of this local name among children
abbrev pub first_named : List ℕ → Nodes → Option Tree
first_named name NoNode = None
first_named name (TextThen t rest) = first_named name rest
first_named name (QualifiedThen n rest) = first_named name rest
first_named name (ElementThen n attrs inner rest) = if bytes_eq n.local name then Some (record { name = n; attrs = attrs; children = inner }) else first_named name rest

-- the texts within the first child of this name of the first element of a body, nothing without one
abbrev pub field_of : Nodes → List ℕ → List ℕ
field_of body name = option_map_or (λ t. texts_within t.children) (option_and_then (λ t. first_named name t.children) (first_element body)) []
