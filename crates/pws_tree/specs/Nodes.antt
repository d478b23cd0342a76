-- The children of an element, as they stand in its vector.
use Rattle.std.specs.Prelude.{ℕ, ◌+◌, List, [], ◌∷◌, length}
use Rattle.pws_tree.specs.Trees.{Tree, Nodes, NoNode, TextThen, QualifiedThen, ElementThen, marks}
use Rattle.pws_tree.specs.declared.trees.Node.{Node}
use Rattle.pws_tree.specs.declared.trees.Node.TheVariants as node

-- a node, and then others
abbrev pub node_then : Node → Nodes → Nodes
node_then (node.Element e) rest = ElementThen e.name e.attrs e.children rest
node_then (node.Text t) rest = TextThen t rest
node_then (node.Qualified n) rest = QualifiedThen n rest

abbrev pub nodes_of : List Node → Nodes
nodes_of [] = NoNode
nodes_of (n ∷ rest) = node_then n (nodes_of rest)

-- a tree is larger than its children
abbrev pub tree_size : Tree → ℕ
tree_size t = length (marks t.children) + 1
