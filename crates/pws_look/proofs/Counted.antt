-- How many nodes there are.
use Rattle.std.proofs.Common.{◌≡◌, ℕ, suc, List, [], ◌∷◌, length, refl, ap}
use Rattle.pws_tree.specs.Nodes.{nodes_of, node_then}
use Rattle.pws_tree.specs.declared.trees.Node.{Node}
use Rattle.pws_tree.specs.declared.trees.Node.TheVariants as node
use Rattle.pws_look.specs.Envelopes.{node_count}

pub nodes_count : (nodes : List Node) → length nodes ≡ node_count (nodes_of nodes)
nodes_count [] = refl
nodes_count (node.Element e ∷ rest) = ap suc (nodes_count rest)
nodes_count (node.Text t ∷ rest) = ap suc (nodes_count rest)
nodes_count (node.Qualified n ∷ rest) = ap suc (nodes_count rest)
