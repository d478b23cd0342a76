-- How a tree is built of what was read, from the left. It is here for the proofs alone: no contract of another crate
-- names it.
use Rattle.std.specs.Prelude.{◌≡◌, List, [], ◌∷◌, Option, Some, None, IsTrue}
use Rattle.pws_tree.specs.Lawful.{is_lawful}
use Rattle.pws_tree.specs.Nodes.{node_then, nodes_of}
use Rattle.pws_tree.specs.Trees.{Tree, Nodes, NoNode, ElementThen, add_element}
use Rattle.pws_tree.specs.declared.trees.Node.{Node}
use Rattle.pws_mark.specs.Meaning.{in_order}
use Rattle.pws_mark.specs.ReaderLaws.{read_event, read_events}
use Rattle.pws_mark.specs.declared.building.Frame.{Frame}
use Rattle.pws_mark.specs.declared.modes.Event.{Event}

-- nodes, and then others
abbrev pub nodes_before : List Node → Nodes → Nodes
nodes_before [] rest = rest
nodes_before (n ∷ ns) rest = node_then n (nodes_before ns rest)

-- the element of a frame
abbrev pub frame_tree : Frame → Tree
frame_tree f = record { name = f.name; attrs = in_order f.attrs; children = nodes_of f.children }

-- more nodes of the innermost element
abbrev pub add_nodes : List Node → List Nodes → List Nodes
add_nodes ns [] = []
add_nodes ns (x ∷ stack) = nodes_before ns x ∷ stack

-- what open elements, the outermost first, and the nodes of what comes behind stand for
abbrev pub opened : Frame → List Nodes → List Nodes
opened f stack = add_element f.name (in_order f.attrs) (add_nodes f.children stack)

abbrev pub around : List Frame → List Nodes → List Nodes
around [] stack = stack
around (f ∷ fs) stack = opened f (around fs stack)

-- there is one tree
pub record IsTree (stack : List Nodes) (t : Tree) : Type 0 where
  pub is : stack ≡ ElementThen t.name t.attrs t.children NoNode ∷ []

-- there is one tree, and it is lawful
pub record IsWhole (stack : List Nodes) : Type 0 where
  pub tree : Tree
  pub is : IsTree stack tree
  pub lawful : IsTrue (is_lawful tree)

-- with an event and some that follow there is a lawful tree
pub record MayTake (frames : List Frame) (e : Event) : Type 0 where
  pub stack : List Nodes
  pub whole : IsWhole (around frames (read_event e stack))

-- an event is taken; an element is given where it is whole
abbrev pub Takes : List Frame → Event → Option Tree → List Frame → Type 0
Takes frames e None after = (stack : List Nodes) → around after stack ≡ around frames (read_event e stack)
Takes frames e (Some u) after = (stack : List Nodes) (t : Tree) → IsTree (around frames (read_event e stack)) t → u ≡ t

-- a node is added to the innermost element
abbrev pub Adds : List Frame → Node → List Frame → Type 0
Adds frames n after = (stack : List Nodes) → around after stack ≡ around frames (add_nodes (n ∷ []) stack)

-- a lawful tree is built of all events
pub record MayBuild (events : List Event) : Type 0 where
  pub whole : IsWhole (read_events events)
