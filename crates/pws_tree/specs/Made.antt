-- What an element is made of.
use Rattle.std.specs.Prelude.{◌≡◌, List, Result, Ok, Err, IsTrue}
use Rattle.std.specs.List.Sorted.{IsPermutation}
use Rattle.pws_tree.specs.Lawful.{is_lawful}
use Rattle.pws_tree.specs.Nodes.{nodes_of}
use Rattle.pws_tree.specs.Trees.{Tree}
use Rattle.pws_tree.specs.declared.texts.Name.{Name}
use Rattle.pws_tree.specs.declared.texts.Attr.{Attr}
use Rattle.pws_tree.specs.declared.trees.Node.{Node}
use Rattle.pws_tree.specs.declared.trees.BadTree.{BadTree}

-- a tree has these parts; the order in which its attributes are given doesn't count
pub record IsMadeOf (name : Name) (attrs : List Attr) (children : List Node) (t : Tree) : Type 0 where
  pub name_is : t.name ≡ name
  pub attrs_are : IsPermutation attrs t.attrs
  pub children_are : t.children ≡ nodes_of children

-- a lawful tree of these parts, or there is none
abbrev pub Makes : Name → List Attr → List Node → Result Tree BadTree → Type 0
Makes name attrs children (Ok t) = IsMadeOf name attrs children t × IsTrue (is_lawful t)
Makes name attrs children (Err bad) = (t : Tree) → IsMadeOf name attrs children t → ¬ (IsTrue (is_lawful t))

-- there is a lawful tree of these parts
pub record CanMake (name : Name) (attrs : List Attr) (children : List Node) : Type 0 where
  pub tree : Tree
  pub made : IsMadeOf name attrs children tree
  pub lawful : IsTrue (is_lawful tree)
