-- The lawful tree of parts whose attributes were sorted.
use Rattle.std.proofs.Common.{◌≡◌, ◌+◌, ◌≤◌, List, true, ◌&&◌, nat_le, arith}
use Rattle.std.proofs.lemmas.Bool.Decides.{nat_tests}
use Rattle.std.specs.List.Sorted.{IsPermutation, IsSorted}
use Rattle.pws_tree.specs.Lawful.{is_lawful, is_lawful_tag, are_lawful, levels}
use Rattle.pws_tree.specs.Made.{CanMake}
use Rattle.pws_tree.specs.Nodes.{nodes_of}
use Rattle.pws_tree.proofs.Attributes.{attr_cmp}
use Rattle.pws_tree.proofs.Joined.{both_true}
use Rattle.pws_tree.proofs.Same.{parts_hold, not_deep}
use Rattle.pws_tree.specs.declared.texts.Name.{Name}
use Rattle.pws_tree.specs.declared.texts.Attr.{Attr}
use Rattle.pws_tree.specs.declared.trees.Node.{Node}

pub sorted_lawful : (name : Name) (attrs sorted : List Attr) (children : List Node) → IsPermutation attrs sorted → IsSorted attr_cmp sorted → CanMake name attrs children → is_lawful (record { name = name; attrs = sorted; children = nodes_of children }) ≡ true
sorted_lawful name attrs sorted children moved rising can =
    let few : levels (nodes_of children) + 1 ≤ 64 = not_deep name attrs children can.tree can.made can.lawful in
    let shallow : nat_le (levels (nodes_of children) + 1) 64 ≡ true = grind (arith, nat_tests, few) in
    both_true (is_lawful_tag name sorted (nodes_of children) && are_lawful (nodes_of children)) (nat_le (levels (nodes_of children) + 1) 64)
    (parts_hold name attrs sorted children can.tree moved rising can.made can.lawful) shallow
