-- What a lawful tree keeps.
use Rattle.std.proofs.Common.{◌≡◌, ◌≤◌, ◌&&◌, true, nat_le, IsTrue}
use Rattle.std.proofs.lemmas.Bool.{leb-true}
use Rattle.pws_tree.specs.Lawful.{is_lawful, is_lawful_tag, are_lawful, tree_depth}
use Rattle.pws_tree.specs.Trees.{Tree}
use Rattle.pws_tree.proofs.Joined.{first_true, second_true}

pub lawful_depth : (t : Tree) → IsTrue (is_lawful t) → tree_depth t ≤ 64
lawful_depth t h = leb-true (tree_depth t) 64 (second_true (is_lawful_tag t.name t.attrs t.children && are_lawful t.children) (nat_le (tree_depth t) 64) h)

pub lawful_parts : (t : Tree) → IsTrue (is_lawful t) → (is_lawful_tag t.name t.attrs t.children && are_lawful t.children) ≡ true
lawful_parts t h = first_true (is_lawful_tag t.name t.attrs t.children && are_lawful t.children) (nat_le (tree_depth t) 64) h
