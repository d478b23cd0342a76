-- What an envelope is made of, and which parts make one.
use Rattle.std.specs.Prelude.{◌≡◌, Bool, not, ◌&&◌, ◌++◌, nat_le, List, Result, Ok, Err, IsTrue}
use Rattle.std.specs.Coded.{Coded, code_by, coded×, coded_list}
use Rattle.std.specs.Prelude.{refl, []}
use Rattle.pws_tree.specs.Lawful.{are_lawful, has_qualified, levels, is_lawful, tree_depth}
use Rattle.pws_tree.specs.Trees.{Tree, Nodes, coded_tree}
use Rattle.pws_tree.specs.declared.trees.BadTree.{BadTree}
use Rattle.pws_soap.specs.Envelopes.{Enveloped, soap_tree, root_of}

abbrev pub coded_enveloped : Coded Enveloped
coded_enveloped =
    code_by (List Tree × Tree) (coded× (coded_list coded_tree) coded_tree) (λ e. (e.headers, soap_tree [] e.body))
    (λ p. record { headers = p.0; body = p.1.children }) (λ _. refl)

-- the envelope with more header blocks behind those that it has
abbrev pub with_headers : Enveloped → List Tree → Enveloped
with_headers e more = record { headers = e.headers ++ more; body = e.body }

-- a header block stands on the third level, so it has at most 62
abbrev pub has_few_levels : Tree → Bool
has_few_levels t = nat_le (tree_depth t) 62

-- and so does what the body contains
abbrev pub is_lawful_body : Nodes → Bool
is_lawful_body body = are_lawful body && (not (has_qualified body) && nat_le (levels body) 62)

-- the envelope of these parts, or its root would be no lawful tree
abbrev pub MakesEnvelope : List Tree → Nodes → Result Enveloped BadTree → Type 0
MakesEnvelope headers body (Ok e) = e ≡ record { headers = headers; body = body }
MakesEnvelope headers body (Err bad) = ¬ (IsTrue (is_lawful (root_of (record { headers = headers; body = body }))))
