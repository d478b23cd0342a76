-- The canonical text of a lawful tree stands for that tree.
use Rattle.std.proofs.Common.{◌≡◌, ℕ, ◌<◌, ◌≤◌, ◌^◌, true, ◌&&◌, List, [], ◌∷◌, ◌++◌, length, refl, ◌∙◌, arith, length-append, nat_le, IsTrue}
use Rattle.std.specs.List.{list_all, flat_map}
use Rattle.std.proofs.lemmas.Bool.{and_parts, and_from, leb-true}
use Rattle.std.proofs.lemmas.List.Folds.{list_all-append}
use Rattle.pws_tree.specs.Characters.{is_xml_text}
use Rattle.pws_tree.specs.Lawful.{is_lawful, is_lawful_tag, are_lawful, tree_depth}
use Rattle.pws_tree.specs.Trees.{Tree}
use Rattle.pws_mark.specs.Bindings.{Bindings}
use Rattle.pws_mark.specs.Canonical.{needs_prefix, tag_uses, uses, tree_uses, spaces_of, name_text, attr_text, declarations_text, start_text, end_text, nodes_text, canonical}
use Rattle.pws_mark.specs.Reading.{Means}
use Rattle.pws_mark.specs.CanonicalTexts.{CanonicalStands, CanonicalMayBeRead}
use Rattle.pws_mark.proofs.BoundPrefixes.{Binds, root_bindings, root_binds}
use Rattle.pws_mark.proofs.WrittenDocument.{document_with}
use Rattle.pws_mark.proofs.GoodNodes.{AllCovered, covered_first, covered_more, all_covered, may_declare, all_may, is_space_lawful, IsTagOf, tag_parts, spaces_of_tag, spaces_of_nodes, IsGoodTag, AllGood, good_tag, all_good, few}
use Rattle.pws_mark.proofs.WrittenSpelling.{document_spelled}
use Rattle.pws_mark.proofs.WrittenGrammar.{document_lawful}
use Rattle.pws_mark.proofs.WrittenUtf8.{spelled_utf8}
use Rattle.pws_mark.proofs.WrittenFaults.{document_faultless}
use Rattle.pws_mark.proofs.WrittenMeaning.{document_back}

-- the text of the declarations is in that of the root
declared_within : (spaces : List (List ℕ)) (t : Tree) (rest : List ℕ) → length (declarations_text spaces) ≤ length (start_text spaces (declarations_text spaces) t.name t.attrs ++ rest)
declared_within spaces t rest =
    omega (arith, length-append (start_text spaces (declarations_text spaces) t.name t.attrs) rest, length-append (name_text spaces t.name) (declarations_text spaces ++ (flat_map (attr_text spaces) t.attrs ++ 62 ∷ [])), length-append (declarations_text spaces) (flat_map (attr_text spaces) t.attrs ++ 62 ∷ []))

all_texts : (spaces : List (List ℕ)) → list_all may_declare spaces ≡ true → list_all is_xml_text spaces ≡ true
all_texts [] h = refl
all_texts (s ∷ spaces) h =
    let parts = and_parts (may_declare s) (list_all may_declare spaces) h in
    let space = and_parts (needs_prefix s) (is_space_lawful s) parts.0 in
    and_from (is_xml_text s) (list_all is_xml_text spaces) (and_parts (is_xml_text s) _ space.1).0 (all_texts spaces parts.1)

-- what is known of a lawful tree and of its namespaces
pub record IsGoodTree (spaces : List (List ℕ)) (t : Tree) : Type 0 where
  pub short : length spaces < 2 ^ 64
  pub texts : list_all is_xml_text spaces ≡ true
  pub may : list_all may_declare spaces ≡ true
  pub low : tree_depth t ≤ 64
  pub tag : IsGoodTag (root_bindings spaces) spaces t.name t.attrs t.children
  pub inner : AllGood (root_bindings spaces) spaces t.children

good_with : (t : Tree) (spaces : List (List ℕ)) → IsTagOf t.name t.attrs t.children → are_lawful t.children ≡ true → tree_depth t ≤ 64 → length spaces < 2 ^ 64 → AllCovered spaces (tree_uses t) → list_all may_declare spaces ≡ true → IsGoodTree spaces t
good_with t spaces tag inner low short cover may =
    let m : Bindings = root_bindings spaces in
    let binds : Binds m spaces = root_binds spaces short in
    record {
      short = short;
      texts = all_texts spaces may;
      may = may;
      low = low;
      tag = good_tag m spaces t.name t.attrs t.children short binds tag (covered_first spaces (tag_uses t.name t.attrs) (uses t.children) cover);
      inner = all_good m spaces t.children short binds inner (covered_more spaces (tag_uses t.name t.attrs) (uses t.children) cover);
    }

pub good_tree : (t : Tree) → IsTrue (is_lawful t) → length (canonical t) < 2 ^ 64 → IsGoodTree (spaces_of t) t
good_tree t lawful short =
    let whole = and_parts (is_lawful_tag t.name t.attrs t.children && are_lawful t.children) (nat_le (tree_depth t) 64) lawful in
    let parts = and_parts (is_lawful_tag t.name t.attrs t.children) (are_lawful t.children) whole.0 in
    let tag : IsTagOf t.name t.attrs t.children = tag_parts t.name t.attrs t.children parts.0 in
    let used : list_all is_space_lawful (tree_uses t) ≡ true =
    list_all-append is_space_lawful (tag_uses t.name t.attrs) (uses t.children)
    ∙ and_from (list_all is_space_lawful (tag_uses t.name t.attrs)) (list_all is_space_lawful (uses t.children)) (spaces_of_tag t.name t.attrs t.children tag) (spaces_of_nodes t.children parts.1) in
    let less : length (spaces_of t) < 2 ^ 64 = omega (arith, few (spaces_of t), declared_within (spaces_of t) t (nodes_text (spaces_of t) t.children ++ end_text (spaces_of t) t.name)) in
    good_with t (spaces_of t) tag parts.1 (leb-true (tree_depth t) 64 whole.1) less (all_covered (tree_uses t) []) (all_may (tree_uses t) [] used refl)

-- where the namespaces are known
stands_with : (t : Tree) (spaces : List (List ℕ)) → IsGoodTree spaces t → Means (start_text spaces (declarations_text spaces) t.name t.attrs ++ (nodes_text spaces t.children ++ end_text spaces t.name)) t
stands_with t spaces h =
    let m : Bindings = root_bindings spaces in
    record {
      document = document_with spaces t;
      spells = record { lawful = document_lawful m spaces t h.short h.texts h.tag h.inner; spelled = document_spelled m spaces t h.short h.texts h.tag h.inner };
      faultless = document_faultless spaces t h.short h.texts h.may h.low h.tag h.inner;
      tree = document_back spaces t h.texts h.tag h.inner;
    }

pub stands : CanonicalStands
stands t lawful short = stands_with t (spaces_of t) (good_tree t lawful short)

pub may_be_read : CanonicalMayBeRead
may_be_read t lawful short =
    let means : Means (canonical t) t = stands t lawful (omega arith) in
    (short, spelled_utf8 means.document (canonical t) means.spells, means)
