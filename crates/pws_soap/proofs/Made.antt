-- Which parts make an envelope.
use Rattle.std.proofs.Common.{◌≡◌, ℕ, Bool, true, false, not, ◌&&◌, nat_le, List, [], ◌∷◌, ◌++◌, refl, ap, subst, arith, IsTrue}
use Rattle.std.specs.List.{list_all}
use Rattle.std.proofs.lemmas.Bool.{leb-true, le-leb}
use Rattle.pws_tree.specs.Lawful.{is_lawful, is_lawful_tag, are_lawful, levels, has_qualified, tree_depth}
use Rattle.pws_tree.specs.Trees.{Tree, Nodes, NoNode}
use Rattle.pws_soap.specs.Envelopes.{Enveloped, elements, nodes_of_trees, soap_tree, root_of}
use Rattle.pws_soap.specs.Faults.{envelope_around}
use Rattle.pws_soap.specs.Laws.{RootsAreLawful}
use Rattle.pws_soap.specs.Made.{has_few_levels, is_lawful_body, with_headers}
use Rattle.pws_soap.proofs.Joined.{first_true, second_true, both_true}
use Rattle.pws_soap.proofs.Lawful.{sound_of, few_of, lawful_of, IsKept, AreKept, IsPlain, none_plain, then_plain, trees_plain, soap_kept, header_plain, body_plain, root_kept}
use Rattle.pws_soap.specs.Names.{header_word, body_word}
use Rattle.pws_soap.proofs.Read.{elements_kept, parts_kept, AreBlocksKept}
use Rattle.pws_soap.proofs.Roots.{elements_back, parts_back, root_parts}

pub tree_kept : (t : Tree) → IsTrue (is_lawful t) → has_few_levels t ≡ true → IsKept 61 t
tree_kept t lawful few = record { sound = sound_of t lawful; few = omega (arith, leb-true (tree_depth t) 62 few) }

pub trees_kept : (ts : List Tree) → list_all is_lawful ts ≡ true → list_all has_few_levels ts ≡ true → AreKept 61 ts
trees_kept [] lawful few = tt
trees_kept (t ∷ ts) lawful few = (
  tree_kept t (first_true (is_lawful t) (list_all is_lawful ts) lawful) (first_true (has_few_levels t) (list_all has_few_levels ts) few),
  trees_kept ts (second_true (is_lawful t) (list_all is_lawful ts) lawful) (second_true (has_few_levels t) (list_all has_few_levels ts) few),
)

kept_few : (ts : List Tree) → AreKept 61 ts → list_all has_few_levels ts ≡ true
kept_few [] h = refl
kept_few (t ∷ ts) h = both_true (has_few_levels t) (list_all has_few_levels ts) (le-leb (tree_depth t) 62 (omega (arith, h.0.few))) (kept_few ts h.1)

kept_append : (n : ℕ) (ts us : List Tree) → AreKept n ts → AreKept n us → AreKept n (ts ++ us)
kept_append n [] us h g = g
kept_append n (t ∷ ts) us h g = (h.0, kept_append n ts us h.1 g)

flip : (b : Bool) → not b ≡ true → b ≡ false
flip true h = cc
flip false h = refl

body_plainly : (body : Nodes) → is_lawful_body body ≡ true → IsPlain 62 body
body_plainly body h =
    let rest = second_true (are_lawful body) (not (has_qualified body) && nat_le (levels body) 62) h in
    record {
      lawful = first_true (are_lawful body) (not (has_qualified body) && nat_le (levels body) 62) h;
      plain = flip (has_qualified body) (first_true (not (has_qualified body)) (nat_le (levels body) 62) rest);
      few = leb-true (levels body) 62 (second_true (not (has_qualified body)) (nat_le (levels body) 62) rest);
    }

plain_body : (body : Nodes) → IsPlain 62 body → is_lawful_body body ≡ true
plain_body body h =
    both_true (are_lawful body) (not (has_qualified body) && nat_le (levels body) 62) h.lawful
    (both_true (not (has_qualified body)) (nat_le (levels body) 62) (ap not h.plain) (le-leb (levels body) 62 h.few))

-- the parts of an envelope whose root is lawful fit
pub kept_in_root : (e : Enveloped) → IsTrue (is_lawful (root_of e)) → AreBlocksKept e
kept_in_root e lawful =
    let children : Nodes = (root_of e).children in
    let kept : AreKept 62 (elements children) = elements_kept 62 children (second_true (is_lawful_tag (root_of e).name (root_of e).attrs children) (are_lawful children) (sound_of (root_of e) lawful)) (few_of (root_of e) lawful) in
    let parts = parts_kept 62 (elements children) (root_parts e) kept (parts_back e.headers e.body) in
    let found : AreKept 61 (elements (nodes_of_trees e.headers)) = elements_kept 61 (nodes_of_trees e.headers) parts.header parts.few in
    let P : List Tree → Type 0 = AreKept 61 in
    record { headers = subst P (elements_back e.headers) found; body = parts.body }

pub make_lawful : (headers : List Tree) (body : Nodes) → list_all is_lawful headers ≡ true → list_all has_few_levels headers ≡ true → is_lawful_body body ≡ true → IsTrue (is_lawful (root_of (record { headers = headers; body = body })))
make_lawful headers body lawful few fits = root_kept (record { headers = headers; body = body }) (trees_kept headers lawful few) (body_plainly body fits)

pub roots_are_lawful : RootsAreLawful
roots_are_lawful e lawful few fits = make_lawful e.headers e.body lawful few fits

pub root_few : (headers : List Tree) (body : Nodes) → IsTrue (is_lawful (root_of (record { headers = headers; body = body }))) → list_all has_few_levels headers ≡ true
root_few headers body h = kept_few headers (kept_in_root (record { headers = headers; body = body }) h).headers

pub root_fits : (headers : List Tree) (body : Nodes) → IsTrue (is_lawful (root_of (record { headers = headers; body = body }))) → is_lawful_body body ≡ true
root_fits headers body h = plain_body body (kept_in_root (record { headers = headers; body = body }) h).body

pub around_lawful : (t : Tree) → IsTrue (is_lawful t) → IsTrue (has_few_levels t) → IsTrue (is_lawful (root_of (envelope_around t)))
around_lawful t lawful few = root_kept (envelope_around t) tt (then_plain 61 t NoNode (tree_kept t lawful few) (none_plain 62))

pub append_lawful : (e : Enveloped) (more : List Tree) → IsTrue (is_lawful (root_of e)) → list_all is_lawful more ≡ true → list_all has_few_levels more ≡ true → IsTrue (is_lawful (root_of (with_headers e more)))
append_lawful e more h lawful few =
    let kept = kept_in_root e h in
    root_kept (with_headers e more) (kept_append 61 e.headers more kept.headers (trees_kept more lawful few)) kept.body

pub header_lawful : (e : Enveloped) → IsTrue (is_lawful (root_of e)) → IsTrue (is_lawful (soap_tree header_word (nodes_of_trees e.headers)))
header_lawful e h =
    let kept = soap_kept 62 header_word (nodes_of_trees e.headers) header_plain (trees_plain 61 e.headers (kept_in_root e h).headers) in
    lawful_of (soap_tree header_word (nodes_of_trees e.headers)) kept.sound (omega (arith, kept.few))

pub body_lawful : (e : Enveloped) → IsTrue (is_lawful (root_of e)) → IsTrue (is_lawful (soap_tree body_word e.body))
body_lawful e h =
    let kept = soap_kept 62 body_word e.body body_plain (kept_in_root e h).body in
    lawful_of (soap_tree body_word e.body) kept.sound (omega (arith, kept.few))
