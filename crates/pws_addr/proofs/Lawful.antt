-- The header blocks of an addressing are lawful.
use Rattle.std.proofs.Common.{◌≡◌, ℕ, ◌+◌, ◌≤◌, get_or, map, ◌++◌, Bool, true, false, not, ◌&&◌, nat_le, List, [], ◌∷◌, refl, ap, ◌∙◌, arith, IsTrue}
use Rattle.std.specs.Prelude.{if◌then◌else◌}
use Rattle.std.specs.List.{All, list_all}
use Rattle.std.specs.Str.{is_utf8, chars}
use lib.Utf8.{encode}
use Rattle.std.specs.Option.{option_to_list}
use Rattle.std.specs.Prelude.{Option}
use Rattle.std.proofs.lemmas.Bool.{and_from, le-leb}
use Rattle.std.proofs.lemmas.List.Sums.{list_all-from_AllPass}
use Rattle.std.proofs.lemmas.List.Elements.{All-nil, All-cons, All-append, All-map}
use Rattle.pws_tree.specs.Characters.{is_xml_text, is_local_name, xml_ranges, name_start_ranges, name_more_ranges}
use Rattle.pws_tree.specs.Lawful.{is_lawful, is_lawful_tag, are_lawful, fits_name, levels, has_qualified, is_one_qualified, tree_depth}
use Rattle.pws_tree.specs.Names.{is_lawful_name, is_declaration, is_lawful_attr, ascend, is_value, envelope_space, xmlns_space, xmlns_word, value_word}
use Rattle.pws_tree.specs.Trees.{Tree, Nodes, NoNode}
use Rattle.pws_tree.specs.declared.texts.Name.{Name}
use Rattle.pws_tree.specs.declared.texts.Attr.{Attr}
use Rattle.pws_soap.specs.Envelopes.{element_then}
use Rattle.pws_soap.specs.Faults.{text_nodes}
use Rattle.pws_soap.specs.Made.{has_few_levels}
use Rattle.pws_soap.specs.Names.{addressing_space}
use Rattle.pws_addr.specs.Blocks.{address_word, relationship_word, holds_address, address_tree, content_of, block_of, plain_block, relationship, kind_attrs, relation_block, blocks_of}
use Rattle.pws_addr.specs.Headers.{addressing_name, header_local, header_name}
use Rattle.pws_addr.specs.declared.headers.Header.{Header}
use Rattle.pws_addr.specs.declared.headers.Header.TheVariants as header
use Rattle.pws_addr.specs.declared.headers.Addressing.{Addressing}

-- a lawful name that isn't that of Value
pub record IsPlainName (n : Name) : Type 0 where
  pub lawful : is_lawful_name n ≡ true
  pub other : is_value n ≡ false

-- children that are lawful, have no qualified name among them and at most so many levels
pub record ArePlain (n : ℕ) (ns : Nodes) : Type 0 where
  pub lawful : are_lawful ns ≡ true
  pub plain : has_qualified ns ≡ false
  pub few : levels ns ≤ n

pub text_plain : (n : ℕ) (t : List ℕ) → IsTrue (is_xml_text t) → ArePlain n (text_nodes t)
text_plain n [] h = record { lawful = refl; plain = refl; few = omega arith }
text_plain n (c ∷ cs) h = record { lawful = and_from (is_xml_text (c ∷ cs)) true h refl; plain = refl; few = omega arith }

-- an element around them
pub tag_lawful : (n : Name) (attrs : List Attr) (ns : Nodes) → IsPlainName n → list_all is_lawful_attr attrs ≡ true → ascend attrs ≡ true → has_qualified ns ≡ false → is_lawful_tag n attrs ns ≡ true
tag_lawful n attrs ns name all sorted plain =
    let fits : fits_name n ns ≡ true = ap (λ b. if b then is_one_qualified ns else not (has_qualified ns)) name.other ∙ ap not plain in
    and_from (is_lawful_name n) (list_all is_lawful_attr attrs && (ascend attrs && fits_name n ns)) name.lawful
    (and_from (list_all is_lawful_attr attrs) (ascend attrs && fits_name n ns) all (and_from (ascend attrs) (fits_name n ns) sorted fits))

pub tree_lawful : (k : ℕ) (n : Name) (attrs : List Attr) (ns : Nodes) → k ≤ 63 → IsPlainName n → list_all is_lawful_attr attrs ≡ true → ascend attrs ≡ true → ArePlain k ns → IsTrue (is_lawful (record { name = n; attrs = attrs; children = ns }))
tree_lawful k n attrs ns small name all sorted inner =
    and_from (is_lawful_tag n attrs ns && are_lawful ns) (nat_le (levels ns + 1) 64)
    (and_from (is_lawful_tag n attrs ns) (are_lawful ns) (tag_lawful n attrs ns name all sorted inner.plain) inner.lawful)
    (le-leb (levels ns + 1) 64 (omega (arith, inner.few)))

pub then_plain : (k : ℕ) (t : Tree) → IsPlainName t.name → list_all is_lawful_attr t.attrs ≡ true → ascend t.attrs ≡ true → ArePlain k t.children → ArePlain (k + 1) (element_then t NoNode)
then_plain k t name all sorted inner = record {
  lawful = and_from (is_lawful_tag t.name t.attrs t.children && are_lawful t.children) true
      (and_from (is_lawful_tag t.name t.attrs t.children) (are_lawful t.children) (tag_lawful t.name t.attrs t.children name all sorted inner.plain) inner.lawful) refl;
  plain = refl;
  few = omega (arith, inner.few);
}

pub address_named : IsPlainName (addressing_name address_word)
unfolding is_utf8 chars encode is_local_name is_xml_text xml_ranges name_start_ranges name_more_ranges envelope_space xmlns_space value_word addressing_space address_word
address_named = record { lawful = refl; other = refl }

pub header_named : (h : Header) → IsPlainName (header_name h)
unfolding is_utf8 chars encode is_local_name is_xml_text xml_ranges name_start_ranges name_more_ranges envelope_space xmlns_space value_word addressing_space header_local
header_named header.To = record { lawful = refl; other = refl }
header_named header.From = record { lawful = refl; other = refl }
header_named header.ReplyTo = record { lawful = refl; other = refl }
header_named header.FaultTo = record { lawful = refl; other = refl }
header_named header.Action = record { lawful = refl; other = refl }
header_named header.MessageId = record { lawful = refl; other = refl }
header_named header.RelatesTo = record { lawful = refl; other = refl }

pub address_lawful : (t : List ℕ) → IsTrue (is_xml_text t) → IsTrue (is_lawful (address_tree t))
address_lawful t h = tree_lawful 0 (addressing_name address_word) [] (text_nodes t) (omega arith) address_named refl refl (text_plain 0 t h)

content_either : (b : Bool) (t : List ℕ) → IsTrue (is_xml_text t) → ArePlain 1 (if b then element_then (address_tree t) NoNode else text_nodes t)
content_either true t h = then_plain 0 (address_tree t) address_named refl refl (text_plain 0 t h)
content_either false t h = text_plain 1 t h

pub block_lawful : (h : Header) (attrs : List Attr) (t : List ℕ) → list_all is_lawful_attr attrs ≡ true → ascend attrs ≡ true → IsTrue (is_xml_text t) → IsTrue (is_lawful (block_of h attrs t))
block_lawful h attrs t all sorted xml = tree_lawful 1 (header_name h) attrs (content_of h t) (omega arith) (header_named h) all sorted (content_either (holds_address h) t xml)

-- the type of a relation
pub relationship_lawful : (kind : List ℕ) → IsTrue (is_xml_text kind) → is_lawful_attr (relationship kind) ≡ true
unfolding is_utf8 chars encode is_local_name is_xml_text xml_ranges name_start_ranges name_more_ranges xmlns_space xmlns_word relationship_word
relationship_lawful kind h = and_from (is_lawful_name (relationship kind).name && not (is_declaration (relationship kind).name)) (is_xml_text kind) refl h

pub relationships_lawful : (kind : List ℕ) → IsTrue (is_xml_text kind) → IsTrue (list_all is_lawful_attr (relationship kind ∷ []))
relationships_lawful kind h = and_from (is_lawful_attr (relationship kind)) true (relationship_lawful kind h) refl

-- a header block has at most two levels
pub text_levels : (t : List ℕ) → levels (text_nodes t) ≡ 0
text_levels [] = refl
text_levels (c ∷ cs) = refl

content_levels : (b : Bool) (t : List ℕ) → levels (if b then element_then (address_tree t) NoNode else text_nodes t) ≤ 1
content_levels true t = omega (arith, text_levels t)
content_levels false t = omega (arith, text_levels t)

abbrev pub IsLow : Tree → Type 0
IsLow t = has_few_levels t ≡ true

block_low : (h : Header) (attrs : List Attr) (t : List ℕ) → IsLow (block_of h attrs t)
block_low h attrs t = le-leb (tree_depth (block_of h attrs t)) 62 (omega (arith, content_levels (holds_address h) t))

every : {A : Type 0} (f : A → Tree) → ((x : A) → IsLow (f x)) → (xs : List A) → All IsLow (map f xs)
every f each xs = All-map IsLow f xs (λ k d h. each (get_or xs k d))

maybe_low : (h : Header) (o : Option (List ℕ)) → All IsLow (map (plain_block h) (option_to_list o))
maybe_low h o = every (plain_block h) (λ t. block_low h [] t) (option_to_list o)

join : (xs ys : List Tree) → All IsLow xs → All IsLow ys → All IsLow (xs ++ ys)
join xs ys hx hy = All-append IsLow xs ys hx hy

all_low : (a : Addressing) → All IsLow (blocks_of a)
all_low a =
    let first : List Tree = plain_block header.To a.to ∷ plain_block header.Action a.action ∷ [] in
    let ids : List Tree = map (plain_block header.MessageId) (option_to_list a.message_id) in
    let relations : List Tree = map relation_block a.relates_to in
    let replies : List Tree = map (plain_block header.ReplyTo) (option_to_list a.reply_to) in
    let from : List Tree = map (plain_block header.From) (option_to_list a.from) in
    let faults : List Tree = map (plain_block header.FaultTo) (option_to_list a.fault_to) in
    let first_low : All IsLow first = All-cons IsLow (plain_block header.To a.to) (plain_block header.Action a.action ∷ []) (block_low header.To [] a.to)
    (All-cons IsLow (plain_block header.Action a.action) [] (block_low header.Action [] a.action) (All-nil IsLow)) in
    join (first ++ ids ++ relations ++ replies ++ from) faults
    (join (first ++ ids ++ relations ++ replies) from
    (join (first ++ ids ++ relations) replies
    (join (first ++ ids) relations
    (join first ids first_low (maybe_low header.MessageId a.message_id))
    (every relation_block (λ r. block_low header.RelatesTo (kind_attrs r.kind) r.id) a.relates_to))
    (maybe_low header.ReplyTo a.reply_to))
    (maybe_low header.From a.from))
    (maybe_low header.FaultTo a.fault_to)

pub blocks_low : (a : Addressing) → IsTrue (list_all has_few_levels (blocks_of a))
blocks_low a = list_all-from_AllPass has_few_levels (blocks_of a) (all_low a)
