-- Names in namespaces and attributes (Namespaces in XML 1.0, sections 2 to 5), and their order, which is this project's own.
use Rattle.std.specs.Prelude.{ℕ, Bool, true, not, ◌&&◌, List, [], ◌∷◌, codes}
use Rattle.std.specs.Ordering.{nat_cmp, is_lt, ordering_then}
use Rattle.std.specs.declared.cmp.Ordering.{Ordering}
use Rattle.std.specs.Cmp.Lexicographic.{slice_cmp}
use Rattle.std.specs.Str.{bytes_eq}
use Rattle.pws_tree.specs.Characters.{is_xml_text, is_local_name}
use Rattle.pws_tree.specs.declared.texts.Name.{Name}
use Rattle.pws_tree.specs.declared.texts.Attr.{Attr}

-- section 3: the prefix xmlns is bound to this name, and nothing else may be in it
unfoldable pub xmlns_space : List ℕ
xmlns_space = codes "http://www.w3.org/2000/xmlns/"

unfoldable pub xmlns_word : List ℕ
xmlns_word = codes "xmlns"

-- SOAP 1.2 Part 1, section 1.1: the namespace of envelopes
unfoldable pub envelope_space : List ℕ
envelope_space = codes "http://www.w3.org/2003/05/soap-envelope"

unfoldable pub value_word : List ℕ
value_word = codes "Value"

abbrev pub is_lawful_name : Name → Bool
is_lawful_name n = is_local_name n.local && is_xml_text n.space && not (bytes_eq n.space xmlns_space)

-- an attribute in no namespace isn't named xmlns: that declares a namespace
abbrev pub is_declaration : Name → Bool
is_declaration n = bytes_eq n.space [] && bytes_eq n.local xmlns_word

abbrev pub is_lawful_attr : Attr → Bool
is_lawful_attr a = is_lawful_name a.name && not (is_declaration a.name) && is_xml_text a.value

-- by namespace and then local name, by bytes
abbrev pub name_cmp : Name → Name → Ordering
name_cmp n m = ordering_then (slice_cmp nat_cmp n.space m.space) (slice_cmp nat_cmp n.local m.local)

-- each name is below the next, so no two are one
abbrev pub ascend : List Attr → Bool
ascend [] = true
ascend (a ∷ []) = true
ascend (a ∷ b ∷ more) = is_lt (name_cmp a.name b.name) && ascend (b ∷ more)

-- an element whose content is a name
abbrev pub is_value : Name → Bool
is_value n = bytes_eq n.space envelope_space && bytes_eq n.local value_word
