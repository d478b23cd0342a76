-- Header blocks: whom one is for, and whether it must be understood (SOAP 1.2 Part 1, sections 2.2 to 2.4 and 5.2).
use Rattle.std.specs.Prelude.{ℕ, Bool, true, false, not, ◌&&◌, ◌||◌, List, Option, Some, None, codes}
use Rattle.std.specs.List.{find, list_any}
use Rattle.std.specs.Str.{bytes_eq}
use Rattle.pws_tree.specs.Trees.{Tree}
use Rattle.pws_tree.specs.declared.texts.Name.{Name}
use Rattle.pws_tree.specs.declared.texts.Attr.{Attr}
use Rattle.pws_soap.specs.Names.{is_soap_name, addressing_space, addressing_words, role_word, must_understand_word, next_role, ultimate_role}
use Rattle.pws_soap.specs.White.{trim}

-- the attribute of this name in the envelope namespace
abbrev pub attribute_of : List ℕ → List Attr → Option Attr
attribute_of word attrs = find (λ a. is_soap_name word a.name) attrs

-- white space round a role and round a truth value doesn't count
abbrev pub is_own_role : List ℕ → Bool
is_own_role role = bytes_eq (trim role) next_role || bytes_eq (trim role) ultimate_role

abbrev pub has_own_role : Option Attr → Bool
has_own_role None = true
has_own_role (Some role) = is_own_role role.value

-- section 2.2: this node is the ultimate receiver, for whom a block without a role is too
abbrev pub is_for_node : Tree → Bool
is_for_node block = has_own_role (attribute_of role_word block.attrs)

-- section 5.2.3: a value of the type xs:boolean
abbrev pub says_true : List ℕ → Bool
says_true value = bytes_eq (trim value) (codes "true") || bytes_eq (trim value) (codes "1")

abbrev pub says_false : List ℕ → Bool
says_false value = bytes_eq (trim value) (codes "false") || bytes_eq (trim value) (codes "0")

abbrev pub is_truth : Option Attr → Bool
is_truth None = true
is_truth (Some demand) = says_true demand.value || says_false demand.value

-- mustUnderstand, where it is there, has such a value
abbrev pub is_well_marked : Tree → Bool
is_well_marked block = is_truth (attribute_of must_understand_word block.attrs)

abbrev pub is_demand : Option Attr → Bool
is_demand None = false
is_demand (Some demand) = says_true demand.value

abbrev pub must_be_understood : Tree → Bool
must_be_understood block = is_demand (attribute_of must_understand_word block.attrs)

-- one of the seven addressing headers
abbrev pub is_addressing_header : Name → Bool
is_addressing_header n = bytes_eq n.space addressing_space && list_any (bytes_eq n.local) addressing_words

-- section 2.4: a block for this node that must be understood and isn't, since addressing headers alone are
abbrev pub is_not_understood : Tree → Bool
is_not_understood block = is_for_node block && (must_be_understood block && not (is_addressing_header block.name))
