-- What references, values and names stand for, and which declarations and attributes can't stand: XML 1.0 fifth edition,
-- sections 2.11, 3.3.3, 4.1 and 4.6, and Namespaces in XML 1.0, sections 3 to 6. Characters are code points; namespaces,
-- local names and values are bytes, in UTF-8.
use Rattle.std.specs.Prelude.{ℕ, ◌+◌, ◌*◌, Bool, true, false, not, ◌&&◌, ◌||◌, ◌==◌, if◌then◌else◌, List, [], ◌∷◌, ◌++◌, length, drop, filter, fold, find, take_while, option_map, Option, Some, None, unwrap_or, is_none, codes, encode_utf8, encode_utf8_all}
use Rattle.std.specs.List.{list_any, filter_map}
use Rattle.std.specs.Str.{bytes_eq}
use Rattle.pws_tree.specs.Characters.{is_xml_char}
use Rattle.pws_tree.specs.Names.{xmlns_space}
use Rattle.pws_tree.specs.declared.texts.Name.{Name}
use Rattle.pws_mark.specs.Canonical.{xml_space, xml_word}
use Rattle.pws_mark.specs.Documents.{Piece, Char, Entity, Decimal, Hexadecimal, Attribute, Tag}
use Rattle.pws_mark.specs.Digits.{digit_number}

unfoldable pub xmlns_word : List ℕ
xmlns_word = codes "xmlns"

-- section 4.6: the predefined entities
unfoldable pub entity_char : List ℕ → Option ℕ
entity_char name =
    if bytes_eq name (codes "amp") then Some 38
    else if bytes_eq name (codes "lt") then Some 60
    else if bytes_eq name (codes "gt") then Some 62
    else if bytes_eq name (codes "apos") then Some 39
    else if bytes_eq name (codes "quot") then Some 34
    else None

unfoldable pub number_of : ℕ → List ℕ → ℕ
number_of base digits = fold (λ n c. n * base + digit_number c) 0 digits

abbrev pub char_at : ℕ → Option ℕ
char_at c = if is_xml_char c then Some c else None

-- the character that a piece stands for; a reference to another entity, or to no XML character, stands for none
abbrev pub piece_char : Piece → Option ℕ
piece_char (Char c) = Some c
piece_char (Entity name) = entity_char name
piece_char (Decimal digits) = char_at (number_of 10 digits)
piece_char (Hexadecimal digits) = char_at (number_of 16 digits)

-- whether a piece is this character as it stands
abbrev pub is_char : ℕ → Piece → Bool
is_char c (Char d) = c == d
is_char c _ = false

abbrev pub first_is : ℕ → List Piece → Bool
first_is c [] = false
first_is c (p ∷ ps) = is_char c p

abbrev pub put_before : Option ℕ → Option (List ℕ) → Option (List ℕ)
put_before (Some c) (Some bytes) = Some (encode_utf8 c ++ bytes)
put_before _ _ = None

-- The value of an attribute: a tab or a line end as it stands becomes a space (section 3.3.3), and CR LF is one line
-- end (2.11). Nothing where a reference in it is refused.
abbrev pub value_of : List Piece → Option (List ℕ)
value_of [] = Some []
value_of (p ∷ ps) =
    if is_char 13 p && first_is 10 ps then value_of ps
    else put_before (if is_char 9 p || (is_char 10 p || is_char 13 p) then Some 32 else piece_char p) (value_of ps)

-- A name as written is a local part, or a prefix, a colon and a local part; without a colon the prefix is empty.
abbrev pub has_colon : List ℕ → Bool
has_colon name = list_any (λ c. c == 58) name

abbrev pub before_colon : List ℕ → List ℕ
before_colon name = take_while (λ c. not (c == 58)) name

abbrev pub written_prefix : List ℕ → List ℕ
written_prefix name = if has_colon name then before_colon name else []

abbrev pub written_local : List ℕ → List ℕ
written_local name = if has_colon name then drop (length (before_colon name) + 1) name else name

abbrev pub has_two_colons : List ℕ → Bool
has_two_colons name = has_colon (written_local name)

-- the prefix that an attribute declares: the empty one stands for the default namespace
abbrev pub declared_prefix : Attribute → Option (List ℕ)
declared_prefix a =
    if bytes_eq a.name xmlns_word then Some []
    else if has_colon a.name && bytes_eq (written_prefix a.name) xmlns_word then Some (written_local a.name)
    else None

-- a prefix and its namespace, the innermost declaration first; a namespace that has a refused reference is unknown
abbrev pub Bindings : Type 0
Bindings = List (List ℕ × Option (List ℕ))

abbrev pub declared : Attribute → Option (List ℕ × Option (List ℕ))
declared a = option_map (λ prefix. (prefix, value_of a.value)) (declared_prefix a)

-- the prefixes xml and xmlns can't be bound
unfoldable pub bound_by : Tag → Bindings → Bindings
bound_by tag m = filter (λ b. not (bytes_eq b.0 xml_word) && not (bytes_eq b.0 xmlns_word)) (filter_map declared tag.attributes) ++ m

unfoldable pub outermost : Bindings
outermost = (xml_word, Some xml_space) ∷ []

-- the namespace of a prefix, which may be unknown; nothing where the prefix isn't bound
abbrev pub space_at : Bindings → List ℕ → Option (Option (List ℕ))
space_at m prefix = option_map (λ b. b.1) (find (λ b. bytes_eq b.0 prefix) m)

abbrev pub is_bound : Bindings → List ℕ → Bool
is_bound m prefix = bytes_eq prefix [] || not (is_none (space_at m prefix))

abbrev pub named : List ℕ → List ℕ → Name
named local space = record { space = space; local = encode_utf8_all local }

-- the name of an element, or of a qualified name, which without a prefix is in the default namespace, or in none
abbrev pub element_name : Bindings → List ℕ → Option Name
element_name m name =
    let prefix = written_prefix name in
    option_map (named (written_local name)) (unwrap_or (space_at m prefix) (if bytes_eq prefix [] then Some [] else None))

-- the name of an attribute, which without a prefix is in no namespace
abbrev pub attribute_name : Bindings → List ℕ → Option Name
attribute_name m name = if has_colon name then element_name m name else Some (named name [])

abbrev pub same_name : Option Name → Option Name → Bool
same_name (Some n) (Some o) = bytes_eq n.space o.space && bytes_eq n.local o.local
same_name _ _ = false

-- the name of an attribute as bound; a declaration has none
abbrev pub bound_name : Bindings → Attribute → Option Name
bound_name m a = if is_none (declared_prefix a) then attribute_name m a.name else None

-- one name as written or as bound (Namespaces in XML 1.0, section 6.3); two declarations of one prefix have one name as
-- written
abbrev pub are_twice : Bindings → Attribute → Attribute → Bool
are_twice m a b = bytes_eq a.name b.name || same_name (bound_name m a) (bound_name m b)

abbrev pub is_space : Option (List ℕ) → List ℕ → Bool
is_space None space = false
is_space (Some s) space = bytes_eq s space

-- which declarations are refused (Namespaces in XML 1.0, section 3; a prefix can't be undeclared)
abbrev pub is_wrong_declaration : List ℕ → Option (List ℕ) → Bool
is_wrong_declaration prefix space =
    if bytes_eq prefix xmlns_word then true
    else if bytes_eq prefix xml_word then not (is_space space xml_space)
    else is_space space xml_space || (is_space space xmlns_space || (not (bytes_eq prefix []) && is_space space []))
