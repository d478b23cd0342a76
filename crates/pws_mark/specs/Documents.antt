-- Documents: what may be read, piece by piece, and how it is spelled. Characters are code points, and a spelling is
-- bytes, in UTF-8. The numbers of productions are those of XML 1.0 fifth edition.
use Rattle.std.specs.Prelude.{ℕ, Bool, if◌then◌else◌, List, [], ◌∷◌, ◌++◌, Option, Some, None, codes, encode_utf8, encode_utf8_all}
use Rattle.std.specs.List.{flat_map}

-- a character as it stands, or a reference (67): to an entity by its name (68), or to a number by its digits (66)
pub data Piece : Type 0 where
  Char : ℕ → Piece
  Entity : List ℕ → Piece
  Decimal : List ℕ → Piece
  Hexadecimal : List ℕ → Piece

-- an attribute with the white space before it (41, 25, 10)
pub record Attribute : Type 0 where
  pub gap : List ℕ
  pub name : List ℕ
  pub before : List ℕ
  pub after : List ℕ
  pub quote : ℕ
  pub value : List Piece

-- what a start tag or an empty tag has between its brackets (40, 44)
pub record Tag : Type 0 where
  pub name : List ℕ
  pub attributes : List Attribute
  pub gap : List ℕ

-- content (43): nothing; or a character or a reference, a CDATA section (18), a comment (15), an empty tag, or an
-- element with the content inside of it and the white space in its end tag (42); and then content
pub data Content : Type 0 where
  Nothing : Content
  Text : Piece → Content → Content
  Section : List ℕ → Content → Content
  Comment : List ℕ → Content → Content
  Hollow : Tag → Content → Content
  Element : Tag → Content → List ℕ → Content → Content

-- a part of an XML declaration (24, 80, 32)
pub record Pseudo : Type 0 where
  pub gap : List ℕ
  pub before : List ℕ
  pub after : List ℕ
  pub quote : ℕ
  pub value : List ℕ

-- an XML declaration (23)
pub record Declaration : Type 0 where
  pub version : Pseudo
  pub encoding : Option Pseudo
  pub standalone : Option Pseudo
  pub gap : List ℕ

-- a document (1, 22): with a byte order mark or without, what stands before its element, and behind it
pub record Document : Type 0 where
  pub mark : Bool
  pub declaration : Option Declaration
  pub before : Content
  pub root : Content
  pub after : Content

abbrev pub spell_piece : Piece → List ℕ
spell_piece (Char c) = encode_utf8 c
spell_piece (Entity name) = 38 ∷ (encode_utf8_all name ++ 59 ∷ [])
spell_piece (Decimal digits) = 38 ∷ 35 ∷ (encode_utf8_all digits ++ 59 ∷ [])
spell_piece (Hexadecimal digits) = 38 ∷ 35 ∷ 120 ∷ (encode_utf8_all digits ++ 59 ∷ [])

abbrev pub spell_attribute : Attribute → List ℕ
spell_attribute a =
    encode_utf8_all a.gap ++ (encode_utf8_all a.name ++ (encode_utf8_all a.before ++ 61 ∷ (encode_utf8_all a.after ++ a.quote ∷ (flat_map spell_piece a.value ++ a.quote ∷ []))))

abbrev pub spell_tag : Tag → List ℕ
spell_tag tag = encode_utf8_all tag.name ++ (flat_map spell_attribute tag.attributes ++ encode_utf8_all tag.gap)

unfoldable pub section_start : List ℕ
section_start = codes "<![CDATA["

unfoldable pub section_end : List ℕ
section_end = codes "]]>"

unfoldable pub comment_start : List ℕ
comment_start = codes "<!--"

unfoldable pub comment_end : List ℕ
comment_end = codes "-->"

abbrev pub spell_content : Content → List ℕ
spell_content Nothing = []
spell_content (Text piece rest) = spell_piece piece ++ spell_content rest
spell_content (Section chars rest) = section_start ++ (encode_utf8_all chars ++ (section_end ++ spell_content rest))
spell_content (Comment chars rest) = comment_start ++ (encode_utf8_all chars ++ (comment_end ++ spell_content rest))
spell_content (Hollow tag rest) = 60 ∷ (spell_tag tag ++ 47 ∷ 62 ∷ spell_content rest)
spell_content (Element tag inner gap rest) =
    60 ∷ (spell_tag tag ++ 62 ∷ (spell_content inner ++ 60 ∷ 47 ∷ (encode_utf8_all tag.name ++ (encode_utf8_all gap ++ 62 ∷ spell_content rest))))

abbrev pub spell_pseudo : List ℕ → Pseudo → List ℕ
spell_pseudo word p =
    encode_utf8_all p.gap ++ (word ++ (encode_utf8_all p.before ++ 61 ∷ (encode_utf8_all p.after ++ p.quote ∷ (encode_utf8_all p.value ++ p.quote ∷ []))))

abbrev pub spell_optional : List ℕ → Option Pseudo → List ℕ
spell_optional word None = []
spell_optional word (Some p) = spell_pseudo word p

abbrev pub spell_declaration : Option Declaration → List ℕ
spell_declaration None = []
spell_declaration (Some d) =
    codes "<?xml" ++ (spell_pseudo (codes "version") d.version ++ (spell_optional (codes "encoding") d.encoding ++ (spell_optional (codes "standalone") d.standalone ++ (encode_utf8_all d.gap ++ codes "?>"))))

-- U+FEFF in UTF-8
abbrev pub byte_order_mark : List ℕ
byte_order_mark = 0xEF ∷ 0xBB ∷ 0xBF ∷ []

-- what stands before the prolog's comments and white space, and before the element
abbrev pub spell_head : Document → List ℕ
spell_head d = (if d.mark then byte_order_mark else []) ++ spell_declaration d.declaration

abbrev pub spell_prolog : Document → List ℕ
spell_prolog d = spell_head d ++ spell_content d.before

abbrev pub spell : Document → List ℕ
spell d = spell_prolog d ++ (spell_content d.root ++ spell_content d.after)
