-- How documents are spelled, in characters. It is here for the proofs alone: no contract of another crate names it.
use Rattle.std.specs.Prelude.{ℕ, if◌then◌else◌, List, [], ◌∷◌, ◌++◌, Option, Some, None, codes}
use Rattle.std.specs.List.{flat_map}
use Rattle.pws_mark.specs.Documents.{Piece, Char, Entity, Decimal, Hexadecimal, Attribute, Tag, Content, Nothing, Text, Section, Comment, Hollow, Element, Pseudo, Declaration, Document, section_start, section_end, comment_start, comment_end}

abbrev pub write_piece : Piece → List ℕ
write_piece (Char c) = c ∷ []
write_piece (Entity name) = 38 ∷ (name ++ 59 ∷ [])
write_piece (Decimal digits) = 38 ∷ 35 ∷ (digits ++ 59 ∷ [])
write_piece (Hexadecimal digits) = 38 ∷ 35 ∷ 120 ∷ (digits ++ 59 ∷ [])

abbrev pub write_attribute : Attribute → List ℕ
write_attribute a = a.gap ++ (a.name ++ (a.before ++ 61 ∷ (a.after ++ a.quote ∷ (flat_map write_piece a.value ++ a.quote ∷ []))))

abbrev pub write_tag : Tag → List ℕ
write_tag tag = tag.name ++ (flat_map write_attribute tag.attributes ++ tag.gap)

abbrev pub write_content : Content → List ℕ
write_content Nothing = []
write_content (Text piece rest) = write_piece piece ++ write_content rest
write_content (Section chars rest) = section_start ++ (chars ++ (section_end ++ write_content rest))
write_content (Comment chars rest) = comment_start ++ (chars ++ (comment_end ++ write_content rest))
write_content (Hollow tag rest) = 60 ∷ (write_tag tag ++ 47 ∷ 62 ∷ write_content rest)
write_content (Element tag inner gap rest) =
    60 ∷ (write_tag tag ++ 62 ∷ (write_content inner ++ 60 ∷ 47 ∷ (tag.name ++ (gap ++ 62 ∷ write_content rest))))

abbrev pub write_pseudo : List ℕ → Pseudo → List ℕ
write_pseudo word p = p.gap ++ (word ++ (p.before ++ 61 ∷ (p.after ++ p.quote ∷ (p.value ++ p.quote ∷ []))))

abbrev pub write_optional : List ℕ → Option Pseudo → List ℕ
write_optional word None = []
write_optional word (Some p) = write_pseudo word p

abbrev pub write_declaration : Option Declaration → List ℕ
write_declaration None = []
write_declaration (Some d) =
    codes "<?xml" ++ (write_pseudo (codes "version") d.version ++ (write_optional (codes "encoding") d.encoding ++ (write_optional (codes "standalone") d.standalone ++ (d.gap ++ codes "?>"))))

abbrev pub write_head : Document → List ℕ
write_head d = (if d.mark then 0xFEFF ∷ [] else []) ++ write_declaration d.declaration

abbrev pub write_prolog : Document → List ℕ
write_prolog d = write_head d ++ write_content d.before

abbrev pub write : Document → List ℕ
write d = write_prolog d ++ (write_content d.root ++ write_content d.after)
