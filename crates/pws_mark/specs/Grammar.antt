-- Which documents are in the grammar: XML 1.0 fifth edition without document types and processing instructions, where
-- prefixes, entities, attribute names and the content of Value are free.
use Rattle.std.specs.Prelude.{ℕ, Bool, true, false, not, ◌&&◌, ◌||◌, ◌==◌, List, [], ◌∷◌, Option, Some, None, codes}
use Rattle.std.specs.List.{list_all}
use Rattle.std.specs.Str.{bytes_eq, str_to_ascii_lowercase}
use Rattle.pws_mark.specs.Documents.{Char, Tag, Content, Nothing, Text, Section, Comment, Hollow, Element, Pseudo, Declaration, Document, section_end}
use Rattle.pws_mark.specs.Tokens.{is_white, is_gap, is_name, is_piece, is_text_char, is_quote, is_attribute, is_section, is_comment}

abbrev pub is_tag : Tag → Bool
is_tag tag = is_name tag.name && (list_all is_attribute tag.attributes && list_all is_white tag.gap)

-- whether content begins with these characters as they stand
abbrev pub begins_with : List ℕ → Content → Bool
begins_with [] content = true
begins_with (c ∷ cs) (Text (Char d) rest) = c == d && begins_with cs rest
begins_with (c ∷ cs) _ = false

-- content; ]]> stands nowhere in character data
abbrev pub is_content : Content → Bool
is_content Nothing = true
is_content (Text piece rest) = is_piece is_text_char piece && (not (begins_with section_end (Text piece rest)) && is_content rest)
is_content (Section chars rest) = is_section chars && is_content rest
is_content (Comment chars rest) = is_comment chars && is_content rest
is_content (Hollow tag rest) = is_tag tag && is_content rest
is_content (Element tag inner gap rest) = is_tag tag && (is_content inner && (list_all is_white gap && is_content rest))

-- production 27, Misc, any number: comments and white space
abbrev pub is_misc : Content → Bool
is_misc Nothing = true
is_misc (Text (Char c) rest) = is_white c && is_misc rest
is_misc (Comment chars rest) = is_comment chars && is_misc rest
is_misc _ = false

abbrev pub is_nothing : Content → Bool
is_nothing Nothing = true
is_nothing _ = false

-- one element
abbrev pub is_root : Content → Bool
is_root (Hollow tag rest) = is_nothing rest
is_root (Element tag inner gap rest) = is_nothing rest
is_root _ = false

abbrev pub is_pseudo : (List ℕ → Bool) → Pseudo → Bool
is_pseudo allowed p = is_gap p.gap && (list_all is_white p.before && (list_all is_white p.after && (is_quote p.quote && allowed p.value)))

abbrev pub is_optional : (List ℕ → Bool) → Option Pseudo → Bool
is_optional allowed None = true
is_optional allowed (Some p) = is_pseudo allowed p

-- version 1.0, encoding UTF-8 in any case of letters, standalone yes or no
abbrev pub is_declaration : Option Declaration → Bool
is_declaration None = true
is_declaration (Some d) =
    is_pseudo (λ v. bytes_eq v (codes "1.0")) d.version
    && (is_optional (λ v. bytes_eq (str_to_ascii_lowercase v) (codes "utf-8")) d.encoding
    && (is_optional (λ v. bytes_eq v (codes "yes") || bytes_eq v (codes "no")) d.standalone
    && list_all is_white d.gap))

abbrev pub is_document : Document → Bool
is_document d = is_declaration d.declaration && (is_misc d.before && ((is_root d.root && is_content d.root) && is_misc d.after))
