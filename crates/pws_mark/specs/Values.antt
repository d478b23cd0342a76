-- The content of Value, character by character.
use Rattle.std.specs.Prelude.{ℕ, ◌+◌, Bool, not, ◌&&◌, if◌then◌else◌, List, [], ◌∷◌, ◌++◌, length, map, take_while, drop, option_map, Option, Some, None, encode_utf8, encode_utf8_all}
use Rattle.std.specs.List.{list_all}
use Rattle.pws_mark.specs.Documents.{Content, Nothing, Text, Section, Comment, Hollow, Element, spell_piece, section_start, section_end, comment_start, comment_end}
use Rattle.pws_mark.specs.Tokens.{is_white, is_name}
use Rattle.pws_mark.specs.Bindings.{piece_char, has_two_colons}

-- each character with the place of its first byte
abbrev pub Marked : Type 0
Marked = List (ℕ × ℕ)

abbrev pub placed : ℕ → List ℕ → Marked
placed at [] = []
placed at (c ∷ cs) = (c, at) ∷ placed (at + length (encode_utf8 c)) cs

abbrev pub then_marked : Option ℕ → ℕ → Option Marked → Option Marked
then_marked (Some c) at (Some more) = Some ((c, at) ∷ more)
then_marked _ at _ = None

-- nothing where an element or a refused reference is among it
abbrev pub marked : ℕ → Content → Option Marked
marked at Nothing = Some []
marked at (Text piece rest) = then_marked (piece_char piece) at (marked (at + length (spell_piece piece)) rest)
marked at (Section chars rest) =
    option_map (λ more. placed (at + length section_start) chars ++ more)
    (marked (at + length (section_start ++ (encode_utf8_all chars ++ section_end))) rest)
marked at (Comment chars rest) = marked (at + length (comment_start ++ (encode_utf8_all chars ++ comment_end))) rest
marked at (Hollow tag rest) = None
marked at (Element tag inner gap rest) = None

abbrev pub behind_white : Marked → Marked
behind_white [] = []
behind_white (c ∷ cs) = if is_white c.0 then behind_white cs else c ∷ cs

abbrev pub first_word : Marked → Marked
first_word chars = take_while (λ c. not (is_white c.0)) (behind_white chars)

abbrev pub letters : Marked → List ℕ
letters chars = map (λ c. c.0) chars

-- one qualified name, white space round it aside (Namespaces in XML 1.0, production 7)
abbrev pub is_one_name : Marked → Bool
is_one_name chars =
    is_name (letters (first_word chars)) && (not (has_two_colons (letters (first_word chars)))
    && list_all (λ c. is_white c.0) (drop (length (first_word chars)) (behind_white chars)))
