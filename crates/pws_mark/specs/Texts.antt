-- A text or a value that is written canonically stands for itself.
use Rattle.std.specs.Prelude.{◌≡◌, ℕ, false, List, IsTrue, Some}
use Rattle.std.specs.List.{flat_map, list_all}
use Rattle.pws_tree.specs.Characters.{is_xml_text}
use Rattle.pws_tree.specs.Lawful.{is_lawful_text}
use Rattle.pws_tree.specs.Trees.{NoNode, TextThen}
use Rattle.pws_mark.specs.Bindings.{Bindings, value_of}
use Rattle.pws_mark.specs.Canonical.{text_byte, value_byte}
use Rattle.pws_mark.specs.Documents.{Piece, Content, spell_piece, spell_content}
use Rattle.pws_mark.specs.Grammar.{is_content}
use Rattle.pws_mark.specs.Tokens.{is_piece, is_value_char}
use Rattle.pws_mark.specs.Meaning.{nodes_in}

-- for each text there is content of the grammar that is spelled as the text is written, and stands for the text
abbrev pub TextsReadBack : Type 0
TextsReadBack =
    (t : List ℕ) → IsTrue (is_lawful_text t) →
    (content : Content) × IsTrue (is_content content) × (spell_content content ≡ flat_map text_byte t) × ((m : Bindings) → nodes_in m false content ≡ TextThen t NoNode)

-- for each value there are pieces that may stand between double quotes, are spelled as the value is written, and stand
-- for the value
abbrev pub ValuesReadBack : Type 0
ValuesReadBack =
    (v : List ℕ) → IsTrue (is_xml_text v) →
    (pieces : List Piece) × IsTrue (list_all (is_piece (is_value_char 34)) pieces) × (flat_map spell_piece pieces ≡ flat_map value_byte v) × (value_of pieces ≡ Some v)
