-- The worked texts.
use Rattle.std.specs.Prelude.{false, [], ◌∷◌, Some, None, refl}
use Rattle.std.specs.Str.{is_utf8, chars}
use lib.Utf8.{encode}
use Rattle.std.specs.Fmt.{digits}
use Rattle.pws_tree.specs.Characters.{xml_ranges, name_start_ranges, name_more_ranges, is_xml_text, is_local_name}
use Rattle.pws_tree.specs.Names.{xmlns_space, xmlns_word, envelope_space, value_word}
use Rattle.pws_mark.specs.Canonical.{xml_space, xml_word, text_byte, value_byte, declaration_word}
use Rattle.pws_mark.specs.Documents.{Document, Char, Entity, Decimal, Hexadecimal, Nothing, Text, Section, Comment, Hollow, Element, spell, section_start, section_end, comment_start, comment_end}
use Rattle.pws_mark.specs.Tokens.{is_name}
use Rattle.pws_mark.specs.Bindings.{xmlns_word as xmlns_bytes, entity_char, number_of, bound_by, outermost}
use Rattle.pws_mark.specs.Meaning.{meaning, attrs_of, name_of, with_text, qualified_in}
use Rattle.pws_mark.specs.declared.errors.MarkKind.TheVariants as kind
use Rattle.std.specs.Prelude.{codes}
use Rattle.std.proofs.Common.{arith, inl, lit≤, lit<}
use Rattle.pws_mark.specs.Causes.{HasFault, HasDoctype, HasInstruction}
use Rattle.pws_mark.specs.Examples.{WorkedTexts, IsWrittenAs, toolkit_text, toolkit_written}

toolkit_document : Document
toolkit_document = record { mark = false; declaration = Some (record { version = record { gap = 32 ∷ []; before = []; after = []; quote = 34; value = 49 ∷ 46 ∷ 48 ∷ [] }; encoding = Some (record { gap = 32 ∷ []; before = []; after = []; quote = 34; value = 85 ∷ 84 ∷ 70 ∷ 45 ∷ 56 ∷ [] }); standalone = None; gap = [] }); before = Text (Char 13) (Text (Char 10) (Nothing)); root = Element (record { name = 115 ∷ 111 ∷ 97 ∷ 112 ∷ 101 ∷ 110 ∷ 118 ∷ 58 ∷ 69 ∷ 110 ∷ 118 ∷ 101 ∷ 108 ∷ 111 ∷ 112 ∷ 101 ∷ []; attributes = (record { gap = 32 ∷ []; name = 120 ∷ 109 ∷ 108 ∷ 110 ∷ 115 ∷ 58 ∷ 115 ∷ 111 ∷ 97 ∷ 112 ∷ 101 ∷ 110 ∷ 118 ∷ []; before = []; after = []; quote = 34; value = (Char 104) ∷ (Char 116) ∷ (Char 116) ∷ (Char 112) ∷ (Char 58) ∷ (Char 47) ∷ (Char 47) ∷ (Char 119) ∷ (Char 119) ∷ (Char 119) ∷ (Char 46) ∷ (Char 119) ∷ (Char 51) ∷ (Char 46) ∷ (Char 111) ∷ (Char 114) ∷ (Char 103) ∷ (Char 47) ∷ (Char 50) ∷ (Char 48) ∷ (Char 48) ∷ (Char 51) ∷ (Char 47) ∷ (Char 48) ∷ (Char 53) ∷ (Char 47) ∷ (Char 115) ∷ (Char 111) ∷ (Char 97) ∷ (Char 112) ∷ (Char 45) ∷ (Char 101) ∷ (Char 110) ∷ (Char 118) ∷ (Char 101) ∷ (Char 108) ∷ (Char 111) ∷ (Char 112) ∷ (Char 101) ∷ [] }) ∷ (record { gap = 32 ∷ []; name = 120 ∷ 109 ∷ 108 ∷ 110 ∷ 115 ∷ 58 ∷ 119 ∷ 115 ∷ 97 ∷ []; before = []; after = []; quote = 34; value = (Char 104) ∷ (Char 116) ∷ (Char 116) ∷ (Char 112) ∷ (Char 58) ∷ (Char 47) ∷ (Char 47) ∷ (Char 119) ∷ (Char 119) ∷ (Char 119) ∷ (Char 46) ∷ (Char 119) ∷ (Char 51) ∷ (Char 46) ∷ (Char 111) ∷ (Char 114) ∷ (Char 103) ∷ (Char 47) ∷ (Char 50) ∷ (Char 48) ∷ (Char 48) ∷ (Char 53) ∷ (Char 47) ∷ (Char 48) ∷ (Char 56) ∷ (Char 47) ∷ (Char 97) ∷ (Char 100) ∷ (Char 100) ∷ (Char 114) ∷ (Char 101) ∷ (Char 115) ∷ (Char 115) ∷ (Char 105) ∷ (Char 110) ∷ (Char 103) ∷ [] }) ∷ []; gap = [] }) (Element (record { name = 115 ∷ 111 ∷ 97 ∷ 112 ∷ 101 ∷ 110 ∷ 118 ∷ 58 ∷ 72 ∷ 101 ∷ 97 ∷ 100 ∷ 101 ∷ 114 ∷ []; attributes = []; gap = [] }) (Element (record { name = 119 ∷ 115 ∷ 97 ∷ 58 ∷ 65 ∷ 99 ∷ 116 ∷ 105 ∷ 111 ∷ 110 ∷ []; attributes = (record { gap = 32 ∷ []; name = 115 ∷ 111 ∷ 97 ∷ 112 ∷ 101 ∷ 110 ∷ 118 ∷ 58 ∷ 109 ∷ 117 ∷ 115 ∷ 116 ∷ 85 ∷ 110 ∷ 100 ∷ 101 ∷ 114 ∷ 115 ∷ 116 ∷ 97 ∷ 110 ∷ 100 ∷ []; before = []; after = []; quote = 34; value = (Char 49) ∷ [] }) ∷ []; gap = [] }) (Text (Char 117) (Text (Char 114) (Text (Char 110) (Text (Char 58) (Text (Char 115) (Text (Char 104) (Text (Char 111) (Text (Char 112) (Text (Char 58) (Text (Char 111) (Text (Char 114) (Text (Char 100) (Text (Char 101) (Text (Char 114) Nothing)))))))))))))) ([]) Nothing) ([]) (Element (record { name = 115 ∷ 111 ∷ 97 ∷ 112 ∷ 101 ∷ 110 ∷ 118 ∷ 58 ∷ 66 ∷ 111 ∷ 100 ∷ 121 ∷ []; attributes = []; gap = [] }) (Comment (32 ∷ 111 ∷ 110 ∷ 101 ∷ 32 ∷ []) (Element (record { name = 111 ∷ 114 ∷ 100 ∷ 101 ∷ 114 ∷ []; attributes = (record { gap = 32 ∷ []; name = 120 ∷ 109 ∷ 108 ∷ 110 ∷ 115 ∷ []; before = []; after = []; quote = 34; value = (Char 117) ∷ (Char 114) ∷ (Char 110) ∷ (Char 58) ∷ (Char 115) ∷ (Char 104) ∷ (Char 111) ∷ (Char 112) ∷ [] }) ∷ []; gap = [] }) (Element (record { name = 105 ∷ 116 ∷ 101 ∷ 109 ∷ []; attributes = []; gap = [] }) (Section (97 ∷ 60 ∷ 98 ∷ []) Nothing) ([]) Nothing) ([]) Nothing)) ([]) Nothing)) ([]) Nothing; after = Nothing }

prefix_document : Document
prefix_document = record { mark = false; declaration = None; before = Nothing; root = Element (record { name = 112 ∷ 58 ∷ 97 ∷ []; attributes = []; gap = [] }) (Nothing) ([]) Nothing; after = Nothing }

twice_document : Document
twice_document = record { mark = false; declaration = None; before = Nothing; root = Hollow (record { name = 97 ∷ []; attributes = (record { gap = 32 ∷ []; name = 98 ∷ []; before = []; after = []; quote = 39; value = (Char 49) ∷ [] }) ∷ (record { gap = 32 ∷ []; name = 98 ∷ []; before = []; after = []; quote = 39; value = (Char 50) ∷ [] }) ∷ []; gap = [] }) Nothing; after = Nothing }

entity_document : Document
entity_document = record { mark = false; declaration = None; before = Nothing; root = Element (record { name = 97 ∷ []; attributes = []; gap = [] }) (Text (Entity (102 ∷ [])) Nothing) ([]) Nothing; after = Nothing }

value_document : Document
value_document = record { mark = false; declaration = None; before = Nothing; root = Element (record { name = 101 ∷ 58 ∷ 86 ∷ 97 ∷ 108 ∷ 117 ∷ 101 ∷ []; attributes = (record { gap = 32 ∷ []; name = 120 ∷ 109 ∷ 108 ∷ 110 ∷ 115 ∷ 58 ∷ 101 ∷ []; before = []; after = []; quote = 39; value = (Char 104) ∷ (Char 116) ∷ (Char 116) ∷ (Char 112) ∷ (Char 58) ∷ (Char 47) ∷ (Char 47) ∷ (Char 119) ∷ (Char 119) ∷ (Char 119) ∷ (Char 46) ∷ (Char 119) ∷ (Char 51) ∷ (Char 46) ∷ (Char 111) ∷ (Char 114) ∷ (Char 103) ∷ (Char 47) ∷ (Char 50) ∷ (Char 48) ∷ (Char 48) ∷ (Char 51) ∷ (Char 47) ∷ (Char 48) ∷ (Char 53) ∷ (Char 47) ∷ (Char 115) ∷ (Char 111) ∷ (Char 97) ∷ (Char 112) ∷ (Char 45) ∷ (Char 101) ∷ (Char 110) ∷ (Char 118) ∷ (Char 101) ∷ (Char 108) ∷ (Char 111) ∷ (Char 112) ∷ (Char 101) ∷ [] }) ∷ []; gap = [] }) (Text (Char 49) Nothing) ([]) Nothing; after = Nothing }

any_document : Document
any_document = record { mark = false; declaration = None; before = Nothing; root = Hollow (record { name = 97 ∷ []; attributes = []; gap = [] }) Nothing; after = Nothing }

half_document : Document
half_document = record { mark = false; declaration = None; before = Comment [] (Nothing); root = Hollow (record { name = 97 ∷ []; attributes = []; gap = [] }) Nothing; after = Nothing }

inside_document : Document
inside_document = record { mark = false; declaration = None; before = Nothing; root = Hollow (record { name = 97 ∷ []; attributes = (record { gap = 32 ∷ []; name = 98 ∷ []; before = []; after = []; quote = 39; value = [] }) ∷ []; gap = [] }) Nothing; after = Nothing }

quotes_and_references_document : Document
quotes_and_references_document = record { mark = false; declaration = None; before = Nothing; root = Element (record { name = 97 ∷ []; attributes = (record { gap = 32 ∷ []; name = 98 ∷ []; before = []; after = []; quote = 39; value = (Char 34) ∷ (Entity (108 ∷ 116 ∷ [])) ∷ (Hexadecimal (57 ∷ [])) ∷ [] }) ∷ []; gap = 32 ∷ [] }) (Text (Entity (97 ∷ 109 ∷ 112 ∷ [])) (Text (Decimal (54 ∷ 50 ∷ [])) (Text (Entity (97 ∷ 112 ∷ 111 ∷ 115 ∷ [])) Nothing))) (32 ∷ []) Nothing; after = Nothing }

joined_texts_document : Document
joined_texts_document = record { mark = false; declaration = None; before = Nothing; root = Element (record { name = 97 ∷ []; attributes = []; gap = [] }) (Text (Char 120) (Comment (32 ∷ 45 ∷ 32 ∷ []) (Text (Char 121) (Section (60 ∷ 38 ∷ []) (Text (Char 93) (Text (Char 93) Nothing)))))) ([]) Nothing; after = Nothing }

brackets_otherwise_document : Document
brackets_otherwise_document = record { mark = false; declaration = None; before = Nothing; root = Element (record { name = 97 ∷ []; attributes = []; gap = [] }) (Text (Char 93) (Text (Char 93) (Text (Char 32) (Text (Char 93) (Text (Char 62) (Text (Char 93) (Text (Entity (103 ∷ 116 ∷ [])) Nothing))))))) ([]) Nothing; after = Nothing }

default_namespace_undone_document : Document
default_namespace_undone_document = record { mark = false; declaration = None; before = Nothing; root = Element (record { name = 97 ∷ []; attributes = (record { gap = 32 ∷ []; name = 120 ∷ 109 ∷ 108 ∷ 110 ∷ 115 ∷ []; before = []; after = []; quote = 39; value = (Char 117) ∷ [] }) ∷ []; gap = [] }) (Hollow (record { name = 98 ∷ []; attributes = (record { gap = 32 ∷ []; name = 120 ∷ 109 ∷ 108 ∷ 110 ∷ 115 ∷ []; before = []; after = []; quote = 39; value = [] }) ∷ []; gap = [] }) Nothing) ([]) Nothing; after = Nothing }

prefix_bound_anew_document : Document
prefix_bound_anew_document = record { mark = false; declaration = None; before = Nothing; root = Element (record { name = 112 ∷ 58 ∷ 97 ∷ []; attributes = (record { gap = 32 ∷ []; name = 120 ∷ 109 ∷ 108 ∷ 110 ∷ 115 ∷ 58 ∷ 112 ∷ []; before = []; after = []; quote = 39; value = (Char 117) ∷ [] }) ∷ []; gap = [] }) (Hollow (record { name = 112 ∷ 58 ∷ 98 ∷ []; attributes = (record { gap = 32 ∷ []; name = 120 ∷ 109 ∷ 108 ∷ 110 ∷ 115 ∷ 58 ∷ 112 ∷ []; before = []; after = []; quote = 39; value = (Char 118) ∷ [] }) ∷ []; gap = [] }) (Hollow (record { name = 112 ∷ 58 ∷ 99 ∷ []; attributes = []; gap = [] }) Nothing)) ([]) Nothing; after = Nothing }

the_prefix_xml_document : Document
the_prefix_xml_document = record { mark = false; declaration = None; before = Nothing; root = Hollow (record { name = 97 ∷ []; attributes = (record { gap = 32 ∷ []; name = 120 ∷ 109 ∷ 108 ∷ 58 ∷ 108 ∷ 97 ∷ 110 ∷ 103 ∷ []; before = []; after = []; quote = 39; value = (Char 101) ∷ (Char 110) ∷ [] }) ∷ []; gap = [] }) Nothing; after = Nothing }

attributes_in_order_document : Document
attributes_in_order_document = record { mark = false; declaration = None; before = Nothing; root = Hollow (record { name = 97 ∷ []; attributes = (record { gap = 32 ∷ []; name = 120 ∷ 109 ∷ 108 ∷ 110 ∷ 115 ∷ 58 ∷ 112 ∷ []; before = []; after = []; quote = 39; value = (Char 118) ∷ [] }) ∷ (record { gap = 32 ∷ []; name = 120 ∷ 109 ∷ 108 ∷ 110 ∷ 115 ∷ 58 ∷ 113 ∷ []; before = []; after = []; quote = 39; value = (Char 117) ∷ [] }) ∷ (record { gap = 32 ∷ []; name = 112 ∷ 58 ∷ 97 ∷ []; before = []; after = []; quote = 39; value = (Char 49) ∷ [] }) ∷ (record { gap = 32 ∷ []; name = 113 ∷ 58 ∷ 122 ∷ []; before = []; after = []; quote = 39; value = (Char 50) ∷ [] }) ∷ (record { gap = 32 ∷ []; name = 99 ∷ []; before = []; after = []; quote = 39; value = (Char 51) ∷ [] }) ∷ []; gap = [] }) Nothing; after = Nothing }

a_qualified_value_document : Document
a_qualified_value_document = record { mark = false; declaration = None; before = Nothing; root = Element (record { name = 101 ∷ 58 ∷ 86 ∷ 97 ∷ 108 ∷ 117 ∷ 101 ∷ []; attributes = (record { gap = 32 ∷ []; name = 120 ∷ 109 ∷ 108 ∷ 110 ∷ 115 ∷ 58 ∷ 101 ∷ []; before = []; after = []; quote = 39; value = (Char 104) ∷ (Char 116) ∷ (Char 116) ∷ (Char 112) ∷ (Char 58) ∷ (Char 47) ∷ (Char 47) ∷ (Char 119) ∷ (Char 119) ∷ (Char 119) ∷ (Char 46) ∷ (Char 119) ∷ (Char 51) ∷ (Char 46) ∷ (Char 111) ∷ (Char 114) ∷ (Char 103) ∷ (Char 47) ∷ (Char 50) ∷ (Char 48) ∷ (Char 48) ∷ (Char 51) ∷ (Char 47) ∷ (Char 48) ∷ (Char 53) ∷ (Char 47) ∷ (Char 115) ∷ (Char 111) ∷ (Char 97) ∷ (Char 112) ∷ (Char 45) ∷ (Char 101) ∷ (Char 110) ∷ (Char 118) ∷ (Char 101) ∷ (Char 108) ∷ (Char 111) ∷ (Char 112) ∷ (Char 101) ∷ [] }) ∷ []; gap = [] }) (Text (Char 32) (Text (Char 101) (Text (Char 58) (Comment (32 ∷ []) (Text (Char 97) (Text (Char 32) Nothing)))))) ([]) Nothing; after = Nothing }

unbound_in_a_branch_document : Document
unbound_in_a_branch_document = record { mark = false; declaration = None; before = Nothing; root = Element (record { name = 97 ∷ []; attributes = []; gap = [] }) (Hollow (record { name = 98 ∷ []; attributes = (record { gap = 32 ∷ []; name = 120 ∷ 109 ∷ 108 ∷ 110 ∷ 115 ∷ 58 ∷ 112 ∷ []; before = []; after = []; quote = 39; value = (Char 117) ∷ [] }) ∷ []; gap = [] }) (Hollow (record { name = 112 ∷ 58 ∷ 99 ∷ []; attributes = []; gap = [] }) Nothing)) ([]) Nothing; after = Nothing }

two_colons_document : Document
two_colons_document = record { mark = false; declaration = None; before = Nothing; root = Hollow (record { name = 97 ∷ 58 ∷ 98 ∷ 58 ∷ 99 ∷ []; attributes = (record { gap = 32 ∷ []; name = 120 ∷ 109 ∷ 108 ∷ 110 ∷ 115 ∷ 58 ∷ 97 ∷ []; before = []; after = []; quote = 39; value = (Char 117) ∷ [] }) ∷ []; gap = [] }) Nothing; after = Nothing }

undeclared_prefix_document : Document
undeclared_prefix_document = record { mark = false; declaration = None; before = Nothing; root = Hollow (record { name = 97 ∷ []; attributes = (record { gap = 32 ∷ []; name = 120 ∷ 109 ∷ 108 ∷ 110 ∷ 115 ∷ 58 ∷ 112 ∷ []; before = []; after = []; quote = 39; value = [] }) ∷ []; gap = [] }) Nothing; after = Nothing }

twice_as_bound_document : Document
twice_as_bound_document = record { mark = false; declaration = None; before = Nothing; root = Hollow (record { name = 97 ∷ []; attributes = (record { gap = 32 ∷ []; name = 120 ∷ 109 ∷ 108 ∷ 110 ∷ 115 ∷ 58 ∷ 112 ∷ []; before = []; after = []; quote = 39; value = (Char 117) ∷ [] }) ∷ (record { gap = 32 ∷ []; name = 120 ∷ 109 ∷ 108 ∷ 110 ∷ 115 ∷ 58 ∷ 113 ∷ []; before = []; after = []; quote = 39; value = (Char 117) ∷ [] }) ∷ (record { gap = 32 ∷ []; name = 112 ∷ 58 ∷ 98 ∷ []; before = []; after = []; quote = 39; value = [] }) ∷ (record { gap = 32 ∷ []; name = 113 ∷ 58 ∷ 98 ∷ []; before = []; after = []; quote = 39; value = [] }) ∷ []; gap = [] }) Nothing; after = Nothing }

a_number_of_no_character_document : Document
a_number_of_no_character_document = record { mark = false; declaration = None; before = Nothing; root = Hollow (record { name = 97 ∷ []; attributes = (record { gap = 32 ∷ []; name = 98 ∷ []; before = []; after = []; quote = 39; value = (Decimal (48 ∷ [])) ∷ [] }) ∷ []; gap = [] }) Nothing; after = Nothing }

unbound_in_a_value_document : Document
unbound_in_a_value_document = record { mark = false; declaration = None; before = Nothing; root = Element (record { name = 101 ∷ 58 ∷ 86 ∷ 97 ∷ 108 ∷ 117 ∷ 101 ∷ []; attributes = (record { gap = 32 ∷ []; name = 120 ∷ 109 ∷ 108 ∷ 110 ∷ 115 ∷ 58 ∷ 101 ∷ []; before = []; after = []; quote = 39; value = (Char 104) ∷ (Char 116) ∷ (Char 116) ∷ (Char 112) ∷ (Char 58) ∷ (Char 47) ∷ (Char 47) ∷ (Char 119) ∷ (Char 119) ∷ (Char 119) ∷ (Char 46) ∷ (Char 119) ∷ (Char 51) ∷ (Char 46) ∷ (Char 111) ∷ (Char 114) ∷ (Char 103) ∷ (Char 47) ∷ (Char 50) ∷ (Char 48) ∷ (Char 48) ∷ (Char 51) ∷ (Char 47) ∷ (Char 48) ∷ (Char 53) ∷ (Char 47) ∷ (Char 115) ∷ (Char 111) ∷ (Char 97) ∷ (Char 112) ∷ (Char 45) ∷ (Char 101) ∷ (Char 110) ∷ (Char 118) ∷ (Char 101) ∷ (Char 108) ∷ (Char 111) ∷ (Char 112) ∷ (Char 101) ∷ [] }) ∷ []; gap = [] }) (Text (Decimal (49 ∷ 49 ∷ 50 ∷ [])) (Text (Char 58) (Text (Char 97) Nothing))) ([]) Nothing; after = Nothing }

toolkit_is : IsWrittenAs toolkit_text toolkit_written
unfolding xml_ranges name_start_ranges name_more_ranges is_xml_text is_local_name xmlns_space xmlns_word envelope_space value_word xml_space xml_word text_byte value_byte declaration_word section_start section_end comment_start comment_end is_name xmlns_bytes entity_char number_of bound_by outermost attrs_of name_of with_text qualified_in is_utf8 chars digits encode toolkit_text toolkit_written toolkit_document prefix_document twice_document entity_document value_document any_document half_document inside_document quotes_and_references_document joined_texts_document brackets_otherwise_document default_namespace_undone_document prefix_bound_anew_document the_prefix_xml_document attributes_in_order_document a_qualified_value_document unbound_in_a_branch_document two_colons_document undeclared_prefix_document twice_as_bound_document a_number_of_no_character_document unbound_in_a_value_document
toolkit_is = record {
  tree = meaning toolkit_document;
  means = record { document = toolkit_document; spells = record { lawful = refl; spelled = refl }; faultless = refl; tree = refl };
  canonical_is = refl;
}

prefix_is : HasFault (codes "<p:a></p:a>") kind.Prefix 1
unfolding xml_ranges name_start_ranges name_more_ranges is_xml_text is_local_name xmlns_space xmlns_word envelope_space value_word xml_space xml_word text_byte value_byte declaration_word section_start section_end comment_start comment_end is_name xmlns_bytes entity_char number_of bound_by outermost attrs_of name_of with_text qualified_in is_utf8 chars digits encode toolkit_text toolkit_written toolkit_document prefix_document twice_document entity_document value_document any_document half_document inside_document quotes_and_references_document joined_texts_document brackets_otherwise_document default_namespace_undone_document prefix_bound_anew_document the_prefix_xml_document attributes_in_order_document a_qualified_value_document unbound_in_a_branch_document two_colons_document undeclared_prefix_document twice_as_bound_document a_number_of_no_character_document unbound_in_a_value_document
prefix_is = record {
  size = 11;
  longest = record { within = lit≤ tt; viable = (prefix_document, ([], record { lawful = refl; spelled = refl })); next = λ h. absurd (omega arith) };
  document = prefix_document;
  completes = ([], record { lawful = refl; spelled = refl });
  fault = record { kind = kind.Prefix; at = 1; end = 5 };
  among = (0, lit< tt, refl);
  kind_is = refl;
  at_is = refl;
  complete = lit≤ tt;
}

twice_is : HasFault (codes "<a b='1' b='2'/>") kind.Twice 9
unfolding xml_ranges name_start_ranges name_more_ranges is_xml_text is_local_name xmlns_space xmlns_word envelope_space value_word xml_space xml_word text_byte value_byte declaration_word section_start section_end comment_start comment_end is_name xmlns_bytes entity_char number_of bound_by outermost attrs_of name_of with_text qualified_in is_utf8 chars digits encode toolkit_text toolkit_written toolkit_document prefix_document twice_document entity_document value_document any_document half_document inside_document quotes_and_references_document joined_texts_document brackets_otherwise_document default_namespace_undone_document prefix_bound_anew_document the_prefix_xml_document attributes_in_order_document a_qualified_value_document unbound_in_a_branch_document two_colons_document undeclared_prefix_document twice_as_bound_document a_number_of_no_character_document unbound_in_a_value_document
twice_is = record {
  size = 16;
  longest = record { within = lit≤ tt; viable = (twice_document, ([], record { lawful = refl; spelled = refl })); next = λ h. absurd (omega arith) };
  document = twice_document;
  completes = ([], record { lawful = refl; spelled = refl });
  fault = record { kind = kind.Twice; at = 9; end = 16 };
  among = (0, lit< tt, refl);
  kind_is = refl;
  at_is = refl;
  complete = lit≤ tt;
}

entity_is : HasFault (codes "<a>&f;</a>") kind.Entity 3
unfolding xml_ranges name_start_ranges name_more_ranges is_xml_text is_local_name xmlns_space xmlns_word envelope_space value_word xml_space xml_word text_byte value_byte declaration_word section_start section_end comment_start comment_end is_name xmlns_bytes entity_char number_of bound_by outermost attrs_of name_of with_text qualified_in is_utf8 chars digits encode toolkit_text toolkit_written toolkit_document prefix_document twice_document entity_document value_document any_document half_document inside_document quotes_and_references_document joined_texts_document brackets_otherwise_document default_namespace_undone_document prefix_bound_anew_document the_prefix_xml_document attributes_in_order_document a_qualified_value_document unbound_in_a_branch_document two_colons_document undeclared_prefix_document twice_as_bound_document a_number_of_no_character_document unbound_in_a_value_document
entity_is = record {
  size = 10;
  longest = record { within = lit≤ tt; viable = (entity_document, ([], record { lawful = refl; spelled = refl })); next = λ h. absurd (omega arith) };
  document = entity_document;
  completes = ([], record { lawful = refl; spelled = refl });
  fault = record { kind = kind.Entity; at = 3; end = 6 };
  among = (0, lit< tt, refl);
  kind_is = refl;
  at_is = refl;
  complete = lit≤ tt;
}

value_is : HasFault (codes "<e:Value xmlns:e='http://www.w3.org/2003/05/soap-envelope'>1</e:Value>") kind.Syntax 0
unfolding xml_ranges name_start_ranges name_more_ranges is_xml_text is_local_name xmlns_space xmlns_word envelope_space value_word xml_space xml_word text_byte value_byte declaration_word section_start section_end comment_start comment_end is_name xmlns_bytes entity_char number_of bound_by outermost attrs_of name_of with_text qualified_in is_utf8 chars digits encode toolkit_text toolkit_written toolkit_document prefix_document twice_document entity_document value_document any_document half_document inside_document quotes_and_references_document joined_texts_document brackets_otherwise_document default_namespace_undone_document prefix_bound_anew_document the_prefix_xml_document attributes_in_order_document a_qualified_value_document unbound_in_a_branch_document two_colons_document undeclared_prefix_document twice_as_bound_document a_number_of_no_character_document unbound_in_a_value_document
value_is = record {
  size = 70;
  longest = record { within = lit≤ tt; viable = (value_document, ([], record { lawful = refl; spelled = refl })); next = λ h. absurd (omega arith) };
  document = value_document;
  completes = ([], record { lawful = refl; spelled = refl });
  fault = record { kind = kind.Syntax; at = 0; end = 70 };
  among = (0, lit< tt, refl);
  kind_is = refl;
  at_is = refl;
  complete = lit≤ tt;
}

doctype_is : HasDoctype (codes "<!DOCTYPE a><a></a>") 0
unfolding xml_ranges name_start_ranges name_more_ranges is_xml_text is_local_name xmlns_space xmlns_word envelope_space value_word xml_space xml_word text_byte value_byte declaration_word section_start section_end comment_start comment_end is_name xmlns_bytes entity_char number_of bound_by outermost attrs_of name_of with_text qualified_in is_utf8 chars digits encode toolkit_text toolkit_written toolkit_document prefix_document twice_document entity_document value_document any_document half_document inside_document quotes_and_references_document joined_texts_document brackets_otherwise_document default_namespace_undone_document prefix_bound_anew_document the_prefix_xml_document attributes_in_order_document a_qualified_value_document unbound_in_a_branch_document two_colons_document undeclared_prefix_document twice_as_bound_document a_number_of_no_character_document unbound_in_a_value_document
doctype_is = record { document = any_document; completes = (spell any_document, record { lawful = refl; spelled = refl }); stands = refl; behind = omega arith; before = omega arith; outside = refl }

half_is : HasDoctype (codes "<!-<!DOCTYPE a><a/>") 3
unfolding xml_ranges name_start_ranges name_more_ranges is_xml_text is_local_name xmlns_space xmlns_word envelope_space value_word xml_space xml_word text_byte value_byte declaration_word section_start section_end comment_start comment_end is_name xmlns_bytes entity_char number_of bound_by outermost attrs_of name_of with_text qualified_in is_utf8 chars digits encode toolkit_text toolkit_written toolkit_document prefix_document twice_document entity_document value_document any_document half_document inside_document quotes_and_references_document joined_texts_document brackets_otherwise_document default_namespace_undone_document prefix_bound_anew_document the_prefix_xml_document attributes_in_order_document a_qualified_value_document unbound_in_a_branch_document two_colons_document undeclared_prefix_document twice_as_bound_document a_number_of_no_character_document unbound_in_a_value_document
half_is = record { document = half_document; completes = (codes "---><a/>", record { lawful = refl; spelled = refl }); stands = refl; behind = omega arith; before = lit≤ tt; outside = refl }

inside_is : HasInstruction (codes "<a b='<?x?>'/>") 6
unfolding xml_ranges name_start_ranges name_more_ranges is_xml_text is_local_name xmlns_space xmlns_word envelope_space value_word xml_space xml_word text_byte value_byte declaration_word section_start section_end comment_start comment_end is_name xmlns_bytes entity_char number_of bound_by outermost attrs_of name_of with_text qualified_in is_utf8 chars digits encode toolkit_text toolkit_written toolkit_document prefix_document twice_document entity_document value_document any_document half_document inside_document quotes_and_references_document joined_texts_document brackets_otherwise_document default_namespace_undone_document prefix_bound_anew_document the_prefix_xml_document attributes_in_order_document a_qualified_value_document unbound_in_a_branch_document two_colons_document undeclared_prefix_document twice_as_bound_document a_number_of_no_character_document unbound_in_a_value_document
inside_is = record { document = inside_document; completes = (codes "'/>", record { lawful = refl; spelled = refl }); stands = refl; undeclared = refl; outside = refl }

quotes_and_references_is : IsWrittenAs (codes "<a b='\"&lt;&#x9;' >&amp;&#62;&apos;</a >") (codes "<a b=\"&quot;&lt;&#9;\">&amp;&gt;'</a>")
unfolding xml_ranges name_start_ranges name_more_ranges is_xml_text is_local_name xmlns_space xmlns_word envelope_space value_word xml_space xml_word text_byte value_byte declaration_word section_start section_end comment_start comment_end is_name xmlns_bytes entity_char number_of bound_by outermost attrs_of name_of with_text qualified_in is_utf8 chars digits encode toolkit_text toolkit_written toolkit_document prefix_document twice_document entity_document value_document any_document half_document inside_document quotes_and_references_document joined_texts_document brackets_otherwise_document default_namespace_undone_document prefix_bound_anew_document the_prefix_xml_document attributes_in_order_document a_qualified_value_document unbound_in_a_branch_document two_colons_document undeclared_prefix_document twice_as_bound_document a_number_of_no_character_document unbound_in_a_value_document
quotes_and_references_is = record {
  tree = meaning quotes_and_references_document;
  means = record { document = quotes_and_references_document; spells = record { lawful = refl; spelled = refl }; faultless = refl; tree = refl };
  canonical_is = refl;
}

joined_texts_is : IsWrittenAs (codes "<a>x<!-- - -->y<![CDATA[<&]]>]]</a>") (codes "<a>xy&lt;&amp;]]</a>")
unfolding xml_ranges name_start_ranges name_more_ranges is_xml_text is_local_name xmlns_space xmlns_word envelope_space value_word xml_space xml_word text_byte value_byte declaration_word section_start section_end comment_start comment_end is_name xmlns_bytes entity_char number_of bound_by outermost attrs_of name_of with_text qualified_in is_utf8 chars digits encode toolkit_text toolkit_written toolkit_document prefix_document twice_document entity_document value_document any_document half_document inside_document quotes_and_references_document joined_texts_document brackets_otherwise_document default_namespace_undone_document prefix_bound_anew_document the_prefix_xml_document attributes_in_order_document a_qualified_value_document unbound_in_a_branch_document two_colons_document undeclared_prefix_document twice_as_bound_document a_number_of_no_character_document unbound_in_a_value_document
joined_texts_is = record {
  tree = meaning joined_texts_document;
  means = record { document = joined_texts_document; spells = record { lawful = refl; spelled = refl }; faultless = refl; tree = refl };
  canonical_is = refl;
}

brackets_otherwise_is : IsWrittenAs (codes "<a>]] ]>]&gt;</a>") (codes "<a>]] ]&gt;]&gt;</a>")
unfolding xml_ranges name_start_ranges name_more_ranges is_xml_text is_local_name xmlns_space xmlns_word envelope_space value_word xml_space xml_word text_byte value_byte declaration_word section_start section_end comment_start comment_end is_name xmlns_bytes entity_char number_of bound_by outermost attrs_of name_of with_text qualified_in is_utf8 chars digits encode toolkit_text toolkit_written toolkit_document prefix_document twice_document entity_document value_document any_document half_document inside_document quotes_and_references_document joined_texts_document brackets_otherwise_document default_namespace_undone_document prefix_bound_anew_document the_prefix_xml_document attributes_in_order_document a_qualified_value_document unbound_in_a_branch_document two_colons_document undeclared_prefix_document twice_as_bound_document a_number_of_no_character_document unbound_in_a_value_document
brackets_otherwise_is = record {
  tree = meaning brackets_otherwise_document;
  means = record { document = brackets_otherwise_document; spells = record { lawful = refl; spelled = refl }; faultless = refl; tree = refl };
  canonical_is = refl;
}

default_namespace_undone_is : IsWrittenAs (codes "<a xmlns='u'><b xmlns=''/></a>") (codes "<n0:a xmlns:n0=\"u\"><b></b></n0:a>")
unfolding xml_ranges name_start_ranges name_more_ranges is_xml_text is_local_name xmlns_space xmlns_word envelope_space value_word xml_space xml_word text_byte value_byte declaration_word section_start section_end comment_start comment_end is_name xmlns_bytes entity_char number_of bound_by outermost attrs_of name_of with_text qualified_in is_utf8 chars digits encode toolkit_text toolkit_written toolkit_document prefix_document twice_document entity_document value_document any_document half_document inside_document quotes_and_references_document joined_texts_document brackets_otherwise_document default_namespace_undone_document prefix_bound_anew_document the_prefix_xml_document attributes_in_order_document a_qualified_value_document unbound_in_a_branch_document two_colons_document undeclared_prefix_document twice_as_bound_document a_number_of_no_character_document unbound_in_a_value_document
default_namespace_undone_is = record {
  tree = meaning default_namespace_undone_document;
  means = record { document = default_namespace_undone_document; spells = record { lawful = refl; spelled = refl }; faultless = refl; tree = refl };
  canonical_is = refl;
}

prefix_bound_anew_is : IsWrittenAs (codes "<p:a xmlns:p='u'><p:b xmlns:p='v'/><p:c/></p:a>") (codes "<n0:a xmlns:n0=\"u\" xmlns:n1=\"v\"><n1:b></n1:b><n0:c></n0:c></n0:a>")
unfolding xml_ranges name_start_ranges name_more_ranges is_xml_text is_local_name xmlns_space xmlns_word envelope_space value_word xml_space xml_word text_byte value_byte declaration_word section_start section_end comment_start comment_end is_name xmlns_bytes entity_char number_of bound_by outermost attrs_of name_of with_text qualified_in is_utf8 chars digits encode toolkit_text toolkit_written toolkit_document prefix_document twice_document entity_document value_document any_document half_document inside_document quotes_and_references_document joined_texts_document brackets_otherwise_document default_namespace_undone_document prefix_bound_anew_document the_prefix_xml_document attributes_in_order_document a_qualified_value_document unbound_in_a_branch_document two_colons_document undeclared_prefix_document twice_as_bound_document a_number_of_no_character_document unbound_in_a_value_document
prefix_bound_anew_is = record {
  tree = meaning prefix_bound_anew_document;
  means = record { document = prefix_bound_anew_document; spells = record { lawful = refl; spelled = refl }; faultless = refl; tree = refl };
  canonical_is = refl;
}

the_prefix_xml_is : IsWrittenAs (codes "<a xml:lang='en'/>") (codes "<a xml:lang=\"en\"></a>")
unfolding xml_ranges name_start_ranges name_more_ranges is_xml_text is_local_name xmlns_space xmlns_word envelope_space value_word xml_space xml_word text_byte value_byte declaration_word section_start section_end comment_start comment_end is_name xmlns_bytes entity_char number_of bound_by outermost attrs_of name_of with_text qualified_in is_utf8 chars digits encode toolkit_text toolkit_written toolkit_document prefix_document twice_document entity_document value_document any_document half_document inside_document quotes_and_references_document joined_texts_document brackets_otherwise_document default_namespace_undone_document prefix_bound_anew_document the_prefix_xml_document attributes_in_order_document a_qualified_value_document unbound_in_a_branch_document two_colons_document undeclared_prefix_document twice_as_bound_document a_number_of_no_character_document unbound_in_a_value_document
the_prefix_xml_is = record {
  tree = meaning the_prefix_xml_document;
  means = record { document = the_prefix_xml_document; spells = record { lawful = refl; spelled = refl }; faultless = refl; tree = refl };
  canonical_is = refl;
}

attributes_in_order_is : IsWrittenAs (codes "<a xmlns:p='v' xmlns:q='u' p:a='1' q:z='2' c='3'/>") (codes "<a xmlns:n0=\"u\" xmlns:n1=\"v\" c=\"3\" n0:z=\"2\" n1:a=\"1\"></a>")
unfolding xml_ranges name_start_ranges name_more_ranges is_xml_text is_local_name xmlns_space xmlns_word envelope_space value_word xml_space xml_word text_byte value_byte declaration_word section_start section_end comment_start comment_end is_name xmlns_bytes entity_char number_of bound_by outermost attrs_of name_of with_text qualified_in is_utf8 chars digits encode toolkit_text toolkit_written toolkit_document prefix_document twice_document entity_document value_document any_document half_document inside_document quotes_and_references_document joined_texts_document brackets_otherwise_document default_namespace_undone_document prefix_bound_anew_document the_prefix_xml_document attributes_in_order_document a_qualified_value_document unbound_in_a_branch_document two_colons_document undeclared_prefix_document twice_as_bound_document a_number_of_no_character_document unbound_in_a_value_document
attributes_in_order_is = record {
  tree = meaning attributes_in_order_document;
  means = record { document = attributes_in_order_document; spells = record { lawful = refl; spelled = refl }; faultless = refl; tree = refl };
  canonical_is = refl;
}

a_qualified_value_is : IsWrittenAs (codes "<e:Value xmlns:e='http://www.w3.org/2003/05/soap-envelope'> e:<!-- -->a </e:Value>") (codes "<n0:Value xmlns:n0=\"http://www.w3.org/2003/05/soap-envelope\">n0:a</n0:Value>")
unfolding xml_ranges name_start_ranges name_more_ranges is_xml_text is_local_name xmlns_space xmlns_word envelope_space value_word xml_space xml_word text_byte value_byte declaration_word section_start section_end comment_start comment_end is_name xmlns_bytes entity_char number_of bound_by outermost attrs_of name_of with_text qualified_in is_utf8 chars digits encode toolkit_text toolkit_written toolkit_document prefix_document twice_document entity_document value_document any_document half_document inside_document quotes_and_references_document joined_texts_document brackets_otherwise_document default_namespace_undone_document prefix_bound_anew_document the_prefix_xml_document attributes_in_order_document a_qualified_value_document unbound_in_a_branch_document two_colons_document undeclared_prefix_document twice_as_bound_document a_number_of_no_character_document unbound_in_a_value_document
a_qualified_value_is = record {
  tree = meaning a_qualified_value_document;
  means = record { document = a_qualified_value_document; spells = record { lawful = refl; spelled = refl }; faultless = refl; tree = refl };
  canonical_is = refl;
}

unbound_in_a_branch_is : HasFault (codes "<a><b xmlns:p='u'/><p:c/></a>") kind.Prefix 20
unfolding xml_ranges name_start_ranges name_more_ranges is_xml_text is_local_name xmlns_space xmlns_word envelope_space value_word xml_space xml_word text_byte value_byte declaration_word section_start section_end comment_start comment_end is_name xmlns_bytes entity_char number_of bound_by outermost attrs_of name_of with_text qualified_in is_utf8 chars digits encode toolkit_text toolkit_written toolkit_document prefix_document twice_document entity_document value_document any_document half_document inside_document quotes_and_references_document joined_texts_document brackets_otherwise_document default_namespace_undone_document prefix_bound_anew_document the_prefix_xml_document attributes_in_order_document a_qualified_value_document unbound_in_a_branch_document two_colons_document undeclared_prefix_document twice_as_bound_document a_number_of_no_character_document unbound_in_a_value_document
unbound_in_a_branch_is = record {
  size = 29;
  longest = record { within = lit≤ tt; viable = (unbound_in_a_branch_document, ([], record { lawful = refl; spelled = refl })); next = λ h. absurd (omega arith) };
  document = unbound_in_a_branch_document;
  completes = ([], record { lawful = refl; spelled = refl });
  fault = record { kind = kind.Prefix; at = 20; end = 25 };
  among = (0, lit< tt, refl);
  kind_is = refl;
  at_is = refl;
  complete = lit≤ tt;
}

two_colons_is : HasFault (codes "<a:b:c xmlns:a='u'/>") kind.Prefix 1
unfolding xml_ranges name_start_ranges name_more_ranges is_xml_text is_local_name xmlns_space xmlns_word envelope_space value_word xml_space xml_word text_byte value_byte declaration_word section_start section_end comment_start comment_end is_name xmlns_bytes entity_char number_of bound_by outermost attrs_of name_of with_text qualified_in is_utf8 chars digits encode toolkit_text toolkit_written toolkit_document prefix_document twice_document entity_document value_document any_document half_document inside_document quotes_and_references_document joined_texts_document brackets_otherwise_document default_namespace_undone_document prefix_bound_anew_document the_prefix_xml_document attributes_in_order_document a_qualified_value_document unbound_in_a_branch_document two_colons_document undeclared_prefix_document twice_as_bound_document a_number_of_no_character_document unbound_in_a_value_document
two_colons_is = record {
  size = 20;
  longest = record { within = lit≤ tt; viable = (two_colons_document, ([], record { lawful = refl; spelled = refl })); next = λ h. absurd (omega arith) };
  document = two_colons_document;
  completes = ([], record { lawful = refl; spelled = refl });
  fault = record { kind = kind.Prefix; at = 1; end = 20 };
  among = (0, lit< tt, refl);
  kind_is = refl;
  at_is = refl;
  complete = lit≤ tt;
}

undeclared_prefix_is : HasFault (codes "<a xmlns:p=''/>") kind.Prefix 3
unfolding xml_ranges name_start_ranges name_more_ranges is_xml_text is_local_name xmlns_space xmlns_word envelope_space value_word xml_space xml_word text_byte value_byte declaration_word section_start section_end comment_start comment_end is_name xmlns_bytes entity_char number_of bound_by outermost attrs_of name_of with_text qualified_in is_utf8 chars digits encode toolkit_text toolkit_written toolkit_document prefix_document twice_document entity_document value_document any_document half_document inside_document quotes_and_references_document joined_texts_document brackets_otherwise_document default_namespace_undone_document prefix_bound_anew_document the_prefix_xml_document attributes_in_order_document a_qualified_value_document unbound_in_a_branch_document two_colons_document undeclared_prefix_document twice_as_bound_document a_number_of_no_character_document unbound_in_a_value_document
undeclared_prefix_is = record {
  size = 15;
  longest = record { within = lit≤ tt; viable = (undeclared_prefix_document, ([], record { lawful = refl; spelled = refl })); next = λ h. absurd (omega arith) };
  document = undeclared_prefix_document;
  completes = ([], record { lawful = refl; spelled = refl });
  fault = record { kind = kind.Prefix; at = 3; end = 15 };
  among = (0, lit< tt, refl);
  kind_is = refl;
  at_is = refl;
  complete = lit≤ tt;
}

twice_as_bound_is : HasFault (codes "<a xmlns:p='u' xmlns:q='u' p:b='' q:b=''/>") kind.Twice 34
unfolding xml_ranges name_start_ranges name_more_ranges is_xml_text is_local_name xmlns_space xmlns_word envelope_space value_word xml_space xml_word text_byte value_byte declaration_word section_start section_end comment_start comment_end is_name xmlns_bytes entity_char number_of bound_by outermost attrs_of name_of with_text qualified_in is_utf8 chars digits encode toolkit_text toolkit_written toolkit_document prefix_document twice_document entity_document value_document any_document half_document inside_document quotes_and_references_document joined_texts_document brackets_otherwise_document default_namespace_undone_document prefix_bound_anew_document the_prefix_xml_document attributes_in_order_document a_qualified_value_document unbound_in_a_branch_document two_colons_document undeclared_prefix_document twice_as_bound_document a_number_of_no_character_document unbound_in_a_value_document
twice_as_bound_is = record {
  size = 42;
  longest = record { within = lit≤ tt; viable = (twice_as_bound_document, ([], record { lawful = refl; spelled = refl })); next = λ h. absurd (omega arith) };
  document = twice_as_bound_document;
  completes = ([], record { lawful = refl; spelled = refl });
  fault = record { kind = kind.Twice; at = 34; end = 42 };
  among = (0, lit< tt, refl);
  kind_is = refl;
  at_is = refl;
  complete = lit≤ tt;
}

a_number_of_no_character_is : HasFault (codes "<a b='&#0;'/>") kind.Entity 6
unfolding xml_ranges name_start_ranges name_more_ranges is_xml_text is_local_name xmlns_space xmlns_word envelope_space value_word xml_space xml_word text_byte value_byte declaration_word section_start section_end comment_start comment_end is_name xmlns_bytes entity_char number_of bound_by outermost attrs_of name_of with_text qualified_in is_utf8 chars digits encode toolkit_text toolkit_written toolkit_document prefix_document twice_document entity_document value_document any_document half_document inside_document quotes_and_references_document joined_texts_document brackets_otherwise_document default_namespace_undone_document prefix_bound_anew_document the_prefix_xml_document attributes_in_order_document a_qualified_value_document unbound_in_a_branch_document two_colons_document undeclared_prefix_document twice_as_bound_document a_number_of_no_character_document unbound_in_a_value_document
a_number_of_no_character_is = record {
  size = 13;
  longest = record { within = lit≤ tt; viable = (a_number_of_no_character_document, ([], record { lawful = refl; spelled = refl })); next = λ h. absurd (omega arith) };
  document = a_number_of_no_character_document;
  completes = ([], record { lawful = refl; spelled = refl });
  fault = record { kind = kind.Entity; at = 6; end = 10 };
  among = (0, lit< tt, refl);
  kind_is = refl;
  at_is = refl;
  complete = lit≤ tt;
}

unbound_in_a_value_is : HasFault (codes "<e:Value xmlns:e='http://www.w3.org/2003/05/soap-envelope'>&#112;:a</e:Value>") kind.Prefix 59
unfolding xml_ranges name_start_ranges name_more_ranges is_xml_text is_local_name xmlns_space xmlns_word envelope_space value_word xml_space xml_word text_byte value_byte declaration_word section_start section_end comment_start comment_end is_name xmlns_bytes entity_char number_of bound_by outermost attrs_of name_of with_text qualified_in is_utf8 chars digits encode toolkit_text toolkit_written toolkit_document prefix_document twice_document entity_document value_document any_document half_document inside_document quotes_and_references_document joined_texts_document brackets_otherwise_document default_namespace_undone_document prefix_bound_anew_document the_prefix_xml_document attributes_in_order_document a_qualified_value_document unbound_in_a_branch_document two_colons_document undeclared_prefix_document twice_as_bound_document a_number_of_no_character_document unbound_in_a_value_document
unbound_in_a_value_is = record {
  size = 77;
  longest = record { within = lit≤ tt; viable = (unbound_in_a_value_document, ([], record { lawful = refl; spelled = refl })); next = λ h. absurd (omega arith) };
  document = unbound_in_a_value_document;
  completes = ([], record { lawful = refl; spelled = refl });
  fault = record { kind = kind.Prefix; at = 59; end = 77 };
  among = (0, lit< tt, refl);
  kind_is = refl;
  at_is = refl;
  complete = lit≤ tt;
}

pub worked : WorkedTexts
worked = record {
  quotes_and_references = quotes_and_references_is;
  joined_texts = joined_texts_is;
  brackets_otherwise = brackets_otherwise_is;
  default_namespace_undone = default_namespace_undone_is;
  prefix_bound_anew = prefix_bound_anew_is;
  the_prefix_xml = the_prefix_xml_is;
  attributes_in_order = attributes_in_order_is;
  a_qualified_value = a_qualified_value_is;
  unbound_in_a_branch = unbound_in_a_branch_is;
  two_colons = two_colons_is;
  undeclared_prefix = undeclared_prefix_is;
  twice_as_bound = twice_as_bound_is;
  a_number_of_no_character = a_number_of_no_character_is;
  unbound_in_a_value = unbound_in_a_value_is;
  toolkit = toolkit_is;
  prefix = prefix_is;
  twice = twice_is;
  entity = entity_is;
  value = inl value_is;
  doctype = doctype_is;
  doctype_after_half_a_comment = half_is;
  instruction_inside_a_value = inside_is;
}
