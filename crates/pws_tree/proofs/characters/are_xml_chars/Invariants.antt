use Rattle.std.proofs.Common.{◌≡◌, IsUtf8, chars}
use Rattle.std.specs.Str.Iter.{chars_rest}
use Rattle.std.specs.List.{list_all}
use Rattle.pws_tree.specs.Characters.{is_xml_char}
use Rattle.pws_tree.proofs.characters.are_xml_chars.Given as goal

abbrev pub invariant-loop-c : goal.invariant-loop-c
invariant-loop-c l = IsUtf8 (chars_rest l.c-iterator) × (list_all is_xml_char (chars l.fn.text) ≡ list_all is_xml_char (chars (chars_rest l.c-iterator)))
