use Rattle.std.proofs.Common.{sym, ◌∙◌}
use Rattle.pws_tree.proofs.Passing.{xml_text_is}
use Rattle.pws_tree.proofs.characters.is_xml_text.Goals as goal

pub returns : goal.returns
returns c = c.are_xml_chars.ensures ∙ sym (xml_text_is _ c.utf8.text)
