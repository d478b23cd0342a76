use Rattle.std.proofs.Common.{refl}
use Rattle.pws_tree.specs.Characters.{xml_ranges, name_start_ranges, name_more_ranges}
use Rattle.pws_mark.specs.CharacterTable.{character_table}
use Rattle.pws_mark.proofs.character_table.Goals as goal

pub returns : goal.returns
unfolding xml_ranges name_start_ranges name_more_ranges character_table
returns c = refl
