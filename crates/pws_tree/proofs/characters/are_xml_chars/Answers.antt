use Rattle.std.proofs.Common.{sym, ◌∙◌}
use Rattle.std.proofs.lemmas.Str.{IsUtf8-past_char}
use Rattle.pws_tree.specs.Characters.{is_xml_char}
use Rattle.pws_tree.proofs.Passing.{all_fails, all_goes_on, all_of_none}
use Rattle.pws_tree.proofs.characters.are_xml_chars.Goals as goal

pub returns-then-not-is_xml_char : goal.returns-then-not-is_xml_char
returns-then-not-is_xml_char c = sym (c.loop-c.invariant.1 ∙ all_fails is_xml_char _ _ c.in-Some.c c.loop-c.invariant.0 c.in-Some.ensures.steps.0 (sym c.if-not-is_xml_char.ensures))

pub loop-c-preserved : goal.loop-c-preserved
loop-c-preserved c = (
  IsUtf8-past_char _ _ c.in-Some.c c.loop-c.invariant.0 c.in-Some.ensures.steps.0,
  c.loop-c.invariant.1 ∙ all_goes_on is_xml_char _ _ c.in-Some.c c.loop-c.invariant.0 c.in-Some.ensures.steps.0 (sym c.if-not-is_xml_char.ensures),
)

pub returns : goal.returns
returns c = sym (c.loop-c.invariant.1 ∙ all_of_none is_xml_char _ c.in-None.ensures.steps.0.0)
