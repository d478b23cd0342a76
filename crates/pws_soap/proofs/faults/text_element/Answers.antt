use Rattle.pws_soap.specs.Names.{text_word}
use Rattle.pws_soap.proofs.FaultTrees.{text_tree_lawful}
use Rattle.pws_soap.proofs.faults.text_element.Goals as goal

pub of_lawful-requires : goal.of_lawful-requires
unfolding text_word
of_lawful-requires c = rw (c.in_ok-name.ensures, c.in_ok-attrs.ensures.items, c.in_ok-language.ensures, c.in_ok-children.ensures) (text_tree_lawful c.args.reason.now c.requires)
