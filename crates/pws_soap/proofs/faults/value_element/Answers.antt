use Rattle.pws_tree.specs.Names.{value_word}
use Rattle.pws_soap.proofs.FaultTrees.{value_lawful}
use Rattle.pws_soap.proofs.faults.value_element.Goals as goal

pub soap_element-requires : goal.soap_element-requires
unfolding value_word
soap_element-requires c = rw c.in_ok-children.ensures.items (value_lawful c.args.name c.requires)
