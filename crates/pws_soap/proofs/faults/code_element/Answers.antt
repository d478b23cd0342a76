use Rattle.pws_soap.specs.Names.{code_word}
use Rattle.pws_soap.proofs.FaultTrees.{code_tree_lawful}
use Rattle.pws_soap.proofs.faults.code_element.Goals as goal

pub soap_element-requires : goal.soap_element-requires
unfolding code_word
soap_element-requires c = rw c.in_ok-children.ensures (code_tree_lawful c.args.code c.args.subcode.now c.requires)
