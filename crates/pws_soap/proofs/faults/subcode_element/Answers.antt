use Rattle.pws_soap.specs.Names.{subcode_word}
use Rattle.pws_soap.proofs.FaultTrees.{subcode_lawful}
use Rattle.pws_soap.proofs.faults.subcode_element.Goals as goal

pub soap_element-requires : goal.soap_element-requires
unfolding subcode_word
soap_element-requires c = rw (c.in_ok-children.ensures.items, c.in_ok-value.ensures) (subcode_lawful c.args.name c.requires)
