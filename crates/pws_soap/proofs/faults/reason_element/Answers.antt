use Rattle.pws_soap.specs.Names.{reason_word}
use Rattle.pws_soap.proofs.FaultTrees.{reason_lawful}
use Rattle.pws_soap.proofs.faults.reason_element.Goals as goal

pub soap_element-requires : goal.soap_element-requires
unfolding reason_word
soap_element-requires c = rw (c.in_ok-children.ensures.items, c.in_ok-text.ensures) (reason_lawful c.args.reason.now c.requires)
