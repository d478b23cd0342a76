use Rattle.pws_tree.specs.Characters.{is_xml_text}
use Rattle.pws_soap.specs.Names.{fault_word}
use Rattle.pws_soap.specs.Faults.{is_lawful_subcode}
use Rattle.pws_soap.proofs.Joined.{first_true, second_true}
use Rattle.pws_soap.proofs.FaultTrees.{fault_lawful}
use Rattle.pws_soap.proofs.faults.fault_element.Goals as goal

pub soap_element-requires : goal.soap_element-requires
unfolding fault_word
soap_element-requires c =
    rw (c.in_ok-children.ensures.items, c.in_ok-code.ensures, c.in_ok-reason.ensures)
    (fault_lawful (record { code = c.fault.inside.code; subcode = c.fault.inside.subcode; reason = c.fault.inside.reason })
    (first_true (is_lawful_subcode c.fault.inside.subcode) (is_xml_text c.fault.inside.reason) c.fault.invariant)
    (second_true (is_lawful_subcode c.fault.inside.subcode) (is_xml_text c.fault.inside.reason) c.fault.invariant))
