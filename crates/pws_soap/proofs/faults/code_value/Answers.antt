use Rattle.pws_soap.proofs.FaultTrees.{code_lawful}
use Rattle.pws_soap.proofs.faults.code_value.Goals as goal

pub value_element-requires : goal.value_element-requires
value_element-requires c = rw (c.in_ok-name.ensures, c.word_of.ensures) (code_lawful c.args.code)
