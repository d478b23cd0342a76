-- Which parts make a fault.
use Rattle.std.specs.Prelude.{◌≡◌, Result, Ok, Err, IsTrue}
use Rattle.pws_soap.specs.Faults.{Faulted, is_lawful_fault}
use Rattle.pws_soap.specs.declared.faults.BadFault.{BadFault}

-- the fault of these parts, or it would not be lawful
abbrev pub MakesFault : Faulted → Result Faulted BadFault → Type 0
MakesFault parts (Ok f) = f ≡ parts
MakesFault parts (Err bad) = ¬ (IsTrue (is_lawful_fault parts))
