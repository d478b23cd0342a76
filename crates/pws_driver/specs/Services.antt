-- What is run: a script, in a group of a layout, with the meaning of envelopes.
use Rattle.std.specs.Prelude.{ℕ, List}
use Rattle.pws_script.specs.declared.instructions.Instruction.{Instruction}
use Rattle.pws_driver.specs.Envelopes.{EnvelopeWords}
use Rattle.pws_driver.specs.declared.programs.Program.{Program}

pub record Service : Type 0 where
  pub words : EnvelopeWords
  pub script : List Instruction
  pub me : ℕ
  pub layout : List ℕ

abbrev pub service_of : EnvelopeWords → Program → Service
service_of words p = record { words = words; script = p.script; me = p.me; layout = p.layout }
