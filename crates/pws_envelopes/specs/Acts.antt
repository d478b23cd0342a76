-- The service from scratch: the acts of a script over envelopes of SOAP 1.2, on a list of effects. This project's own.
use Rattle.std.specs.Prelude.{ℕ, List}
use Rattle.pws_event.specs.declared.events.Event.{Event}
use Rattle.pws_script.specs.declared.instructions.Instruction.{Instruction}
use Rattle.pws_service.specs.declared.acts.Act.{Act}
use Rattle.pws_driver.specs.Runs.{acts_of}
use Rattle.pws_envelopes.specs.SoapWords.{soap_words}

-- the acts of a script in the group me of this layout
abbrev pub soap_acts : List Instruction → ℕ → List ℕ → List Event → List Act
soap_acts script me layout effects = acts_of (record { words = soap_words; script = script; me = me; layout = layout }) effects
