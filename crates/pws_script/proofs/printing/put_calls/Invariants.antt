use Rattle.std.proofs.Common.{◌≡◌, ◌++◌, map, take}
use Rattle.pws_script.specs.Spelling.{register_text, spaced}
use Rattle.pws_script.proofs.printing.put_calls.Given as goal

abbrev pub invariant-loop-register : goal.invariant-loop-register
invariant-loop-register l = l.text ≡ l.fn.text ++ spaced (map register_text (take l.register-index l.registers))
