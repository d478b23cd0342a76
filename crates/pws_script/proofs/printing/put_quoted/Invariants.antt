use Rattle.std.proofs.Common.{◌≡◌, ◌∷◌, ◌++◌, take}
use Rattle.std.specs.List.{flat_map}
use Rattle.pws_script.specs.Spelling.{escape}
use Rattle.pws_script.proofs.printing.put_quoted.Given as goal

abbrev pub invariant-loop-byte : goal.invariant-loop-byte
invariant-loop-byte l = l.text ≡ l.fn.text ++ (34 ∷ flat_map escape (take l.byte-index l.bytes))
