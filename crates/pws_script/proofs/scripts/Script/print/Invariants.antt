use Rattle.std.proofs.Common.{◌≡◌, ◌∷◌, ◌++◌, [], take}
use Rattle.std.specs.List.{flat_map}
use Rattle.pws_script.specs.Spelling.{spelling}
use Rattle.pws_script.proofs.scripts.Script.print.Given as goal

abbrev pub invariant-loop-instruction : goal.invariant-loop-instruction
invariant-loop-instruction l = l.text ≡ flat_map (λ i. spelling i ++ 10 ∷ []) (take l.instruction-index l.instruction-items)
