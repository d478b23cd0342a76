use Rattle.std.proofs.Common.{◌≡◌, ◌++◌, drop}
use Rattle.pws_mark.specs.Canonical.{declarations_text}
use Rattle.pws_mark.proofs.Walks.{declared_from}
use Rattle.pws_mark.proofs.writing.put_declarations.Given as goal

abbrev pub invariant-loop-place : goal.invariant-loop-place
invariant-loop-place l = l.out ++ declared_from l.place (drop l.place l.spaces) ≡ l.initial.out ++ declarations_text l.spaces
