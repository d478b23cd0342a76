use Rattle.std.proofs.Common.{◌≡◌, drop}
use Rattle.pws_mark.specs.Values.{behind_white}
use Rattle.pws_mark.proofs.words.behind_white.Given as goal

abbrev pub invariant-loop-place : goal.invariant-loop-place
invariant-loop-place l = behind_white l.chars ≡ behind_white (drop l.place l.chars)
