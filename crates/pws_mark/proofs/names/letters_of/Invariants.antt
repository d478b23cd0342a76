use Rattle.std.proofs.Common.{◌≡◌, take}
use Rattle.pws_mark.proofs.names.letters_of.Given as goal

abbrev pub invariant-loop-c : goal.invariant-loop-c
invariant-loop-c l = l.letters ≡ take l.c-index l.chars
