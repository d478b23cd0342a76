use Rattle.std.proofs.Common.{◌≡◌, drop, true}
use Rattle.pws_mark.specs.Tokens.{goes_on}
use Rattle.pws_mark.proofs.words.is_name.Given as goal

abbrev pub invariant-loop-c : goal.invariant-loop-c
invariant-loop-c l = goes_on true l.name ≡ goes_on l.starts (drop l.c-index l.name)
