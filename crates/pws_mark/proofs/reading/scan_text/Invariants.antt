use Rattle.std.proofs.Common.{IsUtf8, chars}
use Rattle.std.specs.Str.Iter.{chars_rest}
use Rattle.pws_mark.specs.Taken.{HasTaken}
use Rattle.pws_mark.proofs.reading.scan_text.Given as goal

abbrev pub invariant-loop-c : goal.invariant-loop-c
invariant-loop-c l = IsUtf8 (chars_rest l.c-iterator) × HasTaken (chars l.fn.text) (chars (chars_rest l.c-iterator)) l.scan
