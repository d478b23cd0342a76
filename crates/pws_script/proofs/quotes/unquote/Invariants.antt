use Rattle.std.proofs.Common.{◌≡◌, drop, false}
use Rattle.pws_script.specs.Reading.{bytes_after}
use Rattle.pws_script.proofs.Onto.{onto}
use Rattle.pws_script.proofs.quotes.unquote.Given as goal

abbrev pub invariant-loop-i : goal.invariant-loop-i
invariant-loop-i l = bytes_after false l.quoted ≡ onto l.bytes.items (bytes_after l.escaped (drop l.i l.quoted))
