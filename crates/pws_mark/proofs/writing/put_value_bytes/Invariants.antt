use Rattle.std.proofs.Common.{◌≡◌, ◌++◌, take}
use Rattle.std.specs.List.{flat_map}
use Rattle.pws_mark.specs.Canonical.{value_byte}
use Rattle.pws_mark.proofs.writing.put_value_bytes.Given as goal

abbrev pub invariant-loop-byte : goal.invariant-loop-byte
invariant-loop-byte l = l.out ≡ l.initial.out ++ flat_map value_byte (take l.byte-index l.byte-items)
