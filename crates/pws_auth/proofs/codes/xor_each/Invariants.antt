use Rattle.std.proofs.Common.{◌≡◌, ◌++◌, take, drop}
use Rattle.pws_auth.specs.Hmac.{xor_each}
use Rattle.pws_auth.proofs.codes.xor_each.Given as goal

abbrev pub invariant-loop-byte : goal.invariant-loop-byte
invariant-loop-byte l = l.byte-items ≡ xor_each l.pad (take l.byte-index l.block) ++ drop l.byte-index l.block
