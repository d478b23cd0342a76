use Rattle.std.proofs.Common.{length, ◌≡◌, ◌+◌, ◌≤◌, take}
use Rattle.std.specs.List.{suffix_len}
use Rattle.pws_mark.specs.Tokens.{is_white}
use Rattle.pws_soap.proofs.white.white_behind.Given as goal

abbrev pub invariant-loop-n : goal.invariant-loop-n
invariant-loop-n l = (l.n ≤ length l.text) × (suffix_len is_white l.text + l.n ≡ length l.text + suffix_len is_white (take l.n l.text))

abbrev pub decreases-loop-n : goal.decreases-loop-n
decreases-loop-n l = l.n
