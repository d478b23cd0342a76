use Rattle.std.proofs.Common.{◌≡◌, map, take}
use Rattle.pws_runs.specs.Saying.{verifies}
use Rattle.pws_opening.proofs.members.Member.marks.Given as goal

abbrev pub invariant-loop-voucher : goal.invariant-loop-voucher
invariant-loop-voucher l = l.marks ≡ map (verifies l.self.keys l.self.me) (take l.voucher-index l.vouchers)
