use Rattle.std.proofs.Common.{take, All}
use Rattle.pws_msg.specs.Packets.{IsVoucher}
use Rattle.pws_msg.proofs.packets.vouchers_are_lawful.Given as goal

abbrev pub invariant-loop-voucher : goal.invariant-loop-voucher
invariant-loop-voucher l = All IsVoucher (take l.voucher-index l.vouchers)
