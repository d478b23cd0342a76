use Rattle.std.proofs.Common.{arith}
use Rattle.pws_msg.specs.Packets.{IsVoucher}
use Rattle.pws_msg.proofs.Attached.{all_more, all_gone}
use Rattle.pws_msg.proofs.packets.vouchers_are_lawful.Goals as goal

pub loop-voucher-preserved : goal.loop-voucher-preserved
loop-voucher-preserved c = all_more IsVoucher c.args.vouchers.now c.loop-voucher.voucher-index c.voucher-item.result (omega arith) c.voucher-item.is c.sender-sender.ensures.lawful c.loop-voucher.invariant

pub returns : goal.returns
returns c = all_gone IsVoucher c.args.vouchers.now c.loop-voucher.voucher-index (omega arith) c.loop-voucher.invariant
