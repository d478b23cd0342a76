use Rattle.std.proofs.Common.{◌≡◌, ◌++◌, take}
use Rattle.std.specs.List.{flat_map}
use Rattle.pws_msg.specs.Packets.{voucher_text}
use Rattle.pws_msg.proofs.packet_writing.put_each_voucher.Given as goal

abbrev pub invariant-loop-voucher : goal.invariant-loop-voucher
invariant-loop-voucher l = l.text ≡ l.initial.text ++ flat_map voucher_text (take l.voucher-index l.vouchers)
