use Rattle.std.proofs.Common.{◌≡◌, ◌++◌, take}
use Rattle.std.specs.List.{flat_map}
use Rattle.pws_msg.specs.RawPackets.{raw_voucher_text}
use Rattle.pws_msg.proofs.raw_packets.put_raw_vouchers.Given as goal

abbrev pub invariant-loop-voucher : goal.invariant-loop-voucher
invariant-loop-voucher l = l.text ≡ l.initial.text ++ flat_map raw_voucher_text (take l.voucher-index l.vouchers)
