use Rattle.std.proofs.Common.{◌≡◌, ◌-◌, length, All}
use Rattle.pws_msg.specs.Packets.{VoucherFields}
use Rattle.pws_msg.specs.Contents.{kind_of}
use Rattle.pws_msg.specs.RowFields.{rows_at}
use Rattle.pws_msg.specs.PacketFields.{voucher_at}
use Rattle.pws_msg.proofs.RowsRead.{prepended}
use Rattle.pws_msg.proofs.packet_reading.take_vouchers.Given as goal

abbrev pub invariant-loop : goal.invariant-loop
invariant-loop l =
    record {
      read : rows_at (voucher_at l.kind) l.count l.initial.fields ≡ prepended l.vouchers (rows_at (voucher_at l.kind) (l.count - l.counter) l.fields);
      kinds : All (λ (v : VoucherFields). kind_of v.content ≡ l.kind) l.vouchers;
      count : length l.vouchers ≡ l.counter;
    }
