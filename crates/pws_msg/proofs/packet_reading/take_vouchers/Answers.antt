use Rattle.std.proofs.Common.{◌≡◌, ◌+◌, ◌-◌, ◌∙◌, arith}
use Rattle.std.proofs.lemmas.Grind.{common_steps}
use Rattle.std.proofs.lemmas.Result.{err_from_is_err_and}
use Rattle.std.proofs.lemmas.List.Elements.{All-push}
use Rattle.pws_msg.specs.Packets.{VoucherFields}
use Rattle.pws_msg.specs.Contents.{kind_of}
use Rattle.pws_msg.specs.PacketFields.{voucher_at}
use Rattle.pws_msg.proofs.RowsRead.{rows_first, rows_refusal, rows_none}
use Rattle.pws_msg.proofs.packet_reading.take_vouchers.Goals as goal

pub returns-clause-read : goal.returns-clause-read
returns-clause-read c = c.loop.invariant.read ∙ rows_none (voucher_at c.args.kind) _ c.loop.vouchers c.loop.fields (omega arith)

pub loop-preserved : goal.loop-preserved
loop-preserved c =
    rw c.in_ok-push.ensures.ok (record {
      read = c.loop.invariant.read ∙ rows_first (voucher_at c.args.kind) _ _ c.loop.vouchers c.loop.fields c.take_voucher.new.fields c.in_ok-take_voucher.field-0 (omega arith) c.in_ok-take_voucher.ensures.read;
      kinds = All-push (λ (v : VoucherFields). kind_of v.content ≡ c.args.kind) c.loop.vouchers c.in_ok-take_voucher.field-0 c.loop.invariant.kinds c.in_ok-take_voucher.ensures.kind;
      count = grind (arith, common_steps);
    })

pub returns-in_err-take_voucher-clause-read : goal.returns-in_err-take_voucher-clause-read
returns-in_err-take_voucher-clause-read c =
    let p = err_from_is_err_and c.from_residual.result c.from_residual.ensures.1 in
    rw (p.1, p.2) (rows_refusal (voucher_at c.args.kind) _ (c.args.count - (c.loop.counter + 1)) c.loop.vouchers c.loop.fields _ c.in_err-take_voucher.field-0.0 c.loop.invariant.read (omega arith) c.in_err-take_voucher.ensures.read)
