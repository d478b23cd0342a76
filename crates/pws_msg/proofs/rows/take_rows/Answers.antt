use Rattle.std.proofs.Common.{◌≡◌, ◌+◌, ◌-◌, ◌∙◌, arith}
use Rattle.std.proofs.lemmas.Grind.{common_steps}
use Rattle.std.proofs.lemmas.List.Elements.{All-push}
use Rattle.std.proofs.lemmas.Result.{err_from_is_err_and}
use Rattle.pws_msg.proofs.RowsRead.{rows_first, rows_refusal, rows_none}
use Rattle.pws_msg.proofs.rows.take_rows.Goals as goal

pub returns-clause-read : goal.returns-clause-read
returns-clause-read g c = c.loop.invariant.read ∙ rows_none g.T.Row.row_at _ c.loop.rows c.loop.fields (omega arith)

pub loop-preserved : goal.loop-preserved
loop-preserved g c =
    rw c.in_ok-push.ensures.ok (record {
      read = c.loop.invariant.read ∙ rows_first g.T.Row.row_at _ _ c.loop.rows c.loop.fields c.take.new.fields c.in_ok-take.field-0 (omega arith) c.in_ok-take.ensures.read;
      lawful = All-push g.T.Row.is_lawful c.loop.rows c.in_ok-take.field-0 c.loop.invariant.lawful c.in_ok-take.ensures.lawful;
      count = grind (arith, common_steps);
    })

pub returns-in_err-take-clause-read : goal.returns-in_err-take-clause-read
returns-in_err-take-clause-read g c =
    let p = err_from_is_err_and c.from_residual.result c.from_residual.ensures.1 in
    rw (p.1, p.2) (rows_refusal g.T.Row.row_at _ (c.args.count - (c.loop.counter + 1)) c.loop.rows c.loop.fields _ c.in_err-take.field-0.0 c.loop.invariant.read (omega arith) c.in_err-take.ensures.read)
