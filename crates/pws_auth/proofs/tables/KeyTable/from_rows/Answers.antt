use Rattle.std.proofs.Common.{◌∙◌, sym, ap, get_or, []}
use Rattle.std.proofs.lemmas.Result.{err_from_is_err_and}
use Rattle.pws_base.specs.Replicas.{is_among}
use Rattle.pws_auth.proofs.Rows.{has_all_rows, has_no_rows, has_row_more, row_refused, rows_are_whole, me_seals, not_whole}
use Rattle.pws_auth.proofs.tables.KeyTable.from_rows.Goals as goal

pub loop-row-init : goal.loop-row-init
loop-row-init c = has_no_rows c.empty-table.result c.args.layout.now c.args.me c.empty-table.ensures.layout c.empty-table.ensures.keys

pub returns-in_err-add_row-clause-rows : goal.returns-in_err-add_row-clause-rows
returns-in_err-add_row-clause-rows c =
    let p = err_from_is_err_and c.from_residual.result c.from_residual.ensures.1 in
    rw (p.1, p.2) (row_refused c.loop-row.table c.add_row.new.self c.args.layout.now c.args.me c.args.rows.now c.loop-row.row-index (record { group = 0; index = 0 }, []) (get_or c.args.rows.now c.loop-row.row-index (record { group = 0; index = 0 }, [])).1 c.in_err-add_row.field-0.0 c.loop-row-test.true c.loop-row.invariant c.in_err-add_row.ensures.adds)

pub loop-row-preserved : goal.loop-row-preserved
loop-row-preserved c =
    has_row_more c.loop-row.table c.add_row.new.self c.args.layout.now c.args.me c.args.rows.now c.loop-row.row-index (record { group = 0; index = 0 }, []) c.loop-row-test.true c.loop-row.invariant c.in_ok-add_row.ensures.layout c.in_ok-add_row.ensures.adds.0 c.in_ok-add_row.ensures.adds.1

pub returns-then-has_all-clause-rows : goal.returns-then-has_all-clause-rows
returns-then-has_all-clause-rows c =
    let before = has_all_rows c.loop-row.table c.args.layout.now c.args.me c.args.rows.now c.loop-row.row-index c.loop-row.auto.row-index-end c.loop-row-test.false c.loop-row.invariant in (
      rows_are_whole c.loop-row.table c.args.layout.now c.args.me c.args.rows.now c.deref.result.now before
          (λ r. ap (λ xs. is_among xs r) c.deref.ensures.value ∙ c.in_ok-members.ensures r) (sym c.has_all.ensures ∙ c.if-has_all.true),
      before.keys,
    )

pub returns-then-has_all-clause-seals : goal.returns-then-has_all-clause-seals
returns-then-has_all-clause-seals c =
    me_seals c.loop-row.table c.args.layout.now c.args.me c.deref.result.now c.loop-row.invariant.layout_is
    (λ r. ap (λ xs. is_among xs r) c.deref.ensures.value ∙ c.in_ok-members.ensures r) (sym c.has_all.ensures ∙ c.if-has_all.true)

pub returns-else-has_all-clause-rows : goal.returns-else-has_all-clause-rows
returns-else-has_all-clause-rows c =
    not_whole c.loop-row.table c.args.layout.now c.args.me c.args.rows.now c.deref.result.now
    (has_all_rows c.loop-row.table c.args.layout.now c.args.me c.args.rows.now c.loop-row.row-index c.loop-row.auto.row-index-end c.loop-row-test.false c.loop-row.invariant)
    (λ r. ap (λ xs. is_among xs r) c.deref.ensures.value ∙ c.in_ok-members.ensures r) (sym c.has_all.ensures ∙ c.if-has_all.false)
