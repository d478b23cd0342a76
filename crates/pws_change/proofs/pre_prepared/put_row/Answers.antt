use Rattle.std.proofs.Common.{◌≡◌, ◌∷◌, [], ◌∙◌, ap}
use Rattle.std.specs.List.{insert}
use Rattle.pws_msg.specs.declared.changes.QRow.{QRow}
use Rattle.pws_change.specs.Rows.{pre_prepared_in}
use Rattle.pws_change.specs.Sets.{are_q_rows_lawful}
use Rattle.pws_change.proofs.Noted.{room_found, found_put, missing_put}
use Rattle.pws_change.proofs.pre_prepared.put_row.Goals as goal

pub returns-in_ok-put_digest-in-Ok-clause-ok : goal.returns-in_ok-put_digest-in-Ok-clause-ok
returns-in_ok-put_digest-in-Ok-clause-ok c =
    let rows = c.args.rows.now.items in
    let found = rw c.deref.ensures.value at c.in-Ok.ensures.found in
    let room = room_found rows c.args.place c.args.seen.digest c.in-Ok.i c.index_mut.result.now found c.index_mut.ensures.value c.requires.room in
    (found_put rows c.args.place c.args.seen c.in-Ok.i c.index_mut.result.now c.put_digest.new.row c.requires.lawful found c.index_mut.ensures.value room c.put_digest.ensures.place c.in_ok-put_digest-in-Ok.ensures.ok).1

pub returns-in_ok-put_digest-in-Ok-clause-lawful : goal.returns-in_ok-put_digest-in-Ok-clause-lawful
returns-in_ok-put_digest-in-Ok-clause-lawful c =
    let rows = c.args.rows.now.items in
    let found = rw c.deref.ensures.value at c.in-Ok.ensures.found in
    let room = room_found rows c.args.place c.args.seen.digest c.in-Ok.i c.index_mut.result.now found c.index_mut.ensures.value c.requires.room in
    (found_put rows c.args.place c.args.seen c.in-Ok.i c.index_mut.result.now c.put_digest.new.row c.requires.lawful found c.index_mut.ensures.value room c.put_digest.ensures.place c.in_ok-put_digest-in-Ok.ensures.ok).0

pub returns-in_ok-insert-in-Err-clause-ok : goal.returns-in_ok-insert-in-Err-clause-ok
returns-in_ok-insert-in-Err-clause-ok c =
    let rows = c.args.rows.now.items in
    let e : c.insert.new.self.items ≡ insert rows c.in-Err.i (record { place = c.args.place; digests = c.args.seen ∷ [] }) = c.in_ok-insert-in-Err.ensures.items ∙ ap (λ (r : QRow). insert rows c.in-Err.i r) c.in_ok-row-in-Err.ensures in
    ap pre_prepared_in e ∙ (missing_put rows c.args.place c.args.seen c.in-Err.i c.requires.lawful (rw c.deref.ensures.value at c.in-Err.ensures.missing)).1

pub returns-in_ok-insert-in-Err-clause-lawful : goal.returns-in_ok-insert-in-Err-clause-lawful
returns-in_ok-insert-in-Err-clause-lawful c =
    let rows = c.args.rows.now.items in
    let e : c.insert.new.self.items ≡ insert rows c.in-Err.i (record { place = c.args.place; digests = c.args.seen ∷ [] }) = c.in_ok-insert-in-Err.ensures.items ∙ ap (λ (r : QRow). insert rows c.in-Err.i r) c.in_ok-row-in-Err.ensures in
    ap are_q_rows_lawful e ∙ (missing_put rows c.args.place c.args.seen c.in-Err.i c.requires.lawful (rw c.deref.ensures.value at c.in-Err.ensures.missing)).0
