use Rattle.std.proofs.Common.{refl, map, ◌∙◌, ap}
use Rattle.std.specs.Ordering.{nat_cmp}
use Rattle.std.specs.FinMap.{nat_cmp-IsAntisymmetric, slice_cmp-IsAntisymmetric}
use Rattle.std.specs.Cmp.Lexicographic.{slice_cmp}
use Rattle.pws_change.specs.Rows.{seen_entry}
use Rattle.pws_change.proofs.Sorted.{put_found, put_missing}
use Rattle.pws_change.proofs.pre_prepared.put_seen.Goals as goal

pub returns-in-Ok-clause-ok : goal.returns-in-Ok-clause-ok
returns-in-Ok-clause-ok c =
    let seen = c.args.seen in
    put_found (slice_cmp nat_cmp) seen_entry (slice_cmp-IsAntisymmetric nat_cmp-IsAntisymmetric) seen.digest seen.view c.args.digests.now.items c.in-Ok.i seen refl (rw c.deref.ensures.value at c.in-Ok.ensures.found)

pub returns-in_ok-insert-in-Err-clause-ok : goal.returns-in_ok-insert-in-Err-clause-ok
returns-in_ok-insert-in-Err-clause-ok c =
    let seen = c.args.seen in
    ap (map seen_entry) c.in_ok-insert-in-Err.ensures.items
    ∙ put_missing (slice_cmp nat_cmp) seen_entry seen.digest seen.view c.args.digests.now.items c.in-Err.i seen refl (rw c.deref.ensures.value at c.in-Err.ensures.missing)
