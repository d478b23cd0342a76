use Rattle.std.proofs.Common.{◌≡◌, [], ◌∷◌, ◌++◌, append_assoc, ◌∙◌, sym, ap, subst}
use Rattle.std.specs.BTreeMap.{insert_entry}
use Rattle.std.specs.Cmp.Lexicographic.{slice_cmp}
use Rattle.std.specs.List.Sorted.{IsStrictlySortedBy}
use Rattle.std.specs.Map.{keys_of}
use Rattle.std.specs.Ordering.{nat_cmp}
use Rattle.pws_places.proofs.TreeMaps.{put_before}
use Rattle.pws_places.proofs.digests.copy_rows.Goals as goal

pub loop-digest-preserved : goal.loop-digest-preserved
loop-digest-preserved g c =
    let all = c.args.rows.now.entries in
    let before = c.next_back.new.self in
    let copies = c.loop-digest.copies.entries in
    let d = c.in-Some.digest.now in
    let r = c.in-Some.row.now in
    let split : all ≡ before ++ (d, r) ∷ copies = c.loop-digest.invariant ∙ (ap (λ left. left ++ copies) c.in-Some.ensures.steps ∙ append_assoc before ((d, r) ∷ []) copies) in
    let ordered = subst (λ es. IsStrictlySortedBy (slice_cmp nat_cmp) (keys_of es)) split c.iter-left.ensures.ordered in
    let put = c.in_ok-put_row.ensures ∙ (ap (insert_entry (slice_cmp nat_cmp) copies d) c.in_ok-copy.ensures ∙ put_before (slice_cmp nat_cmp) before copies d r ordered) in
    split ∙ sym (ap (λ es. before ++ es) put)
