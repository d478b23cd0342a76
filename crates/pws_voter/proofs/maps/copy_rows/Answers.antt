use Rattle.std.proofs.Common.{◌≡◌, [], ◌∷◌, ◌++◌, append_assoc, ◌∙◌, sym, ap, subst}
use Rattle.std.specs.BTreeMap.{insert_entry}
use Rattle.std.specs.List.Sorted.{IsStrictlySortedBy}
use Rattle.std.specs.Map.{keys_of}
use Rattle.std.specs.Ordering.{nat_cmp}
use Rattle.pws_places.proofs.TreeMaps.{put_before}
use Rattle.pws_voter.proofs.maps.copy_rows.Goals as goal

pub loop-index-preserved : goal.loop-index-preserved
loop-index-preserved g c =
    let all = c.args.rows.now.entries in
    let before = c.next_back.new.self in
    let copies = c.loop-index.copies.entries in
    let k = c.in-Some.index.now in
    let r = c.in-Some.row.now in
    let split : all ≡ before ++ (k, r) ∷ copies = c.loop-index.invariant ∙ (ap (λ left. left ++ copies) c.in-Some.ensures.steps ∙ append_assoc before ((k, r) ∷ []) copies) in
    let ordered = subst (λ es. IsStrictlySortedBy nat_cmp (keys_of es)) split c.iter-left.ensures.ordered in
    let put = c.in_ok-put_row.ensures ∙ (ap (insert_entry nat_cmp copies k) c.in_ok-copy.ensures ∙ put_before nat_cmp before copies k r ordered) in
    split ∙ sym (ap (λ es. before ++ es) put)
