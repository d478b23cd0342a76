use Rattle.std.proofs.Common.{◌≡◌, [], ◌∷◌, ◌++◌, append_assoc, ◌∙◌, sym, ap, subst}
use Rattle.std.specs.BTreeMap.{insert_entry}
use Rattle.std.specs.List.Sorted.{IsStrictlySortedBy}
use Rattle.std.specs.Map.{keys_of}
use Rattle.pws_protocol.specs.Keys.{statement_cmp}
use Rattle.pws_places.proofs.TreeMaps.{put_before}
use Rattle.pws_evidence.proofs.Compared.{in_order}
use Rattle.pws_evidence.proofs.copying.copy_statements.Goals as goal

pub loop-key-preserved : goal.loop-key-preserved
loop-key-preserved c =
    let all = c.args.statements.now.entries in
    let before = c.next_back.new.self in
    let copies = c.loop-key.copies.entries in
    let k = c.in-Some.key.now in
    let r = c.in-Some.statement.now in
    let split : all ≡ before ++ (k, r) ∷ copies = c.loop-key.invariant ∙ (ap (λ left. left ++ copies) c.in-Some.ensures.steps ∙ append_assoc before ((k, r) ∷ []) copies) in
    let ordered = subst (λ es. IsStrictlySortedBy statement_cmp (keys_of es)) split (in_order all c.iter-left.ensures.ordered) in
    let put = c.in_ok-put_statement.ensures ∙ (ap (insert_entry statement_cmp copies k) c.in_ok-copy.ensures ∙ put_before statement_cmp before copies k r ordered) in
    split ∙ sym (ap (λ es. before ++ es) put)
