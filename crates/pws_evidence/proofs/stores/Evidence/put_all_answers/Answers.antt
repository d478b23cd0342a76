use Rattle.std.proofs.Common.{◌≡◌, ◌∙◌, ◌++◌, ap, sym}
use Rattle.std.specs.List.{flat_map}
use Rattle.pws_base.specs.Replicas.{is_other}
use Rattle.pws_protocol.specs.Candidates.{answers_from}
use Rattle.pws_evidence.proofs.Ranged.{put_several, passing_same}
use Rattle.pws_evidence.proofs.stores.Evidence.put_all_answers.Goals as goal
use Rattle.pws_evidence.proofs.stores.Evidence.put_all_answers.Goals.{then-is_other+in_ok-put_answers, else-is_other}

pub loop-called-preserved : goal.loop-called-preserved
loop-called-preserved c =
    let made = answers_from c.args.self.now c.args.asked.now in
    let other = is_other c.args.self.now.group c.layout-layout.result in
    let test : c.is_other.result ≡ other c.loop-called.called = c.is_other.ensures ∙ ap (λ me. is_other me c.layout-layout.result c.loop-called.called) c.group.ensures.value in
    elim c.if-is_other.branch [
      | then-is_other+in_ok-put_answers w ↦ put_several made other c.loop-called.called c.args.events.now.items c.loop-called.events.items c.if-is_other.events.items
          c.loop-called.invariant (ap (λ v. v.items) w.events-is ∙ w.in_ok-put_answers.ensures) (sym test ∙ w.if-is_other.true)
      | else-is_other w ↦ ap (λ v. v.items) w.events-is ∙ (c.loop-called.invariant
          ∙ ap (λ is. c.args.events.now.items ++ flat_map made is) (passing_same other c.loop-called.called (sym test ∙ w.if-is_other.false)))
    ]
