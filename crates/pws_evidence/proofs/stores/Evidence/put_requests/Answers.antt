use Rattle.std.proofs.Common.{◌≡◌, ◌∙◌, ◌++◌, ap, sym, option_to_list}
use Rattle.std.specs.List.{filter_map}
use Rattle.pws_base.specs.Replicas.{is_other}
use Rattle.pws_protocol.specs.Candidates.{request_for}
use Rattle.pws_evidence.proofs.Ranged.{put_more, passing_same}
use Rattle.pws_evidence.proofs.stores.Evidence.put_requests.Goals as goal
use Rattle.pws_evidence.proofs.stores.Evidence.put_requests.Goals.{then-is_other+in_ok-request_for+in_ok-push_some, else-is_other}

pub loop-caller-preserved : goal.loop-caller-preserved
loop-caller-preserved c =
    let made = request_for c.args.self.now c.args.asked.now in
    let other = is_other c.args.self.now.group c.layout-layout.result in
    let test : c.is_other.result ≡ other c.loop-caller.caller = c.is_other.ensures ∙ ap (λ me. is_other me c.layout-layout.result c.loop-caller.caller) c.group.ensures.value in
    elim c.if-is_other.branch [
      | then-is_other+in_ok-request_for+in_ok-push_some w ↦ put_more made other c.loop-caller.caller c.args.events.now.items c.loop-caller.events.items c.if-is_other.events.items
          c.loop-caller.invariant (ap (λ v. v.items) w.events-is ∙ (w.in_ok-push_some.ensures ∙ ap (λ o. c.loop-caller.events.items ++ option_to_list o) w.in_ok-request_for.ensures)) (sym test ∙ w.if-is_other.true)
      | else-is_other w ↦ ap (λ v. v.items) w.events-is ∙ (c.loop-caller.invariant
          ∙ ap (λ is. c.args.events.now.items ++ filter_map made is) (passing_same other c.loop-caller.caller (sym test ∙ w.if-is_other.false)))
    ]
