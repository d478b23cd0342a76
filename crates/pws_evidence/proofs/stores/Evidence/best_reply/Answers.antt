use Rattle.std.proofs.Common.{◌∙◌, ap, sym, List, ℕ, Option}
use Rattle.std.specs.Option.{option_and_then}
use Rattle.pws_event.specs.declared.events.Event.{Event}
use Rattle.pws_protocol.specs.Support.{supports}
use Rattle.pws_protocol.specs.Candidates.{kept_reply}
use Rattle.pws_evidence.specs.Proposed.{reply_under, better_of}
use Rattle.pws_evidence.proofs.ProposingAnswers.{best_more}
use Rattle.pws_evidence.proofs.stores.Evidence.best_reply.Goals as goal
use Rattle.pws_evidence.proofs.stores.Evidence.best_reply.Goals.{in-Some+in_ok-best, in_default}

pub loop-index-preserved : goal.loop-index-preserved
loop-index-preserved c =
    let under : Option (List ℕ) → Option Event = option_and_then (reply_under c.args.self.now c.args.called c.args.number) in
    let better : Option Event → Option Event = better_of (supports c.args.self.now) (under c.loop-index.best) in
    best_more (supports c.args.self.now) (kept_reply c.args.self.now c.args.called c.args.number) c.loop-index.index (under c.loop-index.best) (under c.match-reply_digest.best) c.loop-index.invariant
    (elim c.match-reply_digest.branch [
      | in-Some+in_ok-best w ↦ ap under w.best-is ∙ (w.in_ok-best.ensures ∙ ap better (sym (ap under w.in-Some.is) ∙ c.reply_digest.ensures))
      | in_default w ↦ ap under w.best-is ∙ ap better (sym (ap under w.in_default.is) ∙ c.reply_digest.ensures)
    ])
