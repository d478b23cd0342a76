-- Agreement from the facts alone, by the law of the choice, and so in every run.
use Rattle.std.proofs.Common.{ℕ, ◌<◌, ◌≡◌, inl, inr, true, false, sym, ◌∙◌, arith}
use Rattle.std.specs.List.{Contains}
use Rattle.std.proofs.lemmas.Bool.{true≢false}
use Rattle.pws_base.specs.Shapes.{quorum_of, weak_of}
use Rattle.pws_change.proofs.Covered.{hardly_lacked_is_kept}
use Rattle.pws_safety.specs.Statements.{Group, Sent, Backs, size}
use Rattle.pws_safety.specs.Voters.{Core}
use Rattle.pws_safety.specs.Facts.{Facts}
use Rattle.pws_safety.specs.Runs.{Reached, IsTrusted}
use Rattle.pws_safety.specs.Agreement.{FactsGiveAgreement, RunsAgree, SettledAsMoreIsSent, SettledIsBacked}
use Rattle.pws_safety.specs.Statement.{Commit}
use Rattle.pws_safety.proofs.Counted.{a_correct_one, at_least_weaker}
use Rattle.pws_safety.proofs.Views.{facts_give_agreement as agreement_by}
use Rattle.pws_safety.proofs.Group.{kept_gives_facts, runs_keep, committed_is_settled}

pub facts_give_agreement : FactsGiveAgreement
facts_give_agreement = agreement_by hardly_lacked_is_kept

-- behind what is settled is a correct replica's COMMIT, and behind that one that stands for it
pub settled_is_backed : SettledIsBacked
settled_is_backed g sent v p d null facts settled =
    let i = a_correct_one (size g) (weak_of g.f) g.f g.compromised _ facts.sound (omega arith) settled in
    let q = facts.commit_has_quorum i.0 v p d (i.1, i.2) i.3.1 in
    let k = a_correct_one (size g) (quorum_of g.f) g.f g.compromised _ facts.sound (omega arith) q in
    stands k.0 k.1 k.2 k.3
  where
    stands : (k : ℕ) → k < size g → g.compromised k ≡ false → Backs g sent k v p d → g.backed d ≡ true
    stands k l c (inl b) = absurd (true≢false (sym b ∙ c))
    stands k l c (inr s) = facts_give_agreement.backed g sent null facts k v p d (l, c) s

pub settled_as_more_is_sent : SettledAsMoreIsSent
settled_as_more_is_sent g before after v p d stays settled =
    at_least_weaker (size g) (weak_of g.f) (λ i. (g.compromised i ≡ false) × Contains before (i, Commit v p d)) (λ i. (g.compromised i ≡ false) × Contains after (i, Commit v p d))
    (λ i x. (x.0, stays i (Commit v p d) x.1)) settled

run_facts : (g : Group) (cores : ℕ → Core) (sent : Sent) → IsTrusted g → Reached g cores sent → Facts g sent
run_facts g cores sent trusted r = kept_gives_facts g cores sent trusted.sound (runs_keep g cores sent trusted r)

pub runs_agree : RunsAgree
runs_agree = record {
  stays = λ g cores sent trusted r. facts_give_agreement.stays g sent (run_facts g cores sent trusted r);
  one = λ g cores sent trusted r. facts_give_agreement.one g sent (run_facts g cores sent trusted r);
  backed = λ g cores sent trusted null r. facts_give_agreement.backed g sent null (run_facts g cores sent trusted r);
  committed = λ g cores sent trusted r i j p a b ci cj at bt da db.
      (let kept = runs_keep g cores sent trusted r in
      facts_give_agreement.one g sent (run_facts g cores sent trusted r) (cores i).view (cores j).view p a.digest b.digest
      (committed_is_settled g cores sent i p a trusted.sound kept ci at da) (committed_is_settled g cores sent j p b trusted.sound kept cj bt db));
}
