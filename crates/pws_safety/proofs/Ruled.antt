-- Runs with one more rule, step by step, and the short ones.
use Rattle.std.proofs.Common.{ℕ, ◌≤◌, ◌≡◌, inl, inr, Bool, true, false, refl, sym, ap, subst, List, [], ◌∷◌, ◌++◌, ◌==◌, replicate, arith}
use Rattle.std.specs.Prelude.{slice_index_or}
use Rattle.std.proofs.lemmas.Bool.{false≢true, eqb-true}
use Rattle.pws_base.specs.Counts.{count_below}
use Rattle.pws_msg.specs.declared.changes.ViewChange.{ViewChange}
use Rattle.pws_safety.specs.Replicas.{AtLeast}
use Rattle.pws_safety.specs.Statement.{Statement, Prepare, Commit}
use Rattle.pws_safety.specs.Statements.{Group, Sent, Told, IsCorrect, primary}
use Rattle.pws_safety.specs.Voters.{Core, new_core, after_accept, after_prepare, after_commit, Step, accept}
use Rattle.pws_safety.specs.Runs.{Reached, IsTrusted, said_by, with_core}
use Rattle.pws_safety.specs.Runs as run
use Rattle.pws_safety.specs.Witnesses.{example_digest}
use Rattle.pws_safety.specs.Counterexamples.{ReachedWith, start, step, again, ruled, HasCommitted, Disagreement, Misleads, QuorumOfTwoF}
use Rattle.pws_safety.specs.Counterexamples as rule
use Rattle.pws_safety.proofs.Next.{IsLinked, linked_start, linked_step, linked_again, sends_next}
use Rattle.pws_safety.proofs.FirstRun.{two_have}

module _ (Rule : Group → Sent → ℕ → Core → Core → Type 0) (g : Group) where
  ruled_linked : {cores : ℕ → Core} {sent : Sent} → ReachedWith Rule g cores sent → IsLinked g cores sent
  ruled_linked start = linked_start g
  ruled_linked (again cores before after r repeats) = linked_again g cores before after (ruled_linked r) repeats
  ruled_linked (step cores before after i s r ci t sends) = linked_step g cores before after i s (ruled_linked r) sends
  ruled_linked (ruled cores before after i s r ci t sends) = linked_step g cores before after i s (ruled_linked r) sends

  -- a run of the rules alone is one
  pub without_rule : {cores : ℕ → Core} {sent : Sent} → Reached g cores sent → ReachedWith Rule g cores sent
  without_rule run.start = start
  without_rule (run.again cores before after r repeats) = again cores before after (without_rule r) repeats
  without_rule (run.step cores before after i s r ci t sends) = step cores before after i s (without_rule r) ci t sends

  pub steps : (cores : ℕ → Core) (sent : Sent) (i : ℕ) (s : Core) (xs : List Statement) → ReachedWith Rule g cores sent → IsCorrect g i → Step g sent i (cores i) s → s.said ≡ xs ++ (cores i).said
      → ReachedWith Rule g (with_core cores i s) (said_by i xs ++ sent)
  steps cores sent i s xs r ci t says = step cores sent (said_by i xs ++ sent) i s r ci t (sends_next g cores sent i s xs (ruled_linked r) ci says)

  -- where its state before is known by an equality
  pub steps_from : (cores : ℕ → Core) (sent : Sent) (i : ℕ) (a s : Core) (xs : List Statement) → ReachedWith Rule g cores sent → IsCorrect g i → cores i ≡ a → Step g sent i a s → s.said ≡ xs ++ a.said
      → ReachedWith Rule g (with_core cores i s) (said_by i xs ++ sent)
  steps_from cores sent i a s xs r ci at t says = steps cores sent i s xs r ci (subst (λ y. Step g sent i y s) (sym at) t) (subst (λ (y : Core). s.said ≡ xs ++ y.said) (sym at) says)

  pub follows : (cores : ℕ → Core) (sent : Sent) (i : ℕ) (s : Core) (xs : List Statement) → ReachedWith Rule g cores sent → IsCorrect g i → Rule g sent i (cores i) s → s.said ≡ xs ++ (cores i).said
      → ReachedWith Rule g (with_core cores i s) (said_by i xs ++ sent)
  follows cores sent i s xs r ci t says = ruled cores sent (said_by i xs ++ sent) i s r ci t (sends_next g cores sent i s xs (ruled_linked r) ci says)

-- one replica of four has a property
pub one_has : (a : ℕ) (P : ℕ → Type 0) → 1 ≤ count_below 4 (λ i. i == a) → P a → AtLeast 4 1 P
one_has a P enough x = ((λ i. i == a), enough, λ i l t. subst P (sym (eqb-true i a t)) x)

-- another digest
abbrev pub other_digest : List ℕ
other_digest = replicate 32 2

pub digests_differ : example_digest ≡ other_digest → ⊥
digests_differ e = let k = ap (λ xs. slice_index_or xs 0 0) e in omega (arith, k)

-- two correct replicas disagree at place 1
pub disagreement_of : (g : Group) (cores : ℕ → Core) (i j : ℕ) → HasCommitted g cores i 1 example_digest → HasCommitted g cores j 1 other_digest → Disagreement g cores
disagreement_of g cores i j one other = record { one = i; other = j; place = 1; digest = example_digest; other_digest = other_digest; committed = one; other_committed = other; differ = digests_differ }

-- a group whose primary of view 0 is compromised
abbrev pub astray : (ViewChange → List ℕ) → (ViewChange → Bool) → Group
astray digest_of occurs = record { f = 1; compromised = λ i. i == 0; digest_of = digest_of; occurs = occurs; backed = λ d. true }

abbrev pub led_astray : Group
led_astray = astray (λ c. []) (λ c. false)

pub astray_is_trusted : IsTrusted led_astray
astray_is_trusted = record { sound = omega arith; no_collision = λ a b x y e. absurd (false≢true x) }

-- what a backup is after it accepted, prepared and committed a digest at place 1 of view 0
abbrev pub took : List ℕ → Core
took d = after_accept new_core 1 d (Prepare 0 1 d)

abbrev pub agreed : List ℕ → Core
agreed d = after_prepare (took d) 1 d

abbrev pub done : List ℕ → Core
done d = after_commit (agreed d) 1 d

-- 1 and the compromised primary are a quorum of 2f for one digest, 2 and the primary for another
module _ where
  abbrev two_cores : ℕ → Core
  two_cores = with_core (with_core (λ i. new_core) 1 (took example_digest)) 2 (took other_digest)

  abbrev two_sent : Sent
  two_sent = (2, Prepare 0 1 other_digest) ∷ (1, Prepare 0 1 example_digest) ∷ []

  two_taken : ReachedWith QuorumOfTwoF led_astray two_cores two_sent
  two_taken =
      let c1 : ℕ → Core = with_core (λ i. new_core) 1 (took example_digest) in
      let t1 : Sent = (1, Prepare 0 1 example_digest) ∷ [] in
      let r1 : ReachedWith QuorumOfTwoF led_astray c1 t1 = steps QuorumOfTwoF led_astray (λ i. new_core) [] 1 (took example_digest) (Prepare 0 1 example_digest ∷ []) start (omega arith, refl)
      (accept new_core 1 example_digest refl (λ e. absurd (omega (arith, e))) (omega arith) (omega arith) refl refl (inl refl)) refl in
      steps QuorumOfTwoF led_astray c1 t1 2 (took other_digest) (Prepare 0 1 other_digest ∷ []) r1 (omega arith, refl)
      (accept new_core 1 other_digest refl (λ e. absurd (omega (arith, e))) (omega arith) (omega arith) refl refl (inl refl)) refl

  abbrev two_done_cores : ℕ → Core
  two_done_cores = with_core (with_core (with_core (with_core two_cores 1 (agreed example_digest)) 2 (agreed other_digest)) 1 (done example_digest)) 2 (done other_digest)

  abbrev two_done_sent : Sent
  two_done_sent = (2, Commit 0 1 other_digest) ∷ (1, Commit 0 1 example_digest) ∷ two_sent

  two_done : ReachedWith QuorumOfTwoF led_astray two_done_cores two_done_sent
  two_done =
      let g : Group = led_astray in
      let c1 : ℕ → Core = with_core two_cores 1 (agreed example_digest) in
      let t1 : Sent = (1, Commit 0 1 example_digest) ∷ two_sent in
      let r1 : ReachedWith QuorumOfTwoF g c1 t1 = follows QuorumOfTwoF g two_cores two_sent 1 (agreed example_digest) (Commit 0 1 example_digest ∷ []) two_taken (omega arith, refl)
      (rule.QuorumOfTwoF.prepare (took example_digest) 1 example_digest refl refl (one_has 1 (λ k. (k ≡ primary g 0 → ⊥) × Told g two_sent k (Prepare 0 1 example_digest)) (omega arith) (λ e. absurd (omega (arith, e)), inr (1, omega arith, refl)))) refl in
      let c2 : ℕ → Core = with_core c1 2 (agreed other_digest) in
      let t2 : Sent = (2, Commit 0 1 other_digest) ∷ t1 in
      let r2 : ReachedWith QuorumOfTwoF g c2 t2 = follows QuorumOfTwoF g c1 t1 2 (agreed other_digest) (Commit 0 1 other_digest ∷ []) r1 (omega arith, refl)
      (rule.QuorumOfTwoF.prepare (took other_digest) 1 other_digest refl refl (one_has 2 (λ k. (k ≡ primary g 0 → ⊥) × Told g t1 k (Prepare 0 1 other_digest)) (omega arith) (λ e. absurd (omega (arith, e)), inr (1, omega arith, refl)))) refl in
      let c3 : ℕ → Core = with_core c2 1 (done example_digest) in
      let r3 : ReachedWith QuorumOfTwoF g c3 t2 = follows QuorumOfTwoF g c2 t2 1 (done example_digest) [] r2 (omega arith, refl)
      (rule.QuorumOfTwoF.commit (agreed example_digest) 1 example_digest refl refl (two_have 0 1 (λ k. Told g t2 k (Commit 0 1 example_digest)) (omega arith) (inl refl) (inr (1, omega arith, refl)))) refl in
      follows QuorumOfTwoF g c3 t2 2 (done other_digest) [] r3 (omega arith, refl)
      (rule.QuorumOfTwoF.commit (agreed other_digest) 1 other_digest refl refl (two_have 0 2 (λ k. Told g t2 k (Commit 0 1 other_digest)) (omega arith) (inl refl) (inr (0, omega arith, refl)))) refl

pub quorum_of_two_f_misleads : Misleads QuorumOfTwoF
quorum_of_two_f_misleads = record {
  group = led_astray;
  cores = two_done_cores;
  sent = two_done_sent;
  trusted = astray_is_trusted;
  reached = two_done;
  disagreement = disagreement_of led_astray two_done_cores 1 2 ((omega arith, refl), refl) ((omega arith, refl), refl);
}
