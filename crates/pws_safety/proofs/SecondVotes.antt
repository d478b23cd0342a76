-- A replica that votes twice at a place of one view is in a quorum for each of two digests.
use Rattle.std.proofs.Common.{ℕ, ◌≡◌, inl, inr, refl, [], ◌∷◌, arith}
use Rattle.pws_safety.specs.Statement.{Statement, Prepare, Commit}
use Rattle.pws_safety.specs.Statements.{Group, Sent, Told, primary}
use Rattle.pws_safety.specs.Voters.{Core, new_core, after_accept, after_prepare, accept, prepare, commit}
use Rattle.pws_safety.specs.Runs.{with_core}
use Rattle.pws_safety.specs.Witnesses.{example_digest}
use Rattle.pws_safety.specs.Counterexamples.{ReachedWith, start, Misleads, VotesTwice}
use Rattle.pws_safety.specs.Counterexamples as rule
use Rattle.pws_safety.proofs.FirstRun.{two_have, three_have}
use Rattle.pws_safety.proofs.Ruled.{steps, follows, other_digest, disagreement_of, led_astray, astray_is_trusted, took, agreed, done}

abbrev vote : Statement
vote = Prepare 0 1 example_digest

abbrev agree : Statement
agree = Commit 0 1 example_digest

abbrev vote_other : Statement
vote_other = Prepare 0 1 other_digest

abbrev agree_other : Statement
agree_other = Commit 0 1 other_digest

-- 1 and 2 accept and prepare, and 2 commits
abbrev once_cores : ℕ → Core
once_cores = with_core (with_core (with_core (with_core (with_core (λ i. new_core) 1 (took example_digest)) 2 (took example_digest)) 1 (agreed example_digest)) 2 (agreed example_digest)) 2 (done example_digest)

abbrev once_sent : Sent
once_sent = (2, agree) ∷ (1, agree) ∷ (2, vote) ∷ (1, vote) ∷ []

once_run : ReachedWith VotesTwice led_astray once_cores once_sent
once_run =
    let g : Group = led_astray in
    let c1 : ℕ → Core = with_core (λ i. new_core) 1 (took example_digest) in
    let t1 : Sent = (1, vote) ∷ [] in
    let r1 : ReachedWith VotesTwice g c1 t1 = steps VotesTwice g (λ i. new_core) [] 1 (took example_digest) (vote ∷ []) start (omega arith, refl)
    (accept new_core 1 example_digest refl (λ e. absurd (omega (arith, e))) (omega arith) (omega arith) refl refl (inl refl)) refl in
    let c2 : ℕ → Core = with_core c1 2 (took example_digest) in
    let t2 : Sent = (2, vote) ∷ t1 in
    let r2 : ReachedWith VotesTwice g c2 t2 = steps VotesTwice g c1 t1 2 (took example_digest) (vote ∷ []) r1 (omega arith, refl)
    (accept new_core 1 example_digest refl (λ e. absurd (omega (arith, e))) (omega arith) (omega arith) refl refl (inl refl)) refl in
    let c3 : ℕ → Core = with_core c2 1 (agreed example_digest) in
    let t3 : Sent = (1, agree) ∷ t2 in
    let r3 : ReachedWith VotesTwice g c3 t3 = steps VotesTwice g c2 t2 1 (agreed example_digest) (agree ∷ []) r2 (omega arith, refl)
    (prepare (took example_digest) 1 example_digest refl refl (two_have 1 2 (λ k. (k ≡ primary g 0 → ⊥) × Told g t2 k vote) (omega arith) (λ e. absurd (omega (arith, e)), inr (1, omega arith, refl)) (λ e. absurd (omega (arith, e)), inr (0, omega arith, refl)))) refl in
    let c4 : ℕ → Core = with_core c3 2 (agreed example_digest) in
    let t4 : Sent = (2, agree) ∷ t3 in
    let r4 : ReachedWith VotesTwice g c4 t4 = steps VotesTwice g c3 t3 2 (agreed example_digest) (agree ∷ []) r3 (omega arith, refl)
    (prepare (took example_digest) 1 example_digest refl refl (two_have 1 2 (λ k. (k ≡ primary g 0 → ⊥) × Told g t3 k vote) (omega arith) (λ e. absurd (omega (arith, e)), inr (2, omega arith, refl)) (λ e. absurd (omega (arith, e)), inr (1, omega arith, refl)))) refl in
    steps VotesTwice g c4 t4 2 (done example_digest) [] r4 (omega arith, refl)
    (commit (agreed example_digest) 1 example_digest refl refl (three_have 0 1 2 (λ k. Told g t4 k agree) (omega arith) (inl refl) (inr (1, omega arith, refl)) (inr (0, omega arith, refl)))) refl

-- 1 votes again, with 3, and 3 commits
abbrev again : Core
again = after_accept (agreed example_digest) 1 other_digest vote_other

abbrev agreed_again : Core
agreed_again = after_prepare again 1 other_digest

abbrev twice_cores : ℕ → Core
twice_cores = with_core (with_core (with_core (with_core (with_core once_cores 1 again) 3 (took other_digest)) 1 agreed_again) 3 (agreed other_digest)) 3 (done other_digest)

abbrev twice_sent : Sent
twice_sent = (3, agree_other) ∷ (1, agree_other) ∷ (3, vote_other) ∷ (1, vote_other) ∷ once_sent

twice_run : ReachedWith VotesTwice led_astray twice_cores twice_sent
twice_run =
    let g : Group = led_astray in
    let c1 : ℕ → Core = with_core once_cores 1 again in
    let t1 : Sent = (1, vote_other) ∷ once_sent in
    let r1 : ReachedWith VotesTwice g c1 t1 = follows VotesTwice g once_cores once_sent 1 again (vote_other ∷ []) once_run (omega arith, refl)
    (rule.VotesTwice.accept (agreed example_digest) 1 other_digest refl (λ e. absurd (omega (arith, e))) (omega arith) (omega arith) refl (inl refl)) refl in
    let c2 : ℕ → Core = with_core c1 3 (took other_digest) in
    let t2 : Sent = (3, vote_other) ∷ t1 in
    let r2 : ReachedWith VotesTwice g c2 t2 = steps VotesTwice g c1 t1 3 (took other_digest) (vote_other ∷ []) r1 (omega arith, refl)
    (accept new_core 1 other_digest refl (λ e. absurd (omega (arith, e))) (omega arith) (omega arith) refl refl (inl refl)) refl in
    let c3 : ℕ → Core = with_core c2 1 agreed_again in
    let t3 : Sent = (1, agree_other) ∷ t2 in
    let r3 : ReachedWith VotesTwice g c3 t3 = steps VotesTwice g c2 t2 1 agreed_again (agree_other ∷ []) r2 (omega arith, refl)
    (prepare again 1 other_digest refl refl (two_have 1 3 (λ k. (k ≡ primary g 0 → ⊥) × Told g t2 k vote_other) (omega arith) (λ e. absurd (omega (arith, e)), inr (1, omega arith, refl)) (λ e. absurd (omega (arith, e)), inr (0, omega arith, refl)))) refl in
    let c4 : ℕ → Core = with_core c3 3 (agreed other_digest) in
    let t4 : Sent = (3, agree_other) ∷ t3 in
    let r4 : ReachedWith VotesTwice g c4 t4 = steps VotesTwice g c3 t3 3 (agreed other_digest) (agree_other ∷ []) r3 (omega arith, refl)
    (prepare (took other_digest) 1 other_digest refl refl (two_have 1 3 (λ k. (k ≡ primary g 0 → ⊥) × Told g t3 k vote_other) (omega arith) (λ e. absurd (omega (arith, e)), inr (2, omega arith, refl)) (λ e. absurd (omega (arith, e)), inr (1, omega arith, refl)))) refl in
    steps VotesTwice g c4 t4 3 (done other_digest) [] r4 (omega arith, refl)
    (commit (agreed other_digest) 1 other_digest refl refl (three_have 0 1 3 (λ k. Told g t4 k agree_other) (omega arith) (inl refl) (inr (1, omega arith, refl)) (inr (0, omega arith, refl)))) refl

pub votes_twice_misleads : Misleads VotesTwice
votes_twice_misleads = record {
  group = led_astray;
  cores = twice_cores;
  sent = twice_sent;
  trusted = astray_is_trusted;
  reached = twice_run;
  disagreement = disagreement_of led_astray twice_cores 2 3 ((omega arith, refl), refl) ((omega arith, refl), refl);
}
