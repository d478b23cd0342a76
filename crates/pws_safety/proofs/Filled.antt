-- Replicas 2 and 3 settle one place after the other in view 0, whose primary is compromised, while 1 hears nothing.
use Rattle.std.proofs.Common.{ℕ, zero, suc, ◌<◌, ◌≡◌, inl, inr, Bool, true, refl, ◌∙◌, List, [], ◌∷◌, Option, None, max, arith}
use Rattle.pws_msg.specs.declared.changes.ViewChange.{ViewChange}
use Rattle.pws_safety.specs.Replicas.{AtLeast}
use Rattle.pws_safety.specs.Statement.{Statement, Prepare, Commit}
use Rattle.pws_safety.specs.Statements.{Group, Sent, Told, primary}
use Rattle.pws_safety.specs.Voters.{Slot, Core, new_core, accepted, prepared_slot, committed_slot, with_slot, after_accept, after_prepare, after_commit, accept, prepare, commit}
use Rattle.pws_safety.specs.Runs.{with_core}
use Rattle.pws_safety.specs.Witnesses.{example_digest}
use Rattle.pws_safety.specs.Counterexamples.{ReachedWith, start}
use Rattle.pws_safety.proofs.FirstRun.{two_have, three_have}
use Rattle.pws_safety.proofs.Slots.{slot_here, slot_other}
use Rattle.pws_safety.proofs.Ruled.{steps, steps_from, astray}

-- a replica in view 0 that takes part and never left it
abbrev pub busy : (ℕ → Option Slot) → ℕ → List Statement → Core
busy slots last said = record {
  view = 0;
  active = true;
  low = 0;
  floor = 0;
  last = last;
  slot = slots;
  prepared = [];
  pre_prepared = [];
  new_view = None;
  said = said;
}

-- what it has, where it committed the places from 1 to this one
abbrev pub slots_to : ℕ → ℕ → Option Slot
slots_to zero = λ place. None
slots_to (suc k) = with_slot (with_slot (with_slot (slots_to k) (suc k) (accepted example_digest)) (suc k) (prepared_slot example_digest)) (suc k) (committed_slot example_digest)

abbrev pub last_to : ℕ → ℕ
last_to zero = 0
last_to (suc k) = max (last_to k) (suc k)

abbrev pub said_to : ℕ → List Statement
said_to zero = []
said_to (suc k) = Commit 0 (suc k) example_digest ∷ Prepare 0 (suc k) example_digest ∷ said_to k

abbrev pub filled : ℕ → Core
filled k = busy (slots_to k) (last_to k) (said_to k)

-- the places after it are free
pub free_after : (k q : ℕ) → k < q → slots_to k q ≡ None
free_after zero q l = refl
free_after (suc k) q l =
    let other : q ≡ suc k → ⊥ = λ e. omega (arith, e, l) in
    let first = with_slot (slots_to k) (suc k) (accepted example_digest) in
    let second = with_slot first (suc k) (prepared_slot example_digest) in
    slot_other second (suc k) q (committed_slot example_digest) other
    ∙ (slot_other first (suc k) q (prepared_slot example_digest) other ∙ (slot_other (slots_to k) (suc k) q (accepted example_digest) other ∙ free_after k q (omega (arith, l))))

-- on the way to the next place
abbrev took : ℕ → Core
took k = after_accept (filled k) (suc k) example_digest (Prepare 0 (suc k) example_digest)

abbrev ready : ℕ → Core
ready k = after_prepare (took k) (suc k) example_digest

abbrev done : ℕ → Core
done k = after_commit (ready k) (suc k) example_digest

abbrev pub cores_to : ℕ → ℕ → Core
cores_to zero = λ i. new_core
cores_to (suc k) = with_core (with_core (with_core (with_core (with_core (with_core (cores_to k) 2 (took k)) 3 (took k)) 2 (ready k)) 3 (ready k)) 2 (done k)) 3 (done k)

abbrev pub sent_to : ℕ → Sent
sent_to zero = []
sent_to (suc k) = (3, Commit 0 (suc k) example_digest) ∷ (2, Commit 0 (suc k) example_digest) ∷ (3, Prepare 0 (suc k) example_digest) ∷ (2, Prepare 0 (suc k) example_digest) ∷ sent_to k

pub first_is : (k : ℕ) → cores_to k 1 ≡ new_core
first_is zero = refl
first_is (suc k) = first_is k

pub second_is : (k : ℕ) → cores_to k 2 ≡ filled k
second_is zero = refl
second_is (suc k) = refl

pub third_is : (k : ℕ) → cores_to k 3 ≡ filled k
third_is zero = refl
third_is (suc k) = refl

module _ (Rule : Group → Sent → ℕ → Core → Core → Type 0) (digest_of : ViewChange → List ℕ) (occurs : ViewChange → Bool) where
  pub filled_run : (k : ℕ) → ReachedWith Rule (astray digest_of occurs) (cores_to k) (sent_to k)
  filled_run zero = start
  filled_run (suc k) =
      let g : Group = astray digest_of occurs in
      let vote : Statement = Prepare 0 (suc k) example_digest in
      let agree : Statement = Commit 0 (suc k) example_digest in
      let c1 : ℕ → Core = with_core (cores_to k) 2 (took k) in
      let t1 : Sent = (2, vote) ∷ sent_to k in
      let r1 : ReachedWith Rule g c1 t1 = steps_from Rule g (cores_to k) (sent_to k) 2 (filled k) (took k) (vote ∷ []) (filled_run k) (omega arith, refl) (second_is k)
      (accept (filled k) (suc k) example_digest refl (λ e. absurd (omega (arith, e))) (omega arith) (omega arith) (free_after k (suc k) (omega arith)) refl (inl refl)) refl in
      let c2 : ℕ → Core = with_core c1 3 (took k) in
      let t2 : Sent = (3, vote) ∷ t1 in
      let r2 : ReachedWith Rule g c2 t2 = steps_from Rule g c1 t1 3 (filled k) (took k) (vote ∷ []) r1 (omega arith, refl) (third_is k)
      (accept (filled k) (suc k) example_digest refl (λ e. absurd (omega (arith, e))) (omega arith) (omega arith) (free_after k (suc k) (omega arith)) refl (inl refl)) refl in
      let c3 : ℕ → Core = with_core c2 2 (ready k) in
      let t3 : Sent = (2, agree) ∷ t2 in
      let r3 : ReachedWith Rule g c3 t3 = steps Rule g c2 t2 2 (ready k) (agree ∷ []) r2 (omega arith, refl)
      (prepare (took k) (suc k) example_digest refl (slot_here (slots_to k) (suc k) (suc k) (accepted example_digest) refl) (two_have 2 3 (λ i. (i ≡ primary g 0 → ⊥) × Told g t2 i vote) (omega arith) (λ e. absurd (omega (arith, e)), inr (1, omega arith, refl)) (λ e. absurd (omega (arith, e)), inr (0, omega arith, refl)))) refl in
      let c4 : ℕ → Core = with_core c3 3 (ready k) in
      let t4 : Sent = (3, agree) ∷ t3 in
      let r4 : ReachedWith Rule g c4 t4 = steps Rule g c3 t3 3 (ready k) (agree ∷ []) r3 (omega arith, refl)
      (prepare (took k) (suc k) example_digest refl (slot_here (slots_to k) (suc k) (suc k) (accepted example_digest) refl) (two_have 2 3 (λ i. (i ≡ primary g 0 → ⊥) × Told g t3 i vote) (omega arith) (λ e. absurd (omega (arith, e)), inr (2, omega arith, refl)) (λ e. absurd (omega (arith, e)), inr (1, omega arith, refl)))) refl in
      let all : AtLeast 4 3 (λ i. Told g t4 i agree) = three_have 0 2 3 (λ i. Told g t4 i agree) (omega arith) (inl refl) (inr (1, omega arith, refl)) (inr (0, omega arith, refl)) in
      let held = slot_here (with_slot (slots_to k) (suc k) (accepted example_digest)) (suc k) (suc k) (prepared_slot example_digest) refl in
      let c5 : ℕ → Core = with_core c4 2 (done k) in
      let r5 : ReachedWith Rule g c5 t4 = steps Rule g c4 t4 2 (done k) [] r4 (omega arith, refl) (commit (ready k) (suc k) example_digest refl held all) refl in
      steps Rule g c5 t4 3 (done k) [] r5 (omega arith, refl) (commit (ready k) (suc k) example_digest refl held all) refl
