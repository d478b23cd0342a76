-- The example group, and its run in view 0.
use Rattle.std.proofs.Common.{ℕ, ◌≤◌, ◌≡◌, inl, inr, Bool, true, false, ◌&&◌, ◌||◌, refl, sym, ◌∙◌, subst, List, [], ◌∷◌, ◌==◌, arith}
use Rattle.std.specs.List.{Contains}
use Rattle.std.specs.Str.{bytes_eq}
use Rattle.std.proofs.lemmas.Bool.{false≢true, and_parts, or_cases, eqb-true}
use Rattle.std.proofs.lemmas.Slice.Eq.{bytes_eq-Decides}
use Rattle.pws_msg.specs.declared.changes.Checkpoint.{Checkpoint}
use Rattle.pws_msg.specs.declared.changes.PRow.{PRow}
use Rattle.pws_msg.specs.declared.changes.QRow.{QRow}
use Rattle.pws_msg.specs.declared.changes.Seen.{Seen}
use Rattle.pws_msg.specs.declared.changes.ViewChange.{ViewChange}
use Rattle.pws_base.specs.Counts.{count_below}
use Rattle.pws_safety.specs.Replicas.{AtLeast}
use Rattle.pws_safety.specs.Statement.{Statement, PrePrepare, Prepare, Commit}
use Rattle.pws_safety.specs.Statements.{Group, Sent, Told, IsSettled, primary}
use Rattle.pws_safety.specs.Voters.{Core, new_core, after_accept, after_prepare, after_commit, propose, accept, prepare, commit}
use Rattle.pws_safety.specs.Runs.{Reached, start, IsTrusted, with_core}
use Rattle.pws_safety.specs.Witnesses.{example_digest, example_report, same_items, same_checkpoint, same_p_row, same_seen, same_q_row, same_change, example_group, WitnessIsTrusted, SettlesInViewZero}
use Rattle.pws_safety.proofs.Next.{next}

-- what the tests of sameness tell
pub items_same : {X : Type 0} (same : X → X → Bool) → ((x y : X) → same x y ≡ true → x ≡ y) → (xs ys : List X) → same_items same xs ys ≡ true → xs ≡ ys
items_same same tells [] [] h = refl
items_same same tells [] (y ∷ ys) h = absurd (false≢true h)
items_same same tells (x ∷ xs) [] h = absurd (false≢true h)
items_same same tells (x ∷ xs) (y ∷ ys) h =
    let e = and_parts (same x y) (same_items same xs ys) h in
    let a = tells x y e.0 in
    let b = items_same same tells xs ys e.1 in
    λ i. a i ∷ b i

checkpoint_same : (a b : Checkpoint) → same_checkpoint a b ≡ true → a ≡ b
checkpoint_same a b h =
    let e = and_parts (a.place == b.place) (bytes_eq a.digest b.digest) h in
    let p = eqb-true _ _ e.0 in
    let d = (bytes_eq-Decides a.digest b.digest).0 e.1 in
    λ i. record { place = p i; digest = d i }

p_row_same : (a b : PRow) → same_p_row a b ≡ true → a ≡ b
p_row_same a b h =
    let e = and_parts ((a.place == b.place) && bytes_eq a.digest b.digest) (a.view == b.view) h in
    let k = and_parts (a.place == b.place) (bytes_eq a.digest b.digest) e.0 in
    let p = eqb-true _ _ k.0 in
    let d = (bytes_eq-Decides a.digest b.digest).0 k.1 in
    let v = eqb-true _ _ e.1 in
    λ i. record { place = p i; digest = d i; view = v i }

seen_same : (a b : Seen) → same_seen a b ≡ true → a ≡ b
seen_same a b h =
    let e = and_parts (bytes_eq a.digest b.digest) (a.view == b.view) h in
    let d = (bytes_eq-Decides a.digest b.digest).0 e.0 in
    let v = eqb-true _ _ e.1 in
    λ i. record { digest = d i; view = v i }

q_row_same : (a b : QRow) → same_q_row a b ≡ true → a ≡ b
q_row_same a b h =
    let e = and_parts (a.place == b.place) (same_items same_seen a.digests b.digests) h in
    let p = eqb-true _ _ e.0 in
    let d = items_same same_seen seen_same a.digests b.digests e.1 in
    λ i. record { place = p i; digests = d i }

pub change_same : (a b : ViewChange) → same_change a b ≡ true → a ≡ b
change_same a b h =
    let x = and_parts _ _ h in
    let y = and_parts _ _ x.0 in
    let z = and_parts _ _ y.0 in
    let w = and_parts _ _ z.0 in
    let v = eqb-true _ _ w.0 in
    let l = eqb-true _ _ w.1 in
    let c = items_same same_checkpoint checkpoint_same a.checkpoints b.checkpoints z.1 in
    let p = items_same same_p_row p_row_same a.prepared b.prepared y.1 in
    let q = items_same same_q_row q_row_same a.pre_prepared b.pre_prepared x.1 in
    λ i. record { view = v i; low = l i; checkpoints = c i; prepared = p i; pre_prepared = q i }

-- where one view change alone occurs there is no collision
pub one_occurs : (digest_of : ViewChange → List ℕ) (c : ViewChange) → IsTrusted (example_group digest_of (same_change c))
one_occurs digest_of c = record { sound = omega arith; no_collision = λ a b x y e. sym (change_same c a x) ∙ change_same c b y }

pub witness_is_trusted : WitnessIsTrusted
witness_is_trusted digest_of = one_occurs digest_of (example_report 1)

-- two, and three replicas of four have a property
pub two_have : (a b : ℕ) (P : ℕ → Type 0) → 2 ≤ count_below 4 (λ i. (i == a) || (i == b)) → P a → P b → AtLeast 4 2 P
two_have a b P enough x y = (
  (λ i. (i == a) || (i == b)),
  enough,
  λ i l t. elim (or_cases (i == a) (i == b) t) [ inl e ↦ subst P (sym (eqb-true i a e)) x | inr e ↦ subst P (sym (eqb-true i b e)) y ],
)

pub three_have : (a b c : ℕ) (P : ℕ → Type 0) → 3 ≤ count_below 4 (λ i. (i == a) || ((i == b) || (i == c))) → P a → P b → P c → AtLeast 4 3 P
three_have a b c P enough x y z = (
  (λ i. (i == a) || ((i == b) || (i == c))),
  enough,
  λ i l t. elim (or_cases (i == a) ((i == b) || (i == c)) t) [
    | inl e ↦ subst P (sym (eqb-true i a e)) x
    | inr k ↦ elim (or_cases (i == b) (i == c) k) [ inl e ↦ subst P (sym (eqb-true i b e)) y | inr e ↦ subst P (sym (eqb-true i c e)) z ]
  ],
)

module _ (digest_of : ViewChange → List ℕ) (occurs : ViewChange → Bool) where
  abbrev pub group : Group
  group = example_group digest_of occurs

  abbrev pub proposed : Statement
  proposed = PrePrepare 0 1 example_digest

  abbrev pub voted : Statement
  voted = Prepare 0 1 example_digest

  abbrev pub agreed : Statement
  agreed = Commit 0 1 example_digest

  -- the primary proposes, and replicas 1 and 2 accept
  abbrev pub leader : Core
  leader = after_accept new_core 1 example_digest proposed

  abbrev pub backup : Core
  backup = after_accept new_core 1 example_digest voted

  abbrev pub accepted_cores : ℕ → Core
  accepted_cores = with_core (with_core (with_core (λ i. new_core) 0 leader) 1 backup) 2 backup

  abbrev pub accepted_sent : Sent
  accepted_sent = (2, voted) ∷ (1, voted) ∷ (0, proposed) ∷ []

  accepted_run : Reached group accepted_cores accepted_sent
  accepted_run =
      let c1 : ℕ → Core = with_core (λ i. new_core) 0 leader in
      let t1 : Sent = (0, proposed) ∷ [] in
      let r1 : Reached group c1 t1 = next group (λ i. new_core) [] 0 leader (proposed ∷ []) start (omega arith, refl) (propose new_core 1 example_digest refl refl refl (omega arith) refl) refl in
      let c2 : ℕ → Core = with_core c1 1 backup in
      let t2 : Sent = (1, voted) ∷ t1 in
      let r2 : Reached group c2 t2 = next group c1 t1 1 backup (voted ∷ []) r1 (omega arith, refl) (accept new_core 1 example_digest refl (λ e. absurd (omega (arith, e))) (omega arith) (omega arith) refl refl (inr (0, omega arith, refl))) refl in
      next group c2 t2 2 backup (voted ∷ []) r2 (omega arith, refl) (accept new_core 1 example_digest refl (λ e. absurd (omega (arith, e))) (omega arith) (omega arith) refl refl (inr (1, omega arith, refl))) refl

  -- each of the three prepares, by the PREPAREs of 1 and 2
  abbrev pub leader_prepared : Core
  leader_prepared = after_prepare leader 1 example_digest

  abbrev pub backup_prepared : Core
  backup_prepared = after_prepare backup 1 example_digest

  abbrev pub prepared_cores : ℕ → Core
  prepared_cores = with_core (with_core (with_core accepted_cores 0 leader_prepared) 1 backup_prepared) 2 backup_prepared

  abbrev pub prepared_sent : Sent
  prepared_sent = (2, agreed) ∷ (1, agreed) ∷ (0, agreed) ∷ accepted_sent

  pub prepared_run : Reached group prepared_cores prepared_sent
  prepared_run =
      let c1 : ℕ → Core = with_core accepted_cores 0 leader_prepared in
      let t1 : Sent = (0, agreed) ∷ accepted_sent in
      let r1 : Reached group c1 t1 = next group accepted_cores accepted_sent 0 leader_prepared (agreed ∷ []) accepted_run (omega arith, refl)
      (prepare leader 1 example_digest refl refl (two_have 1 2 (λ k. (k ≡ primary group 0 → ⊥) × Told group accepted_sent k voted) (omega arith) (λ e. absurd (omega (arith, e)), inr (1, omega arith, refl)) (λ e. absurd (omega (arith, e)), inr (0, omega arith, refl)))) refl in
      let c2 : ℕ → Core = with_core c1 1 backup_prepared in
      let t2 : Sent = (1, agreed) ∷ t1 in
      let r2 : Reached group c2 t2 = next group c1 t1 1 backup_prepared (agreed ∷ []) r1 (omega arith, refl)
      (prepare backup 1 example_digest refl refl (two_have 1 2 (λ k. (k ≡ primary group 0 → ⊥) × Told group t1 k voted) (omega arith) (λ e. absurd (omega (arith, e)), inr (2, omega arith, refl)) (λ e. absurd (omega (arith, e)), inr (1, omega arith, refl)))) refl in
      next group c2 t2 2 backup_prepared (agreed ∷ []) r2 (omega arith, refl)
      (prepare backup 1 example_digest refl refl (two_have 1 2 (λ k. (k ≡ primary group 0 → ⊥) × Told group t2 k voted) (omega arith) (λ e. absurd (omega (arith, e)), inr (3, omega arith, refl)) (λ e. absurd (omega (arith, e)), inr (2, omega arith, refl)))) refl

  pub settled_in_prepared : IsSettled group prepared_sent 0 1 example_digest
  settled_in_prepared = two_have 1 2 (λ i. (group.compromised i ≡ false) × Contains prepared_sent (i, agreed)) (omega arith) (refl, (1, omega arith, refl)) (refl, (0, omega arith, refl))

  -- and the primary commits
  abbrev pub leader_committed : Core
  leader_committed = after_commit leader_prepared 1 example_digest

  abbrev pub committed_cores : ℕ → Core
  committed_cores = with_core prepared_cores 0 leader_committed

  pub committed_run : Reached group committed_cores prepared_sent
  committed_run =
      next group prepared_cores prepared_sent 0 leader_committed [] prepared_run (omega arith, refl)
      (commit leader_prepared 1 example_digest refl refl (three_have 0 1 2 (λ k. Told group prepared_sent k agreed) (omega arith) (inr (2, omega arith, refl)) (inr (1, omega arith, refl)) (inr (0, omega arith, refl)))) refl

pub settles_in_view_zero : SettlesInViewZero
settles_in_view_zero digest_of =
    let occurs = same_change (example_report 1) in
    (prepared_cores digest_of occurs, prepared_sent digest_of occurs, prepared_run digest_of occurs, settled_in_prepared digest_of occurs)
