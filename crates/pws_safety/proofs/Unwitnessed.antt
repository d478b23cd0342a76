-- A compromised replica claims to have prepared another digest in a later view; where no witness is asked for, the
-- choice takes it.
use Rattle.std.proofs.Common.{ℕ, ◌≤◌, ◌≡◌, ◌⊎◌, inl, inr, Bool, true, ◌||◌, refl, sym, ap, ◌∙◌, subst, List, [], ◌∷◌, arith}
use Rattle.std.specs.List.{Contains, count_by}
use Rattle.std.proofs.lemmas.Bool.{or_cases}
use Rattle.pws_base.specs.Shapes.{quorum_of}
use Rattle.pws_msg.specs.declared.changes.Choice.{Choice}
use Rattle.pws_msg.specs.declared.changes.PRow.{PRow}
use Rattle.pws_msg.specs.declared.changes.NewView.{NewView}
use Rattle.pws_msg.specs.declared.changes.ViewChange.{ViewChange}
use Rattle.pws_change.specs.declared.heard.Heard.{Heard}
use Rattle.pws_change.specs.Changes.{has_entry, allows_entry}
use Rattle.pws_change.specs.Choices.{chosen_at}
use Rattle.pws_change.specs.Valid.{IsValid}
use Rattle.pws_safety.specs.Statement.{Statement, Prepare, Commit}
use Rattle.pws_safety.specs.Statement as say
use Rattle.pws_safety.specs.Statements.{Group, Sent, Told, Gives, primary}
use Rattle.pws_safety.specs.Voters.{Core, after_prepare, after_commit, after_move, after_enter, IsHeard, prepare, commit, move}
use Rattle.pws_safety.specs.Runs.{IsTrusted, with_core}
use Rattle.pws_safety.specs.Witnesses.{example_digest, first_checkpoint, prepared_row, pre_prepared_row, example_report, same_change}
use Rattle.pws_safety.specs.Counterexamples.{ReachedWith, Misleads, ChoiceWithoutWitnesses, GivesUnwitnessed, AgreesUnwitnessed}
use Rattle.pws_safety.specs.Counterexamples as rule
use Rattle.pws_safety.proofs.FirstRun.{two_have, three_have, change_same, group, backup_prepared, committed_cores, prepared_sent, committed_run}
use Rattle.pws_safety.proofs.Reports.{each_three, starts, report_valid, noted, prepared_slot_is, one_slot, accepts_one, prepares_one, heard_is_had}
use Rattle.pws_safety.proofs.Ruled.{without_rule, steps, follows, other_digest, digests_differ, disagreement_of}

-- a report that claims another digest, prepared in view 1
abbrev lie : ViewChange
lie = record { view = 2; low = 0; checkpoints = first_checkpoint ∷ []; prepared = record { place = 1; digest = other_digest; view = 1 } ∷ []; pre_prepared = [] }

abbrev occurs : ViewChange → Bool
occurs c = same_change (example_report 2) c || same_change lie c

-- a digest that tells the two apart
abbrev first_prepared : List PRow → List ℕ
first_prepared [] = []
first_prepared (r ∷ rs) = r.digest

abbrev digest_of : ViewChange → List ℕ
digest_of c = first_prepared c.prepared

abbrev g : Group
g = group digest_of occurs

trusted : IsTrusted g
trusted = record { sound = omega arith; no_collision = λ a b x y e. apart a b (or_cases (same_change (example_report 2) a) (same_change lie a) x) (or_cases (same_change (example_report 2) b) (same_change lie b) y) e }
  where
    apart : (a b : ViewChange) → (same_change (example_report 2) a ≡ true) ⊎ (same_change lie a ≡ true) → (same_change (example_report 2) b ≡ true) ⊎ (same_change lie b ≡ true) → digest_of a ≡ digest_of b → a ≡ b
    apart a b (inl x) (inl y) e = sym (change_same (example_report 2) a x) ∙ change_same (example_report 2) b y
    apart a b (inr x) (inr y) e = sym (change_same lie a x) ∙ change_same lie b y
    apart a b (inl x) (inr y) e = absurd (digests_differ (ap digest_of (change_same (example_report 2) a x) ∙ (e ∙ sym (ap digest_of (change_same lie b y)))))
    apart a b (inr x) (inl y) e = absurd (digests_differ (ap digest_of (change_same (example_report 2) b y) ∙ (sym e ∙ sym (ap digest_of (change_same lie a x)))))

abbrev from : ℕ → Heard
from i = record { index = i; digest = example_digest; change = example_report 2 }

abbrev liar : Heard
liar = record { index = 3; digest = other_digest; change = lie }

abbrev heard : List Heard
heard = from 1 ∷ from 2 ∷ liar ∷ []

abbrev wrong_choice : Choice
wrong_choice = record { place = 0; digest = first_checkpoint.digest; chosen = other_digest ∷ [] }

abbrev new : NewView
new = record { view = 2; named = record { index = 1; digest = example_digest } ∷ record { index = 2; digest = example_digest } ∷ record { index = 3; digest = other_digest } ∷ []; choice = wrong_choice }

gives : GivesUnwitnessed 1 heard wrong_choice
gives = record {
  start = starts (from 1) (from 2) liar refl refl refl (record { reached = omega arith; held = omega arith });
  last = refl;
  chosen = λ p a b. let e : 1 ≡ p = omega arith in
      subst (λ q. (view : ℕ) × (1 ≤ count_by (has_entry q (chosen_at wrong_choice q) view) heard) × (quorum_of 1 ≤ count_by (allows_entry q (chosen_at wrong_choice q) view) heard)) e (1, omega arith, omega arith);
}

agrees : AgreesUnwitnessed 1 new heard
agrees = record { rises = refl; many = omega arith; named = refl; views = refl; choice = gives }

lie_valid : IsValid lie
lie_valid = record { view = refl; low = refl; checkpoints = refl; prepared = refl; pre_prepared = refl }

abbrev report : Statement
report = say.ViewChange (example_report 2)

heard_in : (sent : Sent) → Contains sent (1, report) → Contains sent (2, report) → (h : Heard) → Contains heard h → (digest_of h.change ≡ h.digest) × IsHeard g sent 2 h.index h.change
heard_in sent a b h k =
    let valid = report_valid 2 [] (omega arith) in
    each_three (λ h. (digest_of h.change ≡ h.digest) × IsHeard g sent 2 h.index h.change) (from 1) (from 2) liar
    (refl, record { replica = omega arith; told = inr a; in_view = refl; valid = valid; occurs = refl })
    (refl, record { replica = omega arith; told = inr b; in_view = refl; valid = valid; occurs = refl })
    (refl, record { replica = omega arith; told = inl refl; in_view = refl; valid = lie_valid; occurs = refl }) h k

abbrev base_cores : ℕ → Core
base_cores = committed_cores digest_of occurs

abbrev base_sent : Sent
base_sent = prepared_sent digest_of occurs

abbrev backup : Core
backup = backup_prepared digest_of occurs

-- 1 and 2 move; 2 offers the wrong choice, and 1 enters
abbrev moved : Core
moved = after_move backup 2 (first_checkpoint ∷ []) (prepared_row ∷ []) (pre_prepared_row ∷ [])

abbrev started : Core
started = after_enter moved new (one_slot other_digest) 1 (say.NewView new ∷ [])

abbrev vote : Statement
vote = Prepare 2 1 other_digest

abbrev entered : Core
entered = after_enter moved new (one_slot other_digest) 1 (vote ∷ [])

abbrev new_cores : ℕ → Core
new_cores = with_core (with_core (with_core (with_core base_cores 1 moved) 2 moved) 2 started) 1 entered

abbrev new_sent : Sent
new_sent = (1, vote) ∷ (2, say.NewView new) ∷ (2, report) ∷ (1, report) ∷ base_sent

chosen_one : Gives new.choice 1 other_digest
chosen_one = (omega arith, omega arith, refl)

new_run : ReachedWith ChoiceWithoutWitnesses g new_cores new_sent
new_run =
    let c1 : ℕ → Core = with_core base_cores 1 moved in
    let t1 : Sent = (1, report) ∷ base_sent in
    let r1 : ReachedWith ChoiceWithoutWitnesses g c1 t1 = steps ChoiceWithoutWitnesses g base_cores base_sent 1 moved (report ∷ []) (without_rule ChoiceWithoutWitnesses g (committed_run digest_of occurs)) (omega arith, refl)
    (move backup 2 (first_checkpoint ∷ []) (prepared_row ∷ []) (pre_prepared_row ∷ []) (omega arith) (noted backup refl refl prepared_slot_is refl)) refl in
    let c2 : ℕ → Core = with_core c1 2 moved in
    let t2 : Sent = (2, report) ∷ t1 in
    let r2 : ReachedWith ChoiceWithoutWitnesses g c2 t2 = steps ChoiceWithoutWitnesses g c1 t1 2 moved (report ∷ []) r1 (omega arith, refl)
    (move backup 2 (first_checkpoint ∷ []) (prepared_row ∷ []) (pre_prepared_row ∷ []) (omega arith) (noted backup refl refl prepared_slot_is refl)) refl in
    let c3 : ℕ → Core = with_core c2 2 started in
    let t3 : Sent = (2, say.NewView new) ∷ t2 in
    let r3 : ReachedWith ChoiceWithoutWitnesses g c3 t3 = follows ChoiceWithoutWitnesses g c2 t2 2 started (say.NewView new ∷ []) r2 (omega arith, refl)
    (rule.ChoiceWithoutWitnesses.offer moved new heard (one_slot other_digest) 1 refl refl refl agrees (heard_in t2 (1, omega arith, refl) (0, omega arith, refl)) (accepts_one moved new other_digest chosen_one refl)) refl in
    follows ChoiceWithoutWitnesses g c3 t3 1 entered (vote ∷ []) r3 (omega arith, refl)
    (rule.ChoiceWithoutWitnesses.enter moved new heard (one_slot other_digest) 1 (vote ∷ []) refl (λ e. absurd (omega (arith, e))) refl (inr (0, omega arith, refl)) agrees
    (λ h k. heard_is_had g t3 2 h (heard_in t3 (2, omega arith, refl) (1, omega arith, refl) h k)) (accepts_one moved new other_digest chosen_one refl) (prepares_one moved new other_digest chosen_one 2 refl)) refl

-- and commit it
abbrev agree : Statement
agree = Commit 2 1 other_digest

abbrev last_cores : ℕ → Core
last_cores = with_core (with_core (with_core new_cores 1 (after_prepare entered 1 other_digest)) 2 (after_prepare started 1 other_digest)) 1 (after_commit (after_prepare entered 1 other_digest) 1 other_digest)

abbrev last_sent : Sent
last_sent = (2, agree) ∷ (1, agree) ∷ new_sent

last_run : ReachedWith ChoiceWithoutWitnesses g last_cores last_sent
last_run =
    let c1 : ℕ → Core = with_core new_cores 1 (after_prepare entered 1 other_digest) in
    let t1 : Sent = (1, agree) ∷ new_sent in
    let r1 : ReachedWith ChoiceWithoutWitnesses g c1 t1 = steps ChoiceWithoutWitnesses g new_cores new_sent 1 (after_prepare entered 1 other_digest) (agree ∷ []) new_run (omega arith, refl)
    (prepare entered 1 other_digest refl refl (two_have 1 3 (λ k. (k ≡ primary g 2 → ⊥) × Told g new_sent k vote) (omega arith) (λ e. absurd (omega (arith, e)), inr (0, omega arith, refl)) (λ e. absurd (omega (arith, e)), inl refl))) refl in
    let c2 : ℕ → Core = with_core c1 2 (after_prepare started 1 other_digest) in
    let t2 : Sent = (2, agree) ∷ t1 in
    let r2 : ReachedWith ChoiceWithoutWitnesses g c2 t2 = steps ChoiceWithoutWitnesses g c1 t1 2 (after_prepare started 1 other_digest) (agree ∷ []) r1 (omega arith, refl)
    (prepare started 1 other_digest refl refl (two_have 1 3 (λ k. (k ≡ primary g 2 → ⊥) × Told g t1 k vote) (omega arith) (λ e. absurd (omega (arith, e)), inr (1, omega arith, refl)) (λ e. absurd (omega (arith, e)), inl refl))) refl in
    steps ChoiceWithoutWitnesses g c2 t2 1 (after_commit (after_prepare entered 1 other_digest) 1 other_digest) [] r2 (omega arith, refl)
    (commit (after_prepare entered 1 other_digest) 1 other_digest refl refl (three_have 1 2 3 (λ k. Told g t2 k agree) (omega arith) (inr (1, omega arith, refl)) (inr (0, omega arith, refl)) (inl refl))) refl

pub choice_without_witnesses_misleads : Misleads ChoiceWithoutWitnesses
choice_without_witnesses_misleads = record {
  group = g;
  cores = last_cores;
  sent = last_sent;
  trusted = trusted;
  reached = last_run;
  disagreement = disagreement_of g last_cores 0 1 ((omega arith, refl), refl) ((omega arith, refl), refl);
}
