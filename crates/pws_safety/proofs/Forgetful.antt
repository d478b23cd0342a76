-- Replicas that forget, as they move, what they prepared: the new view chooses nothing, and settles another digest.
use Rattle.std.proofs.Common.{ℕ, ◌≡◌, inl, inr, refl, List, [], ◌∷◌, arith}
use Rattle.std.specs.List.{Contains}
use Rattle.pws_msg.specs.declared.changes.NewView.{NewView}
use Rattle.pws_msg.specs.declared.changes.ViewChange.{ViewChange}
use Rattle.pws_change.specs.declared.heard.Heard.{Heard}
use Rattle.pws_change.specs.Agreements.{Agrees}
use Rattle.pws_change.specs.Choices.{GivesChoice}
use Rattle.pws_change.specs.Valid.{IsValid}
use Rattle.pws_safety.specs.Statement.{Statement, PrePrepare, Prepare, Commit}
use Rattle.pws_safety.specs.Statement as say
use Rattle.pws_safety.specs.Statements.{Group, Sent, Told, primary}
use Rattle.pws_safety.specs.Voters.{Core, after_accept, after_prepare, after_commit, after_move, after_enter, IsHeard, propose, accept, prepare, commit, offer, enter}
use Rattle.pws_safety.specs.Runs.{with_core}
use Rattle.pws_safety.specs.Witnesses.{first_checkpoint, same_change}
use Rattle.pws_safety.specs.Counterexamples.{ReachedWith, Misleads, ForgetsSlots}
use Rattle.pws_safety.specs.Counterexamples as rule
use Rattle.pws_safety.proofs.FirstRun.{two_have, three_have, one_occurs, group, backup_prepared, committed_cores, prepared_sent, committed_run}
use Rattle.pws_safety.proofs.Reports.{each_three, starts, no_slots, accepts_none, prepares_none, heard_is_had}
use Rattle.pws_safety.proofs.Ruled.{without_rule, steps, follows, other_digest, disagreement_of}

-- a report of nothing
abbrev empty_report : ViewChange
empty_report = record { view = 1; low = 0; checkpoints = first_checkpoint ∷ []; prepared = []; pre_prepared = [] }

abbrev same_digest : ViewChange → List ℕ
same_digest c = []

abbrev g : Group
g = group same_digest (same_change empty_report)

abbrev from : ℕ → Heard
from i = record { index = i; digest = []; change = empty_report }

abbrev heard : List Heard
heard = from 1 ∷ from 2 ∷ from 3 ∷ []

abbrev new : NewView
new = record {
  view = 1;
  named = record { index = 1; digest = [] } ∷ record { index = 2; digest = [] } ∷ record { index = 3; digest = [] } ∷ [];
  choice = record { place = 0; digest = first_checkpoint.digest; chosen = [] };
}

gives : GivesChoice 1 heard new.choice
gives = record { start = starts (from 1) (from 2) (from 3) refl refl refl (record { reached = omega arith; held = omega arith }); last = refl; chosen = λ p a b. absurd (omega arith) }

agrees : Agrees 1 new heard
agrees = record { rises = refl; many = omega arith; named = refl; views = refl; choice = gives }

report_valid : IsValid empty_report
report_valid = record { view = refl; low = refl; checkpoints = refl; prepared = refl; pre_prepared = refl }

heard_in : (sent : Sent) → Contains sent (1, say.ViewChange empty_report) → Contains sent (2, say.ViewChange empty_report) → (h : Heard) → Contains heard h → (same_digest h.change ≡ h.digest) × IsHeard g sent 1 h.index h.change
heard_in sent a b h k =
    each_three (λ h. (same_digest h.change ≡ h.digest) × IsHeard g sent 1 h.index h.change) (from 1) (from 2) (from 3)
    (refl, record { replica = omega arith; told = inr a; in_view = refl; valid = report_valid; occurs = refl })
    (refl, record { replica = omega arith; told = inr b; in_view = refl; valid = report_valid; occurs = refl })
    (refl, record { replica = omega arith; told = inl refl; in_view = refl; valid = report_valid; occurs = refl }) h k

abbrev base_cores : ℕ → Core
base_cores = committed_cores same_digest (same_change empty_report)

abbrev base_sent : Sent
base_sent = prepared_sent same_digest (same_change empty_report)

abbrev backup : Core
backup = backup_prepared same_digest (same_change empty_report)

-- 1 and 2 move, and forget
abbrev moved : Core
moved = after_move backup 1 (first_checkpoint ∷ []) [] []

abbrev started : Core
started = after_enter moved new no_slots 0 (say.NewView new ∷ [])

abbrev entered : Core
entered = after_enter moved new no_slots 0 []

abbrev new_cores : ℕ → Core
new_cores = with_core (with_core (with_core (with_core base_cores 1 moved) 2 moved) 1 started) 2 entered

abbrev new_sent : Sent
new_sent = (1, say.NewView new) ∷ (2, say.ViewChange empty_report) ∷ (1, say.ViewChange empty_report) ∷ base_sent

new_run : ReachedWith ForgetsSlots g new_cores new_sent
new_run =
    let report = say.ViewChange empty_report in
    let c1 : ℕ → Core = with_core base_cores 1 moved in
    let t1 : Sent = (1, report) ∷ base_sent in
    let r1 : ReachedWith ForgetsSlots g c1 t1 = follows ForgetsSlots g base_cores base_sent 1 moved (report ∷ []) (without_rule ForgetsSlots g (committed_run same_digest (same_change empty_report))) (omega arith, refl)
    (rule.ForgetsSlots.move backup 1 (first_checkpoint ∷ []) (omega arith)) refl in
    let c2 : ℕ → Core = with_core c1 2 moved in
    let t2 : Sent = (2, report) ∷ t1 in
    let r2 : ReachedWith ForgetsSlots g c2 t2 = follows ForgetsSlots g c1 t1 2 moved (report ∷ []) r1 (omega arith, refl) (rule.ForgetsSlots.move backup 1 (first_checkpoint ∷ []) (omega arith)) refl in
    let c3 : ℕ → Core = with_core c2 1 started in
    let t3 : Sent = (1, say.NewView new) ∷ t2 in
    let r3 : ReachedWith ForgetsSlots g c3 t3 = steps ForgetsSlots g c2 t2 1 started (say.NewView new ∷ []) r2 (omega arith, refl)
    (offer moved new heard no_slots 0 refl refl refl agrees (heard_in t2 (1, omega arith, refl) (0, omega arith, refl)) (accepts_none moved new)) refl in
    steps ForgetsSlots g c3 t3 2 entered [] r3 (omega arith, refl)
    (enter moved new heard no_slots 0 [] refl (λ e. absurd (omega (arith, e))) refl (inr (0, omega arith, refl)) agrees (λ h k. heard_is_had g t3 1 h (heard_in t3 (2, omega arith, refl) (1, omega arith, refl) h k)) (accepts_none moved new) (prepares_none moved)) refl

-- 1 proposes another digest, which is committed
abbrev vote : Statement
vote = Prepare 1 1 other_digest

abbrev agree : Statement
agree = Commit 1 1 other_digest

abbrev proposed : Core
proposed = after_accept started 1 other_digest (PrePrepare 1 1 other_digest)

abbrev voted : Core
voted = after_accept entered 1 other_digest vote

abbrev last_cores : ℕ → Core
last_cores = with_core (with_core (with_core (with_core (with_core new_cores 1 proposed) 2 voted) 1 (after_prepare proposed 1 other_digest)) 2 (after_prepare voted 1 other_digest)) 1 (after_commit (after_prepare proposed 1 other_digest) 1 other_digest)

abbrev last_sent : Sent
last_sent = (2, agree) ∷ (1, agree) ∷ (2, vote) ∷ (1, PrePrepare 1 1 other_digest) ∷ new_sent

last_run : ReachedWith ForgetsSlots g last_cores last_sent
last_run =
    let c1 : ℕ → Core = with_core new_cores 1 proposed in
    let t1 : Sent = (1, PrePrepare 1 1 other_digest) ∷ new_sent in
    let r1 : ReachedWith ForgetsSlots g c1 t1 = steps ForgetsSlots g new_cores new_sent 1 proposed (PrePrepare 1 1 other_digest ∷ []) new_run (omega arith, refl) (propose started 1 other_digest refl refl refl (omega arith) refl) refl in
    let c2 : ℕ → Core = with_core c1 2 voted in
    let t2 : Sent = (2, vote) ∷ t1 in
    let r2 : ReachedWith ForgetsSlots g c2 t2 = steps ForgetsSlots g c1 t1 2 voted (vote ∷ []) r1 (omega arith, refl)
    (accept entered 1 other_digest refl (λ e. absurd (omega (arith, e))) (omega arith) (omega arith) refl refl (inr (0, omega arith, refl))) refl in
    let c3 : ℕ → Core = with_core c2 1 (after_prepare proposed 1 other_digest) in
    let t3 : Sent = (1, agree) ∷ t2 in
    let r3 : ReachedWith ForgetsSlots g c3 t3 = steps ForgetsSlots g c2 t2 1 (after_prepare proposed 1 other_digest) (agree ∷ []) r2 (omega arith, refl)
    (prepare proposed 1 other_digest refl refl (two_have 2 3 (λ k. (k ≡ primary g 1 → ⊥) × Told g t2 k vote) (omega arith) (λ e. absurd (omega (arith, e)), inr (0, omega arith, refl)) (λ e. absurd (omega (arith, e)), inl refl))) refl in
    let c4 : ℕ → Core = with_core c3 2 (after_prepare voted 1 other_digest) in
    let t4 : Sent = (2, agree) ∷ t3 in
    let r4 : ReachedWith ForgetsSlots g c4 t4 = steps ForgetsSlots g c3 t3 2 (after_prepare voted 1 other_digest) (agree ∷ []) r3 (omega arith, refl)
    (prepare voted 1 other_digest refl refl (two_have 2 3 (λ k. (k ≡ primary g 1 → ⊥) × Told g t3 k vote) (omega arith) (λ e. absurd (omega (arith, e)), inr (1, omega arith, refl)) (λ e. absurd (omega (arith, e)), inl refl))) refl in
    steps ForgetsSlots g c4 t4 1 (after_commit (after_prepare proposed 1 other_digest) 1 other_digest) [] r4 (omega arith, refl)
    (commit (after_prepare proposed 1 other_digest) 1 other_digest refl refl (three_have 1 2 3 (λ k. Told g t4 k agree) (omega arith) (inr (1, omega arith, refl)) (inr (0, omega arith, refl)) (inl refl))) refl

pub forgets_slots_misleads : Misleads ForgetsSlots
forgets_slots_misleads = record {
  group = g;
  cores = last_cores;
  sent = last_sent;
  trusted = one_occurs same_digest empty_report;
  reached = last_run;
  disagreement = disagreement_of g last_cores 0 1 ((omega arith, refl), refl) ((omega arith, refl), refl);
}
