-- The example group goes on to view 1, by a NEW_VIEW that keeps what was settled in view 0.
use Rattle.std.proofs.Common.{ℕ, ◌≡◌, inr, Bool, false, refl, List, [], ◌∷◌, arith}
use Rattle.std.specs.List.{Contains}
use Rattle.pws_msg.specs.declared.changes.NewView.{NewView}
use Rattle.pws_msg.specs.declared.changes.ViewChange.{ViewChange}
use Rattle.pws_change.specs.declared.heard.Heard.{Heard}
use Rattle.pws_change.specs.Agreements.{Agrees}
use Rattle.pws_safety.specs.Statement.{Statement, Prepare, Commit}
use Rattle.pws_safety.specs.Statement as say
use Rattle.pws_safety.specs.Statements.{Group, Sent, Told, Gives, primary}
use Rattle.pws_safety.specs.Voters.{Core, after_move, after_enter, after_prepare, IsHeard, IsHad, move, offer, enter, prepare}
use Rattle.pws_safety.specs.Runs.{Reached, with_core}
use Rattle.pws_safety.specs.Witnesses.{example_digest, first_checkpoint, prepared_row, pre_prepared_row, example_report, same_change, example_new_view, KeepsInViewOne}
use Rattle.pws_safety.proofs.Next.{next}
use Rattle.pws_safety.proofs.Reports.{each_three, reported, keeps, report_valid, noted, prepared_slot_is, one_slot, accepts_one, prepares_one, heard_is_had}
use Rattle.pws_safety.proofs.FirstRun.{two_have, group, leader_prepared, backup_prepared, prepared_cores, prepared_sent, prepared_run}

module _ (digest_of : ViewChange → List ℕ) where
  abbrev occurs : ViewChange → Bool
  occurs = same_change (example_report 1)

  abbrev from : ℕ → Heard
  from i = reported 1 (digest_of (example_report 1)) i

  abbrev heard : List Heard
  heard = from 0 ∷ from 1 ∷ from 2 ∷ []

  abbrev new : NewView
  new = example_new_view digest_of

  agrees : Agrees 1 new heard
  agrees = record { rises = refl; many = omega arith; named = refl; views = refl; choice = keeps 1 (digest_of (example_report 1)) 0 1 2 }

  -- the three move to view 1
  abbrev moved : Core → Core
  moved s = after_move s 1 (first_checkpoint ∷ []) (prepared_row ∷ []) (pre_prepared_row ∷ [])

  abbrev report : Statement
  report = say.ViewChange (example_report 1)

  abbrev moved_cores : ℕ → Core
  moved_cores = with_core (with_core (with_core (prepared_cores digest_of occurs) 0 (moved (leader_prepared digest_of occurs))) 1 (moved (backup_prepared digest_of occurs))) 2 (moved (backup_prepared digest_of occurs))

  abbrev moved_sent : Sent
  moved_sent = (2, report) ∷ (1, report) ∷ (0, report) ∷ prepared_sent digest_of occurs

  moved_run : Reached (group digest_of occurs) moved_cores moved_sent
  moved_run =
      let g : Group = group digest_of occurs in
      let c1 : ℕ → Core = with_core (prepared_cores digest_of occurs) 0 (moved (leader_prepared digest_of occurs)) in
      let t1 : Sent = (0, report) ∷ prepared_sent digest_of occurs in
      let r1 : Reached g c1 t1 = next g (prepared_cores digest_of occurs) (prepared_sent digest_of occurs) 0 (moved (leader_prepared digest_of occurs)) (report ∷ []) (prepared_run digest_of occurs) (omega arith, refl)
      (move (leader_prepared digest_of occurs) 1 (first_checkpoint ∷ []) (prepared_row ∷ []) (pre_prepared_row ∷ []) (omega arith) (noted (leader_prepared digest_of occurs) refl refl prepared_slot_is refl)) refl in
      let c2 : ℕ → Core = with_core c1 1 (moved (backup_prepared digest_of occurs)) in
      let t2 : Sent = (1, report) ∷ t1 in
      let r2 : Reached g c2 t2 = next g c1 t1 1 (moved (backup_prepared digest_of occurs)) (report ∷ []) r1 (omega arith, refl)
      (move (backup_prepared digest_of occurs) 1 (first_checkpoint ∷ []) (prepared_row ∷ []) (pre_prepared_row ∷ []) (omega arith) (noted (backup_prepared digest_of occurs) refl refl prepared_slot_is refl)) refl in
      next g c2 t2 2 (moved (backup_prepared digest_of occurs)) (report ∷ []) r2 (omega arith, refl)
      (move (backup_prepared digest_of occurs) 1 (first_checkpoint ∷ []) (prepared_row ∷ []) (pre_prepared_row ∷ []) (omega arith) (noted (backup_prepared digest_of occurs) refl refl prepared_slot_is refl)) refl

  -- replica 1, the primary of view 1, offers the new view
  abbrev started : Core
  started = after_enter (moved (backup_prepared digest_of occurs)) new (one_slot example_digest) 1 (say.NewView new ∷ [])

  abbrev started_cores : ℕ → Core
  started_cores = with_core moved_cores 1 started

  abbrev started_sent : Sent
  started_sent = (1, say.NewView new) ∷ moved_sent

  heard_in : (sent : Sent) → Contains sent (0, report) → Contains sent (1, report) → Contains sent (2, report) → (h : Heard) → Contains heard h → (digest_of h.change ≡ h.digest) × IsHeard (group digest_of occurs) sent 1 h.index h.change
  heard_in sent a b c h k =
      let valid = report_valid 1 [] (omega arith) in
      each_three (λ h. (digest_of h.change ≡ h.digest) × IsHeard (group digest_of occurs) sent 1 h.index h.change) (from 0) (from 1) (from 2)
      (refl, record { replica = omega arith; told = inr a; in_view = refl; valid = valid; occurs = refl })
      (refl, record { replica = omega arith; told = inr b; in_view = refl; valid = valid; occurs = refl })
      (refl, record { replica = omega arith; told = inr c; in_view = refl; valid = valid; occurs = refl }) h k

  had_in : (sent : Sent) → Contains sent (0, report) → Contains sent (1, report) → Contains sent (2, report) → (h : Heard) → Contains heard h → IsHad (group digest_of occurs) sent 1 h
  had_in sent a b c h k = heard_is_had (group digest_of occurs) sent 1 h (heard_in sent a b c h k)

  chosen_one : Gives new.choice 1 example_digest
  chosen_one = (omega arith, omega arith, refl)

  started_run : Reached (group digest_of occurs) started_cores started_sent
  started_run =
      next (group digest_of occurs) moved_cores moved_sent 1 started (say.NewView new ∷ []) moved_run (omega arith, refl)
      (offer (moved (backup_prepared digest_of occurs)) new heard (one_slot example_digest) 1 refl refl refl agrees (heard_in moved_sent (2, omega arith, refl) (1, omega arith, refl) (0, omega arith, refl)) (accepts_one (moved (backup_prepared digest_of occurs)) new example_digest chosen_one refl)) refl

  -- replicas 0 and 2 enter it
  abbrev vote_again : Statement
  vote_again = Prepare 1 1 example_digest

  abbrev entered : Core → Core
  entered s = after_enter s new (one_slot example_digest) 1 (vote_again ∷ [])

  abbrev entered_cores : ℕ → Core
  entered_cores = with_core (with_core started_cores 0 (entered (moved (leader_prepared digest_of occurs)))) 2 (entered (moved (backup_prepared digest_of occurs)))

  abbrev entered_sent : Sent
  entered_sent = (2, vote_again) ∷ (0, vote_again) ∷ started_sent

  entered_run : Reached (group digest_of occurs) entered_cores entered_sent
  entered_run =
      let g : Group = group digest_of occurs in
      let c1 : ℕ → Core = with_core started_cores 0 (entered (moved (leader_prepared digest_of occurs))) in
      let t1 : Sent = (0, vote_again) ∷ started_sent in
      let r1 : Reached g c1 t1 = next g started_cores started_sent 0 (entered (moved (leader_prepared digest_of occurs))) (vote_again ∷ []) started_run (omega arith, refl)
      (enter (moved (leader_prepared digest_of occurs)) new heard (one_slot example_digest) 1 (vote_again ∷ []) refl (λ e. absurd (omega (arith, e))) refl (inr (0, omega arith, refl)) agrees (had_in started_sent (3, omega arith, refl) (2, omega arith, refl) (1, omega arith, refl)) (accepts_one (moved (leader_prepared digest_of occurs)) new example_digest chosen_one refl) (prepares_one (moved (leader_prepared digest_of occurs)) new example_digest chosen_one 1 refl)) refl in
      next g c1 t1 2 (entered (moved (backup_prepared digest_of occurs))) (vote_again ∷ []) r1 (omega arith, refl)
      (enter (moved (backup_prepared digest_of occurs)) new heard (one_slot example_digest) 1 (vote_again ∷ []) refl (λ e. absurd (omega (arith, e))) refl (inr (1, omega arith, refl)) agrees (had_in t1 (4, omega arith, refl) (3, omega arith, refl) (2, omega arith, refl)) (accepts_one (moved (backup_prepared digest_of occurs)) new example_digest chosen_one refl) (prepares_one (moved (backup_prepared digest_of occurs)) new example_digest chosen_one 1 refl)) refl

  -- and commit again
  abbrev agree_again : Statement
  agree_again = Commit 1 1 example_digest

  abbrev last_cores : ℕ → Core
  last_cores = with_core (with_core entered_cores 0 (after_prepare (entered (moved (leader_prepared digest_of occurs))) 1 example_digest)) 2 (after_prepare (entered (moved (backup_prepared digest_of occurs))) 1 example_digest)

  abbrev last_sent : Sent
  last_sent = (2, agree_again) ∷ (0, agree_again) ∷ entered_sent

  last_run : Reached (group digest_of occurs) last_cores last_sent
  last_run =
      let g : Group = group digest_of occurs in
      let c1 : ℕ → Core = with_core entered_cores 0 (after_prepare (entered (moved (leader_prepared digest_of occurs))) 1 example_digest) in
      let t1 : Sent = (0, agree_again) ∷ entered_sent in
      let r1 : Reached g c1 t1 = next g entered_cores entered_sent 0 (after_prepare (entered (moved (leader_prepared digest_of occurs))) 1 example_digest) (agree_again ∷ []) entered_run (omega arith, refl)
      (prepare (entered (moved (leader_prepared digest_of occurs))) 1 example_digest refl refl (two_have 0 2 (λ k. (k ≡ primary g 1 → ⊥) × Told g entered_sent k vote_again) (omega arith) (λ e. absurd (omega (arith, e)), inr (1, omega arith, refl)) (λ e. absurd (omega (arith, e)), inr (0, omega arith, refl)))) refl in
      next g c1 t1 2 (after_prepare (entered (moved (backup_prepared digest_of occurs))) 1 example_digest) (agree_again ∷ []) r1 (omega arith, refl)
      (prepare (entered (moved (backup_prepared digest_of occurs))) 1 example_digest refl refl (two_have 0 2 (λ k. (k ≡ primary g 1 → ⊥) × Told g t1 k vote_again) (omega arith) (λ e. absurd (omega (arith, e)), inr (2, omega arith, refl)) (λ e. absurd (omega (arith, e)), inr (1, omega arith, refl)))) refl

pub keeps_in_view_one : KeepsInViewOne
keeps_in_view_one digest_of =
    let occurs : ViewChange → Bool = same_change (example_report 1) in (
      last_cores digest_of,
      last_sent digest_of,
      last_run digest_of,
      two_have 1 2 (λ i. ((group digest_of occurs).compromised i ≡ false) × Contains (last_sent digest_of) (i, Commit 0 1 example_digest)) (omega arith) (refl, (9, omega arith, refl)) (refl, (8, omega arith, refl)),
      (4, omega arith, refl),
      refl,
      refl,
      two_have 0 2 (λ i. ((group digest_of occurs).compromised i ≡ false) × Contains (last_sent digest_of) (i, Commit 1 1 example_digest)) (omega arith) (refl, (1, omega arith, refl)) (refl, (0, omega arith, refl)),
    )
