-- A replica whose floor is the checkpoint alone replaces a chosen digest that its window didn't reach when it entered.
--
-- Replicas 2 and 3 settle 33 places in view 0, while 1 hears nothing. Replica 1, the primary of view 1, starts it on a
-- choice whose checkpoint is at 32 and that keeps the digest at place 33, which is out of its window. As its low mark
-- has risen to 32 it proposes another digest there, and so it is a witness of that one. With it a report of the
-- compromised replica makes view 2 choose the other digest, and 1 and 2 commit it.
use Rattle.std.proofs.Common.{ℕ, ◌+◌, ◌*◌, ◌<◌, ◌≡◌, inl, inr, Bool, true, refl, sym, ap, ◌∙◌, subst, List, [], ◌∷◌, Option, Some, None, ◌==◌, replicate, suc, arith}
use Rattle.std.specs.Prelude.{if◌then◌else◌, slice_index_or}
use Rattle.std.specs.List.{Contains}
use Rattle.std.proofs.lemmas.Bool.{false≢true}
use Rattle.pws_msg.specs.declared.changes.Checkpoint.{Checkpoint}
use Rattle.pws_msg.specs.declared.changes.PRow.{PRow}
use Rattle.pws_msg.specs.declared.changes.QRow.{QRow}
use Rattle.pws_msg.specs.declared.changes.Seen.{Seen}
use Rattle.pws_msg.specs.declared.changes.Choice.{Choice}
use Rattle.pws_msg.specs.declared.changes.Named.{Named}
use Rattle.pws_msg.specs.declared.changes.NewView.{NewView}
use Rattle.pws_msg.specs.declared.changes.ViewChange.{ViewChange}
use Rattle.pws_change.specs.declared.heard.Heard.{Heard}
use Rattle.pws_change.specs.Agreements.{Agrees}
use Rattle.pws_change.specs.Choices.{IsStart, IsBestEntry, GivesChoice, IsChosenAt, chosen_at}
use Rattle.pws_change.specs.Valid.{IsValid}
use Rattle.pws_safety.specs.Statement.{Statement, PrePrepare, Prepare, Commit}
use Rattle.pws_safety.specs.Statement as say
use Rattle.pws_safety.specs.Statements.{Group, Sent, Told, Gives, primary}
use Rattle.pws_safety.specs.Voters.{Slot, Core, new_core, accepted, above, after_accept, after_prepare, after_commit, after_lower, after_move, after_enter, IsTrimmed, IsNoted, IsSeenBy, IsHeard, propose, accept, prepare, commit, lower, move}
use Rattle.pws_safety.specs.Runs.{IsTrusted, with_core}
use Rattle.pws_safety.specs.Witnesses.{example_digest, first_checkpoint, same_change}
use Rattle.pws_safety.specs.Counterexamples.{ReachedWith, Misleads, CheckpointFloor, CanAccept, AcceptsAllItCan}
use Rattle.pws_safety.specs.Counterexamples as rule
use Rattle.pws_base.proofs.Members.{nowhere}
use Rattle.pws_safety.proofs.Slots.{none_some, slot_here, each_slot, above_is}
use Rattle.pws_safety.proofs.FirstRun.{two_have, three_have, change_same}
use Rattle.pws_safety.proofs.Reports.{only_item, each_three, one_checkpoint, starts_at, one_row, HasNoLater, is_best, only_slot, prepared_one, prepared_at, pre_prepared_at, noted_at, chosen_slot, accepts_at, prepares_at, no_slots, accepts_none, heard_is_had}
use Rattle.pws_safety.proofs.Ruled.{steps, steps_from, follows, other_digest, digests_differ, astray}
use Rattle.pws_safety.proofs.Filled.{busy, slots_to, last_to, said_to, cores_to, sent_to, free_after, first_is, second_is, third_is, filled_run}

-- the checkpoint at 32
abbrev stable : Checkpoint
stable = record { place = 32; digest = replicate 32 3 }

-- the reports: of 1, which did nothing; of 2 in either view; of 1, which proposed; and the lie of 0
abbrev late : ViewChange
late = record { view = 1; low = 0; checkpoints = first_checkpoint ∷ []; prepared = []; pre_prepared = [] }

abbrev kept : ℕ → ViewChange
kept view = record { view = view; low = 32; checkpoints = stable ∷ []; prepared = prepared_at 33 ∷ []; pre_prepared = pre_prepared_at 33 ∷ [] }

abbrev other_seen : Seen
other_seen = record { digest = other_digest; view = 1 }

abbrev other_row : QRow
other_row = record { place = 33; digests = other_seen ∷ [] }

abbrev stray : ViewChange
stray = record { view = 2; low = 32; checkpoints = stable ∷ []; prepared = []; pre_prepared = other_row ∷ [] }

abbrev false_row : PRow
false_row = record { place = 33; digest = other_digest; view = 1 }

abbrev lie : ViewChange
lie = record { view = 2; low = 32; checkpoints = stable ∷ []; prepared = false_row ∷ []; pre_prepared = other_row ∷ [] }

-- a number that tells the five apart, which is their digest
abbrev rows_code : List PRow → ℕ
rows_code [] = 0
rows_code (r ∷ rs) = suc r.view + rows_code rs

abbrev code : ViewChange → ℕ
code c = c.view * 10 + rows_code c.prepared

abbrev with_code : ℕ → ViewChange
with_code k = if k == 10 then late else if k == 11 then kept 1 else if k == 20 then stray else if k == 21 then kept 2 else lie

abbrev digest_of : ViewChange → List ℕ
digest_of c = code c ∷ []

abbrev occurs : ViewChange → Bool
occurs c = same_change (with_code (code c)) c

abbrev g : Group
g = astray digest_of occurs

trusted : IsTrusted g
trusted = record {
  sound = omega arith;
  no_collision = λ a b x y e. sym (change_same (with_code (code a)) a x) ∙ (ap (λ (ds : List ℕ). with_code (slice_index_or ds 0 0)) e ∙ change_same (with_code (code b)) b y);
}

abbrev named : ℕ → ℕ → Named
named index digest = record { index = index; digest = digest ∷ [] }

abbrev heard_from : ℕ → ℕ → ViewChange → Heard
heard_from index digest change = record { index = index; digest = digest ∷ []; change = change }

abbrev choice_of : List ℕ → Choice
choice_of digest = record { place = 32; digest = stable.digest; chosen = digest ∷ [] }

-- a choice of one digest at place 33, whose slot is all that can be accepted above a low mark of 32
gives_it : (d : List ℕ) → Gives (choice_of d) 33 d
gives_it d = (omega arith, omega arith, refl)

it_is_all : (s : Core) (new : NewView) (d : List ℕ) → new.choice ≡ choice_of d → AcceptsAllItCan s new (chosen_slot 33 d)
it_is_all s new d same q e gives can =
    let k : Gives (choice_of d) q e = subst (λ c. Gives c q e) same gives in
    let at : q ≡ 33 = omega (arith, k.0, k.1) in
    let is : d ≡ e = subst (λ y. chosen_at (choice_of d) y ≡ e) at k.2 in
    subst (λ y. chosen_slot 33 d q ≡ Some (accepted y)) is (slot_here (λ place. None) 33 q (accepted d) at)

-- view 1, which keeps the digest
abbrev first_heard : List Heard
first_heard = heard_from 0 11 (kept 1) ∷ heard_from 1 10 late ∷ heard_from 2 11 (kept 1) ∷ []

abbrev first_new : NewView
first_new = record { view = 1; named = named 0 11 ∷ named 1 10 ∷ named 2 11 ∷ []; choice = choice_of example_digest }

first_start : IsStart 1 first_heard 32 stable.digest
first_start =
    let of_kept = one_checkpoint stable stable (heard_from 0 11 (kept 1)) refl (omega arith) (λ _. refl) in
    let of_late = one_checkpoint stable first_checkpoint (heard_from 1 10 late) refl (omega arith) (λ e. absurd (omega (arith, e))) in
    starts_at stable (heard_from 0 11 (kept 1)) (heard_from 1 10 late) (heard_from 2 11 (kept 1)) of_kept of_late of_kept refl (record { reached = omega arith; held = omega arith })

first_best : IsBestEntry 1 first_heard 33 example_digest 0
first_best =
    let of_kept : HasNoLater example_digest 0 (heard_from 0 11 (kept 1)) = one_row example_digest 0 (prepared_at 33) (heard_from 0 11 (kept 1)) refl (omega arith) (λ _. refl) in
    let of_late : HasNoLater example_digest 0 (heard_from 1 10 late) = λ r k. absurd (nowhere r k) in
    is_best 33 example_digest 0 (heard_from 0 11 (kept 1)) (heard_from 1 10 late) (heard_from 2 11 (kept 1)) of_kept of_late of_kept refl (record { named = omega arith; allowed = omega arith; witnessed = omega arith })

first_gives : GivesChoice 1 first_heard (choice_of example_digest)
first_gives = record {
  start = first_start;
  last = refl;
  chosen = λ p a b. let e : 33 ≡ p = omega arith in subst (λ q. IsChosenAt 1 first_heard q (chosen_at (choice_of example_digest) q)) e (inl (0, first_best));
}

first_agrees : Agrees 1 first_new first_heard
first_agrees = record { rises = refl; many = omega arith; named = refl; views = refl; choice = first_gives }

-- view 2, which keeps the other
abbrev second_heard : List Heard
second_heard = heard_from 0 22 lie ∷ heard_from 1 20 stray ∷ heard_from 2 21 (kept 2) ∷ []

abbrev second_new : NewView
second_new = record { view = 2; named = named 0 22 ∷ named 1 20 ∷ named 2 21 ∷ []; choice = choice_of other_digest }

second_start : IsStart 1 second_heard 32 stable.digest
second_start =
    let of_lie = one_checkpoint stable stable (heard_from 0 22 lie) refl (omega arith) (λ _. refl) in
    starts_at stable (heard_from 0 22 lie) (heard_from 1 20 stray) (heard_from 2 21 (kept 2)) of_lie of_lie of_lie refl (record { reached = omega arith; held = omega arith })

second_best : IsBestEntry 1 second_heard 33 other_digest 1
second_best =
    let of_lie : HasNoLater other_digest 1 (heard_from 0 22 lie) = one_row other_digest 1 false_row (heard_from 0 22 lie) refl (omega arith) (λ _. refl) in
    let of_stray : HasNoLater other_digest 1 (heard_from 1 20 stray) = λ r k. absurd (nowhere r k) in
    let of_kept : HasNoLater other_digest 1 (heard_from 2 21 (kept 2)) = one_row other_digest 1 (prepared_at 33) (heard_from 2 21 (kept 2)) refl (omega arith) (λ e. absurd (omega (arith, e))) in
    is_best 33 other_digest 1 (heard_from 0 22 lie) (heard_from 1 20 stray) (heard_from 2 21 (kept 2)) of_lie of_stray of_kept refl (record { named = omega arith; allowed = omega arith; witnessed = omega arith })

second_gives : GivesChoice 1 second_heard (choice_of other_digest)
second_gives = record {
  start = second_start;
  last = refl;
  chosen = λ p a b. let e : 33 ≡ p = omega arith in subst (λ q. IsChosenAt 1 second_heard q (chosen_at (choice_of other_digest) q)) e (inl (1, second_best));
}

second_agrees : Agrees 1 second_new second_heard
second_agrees = record { rises = refl; many = omega arith; named = refl; views = refl; choice = second_gives }

-- the reports are valid
late_valid : IsValid late
late_valid = record { view = refl; low = refl; checkpoints = refl; prepared = refl; pre_prepared = refl }

first_kept_valid : IsValid (kept 1)
first_kept_valid = record { view = refl; low = refl; checkpoints = refl; prepared = refl; pre_prepared = refl }

second_kept_valid : IsValid (kept 2)
second_kept_valid = record { view = refl; low = refl; checkpoints = refl; prepared = refl; pre_prepared = refl }

stray_valid : IsValid stray
stray_valid = record { view = refl; low = refl; checkpoints = refl; prepared = refl; pre_prepared = refl }

lie_valid : IsValid lie
lie_valid = record { view = refl; low = refl; checkpoints = refl; prepared = refl; pre_prepared = refl }

-- and heard
first_is_heard : (sent : Sent) → Contains sent (1, say.ViewChange late) → Contains sent (2, say.ViewChange (kept 1)) → (h : Heard) → Contains first_heard h → (g.digest_of h.change ≡ h.digest) × IsHeard g sent 1 h.index h.change
first_is_heard sent a b h k =
    each_three (λ h. (g.digest_of h.change ≡ h.digest) × IsHeard g sent 1 h.index h.change) (heard_from 0 11 (kept 1)) (heard_from 1 10 late) (heard_from 2 11 (kept 1))
    (refl, record { replica = omega arith; told = inl refl; in_view = refl; valid = first_kept_valid; occurs = refl })
    (refl, record { replica = omega arith; told = inr a; in_view = refl; valid = late_valid; occurs = refl })
    (refl, record { replica = omega arith; told = inr b; in_view = refl; valid = first_kept_valid; occurs = refl }) h k

second_is_heard : (sent : Sent) → Contains sent (1, say.ViewChange stray) → Contains sent (2, say.ViewChange (kept 2)) → (h : Heard) → Contains second_heard h → (g.digest_of h.change ≡ h.digest) × IsHeard g sent 2 h.index h.change
second_is_heard sent a b h k =
    each_three (λ h. (g.digest_of h.change ≡ h.digest) × IsHeard g sent 2 h.index h.change) (heard_from 0 22 lie) (heard_from 1 20 stray) (heard_from 2 21 (kept 2))
    (refl, record { replica = omega arith; told = inl refl; in_view = refl; valid = lie_valid; occurs = refl })
    (refl, record { replica = omega arith; told = inr a; in_view = refl; valid = stray_valid; occurs = refl })
    (refl, record { replica = omega arith; told = inr b; in_view = refl; valid = second_kept_valid; occurs = refl }) h k

-- what has no rows is trimmed, and noted
none_trimmed : (s : Core) → s.prepared ≡ [] → IsTrimmed s 32 [] []
none_trimmed s none = record {
  prepared_old = λ r h. absurd (nowhere r h);
  prepared_kept = λ r h l. absurd (nowhere r (subst (λ rs. Contains rs r) none h));
  pre_prepared_old = λ q h. absurd (nowhere q h);
}

none_noted : IsNoted new_core [] []
none_noted = record { from = λ r h. absurd (nowhere r h); slots = λ q x e k. absurd (none_some x e); no_earlier = λ r h. absurd (nowhere r h); seen = λ q h. absurd (nowhere q h) }

abbrev vote : Statement
vote = Prepare 0 33 example_digest

abbrev agree : Statement
agree = Commit 0 33 example_digest

abbrev proposal : Statement
proposal = PrePrepare 1 33 other_digest

abbrev other_vote : Statement
other_vote = Prepare 2 33 other_digest

abbrev other_agree : Statement
other_agree = Commit 2 33 other_digest

-- replica 1, which hears nothing in view 0, starts view 1, and proposes
abbrev silent : Core
silent = after_move new_core 1 (first_checkpoint ∷ []) [] []

-- no place after the checkpoint is within its reach
out_of_reach : (q : ℕ) (d : List ℕ) → 32 < q → CanAccept silent q d → ⊥
out_of_reach q d after can = let k = can.within in omega (arith, after, k)

abbrev leading : Core
leading = record (after_enter silent first_new no_slots 0 (say.NewView first_new ∷ [])) { floor = first_new.choice.place }

abbrev raised : Core
raised = after_lower leading 32 [] []

abbrev proposed : Core
proposed = after_accept raised 33 other_digest proposal

-- and moves, and enters view 2
abbrev strayed : Core
strayed = after_move proposed 2 (stable ∷ []) [] (other_row ∷ [])

abbrev joined : Core
joined = record (after_enter strayed second_new (chosen_slot 33 other_digest) 33 (other_vote ∷ [])) { floor = second_new.choice.place }

stray_noted : IsNoted proposed [] (other_row ∷ [])
stray_noted = record {
  from = λ r h. absurd (nowhere r h);
  slots = λ q x e k. absurd (each_slot (λ q x. x.prepared ≡ true → ⊥) (above 32 no_slots) 33 (accepted other_digest) (λ e. false≢true e) (λ q x h e. none_some x (above_is no_slots 32 q x h).1) q x e k);
  no_earlier = λ r h. absurd (nowhere r h);
  seen = λ q h e k. (let a = only_item other_row q h in
      let b = only_item other_seen e (subst (λ (y : QRow). Contains y.digests e) (sym a) k) in
      let seen_there : IsSeenBy proposed q.place e = inr (accepted other_digest, subst (λ (y : QRow). proposed.slot y.place ≡ Some (accepted other_digest)) a refl, sym (ap (λ (y : Seen). y.digest) b), sym (ap (λ (y : Seen). y.view) b)) in
      seen_there);
}

-- 2 and 3 have settled 32 places
module _ (slots : ℕ → Option Slot) (last : ℕ) (said : List Statement) (cores : ℕ → Core) (sent : Sent)
    (run : ReachedWith CheckpointFloor g cores sent) (first : cores 1 ≡ new_core) (second : cores 2 ≡ busy slots last said) (third : cores 3 ≡ busy slots last said) (free : (q : ℕ) → 32 < q → slots q ≡ None) where
  -- they settle place 33
  abbrev lowered : Core
  lowered = after_lower (busy slots last said) 32 [] []

  abbrev took : Core
  took = after_accept lowered 33 example_digest vote

  abbrev ready : Core
  ready = after_prepare took 33 example_digest

  abbrev done : Core
  done = after_commit ready 33 example_digest

  abbrev settled_cores : ℕ → Core
  settled_cores = with_core (with_core (with_core (with_core (with_core (with_core (with_core cores 2 lowered) 3 lowered) 2 took) 3 took) 2 ready) 3 ready) 3 done

  abbrev settled_sent : Sent
  settled_sent = (3, agree) ∷ (2, agree) ∷ (3, vote) ∷ (2, vote) ∷ sent

  settled_run : ReachedWith CheckpointFloor g settled_cores settled_sent
  settled_run =
      let R = CheckpointFloor in
      let c1 : ℕ → Core = with_core cores 2 lowered in
      let r1 : ReachedWith R g c1 sent = steps_from R g cores sent 2 (busy slots last said) lowered [] run (omega arith, refl) second (lower (busy slots last said) 32 [] [] (omega arith) (none_trimmed (busy slots last said) refl)) refl in
      let c2 : ℕ → Core = with_core c1 3 lowered in
      let r2 : ReachedWith R g c2 sent = steps_from R g c1 sent 3 (busy slots last said) lowered [] r1 (omega arith, refl) third (lower (busy slots last said) 32 [] [] (omega arith) (none_trimmed (busy slots last said) refl)) refl in
      let c3 : ℕ → Core = with_core c2 2 took in
      let t3 : Sent = (2, vote) ∷ sent in
      let r3 : ReachedWith R g c3 t3 = steps R g c2 sent 2 took (vote ∷ []) r2 (omega arith, refl) (accept lowered 33 example_digest refl (λ e. absurd (omega (arith, e))) (omega arith) (omega arith) (free 33 (omega arith)) refl (inl refl)) refl in
      let c4 : ℕ → Core = with_core c3 3 took in
      let t4 : Sent = (3, vote) ∷ t3 in
      let r4 : ReachedWith R g c4 t4 = steps R g c3 t3 3 took (vote ∷ []) r3 (omega arith, refl) (accept lowered 33 example_digest refl (λ e. absurd (omega (arith, e))) (omega arith) (omega arith) (free 33 (omega arith)) refl (inl refl)) refl in
      let c5 : ℕ → Core = with_core c4 2 ready in
      let t5 : Sent = (2, agree) ∷ t4 in
      let r5 : ReachedWith R g c5 t5 = steps R g c4 t4 2 ready (agree ∷ []) r4 (omega arith, refl)
      (prepare took 33 example_digest refl refl (two_have 2 3 (λ k. (k ≡ primary g 0 → ⊥) × Told g t4 k vote) (omega arith) (λ e. absurd (omega (arith, e)), inr (1, omega arith, refl)) (λ e. absurd (omega (arith, e)), inr (0, omega arith, refl)))) refl in
      let c6 : ℕ → Core = with_core c5 3 ready in
      let t6 : Sent = (3, agree) ∷ t5 in
      let r6 : ReachedWith R g c6 t6 = steps R g c5 t5 3 ready (agree ∷ []) r5 (omega arith, refl)
      (prepare took 33 example_digest refl refl (two_have 2 3 (λ k. (k ≡ primary g 0 → ⊥) × Told g t5 k vote) (omega arith) (λ e. absurd (omega (arith, e)), inr (2, omega arith, refl)) (λ e. absurd (omega (arith, e)), inr (1, omega arith, refl)))) refl in
      steps R g c6 t6 3 done [] r6 (omega arith, refl)
      (commit ready 33 example_digest refl refl (three_have 0 2 3 (λ k. Told g t6 k agree) (omega arith) (inl refl) (inr (1, omega arith, refl)) (inr (0, omega arith, refl)))) refl

  -- 1 and 2 move to view 1, which 1 starts; its low mark rises, and it proposes
  abbrev moved : Core
  moved = after_move ready 1 (stable ∷ []) (prepared_at 33 ∷ []) (pre_prepared_at 33 ∷ [])

  ready_noted : IsNoted ready (prepared_at 33 ∷ []) (pre_prepared_at 33 ∷ [])
  ready_noted =
      let none : (q : ℕ) (x : Slot) → above 32 slots q ≡ Some x → q ≡ 33 = λ q x h. (let k = above_is slots 32 q x h in absurd (none_some x (sym (free q k.0) ∙ k.1))) in
      noted_at 33 ready refl refl (only_slot took.slot 33 prepared_one (only_slot lowered.slot 33 (accepted example_digest) none)) refl

  abbrev first_cores : ℕ → Core
  first_cores = with_core (with_core (with_core (with_core (with_core settled_cores 1 silent) 2 moved) 1 leading) 1 raised) 1 proposed

  abbrev first_sent : Sent
  first_sent = (1, proposal) ∷ (1, say.NewView first_new) ∷ (2, say.ViewChange (kept 1)) ∷ (1, say.ViewChange late) ∷ settled_sent

  first_run : ReachedWith CheckpointFloor g first_cores first_sent
  first_run =
      let R = CheckpointFloor in
      let c1 : ℕ → Core = with_core settled_cores 1 silent in
      let t1 : Sent = (1, say.ViewChange late) ∷ settled_sent in
      let r1 : ReachedWith R g c1 t1 = steps_from R g settled_cores settled_sent 1 new_core silent (say.ViewChange late ∷ []) settled_run (omega arith, refl) first (move new_core 1 (first_checkpoint ∷ []) [] [] (omega arith) none_noted) refl in
      let c2 : ℕ → Core = with_core c1 2 moved in
      let t2 : Sent = (2, say.ViewChange (kept 1)) ∷ t1 in
      let r2 : ReachedWith R g c2 t2 = steps R g c1 t1 2 moved (say.ViewChange (kept 1) ∷ []) r1 (omega arith, refl) (move ready 1 (stable ∷ []) (prepared_at 33 ∷ []) (pre_prepared_at 33 ∷ []) (omega arith) ready_noted) refl in
      let c3 : ℕ → Core = with_core c2 1 leading in
      let t3 : Sent = (1, say.NewView first_new) ∷ t2 in
      let r3 : ReachedWith R g c3 t3 = follows R g c2 t2 1 leading (say.NewView first_new ∷ []) r2 (omega arith, refl)
      (rule.CheckpointFloor.offer silent first_new first_heard no_slots 0 refl refl refl first_agrees (first_is_heard t2 (1, omega arith, refl) (0, omega arith, refl)) (accepts_none silent first_new) (λ q e gives can. absurd (out_of_reach q e gives.0 can))) refl in
      let c4 : ℕ → Core = with_core c3 1 raised in
      let r4 : ReachedWith R g c4 t3 = steps R g c3 t3 1 raised [] r3 (omega arith, refl) (lower leading 32 [] [] (omega arith) (none_trimmed leading refl)) refl in
      steps R g c4 t3 1 proposed (proposal ∷ []) r4 (omega arith, refl) (propose raised 33 other_digest refl refl refl (omega arith) refl) refl

  -- they move to view 2, which chooses the other digest, and commit it
  abbrev moved_again : Core
  moved_again = after_move moved 2 (stable ∷ []) (prepared_at 33 ∷ []) (pre_prepared_at 33 ∷ [])

  moved_noted : IsNoted moved (prepared_at 33 ∷ []) (pre_prepared_at 33 ∷ [])
  moved_noted = record { from = λ r h. inl h; slots = λ q x e k. absurd (none_some x e); no_earlier = λ r h. (r, h, refl, inl refl); seen = λ q h e k. inl (q, h, refl, k) }

  abbrev started : Core
  started = record (after_enter moved_again second_new (chosen_slot 33 other_digest) 33 (say.NewView second_new ∷ [])) { floor = second_new.choice.place }

  abbrev second_cores : ℕ → Core
  second_cores = with_core (with_core (with_core (with_core first_cores 1 strayed) 2 moved_again) 2 started) 1 joined

  abbrev second_sent : Sent
  second_sent = (1, other_vote) ∷ (2, say.NewView second_new) ∷ (2, say.ViewChange (kept 2)) ∷ (1, say.ViewChange stray) ∷ first_sent

  second_run : ReachedWith CheckpointFloor g second_cores second_sent
  second_run =
      let R = CheckpointFloor in
      let c1 : ℕ → Core = with_core first_cores 1 strayed in
      let t1 : Sent = (1, say.ViewChange stray) ∷ first_sent in
      let r1 : ReachedWith R g c1 t1 = steps R g first_cores first_sent 1 strayed (say.ViewChange stray ∷ []) first_run (omega arith, refl) (move proposed 2 (stable ∷ []) [] (other_row ∷ []) (omega arith) stray_noted) refl in
      let c2 : ℕ → Core = with_core c1 2 moved_again in
      let t2 : Sent = (2, say.ViewChange (kept 2)) ∷ t1 in
      let r2 : ReachedWith R g c2 t2 = steps R g c1 t1 2 moved_again (say.ViewChange (kept 2) ∷ []) r1 (omega arith, refl) (move moved 2 (stable ∷ []) (prepared_at 33 ∷ []) (pre_prepared_at 33 ∷ []) (omega arith) moved_noted) refl in
      let c3 : ℕ → Core = with_core c2 2 started in
      let t3 : Sent = (2, say.NewView second_new) ∷ t2 in
      let r3 : ReachedWith R g c3 t3 = follows R g c2 t2 2 started (say.NewView second_new ∷ []) r2 (omega arith, refl)
      (rule.CheckpointFloor.offer moved_again second_new second_heard (chosen_slot 33 other_digest) 33 refl refl refl second_agrees (second_is_heard t2 (1, omega arith, refl) (0, omega arith, refl))
      (accepts_at 33 moved_again second_new other_digest (gives_it other_digest) (omega arith)) (it_is_all moved_again second_new other_digest refl)) refl in
      follows R g c3 t3 1 joined (other_vote ∷ []) r3 (omega arith, refl)
      (rule.CheckpointFloor.enter strayed second_new second_heard (chosen_slot 33 other_digest) 33 (other_vote ∷ []) refl (λ e. absurd (omega (arith, e))) refl (inr (0, omega arith, refl)) second_agrees
      (λ h k. heard_is_had g t3 2 h (second_is_heard t3 (2, omega arith, refl) (1, omega arith, refl) h k))
      (accepts_at 33 strayed second_new other_digest (gives_it other_digest) (omega arith)) (it_is_all strayed second_new other_digest refl) (prepares_at 33 strayed second_new other_digest (gives_it other_digest) 2 refl)) refl

  abbrev last_cores : ℕ → Core
  last_cores = with_core (with_core (with_core second_cores 1 (after_prepare joined 33 other_digest)) 2 (after_prepare started 33 other_digest)) 2 (after_commit (after_prepare started 33 other_digest) 33 other_digest)

  abbrev last_sent : Sent
  last_sent = (2, other_agree) ∷ (1, other_agree) ∷ second_sent

  last_run : ReachedWith CheckpointFloor g last_cores last_sent
  last_run =
      let R = CheckpointFloor in
      let c1 : ℕ → Core = with_core second_cores 1 (after_prepare joined 33 other_digest) in
      let t1 : Sent = (1, other_agree) ∷ second_sent in
      let r1 : ReachedWith R g c1 t1 = steps R g second_cores second_sent 1 (after_prepare joined 33 other_digest) (other_agree ∷ []) second_run (omega arith, refl)
      (prepare joined 33 other_digest refl refl (two_have 0 1 (λ k. (k ≡ primary g 2 → ⊥) × Told g second_sent k other_vote) (omega arith) (λ e. absurd (omega (arith, e)), inl refl) (λ e. absurd (omega (arith, e)), inr (0, omega arith, refl)))) refl in
      let c2 : ℕ → Core = with_core c1 2 (after_prepare started 33 other_digest) in
      let t2 : Sent = (2, other_agree) ∷ t1 in
      let r2 : ReachedWith R g c2 t2 = steps R g c1 t1 2 (after_prepare started 33 other_digest) (other_agree ∷ []) r1 (omega arith, refl)
      (prepare started 33 other_digest refl refl (two_have 0 1 (λ k. (k ≡ primary g 2 → ⊥) × Told g t1 k other_vote) (omega arith) (λ e. absurd (omega (arith, e)), inl refl) (λ e. absurd (omega (arith, e)), inr (1, omega arith, refl)))) refl in
      steps R g c2 t2 2 (after_commit (after_prepare started 33 other_digest) 33 other_digest) [] r2 (omega arith, refl)
      (commit (after_prepare started 33 other_digest) 33 other_digest refl refl (three_have 0 1 2 (λ k. Told g t2 k other_agree) (omega arith) (inl refl) (inr (1, omega arith, refl)) (inr (0, omega arith, refl)))) refl

  pub misleads : Misleads CheckpointFloor
  misleads = record {
    group = g;
    cores = last_cores;
    sent = last_sent;
    trusted = trusted;
    reached = last_run;
    disagreement = record {
      one = 3;
      other = 2;
      place = 33;
      digest = example_digest;
      other_digest = other_digest;
      committed = ((omega arith, refl), refl);
      other_committed = ((omega arith, refl), refl);
      differ = digests_differ;
    };
  }

pub checkpoint_floor_misleads : Misleads CheckpointFloor
checkpoint_floor_misleads = misleads (slots_to 32) (last_to 32) (said_to 32) (cores_to 32) (sent_to 32) (filled_run CheckpointFloor digest_of occurs 32) (first_is 32) (second_is 32) (third_is 32) (free_after 32)
