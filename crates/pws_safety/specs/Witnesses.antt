-- Runs that exist, so that nothing is true for want of them: in a group of four replicas that bears one compromised
-- one, the last, which stays silent.
use Rattle.std.specs.Prelude.{ℕ, ◌≡◌, ◌&&◌, Bool, true, false, List, [], ◌∷◌, replicate, ◌==◌}
use Rattle.std.specs.List.{Contains}
use Rattle.std.specs.Str.{bytes_eq}
use Rattle.pws_msg.specs.declared.changes.Checkpoint.{Checkpoint}
use Rattle.pws_msg.specs.declared.changes.PRow.{PRow}
use Rattle.pws_msg.specs.declared.changes.QRow.{QRow}
use Rattle.pws_msg.specs.declared.changes.Seen.{Seen}
use Rattle.pws_msg.specs.declared.changes.Named.{Named}
use Rattle.pws_msg.specs.declared.changes.ViewChange.{ViewChange}
use Rattle.pws_msg.specs.declared.changes.NewView.{NewView}
use Rattle.pws_safety.specs.Statement as say
use Rattle.pws_safety.specs.Statements.{Group, Sent, IsSettled}
use Rattle.pws_safety.specs.Voters.{Core}
use Rattle.pws_safety.specs.Runs.{Reached, IsTrusted}

-- the digest of some event
abbrev pub example_digest : List ℕ
example_digest = replicate 32 1

-- the checkpoint at place 0, with which each list begins
abbrev pub first_checkpoint : Checkpoint
first_checkpoint = record { place = 0; digest = replicate 32 0 }

abbrev pub prepared_row : PRow
prepared_row = record { place = 1; digest = example_digest; view = 0 }

abbrev pub seen_digest : Seen
seen_digest = record { digest = example_digest; view = 0 }

abbrev pub pre_prepared_row : QRow
pre_prepared_row = record { place = 1; digests = seen_digest ∷ [] }

-- what a replica reports as it moves to a view, having prepared the digest at place 1 in view 0
abbrev pub example_report : ℕ → ViewChange
example_report view = record {
  view = view;
  low = 0;
  checkpoints = first_checkpoint ∷ [];
  prepared = prepared_row ∷ [];
  pre_prepared = pre_prepared_row ∷ [];
}

-- whether two lists are the same, item by item
abbrev pub same_items : {X : Type 0} → (X → X → Bool) → List X → List X → Bool
same_items same [] [] = true
same_items same [] (y ∷ ys) = false
same_items same (x ∷ xs) [] = false
same_items same (x ∷ xs) (y ∷ ys) = same x y && same_items same xs ys

abbrev pub same_checkpoint : Checkpoint → Checkpoint → Bool
same_checkpoint a b = a.place == b.place && bytes_eq a.digest b.digest

abbrev pub same_p_row : PRow → PRow → Bool
same_p_row a b = a.place == b.place && bytes_eq a.digest b.digest && a.view == b.view

abbrev pub same_seen : Seen → Seen → Bool
same_seen a b = bytes_eq a.digest b.digest && a.view == b.view

abbrev pub same_q_row : QRow → QRow → Bool
same_q_row a b = a.place == b.place && same_items same_seen a.digests b.digests

-- whether two view changes are the same
abbrev pub same_change : ViewChange → ViewChange → Bool
same_change a b =
    a.view == b.view
    && a.low == b.low
    && same_items same_checkpoint a.checkpoints b.checkpoints
    && same_items same_p_row a.prepared b.prepared
    && same_items same_q_row a.pre_prepared b.pre_prepared

-- the group, where view changes have these digests, and these occur
abbrev pub example_group : (ViewChange → List ℕ) → (ViewChange → Bool) → Group
example_group digest_of occurs = record {
  f = 1;
  compromised = λ i. i == 3;
  digest_of = digest_of;
  occurs = occurs;
  backed = λ digest. true;
}

-- where the report of view 1 alone occurs, whatever its digest
abbrev pub witness_group : (ViewChange → List ℕ) → Group
witness_group digest_of = example_group digest_of (same_change (example_report 1))

abbrev pub named_by : ℕ → List ℕ → Named
named_by index digest = record { index = index; digest = digest }

-- the NEW_VIEW of view 1 on the reports of replicas 0, 1 and 2, which keeps the digest at place 1
abbrev pub example_new_view : (ViewChange → List ℕ) → NewView
example_new_view digest_of = record {
  view = 1;
  named = named_by 0 (digest_of (example_report 1)) ∷ named_by 1 (digest_of (example_report 1)) ∷ named_by 2 (digest_of (example_report 1)) ∷ [];
  choice = record { place = 0; digest = first_checkpoint.digest; chosen = example_digest ∷ [] };
}

-- the group meets what the theorems suppose
abbrev pub WitnessIsTrusted : Type 0
WitnessIsTrusted = (digest_of : ViewChange → List ℕ) → IsTrusted (witness_group digest_of)

-- it can settle a digest in view 0
abbrev pub SettlesInViewZero : Type 0
SettlesInViewZero =
    (digest_of : ViewChange → List ℕ)
    → (cores : ℕ → Core)
    × (sent : Sent)
    × Reached (witness_group digest_of) cores sent
    × IsSettled (witness_group digest_of) sent 0 1 example_digest

-- it can then go to view 1 by that NEW_VIEW, and settle the same digest there
abbrev pub KeepsInViewOne : Type 0
KeepsInViewOne =
    (digest_of : ViewChange → List ℕ)
    → (cores : ℕ → Core)
    × (sent : Sent)
    × Reached (witness_group digest_of) cores sent
    × IsSettled (witness_group digest_of) sent 0 1 example_digest
    × Contains sent (1, say.NewView (example_new_view digest_of))
    × ((cores 0).view ≡ 1)
    × ((cores 0).active ≡ true)
    × IsSettled (witness_group digest_of) sent 1 1 example_digest
