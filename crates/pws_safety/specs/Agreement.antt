-- Agreement: what is settled at a place stays, in every later view, whatever compromised replicas say and the network
-- does.
use Rattle.std.specs.Prelude.{ℕ, ◌≡◌, ◌<◌, ◌≤◌, ◌↔◌, ◌++◌, Bool, true, List, Some}
use Rattle.std.specs.List.{Contains}
use Rattle.pws_base.specs.Shapes.{quorum_of}
use Rattle.pws_msg.specs.declared.changes.ViewChange.{ViewChange}
use Rattle.pws_msg.specs.declared.changes.NewView.{NewView}
use Rattle.pws_change.specs.declared.heard.Heard.{Heard}
use Rattle.pws_change.specs.Agreements.{Agrees}
use Rattle.pws_change.specs.Choices.{null_digest}
use Rattle.pws_safety.specs.Replicas.{AtLeast, IsSound}
use Rattle.pws_safety.specs.Statement.{Statement, Commit}
use Rattle.pws_safety.specs.Statement as say
use Rattle.pws_safety.specs.Statements.{Group, Sent, Told, Gives, StandsFor, IsSettled, IsCorrect, size, primary}
use Rattle.pws_safety.specs.Voters.{Slot, Core, IsHad, Step}
use Rattle.pws_safety.specs.Kept.{IsBehind, GroupKeeps}
use Rattle.pws_safety.specs.Facts.{Facts}
use Rattle.pws_safety.specs.Runs.{Reached, Sends, Repeats, IsTrusted, said_by, with_core}

-- a digest that is settled at a place is the only one for which a correct replica stands there in a later view
abbrev pub SettledStays : Group → Sent → Type 0
SettledStays g sent =
    (view later place i : ℕ) (d e : List ℕ) → IsSettled g sent view place d → view < later → IsCorrect g i
    → StandsFor g sent i later place e → e ≡ d

-- two digests that are settled at a place, in whichever views, are one
abbrev pub OneIsSettled : Group → Sent → Type 0
OneIsSettled g sent =
    (view other place : ℕ) (d e : List ℕ) → IsSettled g sent view place d → IsSettled g sent other place e → d ≡ e

-- each digest for which a correct replica stands is that of a backed event
abbrev pub StandsForBacked : Group → Sent → Type 0
StandsForBacked g sent =
    (i view place : ℕ) (digest : List ℕ) → IsCorrect g i → StandsFor g sent i view place digest
    → g.backed digest ≡ true

-- all three follow from the facts alone; the last where the Null event counts as backed
pub record FactsGiveAgreement : Type 0 where
  pub stays : (g : Group) (sent : Sent) → Facts g sent → SettledStays g sent
  pub one : (g : Group) (sent : Sent) → Facts g sent → OneIsSettled g sent
  pub backed : (g : Group) (sent : Sent) → g.backed null_digest ≡ true → Facts g sent → StandsForBacked g sent

-- what is settled is backed, where the facts hold and the Null event counts as backed
abbrev pub SettledIsBacked : Type 0
SettledIsBacked =
    (g : Group) (sent : Sent) (view place : ℕ) (digest : List ℕ) → g.backed null_digest ≡ true → Facts g sent
    → IsSettled g sent view place digest → g.backed digest ≡ true

-- what is settled stays so as more is sent
abbrev pub SettledAsMoreIsSent : Type 0
SettledAsMoreIsSent =
    (g : Group) (before after : Sent) (view place : ℕ) (digest : List ℕ)
    → ((k : ℕ) (x : Statement) → Contains before (k, x) → Contains after (k, x))
    → IsSettled g before view place digest → IsSettled g after view place digest

-- COMMITs as heard from a quorum of a sound group settle their digest
abbrev pub QuorumSettles : Type 0
QuorumSettles =
    (g : Group) (sent : Sent) (view place : ℕ) (digest : List ℕ) → IsSound g.f g.compromised
    → AtLeast (size g) (quorum_of g.f) (λ k. Told g sent k (Commit view place digest)) → IsSettled g sent view place digest

-- a step of a correct replica keeps the invariant of its group
abbrev pub StepsKeep : Type 0
StepsKeep =
    (g : Group) (cores : ℕ → Core) (before after : Sent) (i : ℕ) (s : Core) → IsTrusted g
    → GroupKeeps g cores before → IsCorrect g i → Step g before i (cores i) s → Sends g i s before after
    → GroupKeeps g (with_core cores i s) after

-- the statements that a replica said have it as their sender
abbrev pub SaidIsSent : Type 0
SaidIsSent =
    (i : ℕ) (xs : List Statement) (k : ℕ) (x : Statement) → Contains (said_by i xs) (k, x) ↔ ((i ≡ k) × Contains xs x)

-- a step whose new statements are sent at once keeps the invariant
abbrev pub StepsKeepSaid : Type 0
StepsKeepSaid =
    (g : Group) (cores : ℕ → Core) (sent : Sent) (i : ℕ) (s : Core) (xs : List Statement) → IsTrusted g
    → GroupKeeps g cores sent → IsCorrect g i → Step g sent i (cores i) s → s.said ≡ xs ++ (cores i).said
    → GroupKeeps g (with_core cores i s) (said_by i xs ++ sent)

-- so does what is only sent again, or by compromised replicas
abbrev pub RepeatsKeep : Type 0
RepeatsKeep =
    (g : Group) (cores : ℕ → Core) (before after : Sent) → GroupKeeps g cores before → Repeats g before after
    → GroupKeeps g cores after

-- and all that only makes more view changes occur and more events backed
abbrev pub MoreIsKept : Type 0
MoreIsKept =
    (g : Group) (occurs : ViewChange → Bool) (backed : List ℕ → Bool) (cores : ℕ → Core) (sent : Sent)
    → ((change : ViewChange) → g.occurs change ≡ true → occurs change ≡ true)
    → ((digest : List ℕ) → g.backed digest ≡ true → backed digest ≡ true)
    → GroupKeeps g cores sent → GroupKeeps (record g { occurs = occurs; backed = backed }) cores sent

-- under the invariant, the view changes that a NEW_VIEW names and a replica has are behind it: each of a correct
-- replica is the one that it sent, whether it was heard from it or passed on and acknowledged
abbrev pub HadIsBehind : Type 0
HadIsBehind =
    (g : Group) (cores : ℕ → Core) (sent : Sent) (new : NewView) (heard : List Heard) → IsTrusted g → GroupKeeps g cores sent
    → Told g sent (primary g new.view) (say.NewView new) → Agrees g.f new heard
    → ((h : Heard) → Contains heard h → IsHad g sent new.view h)
    → IsBehind g sent new heard

-- under the invariant, what a correct replica committed is settled
abbrev pub CommittedIsSettled : Type 0
CommittedIsSettled =
    (g : Group) (cores : ℕ → Core) (sent : Sent) (i place : ℕ) (slot : Slot) → IsSound g.f g.compromised
    → GroupKeeps g cores sent → IsCorrect g i → (cores i).slot place ≡ Some slot → slot.committed ≡ true
    → IsSettled g sent (cores i).view place slot.digest

-- under the invariant, a slot of a correct replica at or below its floor has the digest that is given there by the
-- NEW_VIEW by which it entered its view
abbrev pub SlotsKeepTheChoice : Type 0
SlotsKeepTheChoice =
    (g : Group) (cores : ℕ → Core) (sent : Sent) (i place : ℕ) (slot : Slot) → GroupKeeps g cores sent → IsCorrect g i
    → (cores i).slot place ≡ Some slot → place ≤ (cores i).floor
    → (new : NewView) × ((cores i).new_view ≡ Some new) × Gives new.choice place slot.digest

-- the invariant gives the facts
abbrev pub KeptGivesFacts : Type 0
KeptGivesFacts =
    (g : Group) (cores : ℕ → Core) (sent : Sent) → IsSound g.f g.compromised → GroupKeeps g cores sent → Facts g sent

-- each run keeps the invariant
abbrev pub RunsKeep : Type 0
RunsKeep = (g : Group) (cores : ℕ → Core) (sent : Sent) → IsTrusted g → Reached g cores sent → GroupKeeps g cores sent

-- in each run of a trusted group agreement holds: what is settled stays; it is one digest; each digest for which a
-- correct replica stands is backed; and what two correct replicas committed at a place, in whichever views, is one
pub record RunsAgree : Type 0 where
  pub stays : (g : Group) (cores : ℕ → Core) (sent : Sent) → IsTrusted g → Reached g cores sent → SettledStays g sent
  pub one : (g : Group) (cores : ℕ → Core) (sent : Sent) → IsTrusted g → Reached g cores sent → OneIsSettled g sent
  pub backed :
      (g : Group) (cores : ℕ → Core) (sent : Sent) → IsTrusted g → g.backed null_digest ≡ true → Reached g cores sent
      → StandsForBacked g sent
  pub committed :
      (g : Group) (cores : ℕ → Core) (sent : Sent) → IsTrusted g → Reached g cores sent
      → (i j place : ℕ) (a b : Slot) → IsCorrect g i → IsCorrect g j → (cores i).slot place ≡ Some a
      → (cores j).slot place ≡ Some b → a.committed ≡ true → b.committed ≡ true → a.digest ≡ b.digest
