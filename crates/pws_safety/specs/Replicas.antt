-- Sets of replicas, and how many are in them, after the quorums of Byzantine agreement (Lamport, Shostak and Pease
-- 1982; Castro and Liskov 1999). A set of replicas is a test of their indices, and its size is how many of the indices
-- below n pass.
use Rattle.std.specs.Prelude.{ℕ, ◌≡◌, ◌<◌, ◌≤◌, ◌&&◌, Bool, true, false, List, nat_lt, ◌==◌, IsTrue}
use Rattle.std.specs.List.{Contains, count_by, list_any}
use Rattle.pws_base.specs.Counts.{count_below}
use Rattle.pws_base.specs.Shapes.{size_of_group, quorum_of, weak_of}
use Rattle.pws_change.specs.declared.heard.Heard.{Heard}
use Rattle.pws_change.specs.Rising.{rises}

-- at least so many of the replicas below n have a property: so many pass some test, and each that passes has it
abbrev pub AtLeast : ℕ → ℕ → (ℕ → Type 0) → Type 0
AtLeast n least P = (test : ℕ → Bool) × (least ≤ count_below n test) × ((i : ℕ) → i < n → test i ≡ true → P i)

-- a group that is to bear f compromised replicas has at most so many
abbrev pub IsSound : ℕ → (ℕ → Bool) → Type 0
IsSound f compromised = count_below (size_of_group f) compromised ≤ f

-- two quorums of a sound group share a correct replica
abbrev pub QuorumsMeet : Type 0
QuorumsMeet =
    (f : ℕ) (compromised one other : ℕ → Bool) → IsSound f compromised
    → quorum_of f ≤ count_below (size_of_group f) one → quorum_of f ≤ count_below (size_of_group f) other
    → (i : ℕ) × (i < size_of_group f) × (compromised i ≡ false) × (one i ≡ true) × (other i ≡ true)

-- a quorum and a weak certificate share a replica, so that a quorum has one of any f + 1 correct replicas
abbrev pub QuorumMeetsWeak : Type 0
QuorumMeetsWeak =
    (f : ℕ) (quorum weak : ℕ → Bool)
    → quorum_of f ≤ count_below (size_of_group f) quorum → weak_of f ≤ count_below (size_of_group f) weak
    → (i : ℕ) × (i < size_of_group f) × (quorum i ≡ true) × (weak i ≡ true)

-- among any f + 1 replicas of a sound group is a correct one
abbrev pub WeakHasCorrect : Type 0
WeakHasCorrect =
    (f : ℕ) (compromised weak : ℕ → Bool) → IsSound f compromised
    → weak_of f ≤ count_below (size_of_group f) weak
    → (i : ℕ) × (i < size_of_group f) × (compromised i ≡ false) × (weak i ≡ true)

-- whether a list has a view change of this replica that passes
abbrev pub sent_one : (Heard → Bool) → List Heard → ℕ → Bool
sent_one test heard i = list_any (λ h. h.index == i && test h) heard

-- a list of view changes whose senders rise counts distinct ones: no more pass than there are replicas that sent one
-- that passes
abbrev pub SendersAreDistinct : Type 0
SendersAreDistinct =
    (n : ℕ) (test : Heard → Bool) (heard : List Heard)
    → IsTrue (rises (λ a b. nat_lt a.index b.index) heard) → ((h : Heard) → Contains heard h → h.index < n)
    → count_by test heard ≤ count_below n (sent_one test heard)
