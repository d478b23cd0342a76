-- The runs of a group: its correct replicas step in any order, hear what they like of what was sent, and the
-- compromised ones say what they like.
use Rattle.std.specs.Prelude.{ℕ, ◌≡◌, true, if◌then◌else◌, List, [], ◌∷◌, ◌==◌}
use Rattle.std.specs.List.{Contains}
use Rattle.pws_msg.specs.declared.changes.ViewChange.{ViewChange}
use Rattle.pws_safety.specs.Replicas.{IsSound}
use Rattle.pws_safety.specs.Statement.{Statement}
use Rattle.pws_safety.specs.Statements.{Group, Sent, IsCorrect}
use Rattle.pws_safety.specs.Voters.{Core, new_core, Step}

-- the replica i has the state s, and the others theirs
abbrev pub with_core : (ℕ → Core) → ℕ → Core → ℕ → Core
with_core cores i s k = if k == i then s else cores k

-- statements with their sender
abbrev pub said_by : ℕ → List Statement → Sent
said_by i [] = []
said_by i (x ∷ xs) = (i, x) ∷ said_by i xs

-- what was sent stays sent; the replica i has now sent what its new state said, and no other correct replica anything
pub record Sends (g : Group) (i : ℕ) (s : Core) (before after : Sent) : Type 0 where
  pub stays : (k : ℕ) (x : Statement) → Contains before (k, x) → Contains after (k, x)
  pub own : (x : Statement) → Contains s.said x → Contains after (i, x)
  pub only_own : (x : Statement) → Contains after (i, x) → Contains s.said x
  pub others : (k : ℕ) (x : Statement) → IsCorrect g k → (k ≡ i → ⊥) → Contains after (k, x) → Contains before (k, x)

-- what was sent stays sent, and of correct replicas nothing else is: they sent something again, or compromised ones
-- something new
pub record Repeats (g : Group) (before after : Sent) : Type 0 where
  pub stays : (k : ℕ) (x : Statement) → Contains before (k, x) → Contains after (k, x)
  pub nothing_new : (k : ℕ) (x : Statement) → IsCorrect g k → Contains after (k, x) → Contains before (k, x)

-- the states and statements that a group can reach. A step hears by `Told`: what a correct replica sent before, any
-- number of times or never, and of a compromised one whatever it may say
pub data Reached (g : Group) : (ℕ → Core) → Sent → Type 0 where
  start : Reached g (λ i. new_core) []
  step :
      (cores : ℕ → Core) (before after : Sent) (i : ℕ) (s : Core)
      → Reached g cores before → IsCorrect g i → Step g before i (cores i) s → Sends g i s before after
      → Reached g (with_core cores i s) after
  again : (cores : ℕ → Core) (before after : Sent) → Reached g cores before → Repeats g before after → Reached g cores after

-- no two view changes of the run have one digest
abbrev pub NoCollision : Group → Type 0
NoCollision g = (a b : ViewChange) → g.occurs a ≡ true → g.occurs b ≡ true → g.digest_of a ≡ g.digest_of b → a ≡ b

-- what the theorems suppose of a group: few of its replicas are compromised, and digests don't collide
pub record IsTrusted (g : Group) : Type 0 where
  pub sound : IsSound g.f g.compromised
  pub no_collision : NoCollision g
