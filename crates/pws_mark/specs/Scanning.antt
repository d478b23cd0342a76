-- The reader as a value that takes one character after another. It is here for the proofs alone: no contract of another
-- crate names it.
use Rattle.std.specs.Prelude.{◌≡◌, ℕ, Bool, true, false, List, [], ◌∷◌, Option, Some, None}
use Rattle.pws_mark.specs.Least.{lowered}
use Rattle.pws_mark.specs.Noted.{finds}
use Rattle.pws_mark.specs.Scan.{Next, stays, step}
use Rattle.pws_mark.specs.States.{Open, Outer, State, ended}
use Rattle.pws_mark.specs.declared.errors.MarkError.{MarkError}
use Rattle.pws_mark.specs.declared.errors.MarkKind.{MarkKind}
use Rattle.pws_mark.specs.declared.modes.Mode.{Mode}

-- where the reader is, and the least of what was refused so far
pub record Scanned : Type 0 where
  pub state : State
  pub least : Option MarkError

-- the next mode, if there is one, and what is around it then
abbrev pub Goes : Next → Option Mode → Outer → Type 0
Goes n m o = n ≡ stays o m

-- what is found is noted where the character is taken
abbrev pub Notes : Option Mode → Option MarkError → List (MarkKind × ℕ) → Option MarkError → Type 0
Notes None old finds new = new ≡ old
Notes (Some m) old finds new = new ≡ lowered old finds

-- an end tag is complete, where an element is open
abbrev pub ended_in : List Open → Outer → Outer
ended_in [] o = o
ended_in (x ∷ xs) o = ended x xs o.events o.text

-- a character is taken, or it doesn't fit
abbrev pub Steps : Scanned → ℕ → Bool → Scanned → Type 0
Steps old c true new = (step old.state c ≡ Some new.state) × (new.least ≡ lowered old.least (finds old.state.mode old.state.outer c))
Steps old c false new = (step old.state c ≡ None) × (new.least ≡ old.least)
