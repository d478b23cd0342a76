-- How far a text was read. It is here for the proofs alone: no contract of another crate names it.
use Rattle.std.specs.Prelude.{◌≡◌, ℕ, ◌+◌, List, [], ◌∷◌, ◌++◌, Option, Some, None, Result, Ok, Err, chars}
use Rattle.pws_mark.specs.Least.{lowered}
use Rattle.pws_mark.specs.Outcome.{found, stop_finds}
use Rattle.pws_mark.specs.Reading.{Reads}
use Rattle.pws_mark.specs.Scan.{run, start}
use Rattle.pws_mark.specs.Scanning.{Scanned}
use Rattle.pws_mark.specs.States.{State}
use Rattle.pws_mark.specs.Stopping.{StandsAt}
use Rattle.pws_mark.specs.declared.errors.MarkError.{MarkError}
use Rattle.pws_mark.specs.declared.errors.MarkKind.TheVariants as kind
use Rattle.pws_mark.specs.declared.errors.ReadError.{ReadError}
use Rattle.pws_mark.specs.declared.stopping.Stand.{Stand}

-- the characters before these were taken, and what they show to be refused was noted
pub record HasTaken (all rest : List ℕ) (s : Scanned) : Type 0 where
  pub front : List ℕ
  pub parts : all ≡ front ++ rest
  pub runs : run start front ≡ Some s.state
  pub notes : s.least ≡ lowered None (found front)

-- all characters of a text were taken, or it is refused
abbrev pub Scans : List ℕ → Result Scanned ReadError → Type 0
Scans bytes (Ok s) = HasTaken (chars bytes) [] s
Scans bytes (Err e) = Reads bytes (Err e)

-- the least of what was noted and of what is refused at a stop
abbrev pub Stops : Option MarkError → Stand → List ℕ → ℕ → ℕ → MarkError → Type 0
Stops least stand bytes at shared e =
    (s : State) → StandsAt stand s → s.at ≡ at → lowered least (stop_finds s bytes ++ (kind.Syntax, at + shared) ∷ []) ≡ Some e
