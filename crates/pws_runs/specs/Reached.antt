-- The worlds that moves lead to.
use Rattle.std.specs.Prelude.{◌≡◌, ℕ, ◌+◌, List, [], ◌∷◌, None}
use Rattle.pws_runs.specs.declared.errors.StepError.{StepError}
use Rattle.pws_runs.specs.Worlds.{Setting, WorldState, first_world}
use Rattle.pws_runs.specs.Moves.{Move, Outcome, Moved, Refused, moved, refusal_of, world_step}

-- a world is reached from the first one by moves that aren't refused
pub data IsReached (e : Setting) : WorldState → Type 0 where
  start : IsReached e (first_world e)
  goes : (w : WorldState) (m : Move) → IsReached e w → refusal_of e w m ≡ None → IsReached e (moved e w m)

-- what a list of moves comes to: a world, or the first refusal, after so many moves
pub data Ending : Type 0 where
  Ended : WorldState → Ending
  Stopped : (moves : ℕ) → StepError → Ending

-- a move was done, and there are more
abbrev pub then_run : Outcome → ℕ → (WorldState → Ending) → Ending
then_run (Moved w) moves more = more w
then_run (Refused why) moves more = Stopped moves why

-- the moves in order, after so many others
unfoldable pub run_after : Setting → ℕ → WorldState → List Move → Ending
run_after e moves w [] = Ended w
run_after e moves w (m ∷ ms) = then_run (world_step e w m) moves (λ v. run_after e (moves + 1) v ms)

-- what moves from the first world on come to
abbrev pub run_of : Setting → List Move → Ending
run_of e ms = run_after e 0 (first_world e) ms
