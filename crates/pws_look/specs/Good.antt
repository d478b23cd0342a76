-- Good texts and refused ones.
use Rattle.std.specs.Prelude.{ℕ, true, false, List}
use Rattle.pws_look.specs.declared.answers.Answer.{Answer}

abbrev pub good : List ℕ → Answer
good line = record { line = line; good = true }

abbrev pub refused : List ℕ → Answer
refused line = record { line = line; good = false }
