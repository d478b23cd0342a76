use Rattle.std.proofs.Common.{◌≡◌, ℕ, List, ◌++◌, drop}
use Rattle.pws_mark.specs.Levels.{levels_at, declared_at}
use Rattle.pws_mark.proofs.scopes.add_levels.Given as goal

abbrev pub invariant-loop-item : goal.invariant-loop-item
invariant-loop-item l = (prefix : List ℕ) → levels_at l.levels prefix ++ declared_at l.level (drop l.item-index l.declared) prefix ≡ levels_at l.initial.levels prefix ++ declared_at l.level l.declared prefix
