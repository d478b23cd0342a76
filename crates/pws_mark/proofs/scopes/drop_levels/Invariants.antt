use Rattle.std.proofs.Common.{◌≡◌, ℕ, List, ◌++◌, drop}
use Rattle.pws_mark.specs.Levels.{levels_at, declared_at}
use Rattle.pws_mark.proofs.scopes.drop_levels.Given as goal

abbrev pub invariant-loop-item : goal.invariant-loop-item
invariant-loop-item l = (prefix rest : List ℕ) (level : ℕ) → levels_at l.initial.levels prefix ≡ rest ++ declared_at level l.declared prefix → levels_at l.levels prefix ≡ rest ++ declared_at level (drop l.item-index l.declared) prefix
