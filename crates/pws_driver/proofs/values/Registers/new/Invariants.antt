use Rattle.std.proofs.Common.{◌≡◌, replicate}
use Rattle.pws_driver.specs.declared.values.Value.TheVariants as value
use Rattle.pws_driver.proofs.values.Registers.new.Given as goal

abbrev pub invariant-loop : goal.invariant-loop
invariant-loop l = l.values.items ≡ replicate l.counter (value.Number 0)
