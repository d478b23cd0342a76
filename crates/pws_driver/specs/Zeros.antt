-- The registers at the start: the number 0 in each.
use Rattle.std.specs.Prelude.{List, replicate}
use Rattle.pws_driver.specs.declared.values.Value.{Value}
use Rattle.pws_driver.specs.declared.values.Value.TheVariants as value

unfoldable pub zeros : List Value
zeros = replicate 32 (value.Number 0)
