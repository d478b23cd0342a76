-- What one move of a script comes to: its state after it, and its acts; this project's own rules.
use Rattle.std.specs.Prelude.{ℕ, ◌-◌, ◌+◌, List, [], ◌∷◌, slice_set, slice_index_or, Option, Some, None}
use Rattle.pws_service.specs.declared.acts.Act.{Act}
use Rattle.pws_service.specs.declared.acts.Act.TheVariants as act
use Rattle.pws_driver.specs.declared.values.Value.{Value}
use Rattle.pws_driver.specs.declared.values.Value.TheVariants as value
use Rattle.pws_driver.specs.declared.cores.Wait.{Wait}
use Rattle.pws_driver.specs.declared.cores.Mode.TheVariants as mode
use Rattle.pws_driver.specs.declared.cores.Core.{Core}

-- the instructions between two takings
abbrev pub budget : ℕ
budget = 10000

-- the longest text in a register, in bytes
abbrev pub max_text : ℕ
max_text = 16384

pub record Moved : Type 0 where
  pub core : Core
  pub acts : List Act

-- no act
abbrev pub quiet : Core → Moved
quiet c = record { core = c; acts = [] }

-- the script halts
abbrev pub halted : Core → Moved
halted c = record { core = record c { mode = mode.Halted }; acts = act.Halted ∷ [] }

-- the script waits
abbrev pub waiting : Core → Wait → Moved
waiting c w = quiet (record c { mode = mode.Waiting w })

-- what the register holds
abbrev pub held : Core → ℕ → Value
held c r = slice_index_or c.registers r (value.Number 0)

abbrev pub put : Core → ℕ → Value → Core
put c r v = record c { registers = slice_set c.registers r v }
