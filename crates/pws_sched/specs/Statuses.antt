-- The exit statuses of the simulator; this project's own rule.
use Rattle.std.specs.Prelude.{ℕ}
use Rattle.pws_sched.specs.declared.statuses.Status.{Status}
use Rattle.pws_sched.specs.declared.statuses.Status.TheVariants.{Done, Usage, ReadFault, WriteFault, Memory, Unbuilt}

-- the exit status that stands for each way to end
abbrev pub code_of : Status → ℕ
code_of Done = 0
code_of Usage = 2
code_of ReadFault = 6
code_of WriteFault = 7
code_of Memory = 8
code_of Unbuilt = 9
