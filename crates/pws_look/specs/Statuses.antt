-- The exit statuses of pws-look; this project's own rule.
use Rattle.std.specs.Prelude.{ℕ}
use Rattle.pws_look.specs.declared.statuses.LookStatus.{LookStatus}
use Rattle.pws_look.specs.declared.statuses.LookStatus.TheVariants as status

-- the exit status that stands for each way to end
abbrev pub code_of : LookStatus → ℕ
code_of status.Good = 0
code_of status.Refused = 1
code_of status.Usage = 2
code_of status.Limit = 5
code_of status.ReadFault = 6
code_of status.WriteFault = 7
code_of status.Memory = 8
