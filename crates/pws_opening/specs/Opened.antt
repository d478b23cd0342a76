-- How the answers to bytes stand for those of the rule; this project's own.
use Rattle.std.specs.Prelude.{◌≡◌, Option, Some, None, Result, Ok, Err}
use Rattle.pws_base.specs.declared.shapes.ReplicaId.{ReplicaId}
use Rattle.pws_auth.specs.Keys.{Keys}
use Rattle.pws_runs.specs.declared.errors.OpenError.{OpenError}
use Rattle.pws_runs.specs.declared.errors.OpenError.TheVariants as open_error
use Rattle.pws_runs.specs.Opening.{Checked, open_read}
use Rattle.pws_msg.specs.declared.errors.PacketReadError.{PacketReadError}
use Rattle.pws_msg.specs.declared.errors.PacketReadError.TheVariants as read_error
use Rattle.pws_opening.specs.declared.errors.OpeningError.{OpeningError}
use Rattle.pws_opening.specs.declared.errors.OpeningError.TheVariants as opening_error

-- the answer is the checked packet or its refusal, or the want of memory
abbrev pub GivesChecked : Result Checked OpeningError → Result Checked OpenError → Type 0
GivesChecked (Ok c) opened = opened ≡ Ok c
GivesChecked (Err (opening_error.Refused e)) opened = opened ≡ Err e
GivesChecked (Err opening_error.Memory) opened = Unit {0}

-- whether a checked packet is one that was opened for this replica, with these keys and their layout
abbrev pub IsFor : Keys → ReplicaId → Checked → Type 0
IsFor keys me c = open_read keys me (Ok c.packet) ≡ Ok c

-- a refusal if there is one, and else what was checked
abbrev pub judged : Option OpenError → Checked → Result Checked OpenError
judged None c = Ok c
judged (Some e) c = Err e

-- a refusal of the reader, as one of the opening
abbrev pub opening_error_of : PacketReadError → OpeningError
opening_error_of (read_error.Refused e) = opening_error.Refused (open_error.Packet e)
opening_error_of read_error.Memory = opening_error.Memory
