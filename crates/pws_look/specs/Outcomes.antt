-- How a run ends and what it writes, by the words and the bytes; this project's own.
use Rattle.std.specs.Prelude.{◌≡◌, ℕ, ◌<◌, ◌≤◌, nat_lt, Bool, true, false, List, [], length, codes, Option, Some, None, Result, Ok, Err, if◌then◌else◌}
use Rattle.pws_base.specs.Streams.{Rose}
use Rattle.pws_base.specs.Whole.{Grows, GrowsWithin}
use Rattle.pws_look.specs.Looks.{Reports}
use Rattle.pws_look.specs.declared.lines.Report.{Report}
use Rattle.pws_look.specs.declared.statuses.LookStatus.{LookStatus}
use Rattle.pws_look.specs.declared.statuses.LookStatus.TheVariants as status
use Rattle.pws_look.specs.declared.top.LookError.{LookError}
use Rattle.pws_look.specs.declared.top.LookError.TheVariants as look_error
use Rattle.pws_look.specs.declared.words.Command.{Command}

-- a status, and the text that is written with it
pub record Outcome : Type 0 where
  pub status : LookStatus
  pub text : List ℕ

abbrev pub usage : Outcome
usage = record { status = status.Usage; text = codes "usage: pws-look event, packet, envelope, soap or script, and --lines\n" }

abbrev pub limit : Outcome
limit = record { status = status.Limit; text = codes "input: limit\n" }

-- the outcome with this report
abbrev pub outcome_of : Report → Outcome
outcome_of r = record { status = if r.good then status.Good else status.Refused; text = r.text }

-- the outcome of a command over a source of these bytes, where no fault comes and memory is found
abbrev pub IsOutcomeOf : Command → List ℕ → Bool → Outcome → Type 0
IsOutcomeOf command bytes true o = o ≡ limit
IsOutcomeOf command bytes false o = (r : Report) × Reports command bytes r × (o ≡ outcome_of r)

-- the outcome of the words, whose command this is, if they are one
abbrev pub IsOutcome : Option Command → List ℕ → Outcome → Type 0
IsOutcome None bytes o = o ≡ usage
IsOutcome (Some command) bytes o = IsOutcomeOf command bytes (nat_lt 67108864 (length bytes)) o

-- words and bytes have one outcome at most
abbrev pub OneOutcome : Type 0
OneOutcome = (command : Option Command) (bytes : List ℕ) (o p : Outcome) → IsOutcome command bytes o → IsOutcome command bytes p → o ≡ p

-- and they have one
abbrev pub SomeOutcome : Type 0
SomeOutcome = (command : Option Command) (bytes : List ℕ) → (o : Outcome) × IsOutcome command bytes o

-- the run ended by this outcome, or by a fault of the sink, with a prefix of the text
abbrev pub Ends : Outcome → Option (List ℕ) → Option (List ℕ) → LookStatus → Type 0
Ends o held now status.WriteFault = GrowsWithin held now o.text
Ends o held now s = (s ≡ o.status) × Grows held now o.text

-- by a fault of the source, or the want of memory, with nothing written; or by the outcome
abbrev pub EndsBy : Option Command → List ℕ → Option (List ℕ) → Option (List ℕ) → LookStatus → Type 0
EndsBy command bytes held now status.ReadFault = Grows held now []
EndsBy command bytes held now status.Memory = Grows held now []
EndsBy command bytes held now s = (o : Outcome) × IsOutcome command bytes o × Ends o held now s

-- so it did where the source tells its bytes
abbrev pub EndsOn : Option Command → Option (List ℕ) → Option (List ℕ) → Option (List ℕ) → LookStatus → Type 0
EndsOn command None held now s = Unit {0}
EndsOn command (Some bytes) held now s = EndsBy command bytes held now s

-- what is written with Usage, Limit, ReadFault and Memory, whatever the source tells
abbrev pub Writes : Option (List ℕ) → Option (List ℕ) → LookStatus → Type 0
Writes held now status.Usage = Grows held now usage.text
Writes held now status.Limit = Grows held now limit.text
Writes held now status.ReadFault = Grows held now []
Writes held now status.Memory = Grows held now []
Writes held now s = Unit {0}

-- Usage comes exactly where the words are no command, faults of the sink aside
abbrev pub UsageIff : Option Command → LookStatus → Type 0
UsageIff (Some command) status.Usage = ⊥
UsageIff (Some command) s = Unit {0}
UsageIff None status.Usage = Unit {0}
UsageIff None status.WriteFault = Unit {0}
UsageIff None s = ⊥

-- the source has too many bytes where Limit comes, and not where answers come
abbrev pub LimitOn : Option (List ℕ) → LookStatus → Type 0
LimitOn (Some bytes) status.Limit = 67108864 < length bytes
LimitOn (Some bytes) status.Good = length bytes ≤ 67108864
LimitOn (Some bytes) status.Refused = length bytes ≤ 67108864
LimitOn bytes s = Unit {0}

-- the source's faults rise by ReadFault alone
abbrev pub ReadCaused : LookStatus → ℕ → ℕ → Type 0
ReadCaused status.ReadFault before now = Rose before now
ReadCaused s before now = now ≡ before

-- the sink's faults rise by WriteFault alone
abbrev pub WriteCaused : LookStatus → ℕ → ℕ → Type 0
WriteCaused status.WriteFault before now = Rose before now
WriteCaused s before now = now ≡ before

-- ---- inside of the call

-- what a look finds over a source that tells its bytes
abbrev pub LooksOn : Command → Option (List ℕ) → Result Report LookError → Type 0
LooksOn command None found = Unit {0}
LooksOn command (Some bytes) (Ok r) = (length bytes ≤ 67108864) × Reports command bytes r
LooksOn command (Some bytes) (Err look_error.Limit) = 67108864 < length bytes
LooksOn command (Some bytes) (Err e) = Unit {0}

-- the source's faults rise by Fault alone
abbrev pub LookCaused : Result Report LookError → ℕ → ℕ → Type 0
LookCaused (Err look_error.Fault) before now = Rose before now
LookCaused found before now = now ≡ before

-- the statuses with which a text is written
abbrev pub is_written : LookStatus → Bool
is_written status.Good = true
is_written status.Refused = true
is_written status.Usage = true
is_written status.Limit = true
is_written s = false

-- the text was written, and the run ends with this status; or the sink failed
abbrev pub WritesText : Option (List ℕ) → Option (List ℕ) → List ℕ → LookStatus → LookStatus → Type 0
WritesText held now text wanted status.WriteFault = GrowsWithin held now text
WritesText held now text wanted s = (s ≡ wanted) × Grows held now text

-- what was found was written
abbrev pub EndsWith : Option (List ℕ) → Option (List ℕ) → Result Report LookError → LookStatus → Type 0
EndsWith held now (Ok r) s = Ends (outcome_of r) held now s
EndsWith held now (Err look_error.Limit) s = Ends limit held now s
EndsWith held now (Err look_error.Fault) s = (s ≡ status.ReadFault) × Grows held now []
EndsWith held now (Err look_error.Memory) s = (s ≡ status.Memory) × Grows held now []
