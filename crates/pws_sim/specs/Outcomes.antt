-- How a run ends and what it writes, as a function of the words and the bytes; this project's own.
use Rattle.std.specs.Prelude.{◌≡◌, ℕ, ◌&&◌, nat_lt, is_none, if◌then◌else◌, Bool, true, false, IsTrue, List, [], ◌∷◌, length, codes, Option, Some, None, Result, Ok, Err}
use Rattle.std.specs.Option.{option_map}
use Rattle.std.specs.Str.{bytes_eq}
use Rattle.pws_base.specs.Streams.{Rose}
use Rattle.pws_base.specs.Whole.{Grows, GrowsWithin}
use Rattle.pws_event.specs.Lists.{PlacedEvent}
use Rattle.pws_sched.specs.FirstForm.{first_form}
use Rattle.pws_sched.specs.declared.statuses.Status.{Status}
use Rattle.pws_sched.specs.declared.statuses.Status.TheVariants.{Done, Usage, ReadFault, WriteFault, Memory, Unbuilt}
use Rattle.pws_sim.specs.declared.top.RunError.{RunError}
use Rattle.pws_sim.specs.declared.top.RunError.TheVariants as run_error
use Rattle.pws_sim.specs.Replica.{two_groups, places_after}
use Rattle.pws_sim.specs.Reports.{report_of}
use Rattle.pws_sim.specs.Once.{AllTakeEffect}

-- a status, and the text that is written with it
pub record Outcome : Type 0 where
  pub status : Status
  pub text : List ℕ

-- whether the words are the one word `run`
abbrev pub is_run : List (List ℕ) → Bool
is_run (word ∷ []) = bytes_eq word (codes "run")
is_run words = false

-- the report on these bytes, and nothing where they pass 64 MiB or aren't a schedule of the first form
abbrev pub report_on : List ℕ → Option (List ℕ)
report_on bytes = if nat_lt 67108864 (length bytes) then None else option_map (λ requests. report_of (places_after requests)) (first_form bytes)

abbrev pub usage : Outcome
usage = record { status = Usage; text = codes "usage: pws-sim run, gen NUMBER COUNT or vectors\n" }

abbrev pub unbuilt : Outcome
unbuilt = record { status = Unbuilt; text = codes "not built\n" }

-- the outcome of a run with this report, or with none
abbrev pub outcome_of : Option (List ℕ) → Outcome
outcome_of None = unbuilt
outcome_of (Some report) = record { status = Done; text = report }

-- how a run with these words ends over a source of these bytes, where no fault comes and memory is found
abbrev pub outcome : List (List ℕ) → List ℕ → Outcome
outcome words bytes = if is_run words then outcome_of (report_on bytes) else usage

-- the run ended by its outcome; or by a fault or the want of memory, with a prefix of the text
abbrev pub Ends : Outcome → Option (List ℕ) → Option (List ℕ) → Status → Type 0
Ends o held now ReadFault = Grows held now []
Ends o held now WriteFault = GrowsWithin held now o.text
Ends o held now Memory = GrowsWithin held now o.text
Ends o held now status = (status ≡ o.status) × Grows held now o.text

-- so it did where the source tells its bytes
abbrev pub EndsOn : (List ℕ → Outcome) → Option (List ℕ) → Option (List ℕ) → Option (List ℕ) → Status → Type 0
EndsOn ends None held now status = Unit {0}
EndsOn ends (Some bytes) held now status = Ends (ends bytes) held now status

-- what is written with Usage, Unbuilt and ReadFault, whatever the source tells; OnceOn tells what is written with Done
abbrev pub Writes : Option (List ℕ) → Option (List ℕ) → Status → Type 0
Writes held now Usage = Grows held now usage.text
Writes held now Unbuilt = Grows held now unbuilt.text
Writes held now ReadFault = Grows held now []
Writes held now status = Unit {0}

-- Usage comes exactly where the words aren't the one word `run`, faults of the sink and want of memory aside
abbrev pub UsageIff : Bool → Status → Type 0
UsageIff true Usage = ⊥
UsageIff true status = Unit {0}
UsageIff false Usage = Unit {0}
UsageIff false WriteFault = Unit {0}
UsageIff false Memory = Unit {0}
UsageIff false status = ⊥

-- Unbuilt comes exactly where it is due, faults and want of memory aside
abbrev pub UnbuiltIff : Bool → Status → Type 0
UnbuiltIff false Unbuilt = ⊥
UnbuiltIff false status = Unit {0}
UnbuiltIff true Unbuilt = Unit {0}
UnbuiltIff true ReadFault = Unit {0}
UnbuiltIff true WriteFault = Unit {0}
UnbuiltIff true Memory = Unit {0}
UnbuiltIff true status = ⊥

-- it is due where the words are `run` and the bytes are too many or not in the first form
abbrev pub UnbuiltOn : Bool → Option (List ℕ) → Status → Type 0
UnbuiltOn runs None Unbuilt = IsTrue runs
UnbuiltOn runs None status = Unit {0}
UnbuiltOn runs (Some bytes) status = UnbuiltIff (runs && is_none (report_on bytes)) status

-- the source's faults rise by ReadFault alone
abbrev pub ReadCaused : Status → ℕ → ℕ → Type 0
ReadCaused ReadFault before now = Rose before now
ReadCaused status before now = now ≡ before

-- the sink's faults rise by WriteFault alone
abbrev pub WriteCaused : Status → ℕ → ℕ → Type 0
WriteCaused WriteFault before now = Rose before now
WriteCaused status before now = now ≡ before

-- a text is the report of an event list at whose places requests take effect
abbrev pub IsReport : List ℕ → Type 0
IsReport text = (places : List PlacedEvent) × (text ≡ report_of places) × AllTakeEffect 1 two_groups places

-- so is what a run answers, where it answers a report
abbrev pub Reports : Result (Option (List ℕ)) RunError → Type 0
Reports (Ok (Some text)) = IsReport text
Reports (Ok None) = Unit {0}
Reports (Err e) = Unit {0}

-- what a run finds over a source that tells its bytes
abbrev pub RunsOn : Option (List ℕ) → Result (Option (List ℕ)) RunError → Type 0
RunsOn None answer = Unit {0}
RunsOn (Some bytes) (Ok answer) = answer ≡ report_on bytes
RunsOn (Some bytes) (Err e) = Unit {0}

-- the source's faults rise by Fault alone
abbrev pub RunCaused : Result (Option (List ℕ)) RunError → ℕ → ℕ → Type 0
RunCaused (Ok answer) before now = now ≡ before
RunCaused (Err run_error.Fault) before now = Rose before now
RunCaused (Err run_error.Memory) before now = now ≡ before
