-- How a run ends.
use Rattle.std.proofs.Common.{◌≡◌, ◌⊎◌, inl, inr, ℕ, ◌<◌, ◌≤◌, Bool, true, false, List, [], length, nat_lt, Option, Some, None, Result, Ok, Err, refl, sym, ◌∙◌, ap, subst, arith}
use Rattle.std.proofs.lemmas.Bool.Decides.{nat_tests}
use Rattle.pws_base.specs.Whole.{Grows, GrowsWithin}
use Rattle.pws_look.specs.Looks.{Reports}
use Rattle.pws_look.specs.Outcomes.{Outcome, usage, limit, outcome_of, IsOutcome, IsOutcomeOf, Ends, EndsBy, EndsOn, Writes, LooksOn, is_written, WritesText, EndsWith}
use Rattle.pws_look.specs.declared.lines.Report.{Report}
use Rattle.pws_look.specs.declared.statuses.LookStatus.{LookStatus}
use Rattle.pws_look.specs.declared.statuses.LookStatus.TheVariants as status
use Rattle.pws_look.specs.declared.top.LookError.{LookError}
use Rattle.pws_look.specs.declared.top.LookError.TheVariants as look_error
use Rattle.pws_look.specs.declared.words.Command.{Command}

-- an outcome with a text is no fault of the source, and no want of memory
not_silent : (s : LookStatus) (o : Outcome) → is_written s ≡ false → is_written o.status ≡ true → s ≡ o.status → ⊥
not_silent s o silent loud same = let h : false ≡ true = sym silent ∙ (ap is_written same ∙ loud) in cc

ends_by : (command : Option Command) (bytes : List ℕ) (held now : Option (List ℕ)) (o : Outcome) (s : LookStatus) → IsOutcome command bytes o → is_written o.status ≡ true → Ends o held now s → EndsBy command bytes held now s
ends_by command bytes held now o status.Good is loud e = (o, is, e)
ends_by command bytes held now o status.Refused is loud e = (o, is, e)
ends_by command bytes held now o status.Usage is loud e = (o, is, e)
ends_by command bytes held now o status.Limit is loud e = (o, is, e)
ends_by command bytes held now o status.WriteFault is loud e = (o, is, e)
ends_by command bytes held now o status.ReadFault is loud e = absurd (not_silent status.ReadFault o refl loud e.0)
ends_by command bytes held now o status.Memory is loud e = absurd (not_silent status.Memory o refl loud e.0)

report_is : (command : Command) (bytes : List ℕ) (r : Report) → length bytes ≤ 67108864 → Reports command bytes r → IsOutcome (Some command) bytes (outcome_of r)
report_is command bytes r few reports =
    let no : nat_lt 67108864 (length bytes) ≡ false = grind (arith, nat_tests) in
    subst (λ b. IsOutcomeOf command bytes b (outcome_of r)) (sym no) (r, reports, refl)

limit_is : (command : Command) (bytes : List ℕ) → 67108864 < length bytes → IsOutcome (Some command) bytes limit
limit_is command bytes many =
    let yes : nat_lt 67108864 (length bytes) ≡ true = grind (arith, nat_tests) in
    subst (λ b. IsOutcomeOf command bytes b limit) (sym yes) refl

report_loud : (text : List ℕ) (good : Bool) → is_written (outcome_of (record { text = text; good = good })).status ≡ true
report_loud text true = refl
report_loud text false = refl

silent_by : (command : Option Command) (bytes : List ℕ) (held now : Option (List ℕ)) (s : LookStatus) → (s ≡ status.ReadFault) ⊎ (s ≡ status.Memory) → Grows held now [] → EndsBy command bytes held now s
silent_by command bytes held now s (inl e) g = subst (λ t. EndsBy command bytes held now t) (sym e) g
silent_by command bytes held now s (inr e) g = subst (λ t. EndsBy command bytes held now t) (sym e) g

some_bytes : (command : Command) (bytes : List ℕ) (held now : Option (List ℕ)) (found : Result Report LookError) (s : LookStatus) → LooksOn command (Some bytes) found → EndsWith held now found s → EndsBy (Some command) bytes held now s
some_bytes command bytes held now (Ok r) s looks ends = ends_by (Some command) bytes held now (outcome_of r) s (report_is command bytes r looks.0 looks.1) (report_loud r.text r.good) ends
some_bytes command bytes held now (Err look_error.Limit) s looks ends = ends_by (Some command) bytes held now limit s (limit_is command bytes looks) refl ends
some_bytes command bytes held now (Err look_error.Fault) s looks ends = silent_by (Some command) bytes held now s (inl ends.0) ends.1
some_bytes command bytes held now (Err look_error.Memory) s looks ends = silent_by (Some command) bytes held now s (inr ends.0) ends.1

some_on : (command : Command) (left held now : Option (List ℕ)) (found : Result Report LookError) (s : LookStatus) → LooksOn command left found → EndsWith held now found s → EndsOn (Some command) left held now s
some_on command None held now found s looks ends = tt
some_on command (Some bytes) held now found s looks ends = some_bytes command bytes held now found s looks ends

-- the words are a command
pub some_told : (words : Option Command) (command : Command) (left held now : Option (List ℕ)) (found : Result Report LookError) (s : LookStatus)
    → words ≡ Some command → LooksOn command left found → EndsWith held now found s → EndsOn words left held now s
some_told words command left held now found s e looks ends = subst (λ w. EndsOn w left held now s) (sym e) (some_on command left held now found s looks ends)

usage_ends : (held now : Option (List ℕ)) (s : LookStatus) → WritesText held now usage.text status.Usage s → Ends usage held now s
usage_ends held now status.Good e = e
usage_ends held now status.Refused e = e
usage_ends held now status.Usage e = e
usage_ends held now status.Limit e = e
usage_ends held now status.ReadFault e = e
usage_ends held now status.WriteFault e = e
usage_ends held now status.Memory e = e

none_on : (left held now : Option (List ℕ)) (s : LookStatus) → WritesText held now usage.text status.Usage s → EndsOn None left held now s
none_on None held now s e = tt
none_on (Some bytes) held now s e = ends_by None bytes held now usage s refl refl (usage_ends held now s e)

-- they are none
pub none_told : (words : Option Command) (left held now : Option (List ℕ)) (s : LookStatus) → words ≡ None → WritesText held now usage.text status.Usage s → EndsOn words left held now s
none_told words left held now s e w = subst (λ c. EndsOn c left held now s) (sym e) (none_on left held now s w)

pub none_written : (held now : Option (List ℕ)) (s : LookStatus) → WritesText held now usage.text status.Usage s → Writes held now s
none_written held now status.Good e = tt
none_written held now status.Refused e = tt
none_written held now status.Usage e = e.1
none_written held now status.Limit e = absurd (let h : status.Limit ≡ status.Usage = e.0 in cc)
none_written held now status.ReadFault e = absurd (let h : status.ReadFault ≡ status.Usage = e.0 in cc)
none_written held now status.WriteFault e = tt
none_written held now status.Memory e = absurd (let h : status.Memory ≡ status.Usage = e.0 in cc)
