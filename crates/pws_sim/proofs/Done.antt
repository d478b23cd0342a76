-- Where a run is done, each request takes effect at one place at most.
use Rattle.std.proofs.Common.{◌≡◌, ℕ, ◌∙◌, List, Option, Result, Ok, Err, IfOk, ap, subst}
use Rattle.pws_base.specs.Whole.{Grows}
use Rattle.pws_event.specs.Effects.{silent}
use Rattle.pws_event.specs.Laws.{EffectsAreOnce}
use Rattle.pws_event.specs.Lists.{PlacedEvent}
use Rattle.pws_base.specs.declared.memory.Memory.{Memory}
use Rattle.pws_sim.specs.Outcomes.{IsReport}
use Rattle.pws_sim.specs.Once.{AllTakeEffect, ReportsOnce}
use Rattle.pws_sim.specs.Replica.{two_groups}
use Rattle.pws_sim.specs.Reports.{report_of}

-- the report of an event list whose places take effect
pub is_report : (answer : Result (List ℕ) Memory) (places listed : List PlacedEvent) → IfOk answer (λ text. text ≡ report_of listed) → listed ≡ places → AllTakeEffect 1 two_groups places → IfOk answer IsReport
is_report (Ok text) places listed h e taken = (places, h ∙ ap report_of e, taken)
is_report (Err memory) places listed h e taken = tt

pub reports_once : (held now : Option (List ℕ)) (text : List ℕ) → Grows held now text → IsReport text → EffectsAreOnce → ReportsOnce held now
reports_once held now text grows report law = record {
  places = report.0;
  written = subst (Grows held now) report.1 grows;
  taken = report.2;
  once = law 1 two_groups silent report.0;
}
