-- What holds of the event list that a run reports; this project's own.
use Rattle.std.specs.Prelude.{◌≡◌, ℕ, ◌≤◌, List, length, Option, Some}
use Rattle.pws_base.specs.Whole.{Grows}
use Rattle.pws_event.specs.Requests.{RequestFields}
use Rattle.pws_event.specs.Events.{digest_of}
use Rattle.pws_event.specs.Lists.{PlacedEvent, digest_at}
use Rattle.pws_event.specs.declared.events.Event.TheVariants as event
use Rattle.pws_event.specs.Effects.{silent}
use Rattle.pws_event.specs.Laws.{TakesEffectAt, TakesEffectOnce}
use Rattle.pws_sched.specs.declared.statuses.Status.{Status}
use Rattle.pws_sched.specs.declared.statuses.Status.TheVariants.{Done}
use Rattle.pws_sim.specs.Replica.{two_groups}
use Rattle.pws_sim.specs.Reports.{report_of}

-- at each place a request stands that takes effect there, with its digest
abbrev pub AllTakeEffect : ℕ → List ℕ → List PlacedEvent → Type 0
AllTakeEffect me layout places = (place : ℕ) → 1 ≤ place → place ≤ length places → (r : RequestFields) × TakesEffectAt me layout silent places place r × (digest_at places place ≡ Some (digest_of (event.Request r)))

-- the text written is the report of an event list in which a request takes effect at each place, and no request,
-- which its caller and its number name, at two
pub record ReportsOnce (held now : Option (List ℕ)) : Type 0 where
  pub places : List PlacedEvent
  pub written : Grows held now (report_of places)
  pub taken : AllTakeEffect 1 two_groups places
  pub once : TakesEffectOnce 1 two_groups silent places

-- so it is where a run is done
abbrev pub OnceOn : Option (List ℕ) → Option (List ℕ) → Status → Type 0
OnceOn held now Done = ReportsOnce held now
OnceOn held now status = Unit {0}
