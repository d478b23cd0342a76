-- A step, by what the code did.
use Rattle.std.proofs.Common.{◌≡◌, true, false, List, Some, None, sym, ap, ◌∙◌}
use Rattle.pws_event.specs.declared.events.Event.{Event}
use Rattle.pws_service.specs.declared.acts.Act.{Act}
use Rattle.pws_driver.specs.declared.cores.Core.{Core}
use Rattle.pws_driver.specs.Services.{Service}
use Rattle.pws_driver.specs.Moves.{Moved}
use Rattle.pws_driver.specs.Instructions.{begin}
use Rattle.pws_driver.specs.Takings.{wants, takes, is_ready}
use Rattle.pws_driver.specs.Did.{DidMove}
use Rattle.pws_driver.specs.Runs.{run_at, first_of, moved, step}
use Rattle.pws_driver.specs.Lemmas.RunLaws.{step_none_over}

moved_by : (m : Moved) (c : Core) (u : List Event) (as0 bs : List Act) → DidMove m c as0 bs → run_at c u bs ≡ moved m u as0
moved_by m c u as0 bs d = ap (λ (x : Core). run_at x u bs) d.core ∙ ap (λ (x : List Act). run_at m.core u x) d.acts

pub step_ready : (p : Service) (c d : Core) (u : List Event) (as0 bs : List Act) → is_ready c ≡ true → DidMove (begin p c) d as0 bs → run_at d u bs ≡ step p (run_at c u as0)
unfolding step
step_ready p c d u as0 bs h m = rw h (moved_by (begin p c) d u as0 bs m)

pub step_takes : (p : Service) (c d : Core) (u v : List Event) (e : Event) (as0 bs : List Act) → is_ready c ≡ false → first_of (wants c) u ≡ Some (e, v) → DidMove (takes p c e) d as0 bs → run_at d v bs ≡ step p (run_at c u as0)
unfolding step
step_takes p c d u v e as0 bs h f m = rw (h, f) (moved_by (takes p c e) d v as0 bs m)

pub step_none : (p : Service) (c : Core) (u : List Event) (as0 : List Act) → is_ready c ≡ false → first_of (wants c) u ≡ None → run_at c u as0 ≡ step p (run_at c u as0)
step_none p c u as0 h f = sym (step_none_over p (run_at c u as0) h f)
