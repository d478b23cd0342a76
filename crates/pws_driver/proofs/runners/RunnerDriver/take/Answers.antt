use Rattle.std.proofs.Common.{◌≡◌, [], ◌∷◌, ◌++◌, List, ◌∙◌, ap}
use Rattle.pws_event.specs.declared.events.Event.{Event}
use Rattle.pws_driver.specs.Services.{service_of}
use Rattle.pws_driver.specs.Runs.{run_at, finish}
use Rattle.pws_driver.specs.Lemmas.RunLaws.{goes_on}
use Rattle.pws_driver.proofs.runners.RunnerDriver.take.Goals as goal

pub returns-clause-acts : goal.returns-clause-acts
returns-clause-acts g c es h =
    let s = service_of g.E.Envelopes.words c.args.self.now.program in
    let k : c.push.new.self ≡ c.args.self.now.machine.untaken ++ c.args.event.now ∷ [] = cc (c.in_ok-push.ensures, c.in_ok-event.ensures) in
    (goes_on s c.args.self.now.machine.core c.go_on.new.self.core c.args.self.now.machine.untaken c.go_on.new.self.untaken c.in_ok-acts.acts.items es c.args.event.now h
    (c.in_ok-acts.ensures ∙ ap (λ (u : List Event). finish s (run_at c.args.self.now.machine.core u [])) k)).1

pub returns-clause-taken : goal.returns-clause-taken
returns-clause-taken g c es h =
    let s = service_of g.E.Envelopes.words c.args.self.now.program in
    let k : c.push.new.self ≡ c.args.self.now.machine.untaken ++ c.args.event.now ∷ [] = cc (c.in_ok-push.ensures, c.in_ok-event.ensures) in
    (goes_on s c.args.self.now.machine.core c.go_on.new.self.core c.args.self.now.machine.untaken c.go_on.new.self.untaken c.in_ok-acts.acts.items es c.args.event.now h
    (c.in_ok-acts.ensures ∙ ap (λ (u : List Event). finish s (run_at c.args.self.now.machine.core u [])) k)).0
