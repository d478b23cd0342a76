use Rattle.std.proofs.Common.{◌≡◌, true, false, arith}
use Rattle.pws_driver.specs.Services.{service_of}
use Rattle.pws_driver.specs.Runs.{run_at}
use Rattle.pws_driver.specs.Takings.{is_ready}
use Rattle.pws_driver.specs.Lemmas.RunLaws.{step_ready_falls, step_takes_falls}
use Rattle.pws_driver.proofs.Stepped.{step_ready, step_takes}
use Rattle.pws_driver.proofs.machines.Machine.step.Goals as goal

pub returns-then-is_ready-clause-step : goal.returns-then-is_ready-clause-step
returns-then-is_ready-clause-step g c =
    step_ready (service_of g.E.Envelopes.words c.args.program.now) c.args.self.now.core c.begin.new.self c.args.self.now.untaken c.args.acts.now.items c.begin.new.acts.items (cc) c.in_ok-begin.ensures

pub returns-then-is_ready-clause-falls : goal.returns-then-is_ready-clause-falls
returns-then-is_ready-clause-falls g c _ =
    let p = service_of g.E.Envelopes.words c.args.program.now in
    let h : is_ready c.args.self.now.core ≡ true = cc in
    let e = step_ready p c.args.self.now.core c.begin.new.self c.args.self.now.untaken c.args.acts.now.items c.begin.new.acts.items h c.in_ok-begin.ensures in
    rw e (omega (arith, step_ready_falls p (run_at c.args.self.now.core c.args.self.now.untaken c.args.acts.now.items) h))

pub returns-in_ok-take-in-Some-clause-step : goal.returns-in_ok-take-in-Some-clause-step
returns-in_ok-take-in-Some-clause-step g c =
    step_takes (service_of g.E.Envelopes.words c.args.program.now) c.args.self.now.core c.take.new.self c.args.self.now.untaken c.take_first.new.self c.in-Some.event c.args.acts.now.items c.take.new.acts.items (cc) c.in-Some.ensures c.in_ok-take-in-Some.ensures

pub returns-in_ok-take-in-Some-clause-falls : goal.returns-in_ok-take-in-Some-clause-falls
returns-in_ok-take-in-Some-clause-falls g c _ =
    let p = service_of g.E.Envelopes.words c.args.program.now in
    let h : is_ready c.args.self.now.core ≡ false = cc in
    let e = step_takes p c.args.self.now.core c.take.new.self c.args.self.now.untaken c.take_first.new.self c.in-Some.event c.args.acts.now.items c.take.new.acts.items h c.in-Some.ensures c.in_ok-take-in-Some.ensures in
    rw e (omega (arith, step_takes_falls p (run_at c.args.self.now.core c.args.self.now.untaken c.args.acts.now.items) (c.in-Some.event, c.take_first.new.self) h c.in-Some.ensures))
