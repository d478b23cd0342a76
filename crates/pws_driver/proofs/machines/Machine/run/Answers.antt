use Rattle.std.proofs.Common.{◌≡◌, false, sym, ◌∙◌, ap}
use Rattle.pws_driver.specs.Services.{service_of}
use Rattle.pws_driver.specs.Runs.{run_at, finish, IsOver}
use Rattle.pws_driver.specs.Lemmas.RunLaws.{finish_step, finish_over}
use Rattle.pws_driver.proofs.machines.Machine.run.Goals as goal

pub returns-then-not-goes : goal.returns-then-not-goes
returns-then-not-goes g c =
    let p = service_of g.E.Envelopes.words c.args.program.now in
    let r = run_at c.run.self.core c.run.self.untaken c.run.acts.items in
    let f : c.in_ok-goes.goes ≡ false = cc in
    let o : IsOver p r = c.in_ok-goes.ensures.over f in
    c.in_ok-goes.ensures.step ∙ (o ∙ (sym (finish_over p r o) ∙ c.run.invariant))

pub run-preserved : goal.run-preserved
run-preserved g c =
    let p = service_of g.E.Envelopes.words c.args.program.now in
    let r = run_at c.run.self.core c.run.self.untaken c.run.acts.items in
    ap (finish p) c.in_ok-goes.ensures.step ∙ (sym (finish_step p r) ∙ c.run.invariant)
