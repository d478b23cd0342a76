use Rattle.std.proofs.Common.{refl}
use Rattle.pws_driver.specs.Services.{service_of}
use Rattle.pws_driver.specs.Lemmas.RunLaws.{starts_at}
use Rattle.pws_driver.proofs.runners.RunnerDriver.start.Goals as goal

pub returns-clause-acts : goal.returns-clause-acts
returns-clause-acts g c =
    let s = service_of g.E.Envelopes.words c.args.self.now.program in
    let f = c.args.self.now.at_start c.requires c.if-self.false in
    (starts_at s c.args.self.now.machine.core c.go_on.new.self.core c.args.self.now.machine.untaken c.go_on.new.self.untaken c.in_ok-acts.acts.items f.0 f.1 c.in_ok-acts.ensures).1

pub returns-clause-taken : goal.returns-clause-taken
returns-clause-taken g c =
    let s = service_of g.E.Envelopes.words c.args.self.now.program in
    let f = c.args.self.now.at_start c.requires c.if-self.false in
    (refl, (starts_at s c.args.self.now.machine.core c.go_on.new.self.core c.args.self.now.machine.untaken c.go_on.new.self.untaken c.in_ok-acts.acts.items f.0 f.1 c.in_ok-acts.ensures).0)
