use Rattle.std.proofs.Common.{◌≤◌, sym, ◌∙◌, subst}
use Rattle.pws_change.proofs.Readers.{count_at_in, few_at_in}
use Rattle.pws_change.proofs.pre_prepared.QSet.count_at.Goals as goal

pub returns-clause-value : goal.returns-clause-value
returns-clause-value c = c.digests_at.ensures ∙ count_at_in c.self.inside.rows.items c.deref.result.now c.args.self.now c.args.place c.self.invariant c.deref.ensures.value c.self.view_is

pub returns-clause-few : goal.returns-clause-few
returns-clause-few c = subst (λ n. n ≤ 16) (sym c.digests_at.ensures) (few_at_in c.self.inside.rows.items c.deref.result.now c.args.place c.self.invariant c.deref.ensures.value)
