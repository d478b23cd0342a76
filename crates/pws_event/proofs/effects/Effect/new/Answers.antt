use Rattle.pws_event.proofs.Preserved.{fresh, fresh_counters, few_groups}
use Rattle.pws_event.proofs.effects.Effect.new.Goals as goal

pub invariant_of-result : goal.invariant_of-result
invariant_of-result c = fresh_counters c.args.me c.args.layout.now c.requires (few_groups c.args.layout.now c.groups-groups.result c.groups-groups.ensures.value c.groups-groups.ensures.few)

pub returns-clause-taken : goal.returns-clause-taken
returns-clause-taken c = fresh c.args.me c.args.layout.now
