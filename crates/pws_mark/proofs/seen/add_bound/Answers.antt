use Rattle.pws_mark.proofs.SeenSets.{bound_more}
use Rattle.pws_mark.proofs.seen.add_bound.Goals as goal

pub returns-in_ok-insert : goal.returns-in_ok-insert
returns-in_ok-insert c =
    bound_more c.args.set.now c.insert.new.self (c.as_str.result, c.as_str-in-Some.result) c.args.bound.now c.in-Some.name c.in_ok-insert.ensures.updates c.in-Some.is c.as_str.ensures c.as_str-in-Some.ensures
