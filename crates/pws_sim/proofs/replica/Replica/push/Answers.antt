use Rattle.std.proofs.Common.{refl}
use Rattle.pws_sim.proofs.Followed.{follows_more, never_bare}
use Rattle.pws_sim.proofs.replica.Replica.push.Goals as goal

pub invariant_of-self-in-Some : goal.invariant_of-self-in-Some
invariant_of-self-in-Some c = follows_more c.self.inside.events c.push.new.self _ c.args.request c.len.result c.in-Some.event.now c.self.inside.effect c.take.new.self c.in-Ok.ensures.ok refl (rw (← c.self.view_is) at c.requires.room) c.number-number.ensures.lawful (rw (← c.self.view_is) at c.requires.takes) c.len.ensures.count c.in-Some.ensures c.self.invariant c.take.ensures.taken c.take.ensures.me c.take.ensures.layout

pub invariant_of-self-in_default : goal.invariant_of-self-in_default
invariant_of-self-in_default c = absurd (never_bare c.self.inside.events c.push.new.self _ c.args.request c.len.result c.in-Ok.ensures.ok refl (rw (← c.self.view_is) at c.requires.room) c.number-number.ensures.lawful c.self.invariant.bytes c.len.ensures.count (rw c.in_default.is at c.get.ensures))
