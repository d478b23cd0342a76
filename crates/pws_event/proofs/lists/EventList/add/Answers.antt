use Rattle.std.proofs.Common.{◌<◌, ◌≤◌, ◌+◌, ◌^◌, length}
use Rattle.std.proofs.lemmas.List.{length-map}
use Rattle.pws_event.proofs.Kept.{IsKept_add}
use Rattle.pws_event.proofs.lists.EventList.add.Goals as goal

pub invariant_of-self-2 : goal.invariant_of-self-2
invariant_of-self-2 c =
    let few : length c.self.inside.slots.items < 1000000 = simp length-map at (rw (← c.self.view_is) at c.requires.few) in
    let small : c.self.inside.bytes + c.args.size ≤ 2 ^ 30 = rw (c.self.invariant.sum) (rw (← c.self.view_is) at c.requires.small) in
    rw c.in_ok-push.ensures.items (IsKept_add c.self.inside.slots.items c.self.inside.bytes c.args.size c.args.slot c.self.invariant few c.requires.size small c.requires.digest (rw (← c.self.view_is) at c.requires.chain))
