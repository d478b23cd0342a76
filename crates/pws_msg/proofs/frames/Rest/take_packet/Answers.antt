use Rattle.std.proofs.Common.{◌≡◌, ◌<◌, ◌++◌, List, [], ℕ, length, take, arith, subst, refl, sym, ◌∙◌, ap}
use Rattle.std.proofs.lemmas.Grind.{common_steps}
use Rattle.pws_msg.specs.Frames.{IsRest}
use Rattle.pws_msg.proofs.Streams.{known_is, begun_packet, rest_of_begun, packet_more}
use Rattle.pws_msg.proofs.frames.Rest.take_packet.Goals as goal

pub returns-in_err-extend_from_slice-clause-rest : goal.returns-in_err-extend_from_slice-clause-rest
returns-in_err-extend_from_slice-clause-rest c = rw c.in_err-extend_from_slice.ensures.items (rest_of_begun _ _ _ c.self.invariant)

pub returns-then-len-self-clause-rest : goal.returns-then-len-self-clause-rest
returns-then-len-self-clause-rest c =
    let some = known_is _ _ _ _ c.self.invariant c.self.view_is c.requires.head in
    let k = c.self.invariant.known some in
    rest_of_begun _ _ _ (begun_packet c.self.inside.head.items c.self.inside.size c.extend_from_slice.new.self.items some k.0 k.1 (grind (arith, common_steps)))

pub returns-then-len-self-clause-step : goal.returns-then-len-self-clause-step
returns-then-len-self-clause-step c =
    let some = known_is _ _ _ _ c.self.invariant c.self.view_is c.requires.head in
    let k = c.self.invariant.known some in
    let m = packet_more c.self.inside.head.items c.self.inside.packet.items _ _ _ c.self.view_is c.in_ok-extend_from_slice.ensures.items in
    (m, subst IsRest m (rest_of_begun _ _ _ (begun_packet c.self.inside.head.items c.self.inside.size c.extend_from_slice.new.self.items some k.0 k.1 (grind (arith, common_steps)))))
