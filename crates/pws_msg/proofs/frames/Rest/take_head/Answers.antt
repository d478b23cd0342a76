use Rattle.std.proofs.Common.{◌≡◌, ◌<◌, ◌++◌, List, [], ℕ, length, take, arith, inl, inr, subst, refl, sym, ◌∙◌, ap}
use Rattle.std.proofs.lemmas.List.{append-nil}
use Rattle.std.proofs.lemmas.Grind.{common_steps}
use Rattle.pws_msg.specs.Frames.{IsRest}
use Rattle.pws_msg.specs.Begun.{IsBegun}
use Rattle.pws_base.specs.Texts.{u32_text}
use Rattle.pws_msg.proofs.Streams.{head_more, unknown_is, begun_head, begun_packet, rest_of_begun}
use Rattle.pws_msg.proofs.frames.Rest.take_head.Goals as goal
use Rattle.pws_msg.proofs.frames.Rest.take_head.Goals.{then-size-eq0-via-then-size-eq0, then-size-eq0-via-else-size-eq0+then-size-gt-MAX_PACKET}

pub invariant_of-self-then-len-lt-FIELD : goal.invariant_of-self-then-len-lt-FIELD
invariant_of-self-then-len-lt-FIELD c =
    let k = unknown_is _ _ _ _ c.self.invariant c.self.view_is c.requires.head in
    begun_head _ _ _ k.0 k.1 (grind (arith, common_steps))

pub invariant_of-self-then-size-eq0 : goal.invariant_of-self-then-size-eq0
invariant_of-self-then-size-eq0 c =
    let k = unknown_is _ _ _ _ c.self.invariant c.self.view_is c.requires.head in
    begun_head _ _ _ k.0 k.1 (rw c.clear.ensures.items (omega arith))

pub invariant_of-self-in-Err : goal.invariant_of-self-in-Err
invariant_of-self-in-Err c =
    let k = unknown_is _ _ _ _ c.self.invariant c.self.view_is c.requires.head in
    begun_head _ _ _ k.0 k.1 (rw c.clear-in-Err.ensures.items (omega arith))

pub returns-then-len-lt-FIELD-clause-step : goal.returns-then-len-lt-FIELD-clause-step
returns-then-len-lt-FIELD-clause-step c =
    let m = head_more _ _ _ _ _ _ c.self.invariant c.self.view_is c.requires.head c.in_ok-extend_from_slice.ensures.items in
    (m.0, inl (rw m.1 (grind (arith, common_steps))))

pub returns-then-len-lt-FIELD-clause-rest : goal.returns-then-len-lt-FIELD-clause-rest
returns-then-len-lt-FIELD-clause-rest c =
    let k = unknown_is _ _ _ _ c.self.invariant c.self.view_is c.requires.head in
    rest_of_begun _ _ _ (begun_head c.extend_from_slice.new.self.items c.self.inside.size c.self.inside.packet.items k.0 k.1 (grind (arith, common_steps)))

pub returns-then-size-eq0-clause-step : goal.returns-then-size-eq0-clause-step
returns-then-size-eq0-clause-step c =
    let m = head_more _ _ _ _ _ _ c.self.invariant c.self.view_is c.requires.head c.in_ok-extend_from_slice.ensures.items in
    let s : c.extend_from_slice.new.self.items ≡ u32_text c.size_of-size.result = sym c.as_slice.ensures.value ∙ c.size_of-size.ensures.spelled in (
      c.size_of-size.result,
      record {
        field = c.size_of-size.ensures.small;
        outside = elim c.then-size-eq0.branch [
          | then-size-eq0-via-then-size-eq0 w ↦ inl (omega arith)
          | then-size-eq0-via-else-size-eq0+then-size-gt-MAX_PACKET w ↦ inr (omega arith)
        ];
      },
      m.1 ∙ s,
    )

pub returns-in-Ok-clause-step : goal.returns-in-Ok-clause-step
returns-in-Ok-clause-step c =
    let k = unknown_is _ _ _ _ c.self.invariant c.self.view_is c.requires.head in
    let m = head_more _ _ _ _ _ _ c.self.invariant c.self.view_is c.requires.head c.in_ok-extend_from_slice.ensures.items in
    let s : c.extend_from_slice.new.self.items ≡ u32_text c.size_of-size.result = sym c.as_slice.ensures.value ∙ c.size_of-size.ensures.spelled in
    let b = begun_packet c.extend_from_slice.new.self.items c.size_of-size.result [] (omega arith) (omega arith) s (omega arith) in
    (rw (c.in-Ok.ensures.items, append-nil, m.1) refl, subst IsRest (append-nil _ ∙ sym m.1) (rest_of_begun _ _ _ b))

pub returns-in-Ok-clause-rest : goal.returns-in-Ok-clause-rest
returns-in-Ok-clause-rest c =
    let s : c.extend_from_slice.new.self.items ≡ u32_text c.size_of-size.result = sym c.as_slice.ensures.value ∙ c.size_of-size.ensures.spelled in
    let b = begun_packet c.extend_from_slice.new.self.items c.size_of-size.result [] (omega arith) (omega arith) s (omega arith) in
    rw c.in-Ok.ensures.items (rest_of_begun _ _ _ b)
