use Rattle.std.proofs.Common.{◌≡◌, ◌∙◌, ap, sym, subst, ℕ, List}
use Rattle.std.specs.Prelude.{IfOk, slice_get}
use Rattle.pws_base.specs.declared.shapes.ReplicaId.{ReplicaId}
use Rattle.pws_protocol.specs.Support.{support_of}
use Rattle.pws_evidence.specs.Counted.{counted_among}
use Rattle.pws_evidence.proofs.Quorums.{vouchers_are}
use Rattle.pws_evidence.proofs.stores.Evidence.vouchers.Goals as goal

pub returns-in-Some : goal.returns-in-Some
returns-in-Some c =
    let e = c.args.self.now in
    let x = c.args.event.now in
    let there = sym (c.in-Some.ensures.value ∙ (ap (λ (l : List ℕ). slice_get l c.sayer_of.result) c.layout.ensures.value ∙ ap (slice_get e.layout) c.sayer_of.ensures)) in
    subst (λ (xs : List ReplicaId). IfOk c.counted_of.result (λ v. v.items ≡ xs))
    (ap (counted_among e (support_of e.group x)) c.n.ensures.value ∙ vouchers_are e x c.in-Some.shape there)
    c.counted_of.ensures
