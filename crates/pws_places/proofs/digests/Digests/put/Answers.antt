use Rattle.std.proofs.Common.{◌≡◌, ◌<◌, length, is_some, ◌∙◌, sym, ap, arith}
use Rattle.std.specs.Cmp.Lexicographic.{nat_list_cmp_total}
use Rattle.std.specs.FinMap.{nat_cmp-IsAntisymmetric, slice_cmp-IsAntisymmetric, insert, len}
use Rattle.pws_places.specs.DigestMaps.{DigestMap, after_answer}
use Rattle.pws_places.proofs.Answered.{is_new, grown}
use Rattle.pws_places.proofs.TreeMaps.{count_is, inserted}
use Rattle.pws_places.proofs.digests.Digests.put.Goals as goal

pub invariant_of-self-2 : goal.invariant_of-self-2
invariant_of-self-2 g c =
    let es = c.self.inside.rows.entries in
    let n : c.count.result ≡ length es =
    c.count.ensures.value ∙ (sym (ap (λ (m : DigestMap _). len m.rows) c.self.view_is)
    ∙ count_is nat_list_cmp_total (slice_cmp-IsAntisymmetric nat_cmp-IsAntisymmetric) es c.insert.ensures.was_ordered) in
    let t = c.if-count-self.false in
    grown (is_some c.in_ok-_before._before) (length es) (length c.insert.new.self.entries) c.self.inside.most c.in_ok-_before.ensures.len (omega arith)

pub returns-clause-ok : goal.returns-clause-ok
returns-clause-ok g c =
    let m = c.args.self.now in
    let most : c.self.inside.most ≡ m.most = ap (λ (m : DigestMap _). m.most) c.self.view_is in
    let n = c.count.ensures.value in
    let t = c.if-count-self.false in
    let room : len m.rows < m.most = omega arith in
    ap (λ rows. record { most = c.self.inside.most; rows = rows }) (inserted nat_list_cmp_total (slice_cmp-IsAntisymmetric nat_cmp-IsAntisymmetric) c.self.inside.rows.entries c.insert.new.self.entries c.args.digest.now c.args.row c.in_ok-_before.ensures.updates.0)
    ∙ (ap (λ (m : DigestMap _). record m { rows = insert m.rows c.args.digest.now c.args.row }) c.self.view_is
    ∙ ap (λ a. after_answer a m c.args.digest.now c.args.row) (sym (is_new m c.args.digest.now (sym c.has.ensures ∙ c.if-has.false) room)))
