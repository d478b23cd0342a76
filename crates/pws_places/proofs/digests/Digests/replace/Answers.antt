use Rattle.std.proofs.Common.{is_some, Some, refl, ◌∙◌, sym, ap, subst}
use Rattle.std.specs.Cmp.Lexicographic.{nat_list_cmp_total}
use Rattle.std.specs.FinMap.{nat_cmp-IsAntisymmetric, slice_cmp-IsAntisymmetric, from_entries, get, insert}
use Rattle.std.specs.Option.{IsSome, option_copied_mut}
use Rattle.pws_places.specs.DigestMaps.{DigestMap}
use Rattle.pws_places.proofs.Answered.{is_other_row, is_same_row}
use Rattle.pws_places.proofs.TreeMaps.{get_is, inserted}
use Rattle.pws_places.proofs.digests.Digests.replace.Goals.{in-Some, in-None}
use Rattle.pws_places.proofs.digests.Digests.replace.Goals as goal

pub returns-clause-value : goal.returns-clause-value
returns-clause-value g c =
    let d = c.args.digest.now in
    let value = c.get_mut.ensures.value ∙ (sym (get_is nat_list_cmp_total c.self.inside.rows.entries d) ∙ ap (λ (m : DigestMap _). get m.rows d) c.self.view_is) in
    elim c.match-get_mut.branch [
      | in-Some w ↦ w.result-is ∙ (ap Some w.replace.ensures.value ∙ (sym (ap option_copied_mut w.in-Some.is) ∙ value))
      | in-None w ↦ w.result-is ∙ (sym (ap option_copied_mut w.in-None.is) ∙ value)
    ]

pub returns-clause-map : goal.returns-clause-map
returns-clause-map g c =
    let d = c.args.digest.now in
    let m = c.args.self.now in
    let most = c.self.inside.most in
    let es = c.self.inside.rows.entries in
    let value = c.get_mut.ensures.value ∙ (sym (get_is nat_list_cmp_total es d) ∙ ap (λ (m : DigestMap _). get m.rows d) c.self.view_is) in
    elim c.match-get_mut.branch [
      | in-Some w ↦
          let there = subst IsSome (sym (ap option_copied_mut w.in-Some.is) ∙ c.get_mut.ensures.value) refl in
          let put = inserted nat_list_cmp_total (slice_cmp-IsAntisymmetric nat_cmp-IsAntisymmetric) es (c.get_mut.follows.lender w.replace.new.dest).entries d w.replace.new.dest ((c.get_mut.follows.holds w.replace.new.dest).3 there).0 in
          ap (λ s. record { most = s.most; rows = from_entries s.rows.entries }) w.self-inside-is
          ∙ (ap (λ rows. record { most = most; rows = rows }) (put ∙ ap (insert (from_entries es) d) w.replace.ensures.after)
          ∙ (ap (λ (m : DigestMap _). record m { rows = insert m.rows d c.args.row }) c.self.view_is
          ∙ sym (is_other_row m d c.args.row (sym (ap is_some value) ∙ ap (λ o. is_some (option_copied_mut o)) w.in-Some.is))))
      | in-None w ↦
          ap (λ s. record { most = s.most; rows = from_entries s.rows.entries }) w.self-inside-is
          ∙ (ap (λ t. record { most = most; rows = from_entries t.entries }) c.get_mut.follows.holds-at-none
          ∙ (c.self.view_is ∙ sym (is_same_row m d c.args.row (sym (ap is_some value) ∙ ap (λ o. is_some (option_copied_mut o)) w.in-None.is))))
    ]
