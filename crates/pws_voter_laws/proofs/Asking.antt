-- What fits before a text is asked for fits after it.
use Rattle.std.proofs.Common.{inl, inr, ℕ, List, sym, ◌∙◌, subst}
use Rattle.std.specs.Ordering.{nat_cmp, eq_by_cmp}
use Rattle.std.specs.Cmp.Lexicographic.{slice_cmp}
use Rattle.std.specs.FinSet.{contains-insert}
use Rattle.std.specs.FinSet as set
use Rattle.std.proofs.lemmas.Bool.{or_cases}
use Rattle.std.proofs.lemmas.Cmp.{nat_list_cmp_total}
use Rattle.std.proofs.lemmas.Map.Views.{tells_apart}
use Rattle.pws_msg.specs.Rows.{IsDigest}
use Rattle.pws_protocol.specs.States.{State}
use Rattle.pws_protocol.specs.Doing.{did_need}
use Rattle.pws_voter_laws.proofs.Fields.{exact_digests, needed_fits}
use Rattle.pws_voter_laws.proofs.Parts.{Whole}

pub need_fits : (s : State) (d : List ℕ) → IsDigest d → Whole s → Whole (did_need s d).state
unfolding did_need
need_fits s d long f = needed_fits s f (set.insert s.needed d) (λ q h.
    elim (or_cases (eq_by_cmp (slice_cmp nat_cmp) q d) (set.contains s.needed q) (sym (contains-insert nat_list_cmp_total s.needed d q) ∙ h)) [
      | inl e ↦ subst IsDigest (sym (tells_apart exact_digests q d e)) long
      | inr e ↦ f.needed q e
    ])
