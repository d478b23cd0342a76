-- What P and Q hold after the slots of a view were noted.
use Rattle.std.proofs.Common.{◌≡◌, inl, inr, ℕ, ◌+◌, ◌≤◌, ◌&&◌, not, is_some, nat_le, Bool, true, false, cond, List, [], ◌∷◌, Option, Some, None, refl, sym, ◌∙◌, ap, subst, arith}
use Rattle.std.specs.Option.{unwrap_or}
use Rattle.std.specs.Ordering.{nat_cmp}
use Rattle.std.specs.Cmp.{nat_cmp_total}
use Rattle.std.specs.Cmp.Lexicographic.{slice_cmp}
use Rattle.std.specs.FinMap.{FinMap, empty, get, insert, len, contains_key, get-empty, len-empty, len-insert, nat_cmp-IsAntisymmetric}
use Rattle.std.proofs.lemmas.Bool.{true≢false, leb-false}
use Rattle.std.proofs.lemmas.Cmp.{nat_list_cmp_total}
use Rattle.pws_base.proofs.Maps.{put_cases}
use Rattle.pws_msg.specs.Rows.{IsDigest}
use Rattle.pws_change.specs.Sets.{Prepared, PrePrepared, Digests, row_at, is_full, with_prepared, with_pre_prepared}
use Rattle.pws_protocol.specs.States.{Slot}
use Rattle.pws_protocol.specs.Doing.{note_p, note_q, noted_p, noted_q}
use Rattle.pws_voter_laws.proofs.Fields.{exact_digests}
use Rattle.pws_voter_laws.proofs.Parts.{IsPlace}

module _ (low view : ℕ) where
  -- the slots of the view
  abbrev AreSlots : FinMap nat_cmp Slot → Type 0
  AreSlots slots = (p : ℕ) (t : Slot) → get slots p ≡ Some t → IsPlace low p × IsDigest t.digest

  abbrev IsP : Prepared → Type 0
  IsP m = (p : ℕ) (d : List ℕ) (v : ℕ) → get m p ≡ Some (d, v) → IsPlace low p × (v ≤ view) × IsDigest d

  abbrev IsRow : Digests → Type 0
  IsRow row = (1 ≤ len row) × (len row ≤ 16) × ((d : List ℕ) (v : ℕ) → get row d ≡ Some v → (v ≤ view) × IsDigest d)

  abbrev IsQ : PrePrepared → Type 0
  IsQ m = (p : ℕ) (row : Digests) → get m p ≡ Some row → IsPlace low p × (1 ≤ len row) × (len row ≤ 16) × ((d : List ℕ) (v : ℕ) → get row d ≡ Some v → (v ≤ view) × IsDigest d)

  put_p : (p : ℕ) (digest : List ℕ) (m : Prepared) → IsPlace low p → IsDigest digest → IsP m → IsP (with_prepared m p digest view)
  put_p p digest m i n h q d v k = elim (put_cases nat_cmp_total nat_cmp-IsAntisymmetric m p q (digest, view) (d, v) k) [
    | inl x ↦ (
        let a : digest ≡ d = ap (λ (y : List ℕ × ℕ). y.0) x.1 in
        let b : view ≡ v = ap (λ (y : List ℕ × ℕ). y.1) x.1 in
        (subst (IsPlace low) (sym x.0) i, omega (arith, b), subst IsDigest a n))
    | inr x ↦ h q d v x
  ]

  one_p : (slots : FinMap nat_cmp Slot) → AreSlots slots → (p : ℕ) (m : Prepared) (o : Option Slot) → get slots p ≡ o → IsP m → IsP (note_p view p o m)
  one_p slots a p m None e h = h
  one_p slots a p m (Some t) e h = by t.is_prepared
    where
      by : (b : Bool) → IsP (cond b (with_prepared m p t.digest view) m)
      by true = put_p p t.digest m (a p t e).0 (a p t e).1 h
      by false = h

  pub p_fits : (slots : FinMap nat_cmp Slot) → AreSlots slots → (places : List ℕ) (m : Prepared) → IsP m → IsP (noted_p view slots places m)
  unfolding noted_p
  p_fits slots a [] m h = h
  p_fits slots a (p ∷ ps) m h = p_fits slots a ps (note_p view p (get slots p) m) (one_p slots a p m (get slots p) refl h)

  grows : (n : ℕ) (b : Bool) → nat_le 16 n && not b ≡ false → (b ≡ true → 1 ≤ n) → n ≤ 16 → (1 ≤ cond b n (n + 1)) × (cond b n (n + 1) ≤ 16)
  grows n true h some few = (some refl, few)
  grows n false h some few = (omega arith, less (nat_le 16 n) refl h)
    where
      less : (c : Bool) → nat_le 16 n ≡ c → c && true ≡ false → n + 1 ≤ 16
      less true e k = absurd (true≢false k)
      less false e k = let l = leb-false 16 n e in omega (arith, l)

  module _ (m : PrePrepared) (fine : IsQ m) where
    row_few : (p : ℕ) (o : Option Digests) → get m p ≡ o → len (unwrap_or o empty) ≤ 16
    row_few p None e = let z = len-empty (slice_cmp nat_cmp) ℕ in omega (arith, z)
    row_few p (Some row) e = (fine p row e).2

    row_some : (p : ℕ) (d : List ℕ) (o : Option Digests) → get m p ≡ o → is_some (get (unwrap_or o empty) d) ≡ true → 1 ≤ len (unwrap_or o empty)
    row_some p d None e h = absurd (true≢false (sym h ∙ ap is_some (get-empty (slice_cmp nat_cmp) d)))
    row_some p d (Some row) e h = (fine p row e).1

    row_old : (p : ℕ) (d : List ℕ) (v : ℕ) (o : Option Digests) → get m p ≡ o → get (unwrap_or o empty) d ≡ Some v → (v ≤ view) × IsDigest d
    row_old p d v None e h = absurd (let i : ◌≡◌ {A = Option ℕ} None (Some v) = sym (get-empty (slice_cmp nat_cmp) d) ∙ h in cc)
    row_old p d v (Some row) e h = (fine p row e).3 d v h

    new_row : (p : ℕ) (d : List ℕ) → IsDigest d → is_full m p d ≡ false → IsRow (insert (row_at m p) d view)
    new_row p d n room =
        let size = grows (len (row_at m p)) (contains_key (row_at m p) d) room (row_some p d (get m p) refl) (row_few p (get m p) refl) in
        let is = len-insert nat_list_cmp_total (row_at m p) d view in (
          subst (λ n. 1 ≤ n) (sym is) size.0,
          subst (λ n. n ≤ 16) (sym is) size.1,
          λ e v k. elim (put_cases nat_list_cmp_total exact_digests (row_at m p) d e view v k) [
            | inl y ↦ (let z = y.1 in (omega (arith, z), subst IsDigest (sym y.0) n))
            | inr y ↦ row_old p e v (get m p) refl y
          ],
        )

    put_q : (p : ℕ) (d : List ℕ) → IsPlace low p → IsDigest d → is_full m p d ≡ false → IsQ (with_pre_prepared m p d view)
    put_q p d i n room q row h = elim (put_cases nat_cmp_total nat_cmp-IsAntisymmetric m p q (insert (row_at m p) d view) row h) [
      | inl x ↦ (let r = subst IsRow x.1 (new_row p d n room) in (subst (IsPlace low) (sym x.0) i, r.0, r.1, r.2))
      | inr x ↦ fine q row x
    ]

    one_q : (slots : FinMap nat_cmp Slot) → AreSlots slots → (p : ℕ) (o : Option Slot) → get slots p ≡ o → IsQ (note_q view p o m)
    one_q slots a p None e = fine
    one_q slots a p (Some t) e = by (is_full m p t.digest) refl
      where
        by : (b : Bool) → is_full m p t.digest ≡ b → IsQ (cond b m (with_pre_prepared m p t.digest view))
        by true q = fine
        by false q = put_q p t.digest (a p t e).0 (a p t e).1 q

  pub q_fits : (slots : FinMap nat_cmp Slot) → AreSlots slots → (places : List ℕ) (m : PrePrepared) → IsQ m → IsQ (noted_q view slots places m)
  unfolding noted_q
  q_fits slots a [] m h = h
  q_fits slots a (p ∷ ps) m h = q_fits slots a ps (note_q view p (get slots p) m) (one_q m h slots a p (get slots p) refl)
