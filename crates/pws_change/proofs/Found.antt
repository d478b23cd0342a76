-- The best checkpoint is the one that a view starts from, and the best row is the best entry that meets A.
use Rattle.std.proofs.Common.{◌≡◌, ℕ, ◌<◌, ◌&&◌, ◌||◌, ◌⊎◌, not, nat_le, Bool, true, ◌==◌, List, Option, Some, None, MatchOption, refl, sym, ◌∙◌, subst, inl, inr, arith}
use Rattle.std.specs.List.{list_any, list_all, count_by, flat_map}
use Rattle.std.specs.Str.{bytes_eq}
use Rattle.std.proofs.lemmas.Bool.{false≢true, and_parts, and_from, or_cases, not-true, eqb-true, leb-true, le-leb, eq-eqb}
use Rattle.std.proofs.lemmas.Slice.Eq.{bytes_eq-Decides}
use Rattle.pws_base.specs.Shapes.{quorum_of, weak_of}
use Rattle.pws_msg.specs.declared.changes.Checkpoint.{Checkpoint}
use Rattle.pws_msg.specs.declared.changes.PRow.{PRow}
use Rattle.pws_change.specs.declared.heard.Heard.{Heard}
use Rattle.pws_change.specs.Best.{is_no_better, may_start, rank_of_checkpoint, is_candidate, rank_of_row}
use Rattle.pws_change.specs.Searched.{IsBest, is_same_checkpoint, is_same_row}
use Rattle.pws_change.specs.Changes.{is_low_by, has_checkpoint, is_entry, has_entry, allows_entry, is_witness}
use Rattle.pws_change.specs.Choices.{MayStart, IsStart, HasNoStart, MeetsA, IsBestEntry, HasNoA, prepared_rows}
use Rattle.pws_change.specs.Rising.{is_digest_at_most}
use Rattle.pws_change.proofs.Best.{no_better_tells}
use Rattle.pws_change.proofs.Counted.{any_all, any_counted, counted_any, list_any-flat_map}

abbrev pub held_checkpoints : List Heard → List Checkpoint
held_checkpoints changes = flat_map (λ h. h.change.checkpoints) changes

abbrev is_at : ℕ → List ℕ → Checkpoint → Bool
is_at place digest c = c.place == place && bytes_eq c.digest digest

pub same_checkpoint : (c : Checkpoint) → is_same_checkpoint c c ≡ true
same_checkpoint c = and_from (c.place == c.place) (bytes_eq c.digest c.digest) (eq-eqb c.place c.place refl) ((bytes_eq-Decides c.digest c.digest).1 refl)

pub same_row : (r : PRow) → is_same_row r r ≡ true
same_row r =
    and_from (r.place == r.place) (r.view == r.view && bytes_eq r.digest r.digest) (eq-eqb r.place r.place refl)
    (and_from (r.view == r.view) (bytes_eq r.digest r.digest) (eq-eqb r.view r.view refl) ((bytes_eq-Decides r.digest r.digest).1 refl))

module _ (f : ℕ) (changes : List Heard) where
  may_from : (c : Checkpoint) → MayStart f changes c.place c.digest → may_start f changes c ≡ true
  may_from c m = and_from _ _ (le-leb (quorum_of f) (count_by (is_low_by c.place) changes) m.reached) (le-leb (weak_of f) (count_by (has_checkpoint c.place c.digest) changes) m.held)

  may_tells : (c : Checkpoint) → may_start f changes c ≡ true → MayStart f changes c.place c.digest
  may_tells c h =
      let t = and_parts (nat_le (quorum_of f) (count_by (is_low_by c.place) changes)) (nat_le (weak_of f) (count_by (has_checkpoint c.place c.digest) changes)) h in
      record { reached = leb-true (quorum_of f) (count_by (is_low_by c.place) changes) t.0; held = leb-true (weak_of f) (count_by (has_checkpoint c.place c.digest) changes) t.1 }

  -- a checkpoint that a view may start from is held, and what all held ones pass it passes
  held_passes : (q : Checkpoint → Bool) (place : ℕ) (digest : List ℕ) → MayStart f changes place digest → list_all q (held_checkpoints changes) ≡ true
      → (c : Checkpoint) × (q c ≡ true) × (c.place ≡ place) × (c.digest ≡ digest) × (may_start f changes c ≡ true)
  held_passes q place digest m all =
      let some : list_any (is_at place digest) (held_checkpoints changes) ≡ true = list_any-flat_map (λ h. h.change.checkpoints) (is_at place digest) changes ∙ any_counted (has_checkpoint place digest) changes (let k = m.held in omega arith) in
      let r = any_all q (is_at place digest) (held_checkpoints changes) all some in
      let t = and_parts (r.0.place == place) (bytes_eq r.0.digest digest) r.2 in
      let p = eqb-true r.0.place place t.0 in
      let d = (bytes_eq-Decides r.0.digest digest).0 t.1 in
      (r.0, r.1, p, d, may_from r.0 (subst (λ e. MayStart f changes r.0.place e) (sym d) (subst (λ n. MayStart f changes n digest) (sym p) m)))

  start_above : (b : Checkpoint) → list_all (λ c. not (may_start f changes c) || is_no_better (rank_of_checkpoint c) (rank_of_checkpoint b)) (held_checkpoints changes) ≡ true
      → (place : ℕ) (digest : List ℕ) → MayStart f changes place digest → (place < b.place) ⊎ ((place ≡ b.place) × (is_digest_at_most b.digest digest ≡ true))
  start_above b all place digest m =
      let r = held_passes (λ c. not (may_start f changes c) || is_no_better (rank_of_checkpoint c) (rank_of_checkpoint b)) place digest m all in
      elim (or_cases (not (may_start f changes r.0)) (is_no_better (rank_of_checkpoint r.0) (rank_of_checkpoint b)) r.1) [
        | inl g ↦ absurd (false≢true (sym (not-true (may_start f changes r.0) g) ∙ r.4))
        | inr g ↦ elim (no_better_tells (rank_of_checkpoint r.0) (rank_of_checkpoint b) g) [
          | inl l ↦ inl (omega (arith, r.2))
          | inr e ↦ inr (sym r.2 ∙ e.0, subst (λ d. is_digest_at_most b.digest d ≡ true) r.3 e.1)
        ]
      ]

  pub found_start : (best : Option Checkpoint) → IsBest (may_start f changes) rank_of_checkpoint is_same_checkpoint (held_checkpoints changes) best → MatchOption best (HasNoStart f changes) (λ c. IsStart f changes c.place c.digest)
  found_start None h = λ place digest m. (let r = held_passes (λ c. not (may_start f changes c)) place digest m h in false≢true (sym (not-true (may_start f changes r.0) r.1) ∙ r.4))
  found_start (Some b) h =
      record {
        may = may_tells b h.0;
        highest = λ place digest m. elim (start_above b h.2 place digest m) [ inl l ↦ omega arith | inr e ↦ omega (arith, e.0) ];
        least = λ digest m. elim (start_above b h.2 b.place digest m) [ inl l ↦ absurd (omega arith) | inr e ↦ e.1 ];
      }

  module _ (place : ℕ) where
    abbrev allowed : PRow → Bool
    allowed r = nat_le (quorum_of f) (count_by (allows_entry place r.digest r.view) changes)

    abbrev witnessed : PRow → Bool
    witnessed r = nat_le (weak_of f) (count_by (is_witness place r.digest r.view) changes)

    candidate_from : (r : PRow) → r.place ≡ place → MeetsA f changes place r.digest r.view → is_candidate f changes place r ≡ true
    candidate_from r e m =
        and_from (r.place == place) (allowed r && witnessed r) (eq-eqb r.place place e)
        (and_from (allowed r) (witnessed r) (le-leb (quorum_of f) (count_by (allows_entry place r.digest r.view) changes) m.allowed) (le-leb (weak_of f) (count_by (is_witness place r.digest r.view) changes) m.witnessed))

    candidate_meets : (r : PRow) → is_candidate f changes place r ≡ true → list_any (is_same_row r) (prepared_rows changes) ≡ true → MeetsA f changes place r.digest r.view
    candidate_meets r h among =
        let t = and_parts (r.place == place) (allowed r && witnessed r) h in
        let u = and_parts (allowed r) (witnessed r) t.1 in
        let p = eqb-true r.place place t.0 in
        record {
          named = counted_any (has_entry place r.digest r.view) changes (sym (list_any-flat_map (λ h. h.change.prepared) (is_entry place r.digest r.view) changes) ∙ subst (λ n. list_any (is_entry n r.digest r.view) (prepared_rows changes) ≡ true) p among);
          allowed = leb-true (quorum_of f) (count_by (allows_entry place r.digest r.view) changes) u.0;
          witnessed = leb-true (weak_of f) (count_by (is_witness place r.digest r.view) changes) u.1;
        }

    -- an entry that meets A is a row, and what all rows pass it passes
    row_passes : (q : PRow → Bool) (digest : List ℕ) (view : ℕ) → MeetsA f changes place digest view → list_all q (prepared_rows changes) ≡ true
        → (r : PRow) × (q r ≡ true) × (r.view ≡ view) × (r.digest ≡ digest) × (is_candidate f changes place r ≡ true)
    row_passes q digest view m all =
        let some : list_any (is_entry place digest view) (prepared_rows changes) ≡ true = list_any-flat_map (λ h. h.change.prepared) (is_entry place digest view) changes ∙ any_counted (has_entry place digest view) changes m.named in
        let r = any_all q (is_entry place digest view) (prepared_rows changes) all some in
        let t = and_parts (r.0.place == place) (r.0.view == view && bytes_eq r.0.digest digest) r.2 in
        let u = and_parts (r.0.view == view) (bytes_eq r.0.digest digest) t.1 in
        let v = eqb-true r.0.view view u.0 in
        let d = (bytes_eq-Decides r.0.digest digest).0 u.1 in
        (r.0, r.1, v, d, candidate_from r.0 (eqb-true r.0.place place t.0) (subst (λ e. MeetsA f changes place e r.0.view) (sym d) (subst (λ n. MeetsA f changes place digest n) (sym v) m)))

    entry_above : (b : PRow) → list_all (λ r. not (is_candidate f changes place r) || is_no_better (rank_of_row r) (rank_of_row b)) (prepared_rows changes) ≡ true
        → (digest : List ℕ) (view : ℕ) → MeetsA f changes place digest view → (view < b.view) ⊎ ((view ≡ b.view) × (is_digest_at_most b.digest digest ≡ true))
    entry_above b all digest view m =
        let r = row_passes (λ r. not (is_candidate f changes place r) || is_no_better (rank_of_row r) (rank_of_row b)) digest view m all in
        elim (or_cases (not (is_candidate f changes place r.0)) (is_no_better (rank_of_row r.0) (rank_of_row b)) r.1) [
          | inl g ↦ absurd (false≢true (sym (not-true (is_candidate f changes place r.0) g) ∙ r.4))
          | inr g ↦ elim (no_better_tells (rank_of_row r.0) (rank_of_row b) g) [
            | inl l ↦ inl (omega (arith, r.2))
            | inr e ↦ inr (sym r.2 ∙ e.0, subst (λ d. is_digest_at_most b.digest d ≡ true) r.3 e.1)
          ]
        ]

    pub found_entry : (best : Option PRow) → IsBest (is_candidate f changes place) rank_of_row is_same_row (prepared_rows changes) best → MatchOption best (HasNoA f changes place) (λ r. IsBestEntry f changes place r.digest r.view)
    found_entry None h = λ digest view m. (let r = row_passes (λ r. not (is_candidate f changes place r)) digest view m h in false≢true (sym (not-true (is_candidate f changes place r.0) r.1) ∙ r.4))
    found_entry (Some b) h =
        record {
          meets = candidate_meets b h.0 h.1;
          highest = λ digest view m. elim (entry_above b h.2 digest view m) [ inl l ↦ omega arith | inr e ↦ omega (arith, e.0) ];
          least = λ digest m. elim (entry_above b h.2 digest b.view m) [ inl l ↦ absurd (omega arith) | inr e ↦ e.1 ];
        }
