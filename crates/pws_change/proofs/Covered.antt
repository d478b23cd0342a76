-- The law of the choice.
use Rattle.std.proofs.Common.{◌≡◌, ℕ, ◌+◌, ◌<◌, ◌≤◌, ◌⊎◌, inl, inr, ◌&&◌, not, nat_lt, nat_le, Bool, true, max, List, [], ◌∷◌, All, sym, ◌∙◌, ◌==◌, arith}
use Rattle.std.specs.List.{list_any, list_all, count_by, fold}
use Rattle.std.proofs.lemmas.Bool.{false≢true, and_parts, and_from, and_cases, not-true, not-false, or_cases, eq-eqb, ltb-true, eqb-true, leb-true, lt-ltb, le-leb}
use Rattle.std.proofs.lemmas.Slice.Eq.{bytes_eq-Decides}
use Rattle.pws_base.specs.Places.{is_in_window}
use Rattle.pws_base.specs.Shapes.{quorum_of, weak_of}
use Rattle.pws_msg.specs.declared.changes.PRow.{PRow}
use Rattle.pws_msg.specs.declared.changes.Choice.{Choice}
use Rattle.pws_change.specs.declared.heard.Heard.{Heard}
use Rattle.pws_change.specs.declared.decisions.Decision.TheVariants.{Chosen}
use Rattle.pws_change.specs.Changes.{is_low_by, has_entry, allows_entry, is_row_no_later, is_witness, has_no_entry, is_row_from, covers, lacks}
use Rattle.pws_change.specs.Choices.{MeetsA, IsChoice, prepared_rows, highest_place, last_of, chosen_at}
use Rattle.pws_change.specs.Laws.{EachQuorumCovers, CoveredIsKept, HardlyLackedIsKept}
use Rattle.pws_change.specs.Rising.{rises}
use Rattle.pws_change.specs.Valid.{IsValid, is_p_row_valid}
use Rattle.pws_change.proofs.Counted.{list_any-flat_map, any_more, any_differs, any_of_all, any_all, any_is}

-- what a row says that is from an entry on
pub row_from : (place : ℕ) (digest : List ℕ) (view : ℕ) (r : PRow) → is_row_from place digest view r ≡ true → (r.place ≡ place) × ((view < r.view) ⊎ ((r.view ≡ view) × (r.digest ≡ digest)))
row_from place digest view r h =
    let e = and_parts _ _ h in (
      eqb-true _ _ e.0,
      elim (or_cases _ _ e.1) [ inl g ↦ inl (ltb-true _ _ g) | inr g ↦ inr (eqb-true _ _ (and_parts _ _ g).0, (bytes_eq-Decides r.digest digest).0 (and_parts _ _ g).1) ],
    )

-- what a row at the place says that is no later than an entry
row_no_later : (place : ℕ) (digest : List ℕ) (view : ℕ) (r : PRow) → is_row_no_later place digest view r ≡ true → r.place ≡ place → (r.view < view) ⊎ ((r.view ≡ view) × (r.digest ≡ digest))
row_no_later place digest view r h e =
    elim (or_cases _ _ h) [
      | inl g ↦ absurd (false≢true (sym (not-true _ g) ∙ eq-eqb _ _ e))
      | inr g ↦ elim (or_cases _ _ g) [
        | inl k ↦ inl (ltb-true _ _ k)
        | inr k ↦ inr (eqb-true _ _ (and_parts _ _ k).0, (bytes_eq-Decides r.digest digest).0 (and_parts _ _ k).1)
      ]
    ]

orders : (v w u : ℕ) (d e g : List ℕ) → (u < w) ⊎ ((u ≡ w) × (g ≡ e)) → (v < u) ⊎ ((u ≡ v) × (g ≡ d)) → (e ≡ d) ⊎ (v < w)
orders v w u d e g (inl a) (inl b) = inr (omega arith)
orders v w u d e g (inl a) (inr b) = inr (omega (arith, b.0))
orders v w u d e g (inr a) (inl b) = inr (omega (arith, a.0))
orders v w u d e g (inr a) (inr b) = inl (sym a.1 ∙ b.1)

-- a change that allows an entry, and has another from its view on
compare : (place : ℕ) (d e : List ℕ) (v w : ℕ) (h : Heard) → allows_entry place e w h ≡ true → covers place d v h ≡ true → (e ≡ d) ⊎ (v < w)
compare place d e v w h a b =
    let r = any_all (is_row_no_later place e w) (is_row_from place d v) h.change.prepared (and_parts _ _ a).1 b in
    let c = row_from place d v r.0 r.2 in
    orders v w r.0.view d e r.0.digest (row_no_later place e w r.0 r.1 c.0) c.1

fold_max_above : (a : ℕ) (rows : List PRow) → a ≤ fold (λ n r. max n r.place) a rows
fold_max_above a [] = omega arith
fold_max_above a (r ∷ rows) = omega (arith, fold_max_above (max a r.place) rows)

fold_max_any : (p a : ℕ) (rows : List PRow) → list_any (λ r. nat_le p r.place) rows ≡ true → p ≤ fold (λ n r. max n r.place) a rows
fold_max_any p a [] h = absurd (false≢true h)
fold_max_any p a (r ∷ rows) h =
    let more : list_any (λ r. nat_le p r.place) rows ≡ true → p ≤ fold (λ n r. max n r.place) a (r ∷ rows) = λ g. fold_max_any p (max a r.place) rows g in
    elim (or_cases (nat_le p r.place) (list_any (λ r. nat_le p r.place) rows) h) [ inl g ↦ omega (arith, leb-true p r.place g, fold_max_above (max a r.place) rows) | inr g ↦ more g ]

-- a place that is named, or below one that is, is at or below the highest
below_highest : (place : ℕ) (changes : List Heard) → list_any (λ h. list_any (λ r. nat_le place r.place) h.change.prepared) changes ≡ true → place ≤ highest_place changes
below_highest place changes h = fold_max_any place 0 (prepared_rows changes) (list_any-flat_map (λ h. h.change.prepared) (λ r. nat_le place r.place) changes ∙ h)

covers_named : (place : ℕ) (d : List ℕ) (v : ℕ) (h : Heard) → covers place d v h ≡ true → list_any (λ r. nat_le place r.place) h.change.prepared ≡ true
covers_named place d v h e = any_more (is_row_from place d v) (λ r. nat_le place r.place) h.change.prepared (λ r k. (let c = (row_from place d v r k).0 in le-leb place r.place (omega arith))) e

-- a valid change that covers a place has it at most 32 above its low mark
covers_near : (place : ℕ) (d : List ℕ) (v : ℕ) (h : Heard) → IsValid h.change → covers place d v h ≡ true → place ≤ h.change.low + 32
covers_near place d v h valid e =
    let low = h.change.low in
    let view = h.change.view in
    let rows = (and_parts (list_all (is_p_row_valid low view) h.change.prepared) (rises (λ a b. nat_lt a.place b.place) h.change.prepared) valid.prepared).0 in
    let r = any_all (is_p_row_valid low view) (is_row_from place d v) h.change.prepared rows e in
    let above = (and_parts (is_in_window low r.0.place) (nat_lt r.0.view view) r.1).0 in
    let near = leb-true r.0.place (low + 32) (and_parts (nat_lt low r.0.place) (nat_le r.0.place (low + 32)) above).1 in
    let at = (row_from place d v r.0 r.2).0 in
    omega arith

module _ (f : ℕ) (changes : List Heard) (place : ℕ) (d : List ℕ) (v : ℕ) (each : EachQuorumCovers f changes place d v) where
  by_A : (e : List ℕ) (w : ℕ) → MeetsA f changes place e w → (e ≡ d) ⊎ ((w : ℕ) × (v < w) × (1 ≤ count_by (has_entry place e w) changes) × (weak_of f ≤ count_by (is_witness place e w) changes))
  by_A e w a =
      let r = any_is (λ h. allows_entry place e w h && covers place d v h) changes (each (allows_entry place e w) (λ h t. ltb-true _ _ (and_parts _ _ t).0) a.allowed) in
      let b = and_parts (allows_entry place e w r.0) (covers place d v r.0) r.1 in
      elim (compare place d e v w r.0 b.0 b.1) [ inl g ↦ inl g | inr g ↦ inr (w, g, a.named, a.witnessed) ]

  not_B : quorum_of f ≤ count_by (has_no_entry place) changes → ⊥
  not_B b =
      let r = any_is (λ h. has_no_entry place h && covers place d v h) changes (each (has_no_entry place) (λ h t. ltb-true _ _ (and_parts _ _ t).0) b) in
      let t = and_parts (has_no_entry place r.0) (covers place d v r.0) r.1 in
      let s = any_all (λ (q : PRow). not (q.place == place)) (is_row_from place d v) r.0.change.prepared (and_parts _ _ t.0).1 t.1 in
      false≢true (sym (not-true _ s.1) ∙ eq-eqb _ _ (row_from place d v s.0 s.2).0)

-- the covered place is a chosen one
within : (f : ℕ) (changes : List Heard) (c : Choice) (place : ℕ) (d : List ℕ) (v : ℕ) → All (λ h. IsValid h.change) changes → IsChoice f changes (Chosen c) → c.place < place → EachQuorumCovers f changes place d v → place ≤ last_of c
within f changes c place d v valid choice above each =
    let low : Heard → Bool = is_low_by c.place in
    let some = each low (λ h t. (let k = leb-true _ _ t in omega arith)) choice.start.may.reached in
    let r = any_of_all (λ (h : Heard). IsValid h.change) (λ h. low h && covers place d v h) changes valid some in
    let t = and_parts (low r.0) (covers place d v r.0) r.2 in
    let near = covers_near place d v r.0 r.1 t.1 in
    let by = leb-true _ _ t.0 in
    let top : place ≤ highest_place changes = below_highest place changes (any_more (λ h. low h && covers place d v h) (λ h. list_any (λ r. nat_le place r.place) h.change.prepared) changes (λ h k. covers_named place d v h (and_parts (low h) (covers place d v h) k).1) some) in
    let last = choice.last in
    omega arith

pub covered_is_kept : CoveredIsKept
covered_is_kept f changes c place d v valid choice above each =
    let inside = within f changes c place d v valid choice above each in (
      inside,
      elim (choice.chosen place above inside) [
        | inl g ↦ by_A f changes place d v each (chosen_at c place) g.0 g.1.meets
        | inr g ↦ absurd (not_B f changes place d v each g.1)
      ],
    )

covering : (place : ℕ) (d : List ℕ) (v : ℕ) (among : Heard → Bool) → ((h : Heard) → among h ≡ true → h.change.low < place) → (h : Heard) → among h && not (lacks place d v h) ≡ true → among h && covers place d v h ≡ true
covering place d v among low h e =
    let t = and_parts (among h) (not (lacks place d v h)) e in
    and_from (among h) (covers place d v h) t.0 (elim (and_cases (nat_lt h.change.low place) (not (covers place d v h)) (not-true _ t.1)) [
      | inl g ↦ absurd (false≢true (sym g ∙ lt-ltb _ _ (low h t.0)))
      | inr g ↦ not-false _ g
    ])

-- where fewer than a quorum lack an entry, each quorum covers it
pub quorums_cover : (f : ℕ) (changes : List Heard) (place : ℕ) (d : List ℕ) (v : ℕ) → count_by (lacks place d v) changes < quorum_of f → EachQuorumCovers f changes place d v
quorums_cover f changes place d v few among low many =
    any_more (λ h. among h && not (lacks place d v h)) (λ h. among h && covers place d v h) changes (covering place d v among low) (any_differs among (lacks place d v) changes (omega arith))

pub hardly_lacked_is_kept : HardlyLackedIsKept
hardly_lacked_is_kept f changes c place d v valid choice above few = covered_is_kept f changes c place d v valid choice above (quorums_cover f changes place d v few)
