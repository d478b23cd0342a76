-- The best of some items, after one more.
use Rattle.std.proofs.Common.{◌≡◌, ℕ, ◌+◌, ◌<◌, ◌≤◌, ◌&&◌, ◌||◌, ◌⊎◌, not, Bool, true, false, nat_lt, ◌==◌, List, [], ◌∷◌, ◌++◌, take, length, get_or, append_assoc, Option, Some, None, refl, sym, ◌∙◌, ap, subst, inl, inr, arith}
use Rattle.std.specs.List.{list_any, list_all, flat_map}
use Rattle.std.proofs.lemmas.Bool.{false≢true, and_parts, and_from, and_cases, or_cases, or_left, or_right, not-true, not-false, ltb-true, lt-ltb, eqb-true, eq-eqb, cases_Bool, cases_order}
use Rattle.std.proofs.lemmas.List.{take_more, take_all}
use Rattle.std.proofs.lemmas.List.Folds.{list_any-append, list_all-append}
use Rattle.pws_change.specs.Best.{Rank, is_no_better, is_better}
use Rattle.pws_change.specs.Searched.{IsBest}
use Rattle.pws_change.specs.Rising.{is_digest_at_most}
use Rattle.pws_change.proofs.Counted.{flat_map-take_more}
use Rattle.pws_change.proofs.Orders.{at_most_trans, at_most_other, at_most_itself}

-- what it is to be no better
pub no_better_tells : (x b : Rank) → is_no_better x b ≡ true → (x.0 < b.0) ⊎ ((x.0 ≡ b.0) × (is_digest_at_most b.1 x.1 ≡ true))
no_better_tells x b h =
    elim (or_cases (nat_lt x.0 b.0) (x.0 == b.0 && is_digest_at_most b.1 x.1) h) [
      | inl g ↦ inl (ltb-true x.0 b.0 g)
      | inr g ↦ (let t = and_parts (x.0 == b.0) (is_digest_at_most b.1 x.1) g in inr (eqb-true x.0 b.0 t.0, t.1))
    ]

no_better_from : (x b : Rank) → (x.0 < b.0) ⊎ ((x.0 ≡ b.0) × (is_digest_at_most b.1 x.1 ≡ true)) → is_no_better x b ≡ true
no_better_from x b (inl l) = or_left (nat_lt x.0 b.0) (x.0 == b.0 && is_digest_at_most b.1 x.1) (lt-ltb x.0 b.0 l)
no_better_from x b (inr e) = or_right (nat_lt x.0 b.0) (x.0 == b.0 && is_digest_at_most b.1 x.1) (and_from (x.0 == b.0) (is_digest_at_most b.1 x.1) (eq-eqb x.0 b.0 e.0) e.1)

itself : (x : Rank) → is_no_better x x ≡ true
itself x = no_better_from x x (inr (refl, at_most_itself x.1))

trans_cases : (x y z : Rank) → (x.0 < y.0) ⊎ ((x.0 ≡ y.0) × (is_digest_at_most y.1 x.1 ≡ true)) → (y.0 < z.0) ⊎ ((y.0 ≡ z.0) × (is_digest_at_most z.1 y.1 ≡ true)) → (x.0 < z.0) ⊎ ((x.0 ≡ z.0) × (is_digest_at_most z.1 x.1 ≡ true))
trans_cases x y z (inl a) (inl b) = inl (omega arith)
trans_cases x y z (inl a) (inr b) = inl (omega (arith, b.0))
trans_cases x y z (inr a) (inl b) = inl (omega (arith, a.0))
trans_cases x y z (inr a) (inr b) = inr (a.0 ∙ b.0, at_most_trans z.1 y.1 x.1 b.1 a.1)

no_better_trans : (x y z : Rank) → is_no_better x y ≡ true → is_no_better y z ≡ true → is_no_better x z ≡ true
no_better_trans x y z h k = no_better_from x z (trans_cases x y z (no_better_tells x y h) (no_better_tells y z k))

-- of two candidates one is no better than the other
other : (x b : Rank) → is_no_better x b ≡ false → is_no_better b x ≡ true
other x b h = no_better_from b x (elim (cases_order x.0 b.0) [
  | inl e ↦ inr (
    sym e,
    elim (cases_Bool (is_digest_at_most b.1 x.1)) [
      | inl t ↦ absurd (false≢true (sym h ∙ no_better_from x b (inr (e, t))))
      | inr t ↦ at_most_other b.1 x.1 t
    ],
  )
  | inr g ↦ elim g [
    | inl l ↦ absurd (false≢true (sym h ∙ no_better_from x b (inl l)))
    | inr l ↦ inl l
  ]
])

module _ {X : Type 0} (ok : X → Bool) (rank : X → Rank) (same : X → X → Bool) (mirror : (x : X) → same x x ≡ true) where
  abbrev within : X → X → Bool
  within b x = not (ok x) || is_no_better (rank x) (rank b)

  all_more : (p : X → Bool) (seen : List X) (x : X) → list_all p seen ≡ true → p x ≡ true → list_all p (seen ++ x ∷ []) ≡ true
  all_more p seen x h e = list_all-append p seen (x ∷ []) ∙ and_from (list_all p seen) (p x && true) h (and_from (p x) true e refl)

  any_more : (p : X → Bool) (seen : List X) (x : X) → list_any p seen ≡ true → list_any p (seen ++ x ∷ []) ≡ true
  any_more p seen x h = list_any-append p seen (x ∷ []) ∙ or_left (list_any p seen) (p x || false) h

  any_last : (p : X → Bool) (seen : List X) (x : X) → p x ≡ true → list_any p (seen ++ x ∷ []) ≡ true
  any_last p seen x h = list_any-append p seen (x ∷ []) ∙ or_right (list_any p seen) (p x || false) (or_left (p x) false h)

  all_step : (p q : X → Bool) (xs : List X) → ((x : X) → p x ≡ true → q x ≡ true) → list_all p xs ≡ true → list_all q xs ≡ true
  all_step p q [] f h = refl
  all_step p q (x ∷ xs) f h = let t = and_parts (p x) (list_all p xs) h in and_from (q x) (list_all q xs) (f x t.0) (all_step p q xs f t.1)

  -- the new item is the best
  pub best_takes : (seen : List X) (best : Option X) (x : X) → IsBest ok rank same seen best → is_better rank x best && ok x ≡ true → IsBest ok rank same (seen ++ x ∷ []) (Some x)
  best_takes seen None x h e = (
    e,
    any_last (same x) seen x (mirror x),
    all_more (within x) seen x (all_step (λ y. not (ok y)) (within x) seen (λ y k. or_left (not (ok y)) (is_no_better (rank y) (rank x)) k) h)
        (or_right (not (ok x)) (is_no_better (rank x) (rank x)) (itself (rank x))),
  )
  best_takes seen (Some b) x h e =
      let t = and_parts (not (is_no_better (rank x) (rank b))) (ok x) e in
      let worse = other (rank x) (rank b) (not-true (is_no_better (rank x) (rank b)) t.0) in (
        t.1,
        any_last (same x) seen x (mirror x),
        all_more (within x) seen x (all_step (within b) (within x) seen (λ y k. elim (or_cases (not (ok y)) (is_no_better (rank y) (rank b)) k) [
          | inl g ↦ or_left (not (ok y)) (is_no_better (rank y) (rank x)) g
          | inr g ↦ or_right (not (ok y)) (is_no_better (rank y) (rank x)) (no_better_trans (rank y) (rank b) (rank x) g worse)
        ]) h.2) (or_right (not (ok x)) (is_no_better (rank x) (rank x)) (itself (rank x))),
      )

  turned : (a : Bool) → a ≡ false → not a ≡ true
  turned true h = sym h
  turned false h = refl

  -- the best before stays
  pub best_keeps : (seen : List X) (best : Option X) (x : X) → IsBest ok rank same seen best → is_better rank x best && ok x ≡ false → IsBest ok rank same (seen ++ x ∷ []) best
  best_keeps seen None x h e = all_more (λ y. not (ok y)) seen x h (turned (ok x) e)
  best_keeps seen (Some b) x h e = (
    h.0,
    any_more (same b) seen x h.1,
    all_more (within b) seen x h.2 (elim (and_cases (not (is_no_better (rank x) (rank b))) (ok x) e) [
      | inl g ↦ or_right (not (ok x)) (is_no_better (rank x) (rank b)) (not-false (is_no_better (rank x) (rank b)) g)
      | inr g ↦ or_left (not (ok x)) (is_no_better (rank x) (rank b)) (turned (ok x) g)
    ]),
  )

  -- one item more of a list
  pub best_more : (seen xs : List X) (i : ℕ) (d : X) (best : Option X) → i < length xs → IsBest ok rank same ((seen ++ take i xs) ++ get_or xs i d ∷ []) best → IsBest ok rank same (seen ++ take (i + 1) xs) best
  best_more seen xs i d best l h = subst (λ ys. IsBest ok rank same ys best) (append_assoc seen (take i xs) (get_or xs i d ∷ []) ∙ ap (λ ys. seen ++ ys) (sym (take_more xs i d l))) h

  -- all items of a list
  pub best_all : (seen xs : List X) (i : ℕ) (best : Option X) → length xs ≤ i → IsBest ok rank same (seen ++ take i xs) best → IsBest ok rank same (seen ++ xs) best
  best_all seen xs i best l h = subst (λ ys. IsBest ok rank same (seen ++ ys) best) (take_all i xs l) h

  -- the items of one list more
  pub best_flat_more : {Y : Type 0} (f : Y → List X) (ys : List Y) (i : ℕ) (y : Y) (best : Option X) → i < length ys → y ≡ get_or ys i y → IsBest ok rank same (flat_map f (take i ys) ++ f y) best → IsBest ok rank same (flat_map f (take (i + 1) ys)) best
  best_flat_more f ys i y best l e h = subst (λ zs. IsBest ok rank same zs best) (flat_map-take_more f ys i y l e) h

  -- the items of all lists
  pub best_flat_all : {Y : Type 0} (f : Y → List X) (ys : List Y) (i : ℕ) (best : Option X) → length ys ≤ i → IsBest ok rank same (flat_map f (take i ys)) best → IsBest ok rank same (flat_map f ys) best
  best_flat_all f ys i best l h = subst (λ zs. IsBest ok rank same (flat_map f zs) best) (take_all i ys l) h
