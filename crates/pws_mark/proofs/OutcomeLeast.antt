-- The least of all that refuses a text is what the reader keeps.
use Rattle.std.proofs.Common.{◌≡◌, ◌⊎◌, inl, inr, ℕ, ◌<◌, ◌≤◌, Bool, true, false, ◌&&◌, ◌||◌, List, [], ◌∷◌, refl, ap, subst, sym, ◌∙◌, arith, Some}
use Rattle.std.specs.Prelude.{◌==◌, nat_lt, if◌then◌else◌, fold, Contains}
use Rattle.std.proofs.lemmas.Bool.Decides.{nat_tests}
use Rattle.std.proofs.lemmas.List.Elements.{Contains-append_cases, Contains-append_right}
use Rattle.pws_mark.specs.Causes.{rank}
use Rattle.pws_mark.specs.Least.{error_of, comes_before, lower, lowered}
use Rattle.pws_mark.specs.Outcome.{LeastTells}
use Rattle.pws_mark.specs.declared.errors.MarkError.{MarkError}
use Rattle.pws_mark.specs.declared.errors.MarkKind.{MarkKind}

Before : MarkError → MarkKind → ℕ → Type 0
Before e k at = (e.at < at) ⊎ ((e.at ≡ at) × (rank e.kind ≤ rank k))

before_test : (a b x y : ℕ) → (nat_lt a b || (a == b && nat_lt x y)) ≡ true → (a < b) ⊎ ((a ≡ b) × (x ≤ y))
before_test a b x y h = grind (arith, nat_tests)

not_before_test : (a b x y : ℕ) → (nat_lt a b || (a == b && nat_lt x y)) ≡ false → (b < a) ⊎ ((b ≡ a) × (y ≤ x))
not_before_test a b x y h = grind (arith, nat_tests)

then_before : (e f : MarkError) (k : MarkKind) (at : ℕ) → Before e f.kind f.at → Before f k at → Before e k at
unfolding Before
then_before e f k at (inl a) (inl b) = inl (omega arith)
then_before e f k at (inl a) (inr b) = inl (omega (arith, b.0))
then_before e f k at (inr a) (inl b) = inl (omega (arith, a.0))
then_before e f k at (inr a) (inr b) = inr (omega (arith, a.0, b.0), omega (arith, a.1, b.1))

-- what is kept of these, where this was kept before
record Keeps (old : MarkError) (finds : List (MarkKind × ℕ)) (e : MarkError) : Type 0 where
  among : (e ≡ old) ⊎ Contains finds (e.kind, e.at)
  first : Before e old.kind old.at
  least : (k : MarkKind) (at : ℕ) → Contains finds (k, at) → Before e k at

keeps_more : (old new e : MarkError) (f : MarkKind × ℕ) (finds : List (MarkKind × ℕ)) → (new ≡ old) ⊎ (new ≡ error_of f) → Before new old.kind old.at → Before new f.0 f.1 → Keeps new finds e → Keeps old (f ∷ finds) e
unfolding Before
keeps_more old new e f finds is one two more = record {
  among = by more.among is;
  first = then_before e new old.kind old.at more.first one;
  least = λ k at h. cases k at (Contains-append_cases (f ∷ []) finds (k, at) h);
}
  where
    from : (new ≡ old) ⊎ (new ≡ error_of f) → e ≡ new → (e ≡ old) ⊎ Contains (f ∷ finds) (e.kind, e.at)
    from (inl a) same = inl (same ∙ a)
    from (inr a) same = inr (0, omega arith, let g : e ≡ error_of f = same ∙ a in sym (ap (λ (z : MarkError). (z.kind, z.at)) g))

    by : (e ≡ new) ⊎ Contains finds (e.kind, e.at) → (new ≡ old) ⊎ (new ≡ error_of f) → (e ≡ old) ⊎ Contains (f ∷ finds) (e.kind, e.at)
    by (inl same) new_is = from new_is same
    by (inr h) new_is = inr (Contains-append_right (f ∷ []) finds (e.kind, e.at) h)

    only : (g : MarkKind × ℕ) → Contains (f ∷ []) g → f ≡ g
    only g h = let z : h.0 ≡ 0 = omega (arith, h.1) in subst (λ n. Rattle.std.specs.Prelude.get_or (f ∷ []) n g ≡ g) z h.2

    cases : (k : MarkKind) (at : ℕ) → Contains (f ∷ []) (k, at) ⊎ Contains finds (k, at) → Before e k at
    cases k at (inl h) = subst (λ (g : MarkKind × ℕ). Before e g.0 g.1) (only (k, at) h) (then_before e new f.0 f.1 more.first two)
    cases k at (inr h) = more.least k at h

keeps : (finds : List (MarkKind × ℕ)) (old e : MarkError) → fold lower (Some old) finds ≡ Some e → Keeps old finds e
unfolding Before
keeps [] old e h = let same : e ≡ old = cc in record {
  among = inl same;
  first = inr (ap (λ z. z.at) same, omega (arith, ap (λ z. rank z.kind) same));
  least = λ k at w. absurd (omega (arith, w.1));
}
keeps (f ∷ finds) old e h = by (comes_before f old) (before_test f.1 old.at (rank f.0) (rank old.kind)) (not_before_test f.1 old.at (rank f.0) (rank old.kind)) (λ (new : MarkError). keeps finds new e) h
  where
    by : (b : Bool) → (b ≡ true → Before (error_of f) old.kind old.at) → (b ≡ false → Before old f.0 f.1) → ((new : MarkError) → fold lower (Some new) finds ≡ Some e → Keeps new finds e) → fold lower (if b then Some (error_of f) else Some old) finds ≡ Some e → Keeps old (f ∷ finds) e
    by true is isnt again g = keeps_more old (error_of f) e f finds (inr refl) (is refl) (inr (refl, omega arith)) (again (error_of f) g)
    by false is isnt again g = keeps_more old old e f finds (inl refl) (inr (refl, omega arith)) (isnt refl) (again old g)

pub least_tells : LeastTells
unfolding lowered Before
least_tells bytes [] e causes h = absurd cc
least_tells bytes (f ∷ finds) e causes h =
    let k = keeps finds (error_of f) e h in
    record { cause = (causes e.kind e.at).1 (by k.among); least = λ kind at c. cases kind at k (Contains-append_cases (f ∷ []) finds (kind, at) ((causes kind at).0 c)) }
  where
    by : (e ≡ error_of f) ⊎ Contains finds (e.kind, e.at) → Contains (f ∷ finds) (e.kind, e.at)
    by (inl same) = (0, omega arith, sym (ap (λ (z : MarkError). (z.kind, z.at)) same))
    by (inr w) = Contains-append_right (f ∷ []) finds (e.kind, e.at) w

    only : (g : MarkKind × ℕ) → Contains (f ∷ []) g → f ≡ g
    only g w = let z : w.0 ≡ 0 = omega (arith, w.1) in subst (λ n. Rattle.std.specs.Prelude.get_or (f ∷ []) n g ≡ g) z w.2

    cases : (kind : MarkKind) (at : ℕ) → Keeps (error_of f) finds e → Contains (f ∷ []) (kind, at) ⊎ Contains finds (kind, at) → Before e kind at
    cases kind at k (inl w) = subst (λ (g : MarkKind × ℕ). Before e g.0 g.1) (only (kind, at) w) k.first
    cases kind at k (inr w) = k.least kind at w
