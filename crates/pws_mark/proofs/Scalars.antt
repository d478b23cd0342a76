-- Characters of XML are scalars.
use Rattle.std.proofs.Common.{◌≡◌, ℕ, suc, ◌<◌, ◌≤◌, Bool, true, false, cond, ◌&&◌, ◌||◌, refl, ap, sym, arith, inl, inr, Some, None, Option}
use Rattle.std.specs.Prelude.{◌⊎◌, nat_le, if◌then◌else◌}
use Rattle.std.proofs.lemmas.Bool.{and_parts, le-leb, leb-true}
use lib.Utf8.{scalar, low_scalar, scalar_cases}
use Rattle.std.specs.Char.{OutOfScalarRange}
use Rattle.pws_mark.specs.Bindings.{char_at}
use Rattle.std.proofs.Math.Dec.{leb, ltb}
use Rattle.pws_tree.specs.Characters.{is_xml_char, xml_ranges}

high_scalar : (c : ℕ) → 57344 ≤ c → c < 1114112 → scalar c ≡ true
high_scalar c l h = by (ltb c 55296) (leb 57344 c) (ltb c 1114112) (le-leb 57344 c l) (le-leb (suc c) 1114112 (omega arith))
  where
    by : (s t u : Bool) → t ≡ true → u ≡ true → cond s true (t && u) ≡ true
    by true t u a b = refl
    by false t u a b = λ i. a i && b i

or_cases : (a b : Bool) → (a || b) ≡ true → (a ≡ true) ⊎ (b ≡ true)
or_cases true b h = inl refl
or_cases false b h = inr h

in_range : (lo hi c : ℕ) → (nat_le lo c && nat_le c hi) ≡ true → (lo ≤ c) × (c ≤ hi)
in_range lo hi c h = let p = and_parts _ _ h in (leb-true lo c p.0, leb-true c hi p.1)

pub xml_scalar : (c : ℕ) → is_xml_char c ≡ true → scalar c ≡ true
unfolding xml_ranges
xml_scalar c h = elim (or_cases _ _ h) [
  | inl a ↦ let r = in_range 9 10 c a in low_scalar c (omega (arith, r.1))
  | inr g ↦ elim (or_cases _ _ g) [
    | inl a ↦ let r = in_range 13 13 c a in low_scalar c (omega (arith, r.1))
    | inr g ↦ elim (or_cases _ _ g) [
      | inl a ↦ let r = in_range 32 55295 c a in low_scalar c (omega (arith, r.1))
      | inr g ↦ elim (or_cases _ _ g) [
        | inl a ↦ let r = in_range 57344 65533 c a in high_scalar c r.0 (omega (arith, r.1))
        | inr g ↦ elim (or_cases _ _ g) [
          | inl a ↦ let r = in_range 65536 1114111 c a in high_scalar c (omega (arith, r.0)) (omega (arith, r.1))
          | inr g ↦ absurd cc
        ]
      ]
    ]
  ]
]

-- a number that is no scalar is no character of XML
pub not_xml : (c : ℕ) → (scalar c ≡ true → ⊥) → is_xml_char c ≡ false
not_xml c h = by (is_xml_char c) (xml_scalar c)
  where
    by : (b : Bool) → (b ≡ true → scalar c ≡ true) → b ≡ false
    by true g = absurd (h (g refl))
    by false g = refl

pub out_of_range : (c : ℕ) → OutOfScalarRange c → scalar c ≡ true → ⊥
out_of_range c o s = elim o [
  | inl r ↦ elim (scalar_cases c s) [ inl a ↦ omega (arith, r.0, a) | inr b ↦ omega (arith, r.1, b.0) ]
  | inr r ↦ elim (scalar_cases c s) [ inl a ↦ omega (arith, r, a) | inr b ↦ omega (arith, r, b.1) ]
]

pub no_char : (c : ℕ) → OutOfScalarRange c → ◌≡◌ {A = Option ℕ} None (char_at c)
no_char c o = ap (λ b. if b then Some c else None) (sym (not_xml c (out_of_range c o)))
