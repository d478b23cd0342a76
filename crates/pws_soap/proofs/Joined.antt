-- Tests joined by 'and', and choices.
use Rattle.std.proofs.Common.{◌≡◌, Bool, true, false, ◌&&◌, refl, Option, Some, None}
use Rattle.std.specs.Prelude.{if◌then◌else◌}

pub first_true : (a b : Bool) → (a && b) ≡ true → a ≡ true
first_true true b h = refl
first_true false b h = h

pub second_true : (a b : Bool) → (a && b) ≡ true → b ≡ true
second_true true b h = h
second_true false b h = cc

pub both_true : (a b : Bool) → a ≡ true → b ≡ true → (a && b) ≡ true
both_true true b h g = g
both_true false b h g = h

pub not_true : (a : Bool) → a ≡ false → (a ≡ true → ⊥)
not_true a h g = cc

-- what is chosen was asked for
pub record IsChosen {A : Type 0} (b : Bool) (x y : A) : Type 0 where
  pub asked : b ≡ true
  pub is : x ≡ y

abbrev pub or_other : {A : Type 0} → A → Option A → A
or_other x None = x
or_other x (Some y) = y

pub chosen : {A : Type 0} (b : Bool) (x y : A) → (if b then Some x else None) ≡ Some y → IsChosen b x y
chosen {A} true x y h = record { asked = refl; is = let f : Option A → A = or_other x in λ i. f (h i) }
chosen {A} false x y h = let e : ◌≡◌ {A = Option A} None (Some y) = h in record { asked = cc; is = cc }
