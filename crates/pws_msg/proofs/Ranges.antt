-- A field that was read is in its range.
use Rattle.std.proofs.Common.{◌≡◌, ℕ, ◌≤◌, ◌<◌, ◌&&◌, Bool, true, false, nat_le, if◌then◌else◌, List, length, Result, Ok, Err, refl, sym, ◌∙◌, ap, arith}
use Rattle.std.proofs.lemmas.Bool.Decides.{nat_tests}
use Rattle.pws_base.specs.declared.fields.FieldFault.{FieldFault}
use Rattle.pws_base.specs.declared.fields.FaultKind.TheVariants.{Range}
use Rattle.pws_base.specs.Fields.{Unread, ◌>>=◌, refused, bytes_field, u8_field, u32_field, u8_within, u32_within, group_field, index_field, number_field, view_field, digest_field}

-- what is answered where a test passes
pub test_passed : {A E : Type 0} (b : Bool) (x y : A) (e : E) → ◌≡◌ {A = Result A E} (if b then Ok x else Err e) (Ok y) → (b ≡ true) × (x ≡ y)
test_passed true x y e h = (refl, cc)
test_passed false x y e h = absurd (cc)

pub bind_ok : {A B : Type 0} (r : Result A FieldFault) (f : A → Result B FieldFault) (y : B) → (r >>= f) ≡ Ok y → (x : A) × (r ≡ Ok x) × (f x ≡ Ok y)
bind_ok (Ok x) f y h = (x, refl, h)
bind_ok (Err e) f y h = absurd (cc)

-- a test of both ends of a range
pub between : (low high n : ℕ) → (nat_le low n && nat_le n high) ≡ true → (low ≤ n) × (n ≤ high)
between low high n h = (grind (arith, nat_tests), grind (arith, nat_tests))

pub u8_range : (low high : ℕ) (u v : Unread) (n : ℕ) → u8_within low high u ≡ Ok (n, v) → (low ≤ n) × (n ≤ high)
u8_range low high u v n h =
    let (x, e, k) = bind_ok (u8_field u) (λ n. if nat_le low n.0 && nat_le n.0 high then Ok n else refused Range u) (n, v) h in
    let t = test_passed (nat_le low x.0 && nat_le x.0 high) x (n, v) _ k in
    let b = between low high x.0 t.0 in
    let m : x.0 ≡ n = ap (λ (p : ℕ × Unread). p.0) t.1 in
    (omega (arith, b, m), omega (arith, b, m))

pub u32_range : (low high : ℕ) (u v : Unread) (n : ℕ) → u32_within low high u ≡ Ok (n, v) → (low ≤ n) × (n ≤ high)
u32_range low high u v n h =
    let (x, e, k) = bind_ok (u32_field u) (λ n. if nat_le low n.0 && nat_le n.0 high then Ok n else refused Range u) (n, v) h in
    let t = test_passed (nat_le low x.0 && nat_le x.0 high) x (n, v) _ k in
    let b = between low high x.0 t.0 in
    let m : x.0 ≡ n = ap (λ (p : ℕ × Unread). p.0) t.1 in
    (omega (arith, b, m), omega (arith, b, m))
