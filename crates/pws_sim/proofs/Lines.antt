-- One more line of a report.
use Rattle.std.proofs.Common.{◌≡◌, ℕ, zero, suc, ◌+◌, List, [], ◌∷◌, ◌++◌, length, take, slice_get, flat_map, Option, Some, None, refl, sym, ◌∙◌, ap, arith, append-nil, append_assoc, add-one, nat_eq, false, ◌-◌}
use Rattle.std.proofs.lemmas.Bool.Decides.{nat_tests}
use Rattle.std.proofs.Math.Seq.{take-length}
use Rattle.std.specs.List.{enumerate_from}
use Rattle.std.specs.Option.{option_map, option_and_then}
use Rattle.pws_event.specs.Lists.{PlacedEvent, digest_at, event_at, at_place}
use Rattle.pws_sim.specs.Reports.{place_line, place_lines}

some_is : {X : Type 0} (x y : X) → Some x ≡ Some y → x ≡ y
some_is x y h = cc

pub listed : {A : Type 0} (f : ℕ → A → List ℕ) (xs : List A) (first i : ℕ) (x : A) → slice_get xs i ≡ Some x → flat_map (λ p. f p.0 p.1) (enumerate_from first (take (suc i) xs)) ≡ flat_map (λ p. f p.0 p.1) (enumerate_from first (take i xs)) ++ f (first + i) x
listed f [] first i x h = absurd (cc)
listed f (y ∷ xs) first zero x h =
    let e : first + 0 ≡ first = omega arith in
    rw e (append-nil (f first y) ∙ ap (f first) (some_is y x h))
listed f (y ∷ xs) first (suc i) x h =
    let e : first + suc i ≡ first + 1 + i = omega arith in
    rw e (ap (λ r. f first y ++ r) (listed f xs (first + 1) i x h) ∙ sym (append_assoc (f first y) (flat_map (λ p. f p.0 p.1) (enumerate_from (first + 1) (take i xs))) (f (first + 1 + i) x)))

digest_is : (o : Option PlacedEvent) (digest : List ℕ) → option_map (λ (p : PlacedEvent). p.digest) o ≡ Some digest → o ≡ Some (record { digest = digest; event = option_and_then (λ (p : PlacedEvent). p.event) o })
digest_is None digest h = absurd (cc)
digest_is (Some p) digest h = ap (λ (d : List ℕ). Some (let q : PlacedEvent = record { digest = d; event = p.event } in q)) (some_is p.digest digest h)

at_next : (places : List PlacedEvent) (i : ℕ) → at_place places (i + 1) ≡ slice_get places i
at_next places i =
    let z : nat_eq (i + 1) 0 ≡ false = grind (arith, nat_tests) in
    let k : i + 1 - 1 ≡ i = omega arith in
    rw (z, k) refl

pub lines_more : (places : List PlacedEvent) (i : ℕ) (digest : List ℕ) → digest_at places (i + 1) ≡ Some digest → place_lines (take (i + 1) places) ≡ place_lines (take i places) ++ place_line (i + 1) (record { digest = digest; event = event_at places (i + 1) })
lines_more places i digest h =
    let p : PlacedEvent = record { digest = digest; event = event_at places (i + 1) } in
    let e : slice_get places i ≡ Some p = sym (at_next places i) ∙ digest_is (at_place places (i + 1)) digest h in
    let n : 1 + i ≡ i + 1 = omega arith in
    ap (λ n. place_lines (take n places)) (add-one i) ∙ (listed place_line places 1 i p e ∙ ap (λ n. place_lines (take i places) ++ place_line n p) n)

pub whole_lines : (places : List PlacedEvent) (i : ℕ) → i ≡ length places → place_lines (take i places) ≡ place_lines places
whole_lines places i e = ap place_lines (rw e (take-length places))
