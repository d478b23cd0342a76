-- One more number of a layout is stored.
use Rattle.std.proofs.Common.{◌≡◌, ℕ, zero, suc, ◌+◌, ◌-◌, ◌<◌, ◌≤◌, List, ◌∷◌, [], ◌++◌, length, take, drop, replicate, get_or, sym, ◌∙◌, ap, arith}
use Rattle.std.proofs.Math.ListN.{set}
use Rattle.std.proofs.lemmas.List.{take_more_set, take_more, drop-set-lt, drop-replicate, drop-drop}

pub front_more : (xs shapes : List ℕ) (i y : ℕ) → i < length xs → i < length shapes → y ≡ get_or shapes i y → take i xs ≡ take i shapes → take (i + 1) (set xs i y) ≡ take (i + 1) shapes
front_more xs shapes i y h k e t =
    take_more_set xs i y h ∙ (ap (λ zs. zs ++ y ∷ []) t ∙ (ap (λ z. take i shapes ++ z ∷ []) e ∙ sym (take_more shapes i y k)))

pub rest_more : (xs : List ℕ) (i y n : ℕ) → drop i xs ≡ replicate (n - i) 0 → drop (i + 1) (set xs i y) ≡ replicate (n - (i + 1)) 0
rest_more xs i y n h =
    let less : n - i - 1 ≡ n - (i + 1) = omega arith in
    drop-set-lt (i + 1) xs i y (omega arith) ∙ (sym (drop-drop 1 i xs) ∙ (ap (drop 1) h ∙ (drop-replicate 1 (n - i) 0 ∙ ap (λ k. replicate k 0) less)))

pub small_more : (xs : List ℕ) (i y most : ℕ) → y ≤ most → ((k : ℕ) → get_or xs k 0 ≤ most) → (k : ℕ) → get_or (set xs i y) k 0 ≤ most
small_more [] i y most h s k = s k
small_more (x ∷ xs) zero y most h s zero = h
small_more (x ∷ xs) zero y most h s (suc k) = s (suc k)
small_more (x ∷ xs) (suc i) y most h s zero = s zero
small_more (x ∷ xs) (suc i) y most h s (suc k) = small_more xs i y most h (λ j. s (suc j)) k
