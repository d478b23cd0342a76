-- A text without the white space round it has none round it.
use Rattle.std.proofs.Common.{◌≡◌, ℕ, zero, suc, ◌+◌, ◌-◌, Bool, true, false, cond, List, [], ◌∷◌, ◌++◌, length, take, drop, reverse, refl, ap, sym, ◌∙◌, arith, one-add}
use Rattle.std.specs.List.{prefix_len, suffix_len}
use Rattle.std.proofs.Math.Seq.{take-length}
use Rattle.std.proofs.lemmas.List.{take_at, take-append-drop, reverse-append, reverse-reverse, length-reverse, length-drop}
use Rattle.pws_mark.specs.Tokens.{is_white}
use Rattle.pws_soap.specs.White.{trim, trim_end}

drop_more : (n x : ℕ) (xs : List ℕ) → drop (1 + n) (x ∷ xs) ≡ drop n xs
drop_more n x xs = rw one-add refl

gone_either : (p : ℕ → Bool) (b : Bool) (x : ℕ) (xs : List ℕ) → prefix_len p (drop (prefix_len p xs) xs) ≡ 0 → p x ≡ b → prefix_len p (drop (cond b (1 + prefix_len p xs) 0) (x ∷ xs)) ≡ 0
gone_either p true x xs e h = ap (prefix_len p) (drop_more (prefix_len p xs) x xs) ∙ e
gone_either p false x xs e h = ap (λ b. cond b (1 + prefix_len p xs) 0) h

start_gone : (p : ℕ → Bool) (xs : List ℕ) → prefix_len p (drop (prefix_len p xs) xs) ≡ 0
start_gone p [] = refl
start_gone p (x ∷ xs) = gone_either p (p x) x xs (start_gone p xs) refl

stays : (b : Bool) (k : ℕ) → cond b (1 + k) 0 ≡ 0 → b ≡ false
stays true k e = absurd (omega (arith, e))
stays false k e = refl

start_of : (p : ℕ → Bool) (n : ℕ) (xs : List ℕ) → prefix_len p xs ≡ 0 → prefix_len p (take n xs) ≡ 0
start_of p zero xs e = refl
start_of p (suc n) [] e = refl
start_of p (suc n) (x ∷ xs) e = ap (λ b. cond b (1 + prefix_len p (take n xs)) 0) (stays (p x) (prefix_len p xs) e)

end_is : (p : ℕ → Bool) (u : List ℕ) → take (length u - suffix_len p u) u ≡ reverse (drop (suffix_len p u) (reverse u))
end_is p u =
    let k : ℕ = suffix_len p u in
    let r : List ℕ = reverse u in
    let whole : reverse (drop k r) ++ reverse (take k r) ≡ u = sym (reverse-append (take k r) (drop k r)) ∙ (ap reverse (take-append-drop k r) ∙ reverse-reverse u) in
    let long : length (reverse (drop k r)) ≡ length u - k = length-reverse (drop k r) ∙ (length-drop k r ∙ ap (λ n. n - k) (length-reverse u)) in
    ap (take (length u - k)) (sym whole) ∙ take_at (reverse (drop k r)) (reverse (take k r)) (length u - k) long

end_gone : (p : ℕ → Bool) (u : List ℕ) → suffix_len p (take (length u - suffix_len p u) u) ≡ 0
end_gone p u = ap (suffix_len p) (end_is p u) ∙ (ap (prefix_len p) (reverse-reverse (drop (suffix_len p u) (reverse u))) ∙ start_gone p (reverse u))

less_none : (n : ℕ) → n - 0 ≡ n
less_none n = omega arith

pub nothing_gone : (t : List ℕ) → prefix_len is_white t ≡ 0 → suffix_len is_white t ≡ 0 → trim t ≡ t
unfolding trim
nothing_gone t s e =
    ap (λ n. trim_end (drop n t)) s ∙ (ap (λ n. take (length t - n) t) e ∙ (ap (λ n. take n t) (less_none (length t)) ∙ take-length t))

pub trim_trim : (t : List ℕ) → trim (trim t) ≡ trim t
unfolding trim
trim_trim t =
    let u : List ℕ = drop (prefix_len is_white t) t in
    nothing_gone (trim t) (start_of is_white (length u - suffix_len is_white u) u (start_gone is_white t)) (end_gone is_white u)
