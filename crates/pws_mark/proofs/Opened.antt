-- The open elements, as the reader keeps them.
use Rattle.std.proofs.Common.{◌≡◌, ℕ, ◌+◌, List, [], ◌∷◌, ◌++◌, length, fold, refl, ap, sym, ◌∙◌, arith, Some, None, Option, nat_eq}
use Rattle.std.specs.Prelude.{option_map, find}
use Rattle.std.specs.Str.{bytes_eq}
use Rattle.std.proofs.lemmas.List.Folds.{find-append}
use Rattle.std.proofs.lemmas.Bool.{ne_eqb}
use Rattle.std.specs.Option.{option_or}
use Rattle.pws_mark.specs.Bindings.{Bindings, space_at}
use Rattle.pws_mark.specs.States.{Open, is_empty}
use Rattle.pws_mark.specs.Scopes.{opened, opens_of}
use Rattle.pws_mark.specs.declared.scopes.OpenElement.{OpenElement}

length_fold : (acc : List Open) (xs : List OpenElement) → length (fold opened acc xs) ≡ length acc + length xs
length_fold acc [] = omega arith
length_fold acc (x ∷ xs) = omega (arith, length_fold (opened acc x) xs)

pub length_opens : (xs : List OpenElement) → length (opens_of xs) ≡ length xs
length_opens xs = omega (arith, length_fold [] xs)

pub opens_more : (acc : List Open) (xs : List OpenElement) (x : OpenElement) → fold opened acc (xs ++ x ∷ []) ≡ opened (fold opened acc xs) x
opens_more acc [] x = refl
opens_more acc (y ∷ ys) x = opens_more (opened acc y) ys x

empty_at : (xs : List Open) (n : ℕ) → length xs ≡ n → is_empty xs ≡ nat_eq n 0
empty_at [] n h = rw (sym h) refl
empty_at (x ∷ xs) n h = sym (ne_eqb n 0 (λ e. omega (arith, h, e)))

pub empty_opens : (xs : List OpenElement) → is_empty (opens_of xs) ≡ nat_eq (length xs) 0
empty_opens xs = empty_at (opens_of xs) (length xs) (length_opens xs)

-- where a prefix isn't declared here, what is around counts
pub space_around : (xs m : Bindings) (prefix : List ℕ) → space_at (xs ++ m) prefix ≡ option_or (space_at xs prefix) (space_at m prefix)
space_around xs m prefix = ap (option_map (λ b. b.1)) (find-append (λ b. bytes_eq b.0 prefix) xs m) ∙ by (find (λ b. bytes_eq b.0 prefix) xs) (find (λ b. bytes_eq b.0 prefix) m)
  where
    by : (a b : Option (List ℕ × Option (List ℕ))) → option_map (λ c. c.1) (option_or a b) ≡ option_or (option_map (λ c. c.1) a) (option_map (λ c. c.1) b)
    by None b = refl
    by (Some a) b = refl
