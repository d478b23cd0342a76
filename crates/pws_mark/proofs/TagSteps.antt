-- What a character in a tag doesn't show to be refused.
use Rattle.std.proofs.Common.{◌≡◌, ℕ, Bool, true, false, ◌==◌, if◌then◌else◌, List, [], Option, refl, ap}
use Rattle.std.proofs.lemmas.Bool.{eqb-true, eq-eqb}
use Rattle.pws_tree.specs.Characters.{is_name_start, is_name_char, name_start_ranges, name_more_ranges}
use Rattle.pws_mark.specs.Least.{lowered}
use Rattle.pws_mark.specs.Tokens.{is_white}
use Rattle.pws_mark.specs.declared.errors.MarkKind.{MarkKind}
use Rattle.pws_mark.specs.declared.errors.MarkError.{MarkError}

-- a character of a set that another isn't in
apart : (f : ℕ → Bool) (c d : ℕ) → f d ≡ false → f c ≡ true → (c == d) ≡ false
apart f c d other here = by (c == d) refl
  where
    by : (t : Bool) → (c == d) ≡ t → t ≡ false
    by false e = refl
    by true e = absurd (let same : c ≡ d = eqb-true c d e in let moved : f c ≡ f d = ap f same in cc)

-- nothing is found at it
quiet : (f : ℕ → Bool) (least : Option MarkError) (c : ℕ) (xs : List (MarkKind × ℕ)) → f 62 ≡ false → f c ≡ true → least ≡ lowered least (if c == 62 then xs else [])
unfolding lowered
quiet f least c xs other here = rw (apart f c 62 other here) refl

pub quiet_white : (least : Option MarkError) (c : ℕ) (xs : List (MarkKind × ℕ)) → is_white c ≡ true → least ≡ lowered least (if c == 62 then xs else [])
quiet_white least c xs here = quiet is_white least c xs refl here

pub quiet_start : (least : Option MarkError) (c : ℕ) (xs : List (MarkKind × ℕ)) → is_name_start c ≡ true → least ≡ lowered least (if c == 62 then xs else [])
unfolding name_start_ranges
quiet_start least c xs here = quiet is_name_start least c xs refl here

pub quiet_name : (least : Option MarkError) (c : ℕ) (xs : List (MarkKind × ℕ)) → is_name_char c ≡ true → least ≡ lowered least (if c == 62 then xs else [])
unfolding name_start_ranges name_more_ranges
quiet_name least c xs here = quiet is_name_char least c xs refl here

pub quiet_slash : (least : Option MarkError) (c : ℕ) (xs : List (MarkKind × ℕ)) → c ≡ 47 → least ≡ lowered least (if c == 62 then xs else [])
quiet_slash least c xs here = quiet (λ d. d == 47) least c xs refl (eq-eqb c 47 here)

pub quiet_colon : (least : Option MarkError) (c : ℕ) (xs : List (MarkKind × ℕ)) → c ≡ 58 → least ≡ lowered least (if c == 62 then xs else [])
quiet_colon least c xs here = quiet (λ d. d == 58) least c xs refl (eq-eqb c 58 here)

pub quiet_more : (least : Option MarkError) (more : Bool) (xs : List (MarkKind × ℕ)) → more ≡ true → least ≡ lowered least (if more then [] else xs)
unfolding lowered
quiet_more least more xs here = rw here refl
