-- The order of digests.
use Rattle.std.proofs.Common.{◌≡◌, ℕ, not, true, false, List, refl, ◌∙◌, ap}
use Rattle.std.specs.Ordering.{nat_cmp, is_lt, is_le, is_gt, ordering_reverse}
use Rattle.std.specs.declared.cmp.Ordering.{Ordering}
use Rattle.std.specs.declared.cmp.Ordering.TheVariants.{Less, Equal, Greater}
use Rattle.std.specs.Cmp.Lexicographic.{slice_cmp}
use Rattle.std.proofs.lemmas.Bool.{false≢true}
use Rattle.std.proofs.lemmas.Cmp.{nat_list_cmp_total, upto, tied_itself}
use Rattle.std.proofs.lemmas.Map.Lookups.{exact_bytes}
use Rattle.pws_change.specs.Rising.{is_digest_at_most, is_digest_below}

both_le : (r s : Ordering) → r ≡ ordering_reverse s → is_le r ≡ true → is_le s ≡ true → r ≡ Equal
both_le Equal s e h k = refl
both_le Less Less e h k = absurd (cc)
both_le Less Equal e h k = absurd (cc)
both_le Less Greater e h k = absurd (false≢true k)
both_le Greater s e h k = absurd (false≢true h)

-- digests that are at most one another are one
pub at_most_both : (a b : List ℕ) → is_digest_at_most a b ≡ true → is_digest_at_most b a ≡ true → a ≡ b
at_most_both a b h k = exact_bytes a b (both_le _ _ (nat_list_cmp_total.antisymm a b) h k)

le_not_gt : (r : Ordering) → is_le r ≡ not (is_gt r)
le_not_gt Less = refl
le_not_gt Equal = refl
le_not_gt Greater = refl

not_gt : (r : Ordering) → is_le r ≡ true → is_gt r ≡ false
not_gt Less h = refl
not_gt Equal h = refl
not_gt Greater h = absurd (false≢true h)

pub at_most_trans : (a b c : List ℕ) → is_digest_at_most a b ≡ true → is_digest_at_most b c ≡ true → is_digest_at_most a c ≡ true
at_most_trans a b c h k = le_not_gt (slice_cmp nat_cmp a c) ∙ ap not (upto nat_list_cmp_total a b c (not_gt _ h) (not_gt _ k))

other_le : (r s : Ordering) → r ≡ ordering_reverse s → is_le r ≡ false → is_le s ≡ true
other_le Less s e h = absurd (cc)
other_le Equal s e h = absurd (cc)
other_le Greater Less e h = refl
other_le Greater Equal e h = refl
other_le Greater Greater e h = absurd (cc)

-- of two digests one is at most the other
pub at_most_other : (a b : List ℕ) → is_digest_at_most a b ≡ false → is_digest_at_most b a ≡ true
at_most_other a b h = other_le _ _ (nat_list_cmp_total.antisymm a b) h

-- a digest is at most itself
pub at_most_itself : (a : List ℕ) → is_digest_at_most a a ≡ true
at_most_itself a = ap is_le (tied_itself nat_list_cmp_total a)

lt_less : (r : Ordering) → is_lt r ≡ true → r ≡ Less
lt_less Less h = refl
lt_less Equal h = absurd (false≢true h)
lt_less Greater h = absurd (false≢true h)

pub below_trans : (a b c : List ℕ) → is_digest_below a b ≡ true → is_digest_below b c ≡ true → is_digest_below a c ≡ true
below_trans a b c h k = ap is_lt (nat_list_cmp_total.trans a b c (lt_less _ h) (lt_less _ k))
