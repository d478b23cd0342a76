-- Reading has an answer for each text: the reader stops somewhere, or comes to the end.
use Rattle.std.proofs.Common.{◌≡◌, ◌⊎◌, inl, inr, ℕ, zero, suc, ◌+◌, ◌<◌, ◌≤◌, Bool, true, false, nat_le, List, [], ◌∷◌, ◌++◌, length, take, refl, ap, sym, ◌∙◌, subst, arith, Option, Some, None, append_assoc}
use Rattle.std.specs.Prelude.{Ok, Err, chars, encode_utf8_all}
use Rattle.std.specs.Str.{IsUtf8, IsValidUpTo, all_scalars, is_utf8}
use Rattle.std.proofs.lemmas.Bool.Decides.{nat_tests}
use Rattle.std.proofs.lemmas.List.{take_all}
use Rattle.std.proofs.lemmas.Str.{encodes-chars, scalars-chars, is_utf8-from_IsUtf8, IsUtf8-from_is_utf8, IsUtf8-nil}
use Rattle.pws_tree.specs.Trees.{Tree}
use Rattle.pws_mark.specs.Least.{error_of, comes_before, lower, lowered}
use Rattle.pws_mark.specs.Outcome.{found, stop_finds, StopsAt, AreCauses}
use Rattle.pws_mark.specs.Reading.{Reads}
use Rattle.pws_mark.specs.Scan.{step, run, then_run, start, is_whole}
use Rattle.pws_mark.specs.Scanning.{Scanned}
use Rattle.pws_mark.specs.States.{State}
use Rattle.pws_mark.specs.Stopping.{beyond_ascii, shared_by}
use Rattle.pws_mark.specs.Taken.{HasTaken}
use Rattle.pws_mark.specs.Answered.{TextsAreAnswered}
use Rattle.pws_mark.specs.declared.errors.MarkError.{MarkError}
use Rattle.pws_mark.specs.declared.errors.MarkKind.{MarkKind}
use Rattle.pws_mark.specs.declared.errors.MarkKind.TheVariants as kind
use Rattle.pws_mark.specs.declared.errors.ReadError.TheVariants as read_error
use Rattle.pws_mark.proofs.BeyondChars.{beyond_tells}
use Rattle.pws_mark.proofs.Going.{run_append}
use Rattle.pws_mark.proofs.Outcome.{stops_tell}
use Rattle.pws_mark.proofs.Placed.{runs_are_placed}
use Rattle.pws_mark.proofs.SharedBytes.{shared_tells}
use Rattle.pws_mark.proofs.StandingBegins.{runs_begin}
use Rattle.pws_mark.proofs.TextsRead.{run_one, lowered_append, refused_by, refused_whole, may_build, means_whole}

abbrev HasAnswer : List ℕ → Type 0
HasAnswer bytes = ((t : Tree) × Reads bytes (Ok t)) ⊎ ((e : MarkError) × Reads bytes (Err (read_error.Mark e)))

-- ---- the reader stops

some_lower : (o : Option MarkError) (f : MarkKind × ℕ) → (e : MarkError) × (lower o f ≡ Some e)
some_lower None f = (error_of f, refl)
some_lower (Some d) f = by (comes_before f d) refl
  where
    by : (b : Bool) → comes_before f d ≡ b → (e : MarkError) × (lower (Some d) f ≡ Some e)
    by true h = (error_of f, rw h refl)
    by false h = (d, rw h refl)

some_lowered : (fs : List (MarkKind × ℕ)) (f : MarkKind × ℕ) → (e : MarkError) × (lowered None (fs ++ f ∷ []) ≡ Some e)
unfolding lowered
some_lowered fs f = let s = some_lower (lowered None fs) f in (s.0, lowered_append None fs (f ∷ []) ∙ s.1)

stopped : (bytes front rest : List ℕ) (s : State) (k : ℕ) → IsUtf8 bytes → length bytes ≤ 32768 → chars bytes ≡ front ++ rest → run start front ≡ Some s → StopsAt s rest k → HasAnswer bytes
stopped bytes front rest s k utf8 short parts runs stops =
    let scalars : all_scalars (front ++ rest) ≡ true = ap all_scalars (sym parts) ∙ scalars-chars bytes utf8 in
    let same : encode_utf8_all (front ++ rest) ≡ bytes = ap encode_utf8_all (sym parts) ∙ encodes-chars bytes utf8 in
    let causes : AreCauses bytes (found front ++ (stop_finds s bytes ++ (kind.Syntax, s.at + k) ∷ [])) =
    subst (λ b. AreCauses b (found front ++ (stop_finds s b ++ (kind.Syntax, s.at + k) ∷ []))) same
    (stops_tell runs_begin runs_are_placed front rest s k scalars runs stops) in
    let least = some_lowered (found front ++ stop_finds s bytes) (kind.Syntax, s.at + k) in
    inr (
      least.0,
      refused_by bytes (found front ++ (stop_finds s bytes ++ (kind.Syntax, s.at + k) ∷ [])) least.0 short utf8 causes
          (ap (lowered None) (sym (append_assoc (found front) (stop_finds s bytes) ((kind.Syntax, s.at + k) ∷ []))) ∙ least.1),
    )

-- ---- or it comes to the end

whole_by : (bytes : List ℕ) (s : Scanned) (o : Option MarkError) → IsUtf8 bytes → length bytes ≤ 32768 → HasTaken (chars bytes) [] s → is_whole s.state ≡ true → s.least ≡ o → HasAnswer bytes
whole_by bytes s (Some e) utf8 short taken whole is = inr (e, refused_whole bytes s e utf8 short taken whole is)
whole_by bytes s None utf8 short taken whole is =
    let build = may_build bytes s utf8 taken whole is in
    inl (build.whole.tree, means_whole bytes s build.whole.tree utf8 short taken whole is build.whole.is.is)

ended : (bytes front : List ℕ) (s : State) (w : Bool) → IsUtf8 bytes → length bytes ≤ 32768 → chars bytes ≡ front ++ [] → run start front ≡ Some s → is_whole s ≡ w → HasAnswer bytes
ended bytes front s true utf8 short parts runs whole =
    whole_by bytes (record { state = s; least = lowered None (found front) }) (lowered None (found front)) utf8 short (record { front = front; parts = parts; runs = runs; notes = refl }) whole refl
ended bytes front s false utf8 short parts runs whole = stopped bytes front [] s 0 utf8 short parts runs (whole, refl)

-- ---- character by character

scanned : (bytes front rest : List ℕ) (s : State) → IsUtf8 bytes → length bytes ≤ 32768 → chars bytes ≡ front ++ rest → run start front ≡ Some s → HasAnswer bytes
scanned bytes front [] s utf8 short parts runs = ended bytes front s (is_whole s) utf8 short parts runs refl
scanned bytes front (c ∷ rest) s utf8 short parts runs =
    by (step s c) refl
    (λ t e. scanned bytes (front ++ c ∷ []) rest t utf8 short (parts ∙ sym (append_assoc front (c ∷ []) rest))
    (run_append start front (c ∷ []) ∙ (ap (λ z. then_run z (λ u. run u (c ∷ []))) runs ∙ run_one s t c e)))
  where
    by : (o : Option State) → step s c ≡ o → ((t : State) → step s c ≡ Some t → HasAnswer bytes) → HasAnswer bytes
    by None e goes = stopped bytes front (c ∷ rest) s (shared_by (beyond_ascii s.mode s.outer) c) utf8 short parts runs (e, shared_tells s (beyond_ascii s.mode s.outer) c (beyond_tells front s runs) e)
    by (Some t) e goes = goes t e

of_characters : (bytes : List ℕ) → IsUtf8 bytes → length bytes ≤ 32768 → HasAnswer bytes
unfolding run
of_characters bytes utf8 short = scanned bytes [] (chars bytes) start utf8 short refl refl

-- ---- a text that isn't UTF-8

same_or_more : (n m : ℕ) → n ≤ m → (m ≡ n) ⊎ (suc n ≤ m)
same_or_more n m h = by (nat_le (suc n) m) refl
  where
    by : (b : Bool) → nat_le (suc n) m ≡ b → (m ≡ n) ⊎ (suc n ≤ m)
    by true e = inr (grind (arith, nat_tests, e))
    by false e = inl (grind (arith, nat_tests, e, h))

valid_front : (bytes : List ℕ) (n : ℕ) → n ≤ length bytes → ((m : ℕ) → n ≤ m → IsUtf8 (take m bytes) → ⊥) → (k : ℕ) × IsValidUpTo bytes k
valid_front bytes zero short none = absurd (none 0 (omega arith) IsUtf8-nil)
valid_front bytes (suc n) short none = by (is_utf8 (take n bytes)) refl (λ e. valid_front bytes n (omega (arith, short)) (λ m more u. from e m (same_or_more n m more) u))
  where
    from : is_utf8 (take n bytes) ≡ false → (m : ℕ) → (m ≡ n) ⊎ (suc n ≤ m) → IsUtf8 (take m bytes) → ⊥
    from e m (inl same) u = let both : true ≡ false = sym (is_utf8-from_IsUtf8 (take n bytes) (subst (λ j. IsUtf8 (take j bytes)) same u)) ∙ e in absurd (cc)
    from e m (inr more) u = none m more u

    by : (b : Bool) → is_utf8 (take n bytes) ≡ b → (is_utf8 (take n bytes) ≡ false → (k : ℕ) × IsValidUpTo bytes k) → (k : ℕ) × IsValidUpTo bytes k
    by true e down = (n, record { short = omega (arith, short); front = IsUtf8-from_is_utf8 (take n bytes) e; longest = λ m more u. none m (omega (arith, more)) u })
    by false e down = down e

never_valid : (bytes : List ℕ) → is_utf8 bytes ≡ false → (m : ℕ) → length bytes ≤ m → IsUtf8 (take m bytes) → ⊥
never_valid bytes e m h u = let both : true ≡ false = sym (is_utf8-from_IsUtf8 bytes (subst IsUtf8 (take_all m bytes h) u)) ∙ e in absurd (cc)

-- ---- each text

answered_by : (bytes : List ℕ) (few valid : Bool) → nat_le (length bytes) 32768 ≡ few → is_utf8 bytes ≡ valid → HasAnswer bytes
answered_by bytes false valid f v = let long : 32768 < length bytes = grind (arith, nat_tests, f) in inr (record { kind = kind.Size; at = 32768 }, (long, refl))
answered_by bytes true false f v =
    let short : length bytes ≤ 32768 = grind (arith, nat_tests, f) in
    let front = valid_front bytes (length bytes) (omega arith) (never_valid bytes v) in
    inr (record { kind = kind.Utf8; at = front.0 }, (short, front.1))
answered_by bytes true true f v = let short : length bytes ≤ 32768 = grind (arith, nat_tests, f) in of_characters bytes (IsUtf8-from_is_utf8 bytes v) short

pub texts_are_answered : TextsAreAnswered
texts_are_answered bytes = answered_by bytes (nat_le (length bytes) 32768) (is_utf8 bytes) refl refl
