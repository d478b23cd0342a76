-- What is refused where the reader stops, as its code tells it.
use Rattle.std.proofs.Common.{◌≡◌, ℕ, ◌-◌, Bool, true, false, not, ◌&&◌, List, ◌++◌, refl, ap, subst, sym, ◌∙◌, Option, Some, None}
use Rattle.std.specs.Prelude.{codes}
use Rattle.pws_mark.specs.Least.{lowered}
use Rattle.pws_mark.specs.Noted.{if_found}
use Rattle.pws_mark.specs.Outcome.{question_finds, stop_finds}
use Rattle.pws_mark.specs.Places.{is_at}
use Rattle.pws_mark.specs.ReaderLaws.{Shares}
use Rattle.pws_mark.specs.Scan.{run, start, step}
use Rattle.pws_mark.specs.States.{State}
use Rattle.pws_mark.specs.Stopping.{stand_of, StandsAt, TakesBeyond, beyond_ascii, shared_by}
use Rattle.pws_mark.specs.declared.errors.MarkError.{MarkError}
use Rattle.pws_mark.specs.declared.errors.MarkKind.{MarkKind}
use Rattle.pws_mark.specs.declared.errors.MarkKind.TheVariants as kind
use Rattle.pws_mark.specs.declared.stopping.Stand.{Stand}
use Rattle.pws_mark.proofs.BeyondChars.{beyond_tells}
use Rattle.pws_mark.proofs.SeenNames.{lowered_append}
use Rattle.pws_mark.proofs.SharedBytes.{shared_tells}

abbrev first_finds : Stand → List ℕ → ℕ → List (MarkKind × ℕ)
first_finds stand bytes at = if_found (stand.early && is_at bytes at (codes "<!DOCTYPE")) kind.Doctype at

abbrev second_finds : Stand → List ℕ → ℕ → List (MarkKind × ℕ)
second_finds stand bytes at = if_found (stand.early && (stand.bang && is_at bytes (at - 2) (codes "<!DOCTYPE"))) kind.Doctype (at - 2)

abbrev third_finds : Stand → List ℕ → ℕ → List (MarkKind × ℕ)
third_finds stand bytes at = if_found (not stand.within && is_at bytes at (codes "<?")) kind.Instruction at

abbrev finds_at : Stand → List ℕ → ℕ → List (MarkKind × ℕ)
finds_at stand bytes at = first_finds stand bytes at ++ (second_finds stand bytes at ++ (third_finds stand bytes at ++ question_finds bytes at stand.question))

same_finds : (s : State) (bytes : List ℕ) → finds_at (stand_of s.mode s.outer) bytes s.at ≡ stop_finds s bytes
unfolding stop_finds
same_finds s bytes = refl

and_assoc : (a b c : Bool) → ((a && b) && c) ≡ (a && (b && c))
and_assoc true b c = refl
and_assoc false b c = refl

lowered_four : (least one two three four : Option MarkError) (ws xs ys zs : List (MarkKind × ℕ)) → one ≡ lowered least ws → two ≡ lowered one xs → three ≡ lowered two ys → four ≡ lowered three zs → four ≡ lowered least (ws ++ (xs ++ (ys ++ zs)))
lowered_four least one two three four ws xs ys zs a b c d =
    d ∙ (ap (λ z. lowered z zs) c
    ∙ (sym (lowered_append two ys zs) ∙ (ap (λ z. lowered z (ys ++ zs)) b
    ∙ (sym (lowered_append one xs (ys ++ zs)) ∙ (ap (λ z. lowered z (xs ++ (ys ++ zs))) a ∙ sym (lowered_append least ws (xs ++ (ys ++ zs))))))))

pub stop_noted : (stand : Stand) (bytes : List ℕ) (at place : ℕ) (told : Bool) → told ≡ (stand.early && stand.bang) → place ≡ at - 2 → (least one two three four : Option MarkError) →
    one ≡ lowered least (if_found (stand.early && is_at bytes at (codes "<!DOCTYPE")) kind.Doctype at) →
    two ≡ lowered one (if_found (told && is_at bytes place (codes "<!DOCTYPE")) kind.Doctype place) →
    three ≡ lowered two (if_found (not stand.within && is_at bytes at (codes "<?")) kind.Instruction at) →
    four ≡ lowered three (question_finds bytes at stand.question) →
    (s : State) → StandsAt stand s → s.at ≡ at → four ≡ lowered least (stop_finds s bytes)
stop_noted stand bytes at place told told_is place_is least one two three four a b c d s stands here =
    lowered_four least one two three four (first_finds stand bytes at) (second_finds stand bytes at) (third_finds stand bytes at) (question_finds bytes at stand.question) a
    (b ∙ ((λ i. lowered one (if_found (told_is i && is_at bytes (place_is i) (codes "<!DOCTYPE")) kind.Doctype (place_is i))) ∙ ap (λ z. lowered one (if_found z kind.Doctype (at - 2))) (and_assoc stand.early stand.bang (is_at bytes (at - 2) (codes "<!DOCTYPE"))))) c d
    ∙ (ap (λ z. lowered least (finds_at z bytes at)) stands
    ∙ (ap (λ n. lowered least (finds_at (stand_of s.mode s.outer) bytes n)) (sym here) ∙ ap (lowered least) (same_finds s bytes)))

pub stop_shared : (stand : Stand) (c k : ℕ) → k ≡ shared_by stand.beyond c → (front : List ℕ) (s : State) → run start front ≡ Some s → StandsAt stand s → step s c ≡ None → Shares s c k
stop_shared stand c k is front s runs stands none =
    let same : stand.beyond ≡ beyond_ascii s.mode s.outer = ap (λ (z : Stand). z.beyond) stands in
    let takes : TakesBeyond s stand.beyond = subst (λ z. TakesBeyond s z) (sym same) (beyond_tells front s runs) in
    subst (λ n. Shares s c n) (sym is) (shared_tells s stand.beyond c takes none)
