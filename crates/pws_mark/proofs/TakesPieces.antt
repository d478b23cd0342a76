-- The reader takes the pieces of content.
use Rattle.std.proofs.Common.{◌≡◌, ℕ, ◌+◌, Bool, true, false, ◌&&◌, List, [], ◌∷◌, length, refl, ap, subst, sym, ◌∙◌, arith, Some}
use Rattle.std.specs.Prelude.{◌==◌, is_none, encode_utf8_all, if◌then◌else◌}
use Rattle.std.proofs.lemmas.Bool.{ne_eqb, eqb-true, eqb-false, eq-eqb}
use Rattle.std.proofs.lemmas.Str.{encodes-append}
use lib.Utf8.{encode}
use Rattle.pws_tree.specs.Characters.{xml_ranges}
use Rattle.pws_mark.specs.Bindings.{piece_char}
use Rattle.pws_mark.specs.Documents.{Piece, Char, Entity, Decimal, Hexadecimal, spell_piece}
use Rattle.pws_mark.specs.Faults.{if_wrong, piece_faults}
use Rattle.pws_mark.specs.Meaning.{char_text}
use Rattle.pws_mark.specs.Noted.{finds, if_found}
use Rattle.pws_mark.specs.Scan.{next, region, text_bytes, marks_after, content_step}
use Rattle.pws_mark.specs.States.{Outer, taken}
use Rattle.pws_mark.specs.TokenLaws.{Goes, state, ending, PiecesAreTaken}
use Rattle.pws_mark.specs.Tokens.{is_piece, is_text_char}
use Rattle.pws_mark.specs.declared.errors.MarkKind.{MarkKind}
use Rattle.pws_mark.specs.declared.errors.MarkKind.TheVariants as kind
use Rattle.pws_mark.specs.declared.modes.Mode.TheVariants as mode
use Rattle.pws_mark.specs.declared.modes.Reference.TheVariants as reference
use Rattle.pws_mark.specs.declared.modes.Region.TheVariants as region_is
use Rattle.pws_mark.proofs.Going.{goes_until, goes_once, goes_before}
use Rattle.pws_mark.proofs.TakesReferences.{behind_mark, is_reference, reference_goes}

pub same_either_way : (a b : ℕ) → (a == b) ≡ (b == a)
same_either_way a b = by (b == a) (eqb-true b a) (eqb-false b a)
  where
    by : (t : Bool) → (t ≡ true → b ≡ a) → (t ≡ false → b ≡ a → ⊥) → (a == b) ≡ t
    by true same differ = eq-eqb a b (sym (same refl))
    by false same differ = ne_eqb a b (λ e. differ refl (sym e))

pub ending_found : (wrong : Bool) (k : MarkKind) (at end : ℕ) → ending end (if_found wrong k at) ≡ if_wrong wrong k at end
ending_found true k at end = refl
ending_found false k at end = refl

-- how many bytes a reference has
pub reference_size : (p : Piece) → is_reference p ≡ true → length (spell_piece p) ≡ 1 + length (encode_utf8_all (behind_mark p))
unfolding encode
reference_size (Char c) is = absurd cc
reference_size (Entity name) is = omega (arith, ap length (encodes-append name (59 ∷ [])))
reference_size (Decimal digits) is = omega (arith, ap length (encodes-append digits (59 ∷ [])))
reference_size (Hexadecimal digits) is = omega (arith, ap length (encodes-append digits (59 ∷ [])))

text_reference : (o : Outer) (at : ℕ) → region o ≡ region_is.Inside → (n : ℕ) (after_return : Bool) → next (mode.Content n after_return) o at 38 ≡ Some (mode.TextReference at reference.Begun, o)
unfolding next xml_ranges
text_reference o at inside n after_return = ap (λ r. content_step r o at n after_return 38) inside

reference_taken : (o : Outer) (at n : ℕ) (after_return : Bool) (p : Piece) → region o ≡ region_is.Inside → is_reference p ≡ true → is_piece is_text_char p ≡ true →
    Goes (state at (mode.Content n after_return) o) (38 ∷ behind_mark p) (state (at + length (spell_piece p)) (mode.Content 0 false) (taken o at (piece_char p) (char_text (piece_char p)))) (piece_faults at p)
unfolding next finds encode
reference_taken o at n after_return p inside is lawful =
    let found = if_found (is_none (piece_char p)) kind.Entity at in
    let around = taken o at (piece_char p) (char_text (piece_char p)) in
    let size : at + length (encode_utf8_all (38 ∷ behind_mark p)) ≡ at + length (spell_piece p) = omega (arith, reference_size p is) in
    subst (λ fs. Goes (state at (mode.Content n after_return) o) (38 ∷ behind_mark p) (state (at + length (spell_piece p)) (mode.Content 0 false) around) fs) (ending_found (is_none (piece_char p)) kind.Entity at (at + length (spell_piece p)))
    (goes_until (state at (mode.Content n after_return) o) (38 ∷ behind_mark p) (mode.Content 0 false) around found (at + length (encode_utf8_all (38 ∷ behind_mark p))) (at + length (spell_piece p)) size
    (goes_before (mode.Content n after_return) (mode.TextReference at reference.Begun) (mode.Content 0 false) o o around at 38 (behind_mark p) found (text_reference o at inside n after_return) refl
    (reference_goes (λ r. mode.TextReference at r) o (λ d. mode.Content 0 false) (λ d. taken o at d (char_text d)) at
    (λ r s place c e. (rw e refl, rw e refl)) (λ r place c d e. (rw e refl, rw e refl)) p is_text_char (at + 1) is lawful)))

char_taken : (o : Outer) (at n : ℕ) (after_return : Bool) (c : ℕ) → region o ≡ region_is.Inside → is_text_char c ≡ true → (n == 2 && (62 == c)) ≡ false →
    next (mode.Content n after_return) o at c ≡ Some (mode.Content (marks_after 93 n c) (c == 13), taken o at (Some c) (text_bytes after_return c))
unfolding next
char_taken o at n after_return c inside lawful free =
    let open_end : (n == 2 && (c == 62)) ≡ false = ap (λ z. n == 2 && z) (same_either_way c 62) ∙ free in
    ap (λ r. content_step r o at n after_return c) inside ∙ rw (lawful, open_end) refl

never_too : (b : Bool) (x : List ℕ) → x ≡ (if b && false then [] else x)
never_too true x = refl
never_too false x = refl

pub pieces_are_taken : PiecesAreTaken
unfolding finds
pieces_are_taken o at n after_return (Char c) inside lawful free =
    rw (same_either_way 93 c, same_either_way 13 c, same_either_way 10 c)
    (goes_once (mode.Content n after_return) (mode.Content (marks_after 93 n c) (c == 13)) o (taken o at (Some c) (text_bytes after_return c)) at c [] (char_taken o at n after_return c inside lawful free) refl)
pieces_are_taken o at n after_return (Entity name) inside lawful free =
    let p = Entity name in
    subst (λ bytes. Goes (state at (mode.Content n after_return) o) (38 ∷ behind_mark p) (state (at + length (spell_piece p)) (mode.Content 0 false) (taken o at (piece_char p) bytes)) (piece_faults at p)) (never_too after_return (char_text (piece_char p)))
    (reference_taken o at n after_return p inside refl lawful)
pieces_are_taken o at n after_return (Decimal digits) inside lawful free =
    let p = Decimal digits in
    subst (λ bytes. Goes (state at (mode.Content n after_return) o) (38 ∷ behind_mark p) (state (at + length (spell_piece p)) (mode.Content 0 false) (taken o at (piece_char p) bytes)) (piece_faults at p)) (never_too after_return (char_text (piece_char p)))
    (reference_taken o at n after_return p inside refl lawful)
pieces_are_taken o at n after_return (Hexadecimal digits) inside lawful free =
    let p = Hexadecimal digits in
    subst (λ bytes. Goes (state at (mode.Content n after_return) o) (38 ∷ behind_mark p) (state (at + length (spell_piece p)) (mode.Content 0 false) (taken o at (piece_char p) bytes)) (piece_faults at p)) (never_too after_return (char_text (piece_char p)))
    (reference_taken o at n after_return p inside refl lawful)
