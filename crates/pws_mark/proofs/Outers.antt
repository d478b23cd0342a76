-- What is around a token, after a character.
use Rattle.std.proofs.Common.{◌≡◌, ℕ, Bool, true, false, List, [], ◌∷◌, ◌++◌, refl, ap, sym, ◌∙◌, append-nil, encode_utf8, Option, Some, None}
use Rattle.std.specs.Option.{is_some}
use Rattle.pws_mark.specs.Meaning.{char_text}
use Rattle.pws_mark.specs.Scopes.{word_at, kept}
use Rattle.pws_mark.specs.States.{Open, Outer, bound_at, spoiled, is_empty, taken_in, with_char, text_after}
use Rattle.pws_mark.specs.Values.{Marked}
use Rattle.pws_mark.specs.declared.modes.Event.{Event}

abbrev pub outer : List Open → Bool → List Event → List ℕ → Outer
outer opens behind events text = record { opens = opens; behind = behind; events = events; text = text }

pub taken_word : (opens new : List Open) (behind : Bool) (events : List Event) (text : List ℕ) (at : ℕ) (c : Option ℕ) (bytes : List ℕ) → is_some (word_at opens) ≡ true → new ≡ kept opens at c → outer new behind events text ≡ taken_in opens behind events text at c bytes
taken_word [] new behind events text at c bytes word now = ap (λ z. outer z behind events text) now
taken_word (x ∷ xs) new behind events text at c bytes word now = ap (λ z. outer z behind events text) now ∙ ap (outer (kept (x ∷ xs) at c) behind events) (by x.word word)
  where
    by : (w : Option (Option Marked)) → is_some w ≡ true → text ≡ text_after w text bytes
    by None h = absurd cc
    by (Some w) h = refl

pub taken_plain : (opens : List Open) (behind : Bool) (events : List Event) (text after : List ℕ) (at : ℕ) (c : Option ℕ) (bytes : List ℕ) → is_some (word_at opens) ≡ false → is_empty opens ≡ false → after ≡ text ++ bytes → outer opens behind events after ≡ taken_in opens behind events text at c bytes
taken_plain [] behind events text after at c bytes word some now = absurd cc
taken_plain (x ∷ xs) behind events text after at c bytes word some now =
    ap (outer (x ∷ xs) behind events) now ∙ by x.word word
  where
    by : (w : Option (Option Marked)) → is_some w ≡ false → outer (record { name = x.name; at = x.at; bound = x.bound; word = w } ∷ xs) behind events (text ++ bytes) ≡ outer (record { name = x.name; at = x.at; bound = x.bound; word = with_char w at c } ∷ xs) behind events (text_after w text bytes)
    by None h = refl
    by (Some w) h = absurd cc

pub taken_outside : (opens : List Open) (behind : Bool) (events : List Event) (text : List ℕ) (at : ℕ) (c : Option ℕ) (bytes : List ℕ) → is_empty opens ≡ true → outer opens behind events text ≡ taken_in opens behind events text at c bytes
taken_outside [] behind events text at c bytes none = refl
taken_outside (x ∷ xs) behind events text at c bytes none = absurd cc

pub plain_text : (c : Option ℕ) (d : ℕ) (text after : List ℕ) → c ≡ Some d → after ≡ text ++ encode_utf8 d → after ≡ text ++ char_text c
plain_text c d text after is now = now ∙ ap (λ z. text ++ char_text z) (sym is)

pub no_text : (c : Option ℕ) (text : List ℕ) → c ≡ None → text ≡ text ++ char_text c
no_text c text is = sym (ap (λ z. text ++ char_text z) is ∙ append-nil text)

-- an element is no part of a name, but what is bound stays
pub bound_spoiled : (xs : List Open) → bound_at (spoiled xs) ≡ bound_at xs
bound_spoiled [] = refl
bound_spoiled (x ∷ xs) = refl
