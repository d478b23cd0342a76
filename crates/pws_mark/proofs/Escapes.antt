-- The canonical text of a text is spelled by pieces, one for each character.
use Rattle.std.proofs.Common.{◌≡◌, ℕ, suc, ◌<◌, ◌≤◌, Bool, true, false, List, [], ◌∷◌, ◌++◌, map, length, get_or, refl, ap, sym, ◌∙◌, arith, append-nil, codes, inl, inr}
use Rattle.std.specs.Prelude.{◌==◌, ◌⊎◌, if◌then◌else◌}
use Rattle.std.specs.List.{flat_map}
use Rattle.std.proofs.Math.Dec.{leb}
use Rattle.std.specs.Str.{IsUtf8, chars}
use Rattle.std.proofs.lemmas.Bool.{ne_eqb}
use Rattle.std.proofs.lemmas.Bool.Decides.{leb_tells}
use Rattle.std.proofs.lemmas.Str.{encode_ascii, inside_one, encodes-chars}
use Rattle.std.proofs.lemmas.Grind.{flat_map-append}
use lib.Utf8.{encode, encodes}
use Rattle.pws_mark.specs.Canonical.{text_byte}
use Rattle.pws_mark.specs.Documents.{Piece, Char, Entity, Decimal, spell_piece}

-- how a character is written in a text
abbrev pub text_piece : ℕ → Piece
text_piece c =
    if c == 38 then Entity (codes "amp")
    else if c == 60 then Entity (codes "lt")
    else if c == 62 then Entity (codes "gt")
    else if c == 13 then Decimal (codes "13")
    else Char c

pub other : (b n : ℕ) → 128 ≤ b → n < 128 → b ≡ n → ⊥
other b n h g e = absurd (omega arith)

plain : (b : ℕ) → 128 ≤ b → text_byte b ≡ b ∷ []
unfolding text_byte
plain b h = rw (ne_eqb b 38 (other b 38 h (omega arith)), ne_eqb b 60 (other b 60 h (omega arith)), ne_eqb b 62 (other b 62 h (omega arith)), ne_eqb b 13 (other b 13 h (omega arith)))

plain_all : (bs : List ℕ) → ((i : ℕ) → i < length bs → 128 ≤ get_or bs i 0) → flat_map text_byte bs ≡ bs
plain_all [] h = refl
plain_all (b ∷ bs) h = ap (λ z. z ++ flat_map text_byte bs) (plain b (h 0 (omega arith))) ∙ ap (λ z. b ∷ z) (plain_all bs (λ i low. h (suc i) (omega arith)))

-- all bytes of a character beyond ASCII are
pub high : (c : ℕ) → 128 ≤ c → (i : ℕ) → i < length (encode c) → 128 ≤ get_or (encode c) i 0
high c h i low = by (leb_tells 128 (get_or (encode c) i 0))
  where
    by : ((leb 128 (get_or (encode c) i 0) ≡ true) × (128 ≤ get_or (encode c) i 0)) ⊎ ((leb 128 (get_or (encode c) i 0) ≡ false) × (get_or (encode c) i 0 < 128)) → 128 ≤ get_or (encode c) i 0
    by (inl p) = p.1
    by (inr p) = absurd (omega (arith, p.1, inside_one c [] (encode c) i (sym (append-nil (encode c))) low p.1))

ascii : (c : ℕ) → c < 128 → text_byte c ++ [] ≡ spell_piece (text_piece c)
unfolding text_byte encode
ascii c h = by (c == 38) (c == 60) (c == 62) (c == 13)
  where
    by : (s t u v : Bool) → (if s then codes "&amp;" else if t then codes "&lt;" else if u then codes "&gt;" else if v then codes "&#13;" else c ∷ []) ++ [] ≡ spell_piece (if s then Entity (codes "amp") else if t then Entity (codes "lt") else if u then Entity (codes "gt") else if v then Decimal (codes "13") else Char c)
    by true t u v = refl
    by false true u v = refl
    by false false true v = refl
    by false false false true = refl
    by false false false false = sym (encode_ascii c h)

wide : (c : ℕ) → 128 ≤ c → spell_piece (text_piece c) ≡ encode c
wide c h = rw (ne_eqb c 38 (other c 38 h (omega arith)), ne_eqb c 60 (other c 60 h (omega arith)), ne_eqb c 62 (other c 62 h (omega arith)), ne_eqb c 13 (other c 13 h (omega arith)))

char_spelled : (c : ℕ) → flat_map text_byte (encode c) ≡ spell_piece (text_piece c)
char_spelled c = by (leb_tells 128 c)
  where
    by : ((leb 128 c ≡ true) × (128 ≤ c)) ⊎ ((leb 128 c ≡ false) × (c < 128)) → flat_map text_byte (encode c) ≡ spell_piece (text_piece c)
    by (inl p) = plain_all (encode c) (high c p.1) ∙ sym (wide c p.1)
    by (inr p) = ap (flat_map text_byte) (encode_ascii c p.1) ∙ ascii c p.1

pub chars_spelled : (cs : List ℕ) → flat_map text_byte (encodes cs) ≡ flat_map spell_piece (map text_piece cs)
chars_spelled [] = refl
chars_spelled (c ∷ cs) = flat_map-append text_byte (encode c) (encodes cs) ∙ (ap (λ z. z ++ flat_map text_byte (encodes cs)) (char_spelled c) ∙ ap (λ z. spell_piece (text_piece c) ++ z) (chars_spelled cs))

-- the canonical text of a text is spelled by the pieces of its characters
pub text_spelled : (t : List ℕ) → IsUtf8 t → flat_map text_byte t ≡ flat_map spell_piece (map text_piece (chars t))
text_spelled t u = ap (flat_map text_byte) (sym (encodes-chars t u)) ∙ chars_spelled (chars t)
