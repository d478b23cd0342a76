-- What references, values and texts without a fault stand for is text.
use Rattle.std.proofs.Common.{◌≡◌, ℕ, ◌+◌, ◌≤◌, Bool, true, false, not, ◌&&◌, ◌||◌, cond, List, [], ◌∷◌, ◌++◌, length, refl, ap, sym, ◌∙◌, append-nil, Some, None, Option, is_none, codes}
use Rattle.std.specs.Prelude.{◌==◌, if◌then◌else◌}
use Rattle.std.specs.List.{list_all}
use Rattle.std.specs.Str.{bytes_eq, IsUtf8, chars, is_utf8}
use Rattle.std.proofs.lemmas.Bool.{and_parts, and_from, both_ways}
use Rattle.std.proofs.lemmas.List.Folds.{list_all-append}
use Rattle.std.proofs.lemmas.Str.{encodes-chars, chars-encodes, IsUtf8-from_is_utf8, is_utf8-from_IsUtf8, encodes-append}
use lib.Utf8.{encode, encodes, scalars}
use Rattle.pws_tree.specs.Characters.{is_xml_char, is_xml_text, xml_ranges}
use Rattle.pws_tree.specs.Lawful.{starts_with_text, has_qualified, levels, are_lawful}
use Rattle.pws_tree.specs.Trees.{Nodes, NoNode, TextThen, QualifiedThen, ElementThen}
use Rattle.pws_mark.specs.Documents.{Piece, Char, Entity, Decimal, Hexadecimal, spell_piece}
use Rattle.pws_mark.specs.Bindings.{entity_char, number_of, char_at, piece_char, is_char, first_is, put_before, value_of}
use Rattle.pws_mark.specs.Tokens.{is_piece, is_text_char, is_value_char}
use Rattle.pws_mark.specs.Meaning.{line_ends, with_text}
use Rattle.pws_mark.specs.Faults.{if_wrong, piece_faults, value_faults}
use Rattle.pws_mark.specs.declared.errors.MarkKind.{MarkKind}
use Rattle.pws_mark.proofs.WrittenUtf8.{all_scalars, xml_scalar}

-- Texts of XML characters.
pub xml_of : (cs : List ℕ) → list_all is_xml_char cs ≡ true → is_xml_text (encodes cs) ≡ true
unfolding is_xml_text
xml_of cs h =
    let s : scalars cs ≡ true = all_scalars is_xml_char xml_scalar cs h in
    and_from (is_utf8 (encodes cs)) (list_all is_xml_char (chars (encodes cs))) (is_utf8-from_IsUtf8 (encodes cs) (cs, (s, refl))) (ap (list_all is_xml_char) (chars-encodes cs s) ∙ h)

pub record IsXml (bytes : List ℕ) : Type 0 where
  pub utf8 : IsUtf8 bytes
  pub all : list_all is_xml_char (chars bytes) ≡ true

pub xml_parts : (bytes : List ℕ) → is_xml_text bytes ≡ true → IsXml bytes
unfolding is_xml_text
xml_parts bytes h =
    let parts = and_parts (is_utf8 bytes) (list_all is_xml_char (chars bytes)) h in
    record { utf8 = IsUtf8-from_is_utf8 bytes parts.0; all = parts.1 }

pub xml_append : (a b : List ℕ) → is_xml_text a ≡ true → is_xml_text b ≡ true → is_xml_text (a ++ b) ≡ true
xml_append a b h g =
    let x : IsXml a = xml_parts a h in
    let y : IsXml b = xml_parts b g in
    let both : encodes (chars a ++ chars b) ≡ a ++ b = encodes-append (chars a) (chars b) ∙ ((λ i. encodes-chars a x.utf8 i ++ encodes-chars b y.utf8 i)) in
    ap is_xml_text (sym both) ∙ xml_of (chars a ++ chars b) (list_all-append is_xml_char (chars a) (chars b) ∙ and_from (list_all is_xml_char (chars a)) (list_all is_xml_char (chars b)) x.all y.all)

pub xml_encode : (c : ℕ) → is_xml_char c ≡ true → is_xml_text (encode c) ≡ true
xml_encode c h = ap is_xml_text (sym (append-nil (encode c))) ∙ xml_of (c ∷ []) (and_from (is_xml_char c) true h refl)

pub xml_nothing : is_xml_text [] ≡ true
xml_nothing = xml_of [] refl

pub line_end_xml : is_xml_text (10 ∷ []) ≡ true
unfolding xml_ranges encode
line_end_xml = xml_encode 10 refl

-- Faults of none.
pub no_parts : {A : Type 0} (xs ys : List A) → xs ++ ys ≡ [] → (xs ≡ []) × (ys ≡ [])
no_parts [] ys h = (refl, h)
no_parts (x ∷ xs) ys h = absurd (some_more h)
  where
    some_more : x ∷ (xs ++ ys) ≡ [] → ⊥
    some_more e = cc

pub not_wrong : (b : Bool) (k : MarkKind) (at end : ℕ) → if_wrong b k at end ≡ [] → b ≡ false
not_wrong true k at end h = absurd (some_more h)
  where
    some_more : if_wrong true k at end ≡ [] → ⊥
    some_more e = cc
not_wrong false k at end h = refl

-- What a piece stands for.
pub record GivesChar (x : Piece) : Type 0 where
  pub char : ℕ
  pub given : piece_char x ≡ Some char
  pub xml : is_xml_char char ≡ true

entity_gives : (name : List ℕ) → is_none (entity_char name) ≡ false → (c : ℕ) × (entity_char name ≡ Some c) × (is_xml_char c ≡ true)
unfolding entity_char xml_ranges
entity_gives name h = by (bytes_eq name (codes "amp")) (bytes_eq name (codes "lt")) (bytes_eq name (codes "gt")) (bytes_eq name (codes "apos")) (bytes_eq name (codes "quot")) h
  where
    by : (s t u v w : Bool) → is_none {T = ℕ} (if s then Some 38 else if t then Some 60 else if u then Some 62 else if v then Some 39 else if w then Some 34 else None) ≡ false → (c : ℕ) × (◌≡◌ {A = Option ℕ} (if s then Some 38 else if t then Some 60 else if u then Some 62 else if v then Some 39 else if w then Some 34 else None) (Some c)) × (is_xml_char c ≡ true)
    by true t u v w g = (38, refl, refl)
    by false true u v w g = (60, refl, refl)
    by false false true v w g = (62, refl, refl)
    by false false false true w g = (39, refl, refl)
    by false false false false true g = (34, refl, refl)
    by false false false false false g = absurd (both_ways true g refl)

number_gives : (n : ℕ) → is_none (char_at n) ≡ false → (c : ℕ) × (char_at n ≡ Some c) × (is_xml_char c ≡ true)
number_gives n h = by (is_xml_char n) refl h
  where
    by : (b : Bool) → is_xml_char n ≡ b → is_none (cond b (Some n) None) ≡ false → (c : ℕ) × (cond b (Some n) None ≡ Some c) × (is_xml_char c ≡ true)
    by true e g = (n, refl, e)
    by false e g = absurd (both_ways true g refl)

pub piece_gives : (allowed : ℕ → Bool) → ((c : ℕ) → allowed c ≡ true → is_xml_char c ≡ true) → (x : Piece) → is_piece allowed x ≡ true → is_none (piece_char x) ≡ false → GivesChar x
piece_gives allowed may (Char c) h g = record { char = c; given = refl; xml = may c h }
piece_gives allowed may (Entity name) h g = let e = entity_gives name g in record { char = e.0; given = e.1; xml = e.2 }
piece_gives allowed may (Decimal digits) h g = let e = number_gives (number_of 10 digits) g in record { char = e.0; given = e.1; xml = e.2 }
piece_gives allowed may (Hexadecimal digits) h g = let e = number_gives (number_of 16 digits) g in record { char = e.0; given = e.1; xml = e.2 }

pub text_may : (c : ℕ) → is_text_char c ≡ true → is_xml_char c ≡ true
text_may c h = (and_parts (is_xml_char c) (not (c == 60) && not (c == 38)) h).0

value_may : (quote c : ℕ) → is_value_char quote c ≡ true → is_xml_char c ≡ true
value_may quote c h = text_may c (and_parts (is_text_char c) (not (c == quote)) h).0

-- What a value stands for.
pub record GivesText (pieces : List Piece) : Type 0 where
  pub text : List ℕ
  pub given : value_of pieces ≡ Some text
  pub xml : is_xml_text text ≡ true

pub value_gives : (quote at : ℕ) (pieces : List Piece) → list_all (is_piece (is_value_char quote)) pieces ≡ true → value_faults at pieces ≡ [] → GivesText pieces
unfolding xml_ranges
value_gives quote at [] h g = record { text = []; given = refl; xml = xml_nothing }
value_gives quote at (p ∷ ps) h g =
    let lawful = and_parts (is_piece (is_value_char quote) p) (list_all (is_piece (is_value_char quote)) ps) h in
    let none = no_parts (piece_faults at p) (value_faults (at + length (spell_piece p)) ps) g in
    let more : GivesText ps = value_gives quote (at + length (spell_piece p)) ps lawful.1 none.1 in
    let first : GivesChar p = piece_gives (is_value_char quote) (value_may quote) p lawful.0 (not_wrong (is_none (piece_char p)) _ at (at + length (spell_piece p)) none.0) in
    by more first (is_char 13 p && first_is 10 ps) (is_char 9 p || (is_char 10 p || is_char 13 p)) refl refl
  where
    put : GivesText ps → (c : ℕ) → is_xml_char c ≡ true → (o : Option ℕ) → o ≡ Some c → (t : List ℕ) × (put_before o (value_of ps) ≡ Some t) × (is_xml_text t ≡ true)
    put more c xml o e =
        (encode c ++ more.text, ap (λ z. put_before z (value_of ps)) e ∙ ap (put_before (Some c)) more.given, xml_append (encode c) more.text (xml_encode c xml) more.xml)

    by : GivesText ps → GivesChar p → (b d : Bool) → (is_char 13 p && first_is 10 ps) ≡ b → (is_char 9 p || (is_char 10 p || is_char 13 p)) ≡ d → GivesText (p ∷ ps)
    by more first true d e f = record { text = more.text; given = ap (λ z. cond z (value_of ps) (put_before (cond (is_char 9 p || (is_char 10 p || is_char 13 p)) (Some 32) (piece_char p)) (value_of ps))) e ∙ more.given; xml = more.xml }
    by more first false true e f =
        let given = put more 32 refl (Some 32) refl in
        record {
          text = given.0;
          given = ap (λ z. cond z (value_of ps) (put_before (cond (is_char 9 p || (is_char 10 p || is_char 13 p)) (Some 32) (piece_char p)) (value_of ps))) e ∙ (ap (λ z. put_before (cond z (Some 32) (piece_char p)) (value_of ps)) f ∙ given.1);
          xml = given.2;
        }
    by more first false false e f =
        let given = put more first.char first.xml (piece_char p) first.given in
        record {
          text = given.0;
          given = ap (λ z. cond z (value_of ps) (put_before (cond (is_char 9 p || (is_char 10 p || is_char 13 p)) (Some 32) (piece_char p)) (value_of ps))) e ∙ (ap (λ z. put_before (cond z (Some 32) (piece_char p)) (value_of ps)) f ∙ given.1);
          xml = given.2;
        }

-- Characters of a section.
pub line_ends_xml : (after : Bool) (cs : List ℕ) → list_all is_xml_char cs ≡ true → list_all is_xml_char (line_ends after cs) ≡ true
unfolding xml_ranges
line_ends_xml after [] h = refl
line_ends_xml after (c ∷ cs) h =
    let parts = and_parts (is_xml_char c) (list_all is_xml_char cs) h in
    by (c == 13) (after && c == 10) parts.0 (line_ends_xml true cs parts.1) (line_ends_xml false cs parts.1)
  where
    by : (b d : Bool) → is_xml_char c ≡ true → list_all is_xml_char (line_ends true cs) ≡ true → list_all is_xml_char (line_ends false cs) ≡ true → list_all is_xml_char (cond b (10 ∷ line_ends true cs) (cond d (line_ends false cs) (c ∷ line_ends false cs))) ≡ true
    by true d here on off = on
    by false true here on off = off
    by false false here on off = and_from (is_xml_char c) (list_all is_xml_char (line_ends false cs)) here off

-- Nodes with a text before them.
pub record IsLawfulAt (level : ℕ) (x : Nodes) : Type 0 where
  pub lawful : are_lawful x ≡ true
  pub plain : has_qualified x ≡ false
  pub low : level + levels x ≤ 64

pub text_before : (level : ℕ) (t : List ℕ) (x : Nodes) → is_xml_text t ≡ true → IsLawfulAt level x → IsLawfulAt level (with_text t x)
unfolding with_text
text_before level [] x h g = g
text_before level (c ∷ t) NoNode h g = record { lawful = and_from (is_xml_text (c ∷ t)) true h refl; plain = refl; low = g.low }
text_before level (c ∷ t) (TextThen u rest) h g =
    let parts = and_parts (not (bytes_eq u []) && is_xml_text u) (not (starts_with_text rest) && are_lawful rest) g.lawful in
    let text = and_parts (not (bytes_eq u [])) (is_xml_text u) parts.0 in
    record { lawful = and_from (is_xml_text ((c ∷ t) ++ u)) (not (starts_with_text rest) && are_lawful rest) (xml_append (c ∷ t) u h text.1) parts.1; plain = g.plain; low = g.low }
text_before level (c ∷ t) (QualifiedThen n rest) h g = absurd (both_ways true g.plain refl)
text_before level (c ∷ t) (ElementThen n attrs inner rest) h g = record { lawful = and_from (is_xml_text (c ∷ t)) (are_lawful (ElementThen n attrs inner rest)) h g.lawful; plain = g.plain; low = g.low }
