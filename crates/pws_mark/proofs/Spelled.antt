-- The characters of a document spell it.
use Rattle.std.proofs.Common.{◌≡◌, ℕ, Bool, true, false, not, ◌&&◌, ◌||◌, List, [], ◌∷◌, ◌++◌, refl, ap, ◌∙◌, append-nil, Option, Some, None}
use Rattle.std.specs.Prelude.{encode_utf8, encode_utf8_all, if◌then◌else◌, codes}
use Rattle.std.specs.List.{list_all, flat_map}
use Rattle.std.specs.Str.{bytes_eq, str_to_ascii_lowercase}
use Rattle.std.proofs.lemmas.Bool.{and_parts}
use Rattle.std.proofs.lemmas.Str.{encodes-append}
use lib.Utf8.{encode}
use Rattle.pws_mark.specs.Documents.{Piece, Char, Entity, Decimal, Hexadecimal, Attribute, Tag, Content, Nothing, Text, Section, Comment, Hollow, Element, Pseudo, Declaration, Document, spell_piece, spell_attribute, spell_tag, spell_content, spell_pseudo, spell_optional, spell_declaration, spell_head, spell_prolog, spell, section_start, section_end, comment_start, comment_end}
use Rattle.pws_mark.specs.Grammar.{is_tag, is_content, is_misc, is_root, is_pseudo, is_optional, is_declaration, is_document, begins_with}
use Rattle.pws_mark.specs.Spelling.{write_piece, write_attribute, write_tag, write_content, write_pseudo, write_optional, write_declaration, write_head, write_prolog, write}
use Rattle.pws_mark.specs.Tokens.{is_white, is_gap, is_name, is_piece, is_quote, is_attribute, is_section, is_comment, is_text_char}
use Rattle.pws_mark.proofs.TakesTags.{quote_is}

both : (xs ys : List ℕ) (a b : List ℕ) → encode_utf8_all xs ≡ a → encode_utf8_all ys ≡ b → encode_utf8_all (xs ++ ys) ≡ a ++ b
both xs ys a b e f = encodes-append xs ys ∙ (ap (λ z. z ++ encode_utf8_all ys) e ∙ ap (λ z. a ++ z) f)

quote_spelled : (q : ℕ) (xs a : List ℕ) → is_quote q ≡ true → encode_utf8_all xs ≡ a → encode_utf8_all (q ∷ xs) ≡ q ∷ a
unfolding encode
quote_spelled q xs a is e = quote_is (λ p. encode_utf8_all (p ∷ xs) ≡ p ∷ a) (ap (λ z. 34 ∷ z) e) (ap (λ z. 39 ∷ z) e) q is

pub piece_spelled : (p : Piece) → encode_utf8_all (write_piece p) ≡ spell_piece p
unfolding encode
piece_spelled (Char c) = append-nil (encode_utf8 c)
piece_spelled (Entity name) = ap (λ z. 38 ∷ z) (encodes-append name (59 ∷ []))
piece_spelled (Decimal digits) = ap (λ z. 38 ∷ 35 ∷ z) (encodes-append digits (59 ∷ []))
piece_spelled (Hexadecimal digits) = ap (λ z. 38 ∷ 35 ∷ 120 ∷ z) (encodes-append digits (59 ∷ []))

pieces_spelled : (ps : List Piece) → encode_utf8_all (flat_map write_piece ps) ≡ flat_map spell_piece ps
pieces_spelled [] = refl
pieces_spelled (p ∷ ps) = both (write_piece p) (flat_map write_piece ps) _ _ (piece_spelled p) (pieces_spelled ps)

attribute_spelled : (a : Attribute) → is_quote a.quote ≡ true → encode_utf8_all (write_attribute a) ≡ spell_attribute a
unfolding encode
attribute_spelled a is =
    both a.gap _ _ _ refl (both a.name _ _ _ refl (both a.before _ _ _ refl (ap (λ z. 61 ∷ z) (both a.after _ _ _ refl
    (quote_spelled a.quote (flat_map write_piece a.value ++ a.quote ∷ []) (flat_map spell_piece a.value ++ a.quote ∷ []) is (both (flat_map write_piece a.value) (a.quote ∷ []) _ _ (pieces_spelled a.value) (quote_spelled a.quote [] [] is refl)))))))

is_quoted : (a : Attribute) → is_attribute a ≡ true → is_quote a.quote ≡ true
is_quoted a h = (and_parts (is_quote a.quote) _ (and_parts (list_all is_white a.after) _ (and_parts (list_all is_white a.before) _ (and_parts (is_name a.name) _ (and_parts (is_gap a.gap) _ h).1).1).1).1).0

attributes_spelled : (more : List Attribute) → list_all is_attribute more ≡ true → encode_utf8_all (flat_map write_attribute more) ≡ flat_map spell_attribute more
attributes_spelled [] h = refl
attributes_spelled (a ∷ more) h =
    let parts = and_parts (is_attribute a) (list_all is_attribute more) h in
    both (write_attribute a) (flat_map write_attribute more) _ _ (attribute_spelled a (is_quoted a parts.0)) (attributes_spelled more parts.1)

pub tag_spelled : (tag : Tag) → is_tag tag ≡ true → encode_utf8_all (write_tag tag) ≡ spell_tag tag
tag_spelled tag h =
    let one = and_parts (is_name tag.name) (list_all is_attribute tag.attributes && list_all is_white tag.gap) h in
    let two = and_parts (list_all is_attribute tag.attributes) (list_all is_white tag.gap) one.1 in
    both tag.name _ _ _ refl (both (flat_map write_attribute tag.attributes) tag.gap _ _ (attributes_spelled tag.attributes two.0) refl)

section_start_spelled : (xs a : List ℕ) → encode_utf8_all xs ≡ a → encode_utf8_all (section_start ++ xs) ≡ section_start ++ a
unfolding section_start encode
section_start_spelled xs a e = ap (λ z. section_start ++ z) e

section_end_spelled : (xs a : List ℕ) → encode_utf8_all xs ≡ a → encode_utf8_all (section_end ++ xs) ≡ section_end ++ a
unfolding section_end encode
section_end_spelled xs a e = ap (λ z. section_end ++ z) e

comment_start_spelled : (xs a : List ℕ) → encode_utf8_all xs ≡ a → encode_utf8_all (comment_start ++ xs) ≡ comment_start ++ a
unfolding comment_start encode
comment_start_spelled xs a e = ap (λ z. comment_start ++ z) e

comment_end_spelled : (xs a : List ℕ) → encode_utf8_all xs ≡ a → encode_utf8_all (comment_end ++ xs) ≡ comment_end ++ a
unfolding comment_end encode
comment_end_spelled xs a e = ap (λ z. comment_end ++ z) e

pub content_spelled : (c : Content) → is_content c ≡ true → encode_utf8_all (write_content c) ≡ spell_content c
unfolding encode
content_spelled Nothing h = refl
content_spelled (Text piece rest) h =
    let one = and_parts (is_piece is_text_char piece) _ h in
    let two = and_parts (not (begins_with section_end (Text piece rest))) (is_content rest) one.1 in
    both (write_piece piece) (write_content rest) _ _ (piece_spelled piece) (content_spelled rest two.1)
content_spelled (Section chars rest) h =
    let parts = and_parts (is_section chars) (is_content rest) h in
    section_start_spelled _ _ (both chars _ _ _ refl (section_end_spelled _ _ (content_spelled rest parts.1)))
content_spelled (Comment chars rest) h =
    let parts = and_parts (is_comment chars) (is_content rest) h in
    comment_start_spelled _ _ (both chars _ _ _ refl (comment_end_spelled _ _ (content_spelled rest parts.1)))
content_spelled (Hollow tag rest) h =
    let parts = and_parts (is_tag tag) (is_content rest) h in
    ap (λ z. 60 ∷ z) (both (write_tag tag) (47 ∷ 62 ∷ write_content rest) _ _ (tag_spelled tag parts.0) (ap (λ z. 47 ∷ 62 ∷ z) (content_spelled rest parts.1)))
content_spelled (Element tag inner gap rest) h =
    let one = and_parts (is_tag tag) (is_content inner && (list_all is_white gap && is_content rest)) h in
    let two = and_parts (is_content inner) (list_all is_white gap && is_content rest) one.1 in
    let three = and_parts (list_all is_white gap) (is_content rest) two.1 in
    ap (λ z. 60 ∷ z) (both (write_tag tag) _ _ _ (tag_spelled tag one.0) (ap (λ z. 62 ∷ z) (both (write_content inner) _ _ _ (content_spelled inner two.0)
    (ap (λ z. 60 ∷ 47 ∷ z) (both tag.name _ _ _ refl (both gap _ _ _ refl (ap (λ z. 62 ∷ z) (content_spelled rest three.1))))))))

pub misc_spelled : (c : Content) → is_misc c ≡ true → encode_utf8_all (write_content c) ≡ spell_content c
unfolding encode
misc_spelled Nothing h = refl
misc_spelled (Text (Char c) rest) h = ap (λ z. encode_utf8 c ++ z) (misc_spelled rest (and_parts (is_white c) (is_misc rest) h).1)
misc_spelled (Text (Entity n) rest) h = absurd cc
misc_spelled (Text (Decimal n) rest) h = absurd cc
misc_spelled (Text (Hexadecimal n) rest) h = absurd cc
misc_spelled (Section chars rest) h = absurd cc
misc_spelled (Comment chars rest) h =
    let parts = and_parts (is_comment chars) (is_misc rest) h in
    comment_start_spelled _ _ (both chars _ _ _ refl (comment_end_spelled _ _ (misc_spelled rest parts.1)))
misc_spelled (Hollow tag rest) h = absurd cc
misc_spelled (Element tag inner gap rest) h = absurd cc

pseudo_spelled : (word : List ℕ) (allowed : List ℕ → Bool) (x : Pseudo) → encode_utf8_all word ≡ word → is_pseudo allowed x ≡ true → encode_utf8_all (write_pseudo word x) ≡ spell_pseudo word x
unfolding encode
pseudo_spelled word allowed x e h =
    let quote = (and_parts (is_quote x.quote) _ (and_parts (list_all is_white x.after) _ (and_parts (list_all is_white x.before) _ (and_parts (is_gap x.gap) _ h).1).1).1).0 in
    both x.gap _ _ _ refl (both word _ _ _ e (both x.before _ _ _ refl (ap (λ z. 61 ∷ z) (both x.after _ _ _ refl
    (quote_spelled x.quote (x.value ++ x.quote ∷ []) (encode_utf8_all x.value ++ x.quote ∷ []) quote (both x.value (x.quote ∷ []) _ _ refl (quote_spelled x.quote [] [] quote refl)))))))

optional_spelled : (word : List ℕ) (allowed : List ℕ → Bool) (x : Option Pseudo) → encode_utf8_all word ≡ word → is_optional allowed x ≡ true → encode_utf8_all (write_optional word x) ≡ spell_optional word x
optional_spelled word allowed None e h = refl
optional_spelled word allowed (Some x) e h = pseudo_spelled word allowed x e h

pub declaration_spelled : (d : Option Declaration) → is_declaration d ≡ true → encode_utf8_all (write_declaration d) ≡ spell_declaration d
unfolding encode
declaration_spelled None h = refl
declaration_spelled (Some d) h =
    let one = and_parts (is_pseudo (λ v. bytes_eq v (codes "1.0")) d.version) _ h in
    let two = and_parts (is_optional (λ v. bytes_eq (str_to_ascii_lowercase v) (codes "utf-8")) d.encoding) _ one.1 in
    let three = and_parts (is_optional (λ v. bytes_eq v (codes "yes") || bytes_eq v (codes "no")) d.standalone) (list_all is_white d.gap) two.1 in
    ap (λ z. codes "<?xml" ++ z) (both (write_pseudo (codes "version") d.version) _ _ _ (pseudo_spelled (codes "version") (λ v. bytes_eq v (codes "1.0")) d.version refl one.0)
    (both (write_optional (codes "encoding") d.encoding) _ _ _ (optional_spelled (codes "encoding") (λ v. bytes_eq (str_to_ascii_lowercase v) (codes "utf-8")) d.encoding refl two.0)
    (both (write_optional (codes "standalone") d.standalone) _ _ _ (optional_spelled (codes "standalone") (λ v. bytes_eq v (codes "yes") || bytes_eq v (codes "no")) d.standalone refl three.0)
    (both d.gap (codes "?>") _ _ refl refl))))

pub head_spelled : (d : Document) → is_declaration d.declaration ≡ true → encode_utf8_all (write_head d) ≡ spell_head d
unfolding encode
head_spelled d h = by d.mark
  where
    by : (b : Bool) → encode_utf8_all ((if b then 0xFEFF ∷ [] else []) ++ write_declaration d.declaration) ≡ (if b then 0xEF ∷ 0xBB ∷ 0xBF ∷ [] else []) ++ spell_declaration d.declaration
    by true = ap (λ z. 0xEF ∷ 0xBB ∷ 0xBF ∷ z) (declaration_spelled d.declaration h)
    by false = declaration_spelled d.declaration h

pub prolog_spelled : (d : Document) → is_declaration d.declaration ≡ true → is_misc d.before ≡ true → encode_utf8_all (write_prolog d) ≡ spell_prolog d
prolog_spelled d declaration before = both (write_head d) (write_content d.before) _ _ (head_spelled d declaration) (misc_spelled d.before before)

pub document_spelled : (d : Document) → is_document d ≡ true → encode_utf8_all (write d) ≡ spell d
document_spelled d lawful =
    let one = and_parts (is_declaration d.declaration) (is_misc d.before && ((is_root d.root && is_content d.root) && is_misc d.after)) lawful in
    let two = and_parts (is_misc d.before) ((is_root d.root && is_content d.root) && is_misc d.after) one.1 in
    let three = and_parts (is_root d.root && is_content d.root) (is_misc d.after) two.1 in
    let four = and_parts (is_root d.root) (is_content d.root) three.0 in
    both (write_prolog d) (write_content d.root ++ write_content d.after) _ _ (both (write_head d) (write_content d.before) _ _ (head_spelled d one.0) (misc_spelled d.before two.0))
    (both (write_content d.root) (write_content d.after) _ _ (content_spelled d.root four.1) (misc_spelled d.after three.1))
