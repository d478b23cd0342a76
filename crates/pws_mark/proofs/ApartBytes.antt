-- Names, values, texts and attributes end where they end: what is written can be told from what follows.
use Rattle.std.proofs.Common.{◌≡◌, ℕ, ◌<◌, ◌≤◌, Bool, true, false, not, ◌&&◌, ◌||◌, cond, List, [], ◌∷◌, ◌++◌, length, get_or, drop, suc, refl, ap, sym, ◌∙◌, arith, append_assoc, Some, None, Option, codes, slice_index, inl, inr}
use Rattle.std.specs.Prelude.{◌==◌, ◌⊎◌, if◌then◌else◌}
use Rattle.std.specs.List.{flat_map, list_all}
use Rattle.std.proofs.lemmas.Bool.{and_parts, and_from, eq-eqb, eqb-true, ne_eqb, not_from_false, not-true, both_ways, or_from}
use Rattle.std.proofs.lemmas.Bool.Decides.{leb_tells}
use Rattle.std.proofs.lemmas.List.Folds.{list_all-append}
use Rattle.std.proofs.lemmas.Str.{encode_ascii}
use Rattle.std.proofs.Math.Dec.{leb}
use lib.Utf8.{encode, encodes}
use Rattle.pws_tree.specs.Characters.{name_start_ranges, name_more_ranges}
use Rattle.pws_mark.specs.Canonical.{text_byte, value_byte, value_text}
use Rattle.pws_mark.proofs.Escapes.{other, high}
use Rattle.pws_mark.proofs.WrittenGrammar.{is_word_char, word_not}

-- The first byte of a value and the bytes behind it; none where the value ends.
second_of : List ℕ → Option (ℕ × List ℕ)
second_of cs =
    if slice_index cs 0 == 97 then Some (38, drop 4 cs)
    else if slice_index cs 0 == 108 then Some (60, drop 3 cs)
    else if slice_index cs 0 == 103 then Some (62, drop 3 cs)
    else if slice_index cs 0 == 113 then Some (34, drop 5 cs)
    else if slice_index cs 1 == 57 then Some (9, drop 3 cs)
    else if slice_index cs 2 == 48 then Some (10, drop 4 cs)
    else Some (13, drop 4 cs)

first_of_bytes : ℕ → List ℕ → Option (ℕ × List ℕ)
first_of_bytes end [] = None
first_of_bytes end (c ∷ cs) = if c == end then None else if c == 38 then second_of cs else Some (c, cs)

value_first : (b : ℕ) (x : List ℕ) → first_of_bytes 34 (value_byte b ++ x) ≡ Some (b, x)
unfolding value_byte first_of_bytes second_of
value_first b x = by (b == 38) (b == 60) (b == 34) (b == 9) (b == 10) (b == 13) refl refl (eqb-true b 38) (eqb-true b 60) (eqb-true b 34) (eqb-true b 9) (eqb-true b 10) (eqb-true b 13)
  where
    by : (s t u v w y : Bool) → (b == 38) ≡ s → (b == 34) ≡ u → (s ≡ true → b ≡ 38) → (t ≡ true → b ≡ 60) → (u ≡ true → b ≡ 34) → (v ≡ true → b ≡ 9) → (w ≡ true → b ≡ 10) → (y ≡ true → b ≡ 13) → first_of_bytes 34 ((if s then codes "&amp;" else if t then codes "&lt;" else if u then codes "&quot;" else if v then codes "&#9;" else if w then codes "&#10;" else if y then codes "&#13;" else b ∷ []) ++ x) ≡ Some (b, x)
    by true t u v w y p q e0 e1 e2 e3 e4 e5 = ap (λ z. Some (z, x)) (sym (e0 refl))
    by false true u v w y p q e0 e1 e2 e3 e4 e5 = ap (λ z. Some (z, x)) (sym (e1 refl))
    by false false true v w y p q e0 e1 e2 e3 e4 e5 = ap (λ z. Some (z, x)) (sym (e2 refl))
    by false false false true w y p q e0 e1 e2 e3 e4 e5 = ap (λ z. Some (z, x)) (sym (e3 refl))
    by false false false false true y p q e0 e1 e2 e3 e4 e5 = ap (λ z. Some (z, x)) (sym (e4 refl))
    by false false false false false true p q e0 e1 e2 e3 e4 e5 = ap (λ z. Some (z, x)) (sym (e5 refl))
    by false false false false false false p q e0 e1 e2 e3 e4 e5 =
        ap (λ z. cond z None (cond (b == 38) (second_of x) (Some (b, x)))) q ∙ ap (λ z. cond z (second_of x) (Some (b, x))) p

text_first : (b : ℕ) (x : List ℕ) → first_of_bytes 60 (text_byte b ++ x) ≡ Some (b, x)
unfolding text_byte first_of_bytes second_of
text_first b x = by (b == 38) (b == 60) (b == 62) (b == 13) refl refl (eqb-true b 38) (eqb-true b 60) (eqb-true b 62) (eqb-true b 13)
  where
    by : (s t u v : Bool) → (b == 38) ≡ s → (b == 60) ≡ t → (s ≡ true → b ≡ 38) → (t ≡ true → b ≡ 60) → (u ≡ true → b ≡ 62) → (v ≡ true → b ≡ 13) → first_of_bytes 60 ((if s then codes "&amp;" else if t then codes "&lt;" else if u then codes "&gt;" else if v then codes "&#13;" else b ∷ []) ++ x) ≡ Some (b, x)
    by true t u v p q e0 e1 e2 e3 = ap (λ z. Some (z, x)) (sym (e0 refl))
    by false true u v p q e0 e1 e2 e3 = ap (λ z. Some (z, x)) (sym (e1 refl))
    by false false true v p q e0 e1 e2 e3 = ap (λ z. Some (z, x)) (sym (e2 refl))
    by false false false true p q e0 e1 e2 e3 = ap (λ z. Some (z, x)) (sym (e3 refl))
    by false false false false p q e0 e1 e2 e3 =
        ap (λ z. cond z None (cond (b == 38) (second_of x) (Some (b, x)))) q ∙ ap (λ z. cond z (second_of x) (Some (b, x))) p

ended : (end : ℕ) (x : List ℕ) → first_of_bytes end (end ∷ x) ≡ None
unfolding first_of_bytes
ended end x = ap (λ z. cond z None (cond (end == 38) (second_of x) (Some (end, x)))) (eq-eqb end end refl)

some_pair : Option (ℕ × List ℕ) → ℕ × List ℕ
some_pair None = (0, [])
some_pair (Some p) = p

-- bytes that are written one by one, up to an end that none of them begins with
pub IsTold : ℕ → (ℕ → List ℕ) → Type 0
IsTold end f = (b : ℕ) (x : List ℕ) → first_of_bytes end (f b ++ x) ≡ Some (b, x)

first_told : (end : ℕ) (f : ℕ → List ℕ) → IsTold end f → (b : ℕ) (v x : List ℕ) → first_of_bytes end (flat_map f (b ∷ v) ++ x) ≡ Some (b, flat_map f v ++ x)
unfolding IsTold
first_told end f told b v x = ap (first_of_bytes end) (append_assoc (f b) (flat_map f v) x) ∙ told b (flat_map f v ++ x)

pub bytes_apart : (end : ℕ) (f : ℕ → List ℕ) → IsTold end f → (v w r s : List ℕ) → flat_map f v ++ end ∷ r ≡ flat_map f w ++ end ∷ s → (v ≡ w) × (r ≡ s)
unfolding some_pair
bytes_apart end f told [] [] r s e = (refl, cc)
bytes_apart end f told [] (b ∷ w) r s e =
    let i : ◌≡◌ {A = Option (ℕ × List ℕ)} None (Some (b, flat_map f w ++ end ∷ s)) = sym (ended end r) ∙ (ap (first_of_bytes end) e ∙ first_told end f told b w (end ∷ s)) in
    cc
bytes_apart end f told (a ∷ v) [] r s e =
    let i : ◌≡◌ {A = Option (ℕ × List ℕ)} None (Some (a, flat_map f v ++ end ∷ r)) = sym (ended end s) ∙ (ap (first_of_bytes end) (sym e) ∙ first_told end f told a v (end ∷ r)) in
    cc
bytes_apart end f told (a ∷ v) (b ∷ w) r s e =
    let i : Some (a, flat_map f v ++ end ∷ r) ≡ Some (b, flat_map f w ++ end ∷ s) = sym (first_told end f told a v (end ∷ r)) ∙ (ap (first_of_bytes end) e ∙ first_told end f told b w (end ∷ s)) in
    let first : a ≡ b = ap (λ z. (some_pair z).0) i in
    let rest = bytes_apart end f told v w r s (ap (λ z. (some_pair z).1) i) in
    ((λ k. first k ∷ rest.0 k), rest.1)

pub values_apart : (v w r s : List ℕ) → flat_map value_byte v ++ 34 ∷ r ≡ flat_map value_byte w ++ 34 ∷ s → (v ≡ w) × (r ≡ s)
unfolding IsTold
values_apart v w r s e = bytes_apart 34 value_byte value_first v w r s e

pub texts_apart : (t u r s : List ℕ) → flat_map text_byte t ++ 60 ∷ r ≡ flat_map text_byte u ++ 60 ∷ s → (t ≡ u) × (r ≡ s)
unfolding IsTold
texts_apart t u r s e = bytes_apart 60 text_byte text_first t u r s e

-- a text of some bytes doesn't begin as a tag does
pub text_not_tag : (b : ℕ) (t x r : List ℕ) → 60 ∷ r ≡ flat_map text_byte (b ∷ t) ++ x → ⊥
unfolding IsTold
text_not_tag b t x r e =
    let i : ◌≡◌ {A = Option (ℕ × List ℕ)} None (Some (b, flat_map text_byte t ++ x)) = sym (ended 60 r) ∙ (ap (first_of_bytes 60) e ∙ first_told 60 text_byte text_first b t x) in
    cc

-- Names end before a space, an equals sign and the brackets.
abbrev pub is_stop : ℕ → Bool
is_stop b = b == 32 || (b == 61 || (b == 62 || b == 60))

abbrev pub goes : ℕ → Bool
goes b = not (is_stop b) && not (b == 47)

pub names_apart : (w v : List ℕ) (a b : ℕ) (r s : List ℕ) → list_all goes w ≡ true → list_all goes v ≡ true → is_stop a ≡ true → is_stop b ≡ true → w ++ a ∷ r ≡ v ++ b ∷ s → (w ≡ v) × (a ≡ b) × (r ≡ s)
names_apart [] [] a b r s h g x y e = (refl, cc, cc)
names_apart [] (d ∷ v) a b r s h g x y e =
    let same : a ≡ d = cc in
    let stops : is_stop d ≡ true = ap is_stop (sym same) ∙ x in
    let not_stop : is_stop d ≡ false = not-true (is_stop d) (and_parts (not (is_stop d)) (not (d == 47)) (and_parts (goes d) (list_all goes v) g).0).0 in
    absurd (both_ways (is_stop d) not_stop stops)
names_apart (c ∷ w) [] a b r s h g x y e =
    let same : b ≡ c = cc in
    let stops : is_stop c ≡ true = ap is_stop (sym same) ∙ y in
    let not_stop : is_stop c ≡ false = not-true (is_stop c) (and_parts (not (is_stop c)) (not (c == 47)) (and_parts (goes c) (list_all goes w) h).0).0 in
    absurd (both_ways (is_stop c) not_stop stops)
names_apart (c ∷ w) (d ∷ v) a b r s h g x y e =
    let first : c ≡ d = cc in
    let more : w ++ a ∷ r ≡ v ++ b ∷ s = cc in
    let rest = names_apart w v a b r s (and_parts (goes c) (list_all goes w) h).1 (and_parts (goes d) (list_all goes v) g).1 x y more in
    ((λ k. first k ∷ rest.0 k), rest.1, rest.2)

byte_goes : (c : ℕ) → is_word_char c ≡ true → goes c ≡ true
unfolding name_start_ranges name_more_ranges
byte_goes c h =
    and_from (not (is_stop c)) (not (c == 47))
    (not_from_false (is_stop c) (or_from (c == 32) (c == 61 || (c == 62 || c == 60)) (word_not 32 c refl h) (or_from (c == 61) (c == 62 || c == 60) (word_not 61 c refl h) (or_from (c == 62) (c == 60) (word_not 62 c refl h) (word_not 60 c refl h)))))
    (not_from_false (c == 47) (word_not 47 c refl h))

pub words_go : (cs : List ℕ) → list_all is_word_char cs ≡ true → list_all goes cs ≡ true
words_go [] h = refl
words_go (c ∷ cs) h =
    let parts = and_parts (is_word_char c) (list_all is_word_char cs) h in
    and_from (goes c) (list_all goes cs) (byte_goes c parts.0) (words_go cs parts.1)

high_goes : (b : ℕ) → 128 ≤ b → goes b ≡ true
high_goes b h =
    and_from (not (is_stop b)) (not (b == 47))
    (not_from_false (is_stop b) (or_from (b == 32) (b == 61 || (b == 62 || b == 60)) (ne_eqb b 32 (other b 32 h (omega arith))) (or_from (b == 61) (b == 62 || b == 60) (ne_eqb b 61 (other b 61 h (omega arith))) (or_from (b == 62) (b == 60) (ne_eqb b 62 (other b 62 h (omega arith))) (ne_eqb b 60 (other b 60 h (omega arith)))))))
    (not_from_false (b == 47) (ne_eqb b 47 (other b 47 h (omega arith))))

all_high : (bs : List ℕ) → ((i : ℕ) → i < length bs → 128 ≤ get_or bs i 0) → list_all goes bs ≡ true
all_high [] h = refl
all_high (b ∷ bs) h = and_from (goes b) (list_all goes bs) (high_goes b (h 0 (omega arith))) (all_high bs (λ i low. h (suc i) (omega arith)))

char_goes : (c : ℕ) → is_word_char c ≡ true → list_all goes (encode c) ≡ true
char_goes c h = by (leb_tells 128 c)
  where
    by : ((leb 128 c ≡ true) × (128 ≤ c)) ⊎ ((leb 128 c ≡ false) × (c < 128)) → list_all goes (encode c) ≡ true
    by (inl p) = all_high (encode c) (high c p.1)
    by (inr p) = ap (list_all goes) (encode_ascii c p.1) ∙ and_from (goes c) true (byte_goes c h) refl

pub word_goes : (cs : List ℕ) → list_all is_word_char cs ≡ true → list_all goes (encodes cs) ≡ true
word_goes [] h = refl
word_goes (c ∷ cs) h =
    let parts = and_parts (is_word_char c) (list_all is_word_char cs) h in
    list_all-append goes (encode c) (encodes cs) ∙ and_from (list_all goes (encode c)) (list_all goes (encodes cs)) (char_goes c parts.0) (word_goes cs parts.1)

-- Attributes, each a name and a value, up to the end of the tag.
abbrev pub Written : Type 0
Written = List ℕ × List ℕ

abbrev pub pair_text : Written → List ℕ
pair_text p = 32 ∷ (p.0 ++ value_text p.1)

abbrev pub all_go : List Written → Type 0
all_go [] = Unit {0}
all_go (p ∷ ps) = (list_all goes p.0 ≡ true) × all_go ps

pub tail_of : {a b : ℕ} {xs ys : List ℕ} → a ∷ xs ≡ b ∷ ys → xs ≡ ys
tail_of e = cc

pair_regrouped : (name value rest : List ℕ) → (32 ∷ (name ++ 61 ∷ 34 ∷ (value ++ 34 ∷ []))) ++ rest ≡ 32 ∷ (name ++ 61 ∷ 34 ∷ (value ++ 34 ∷ rest))
pair_regrouped name value rest = simp append_assoc

pub first_pair : (p : Written) (ps : List Written) (r : List ℕ) → flat_map pair_text (p ∷ ps) ++ r ≡ 32 ∷ (p.0 ++ 61 ∷ 34 ∷ (flat_map value_byte p.1 ++ 34 ∷ (flat_map pair_text ps ++ r)))
first_pair p ps r = append_assoc (pair_text p) (flat_map pair_text ps) r ∙ pair_regrouped p.0 (flat_map value_byte p.1) (flat_map pair_text ps ++ r)

not_end : (p : Written) (ps : List Written) (r x : List ℕ) → 62 ∷ r ≡ flat_map pair_text (p ∷ ps) ++ x → ⊥
not_end p ps r x e = let i : 62 ∷ r ≡ 32 ∷ (p.0 ++ 61 ∷ 34 ∷ (flat_map value_byte p.1 ++ 34 ∷ (flat_map pair_text ps ++ x))) = e ∙ first_pair p ps x in cc

same_pair : (p q : Written) → p.0 ≡ q.0 → p.1 ≡ q.1 → p ≡ q
same_pair p q a b = λ i. (a i, b i)

same_cons : (p q : Written) (ps qs : List Written) → p ≡ q → ps ≡ qs → p ∷ ps ≡ q ∷ qs
same_cons p q ps qs a b = λ i. a i ∷ b i

pair_apart : (n v o w x y : List ℕ) → list_all goes n ≡ true → list_all goes o ≡ true → 32 ∷ (n ++ 61 ∷ 34 ∷ (flat_map value_byte v ++ 34 ∷ x)) ≡ 32 ∷ (o ++ 61 ∷ 34 ∷ (flat_map value_byte w ++ 34 ∷ y)) → (n ≡ o) × (v ≡ w) × (x ≡ y)
pair_apart n v o w x y h g e =
    let names = names_apart n o 61 61 (34 ∷ (flat_map value_byte v ++ 34 ∷ x)) (34 ∷ (flat_map value_byte w ++ 34 ∷ y)) h g refl refl (tail_of e) in
    let values = values_apart v w x y (tail_of names.2) in
    (names.0, values.0, values.1)

pub attributes_apart : (ps qs : List Written) (r s : List ℕ) → all_go ps → all_go qs → flat_map pair_text ps ++ 62 ∷ r ≡ flat_map pair_text qs ++ 62 ∷ s → (ps ≡ qs) × (r ≡ s)
attributes_apart [] [] r s h g e = (refl, tail_of e)
attributes_apart [] (q ∷ qs) r s h g e = absurd (not_end q qs r (62 ∷ s) e)
attributes_apart (p ∷ ps) [] r s h g e = absurd (not_end p ps s (62 ∷ r) (sym e))
attributes_apart (p ∷ ps) (q ∷ qs) r s h g e =
    let pair = pair_apart p.0 p.1 q.0 q.1 (flat_map pair_text ps ++ 62 ∷ r) (flat_map pair_text qs ++ 62 ∷ s) h.0 g.0 (sym (first_pair p ps (62 ∷ r)) ∙ (e ∙ first_pair q qs (62 ∷ s))) in
    let rest = attributes_apart ps qs r s h.1 g.1 pair.2 in
    (same_cons p q ps qs (same_pair p q pair.0 pair.1) rest.0, rest.1)

-- what follows the name in a tag
pub record IsStopped (bytes : List ℕ) : Type 0 where
  pub stop : ℕ
  pub rest : List ℕ
  pub stops : is_stop stop ≡ true
  pub bytes_are : bytes ≡ stop ∷ rest

pub stopped : (ps : List Written) (r : List ℕ) → IsStopped (flat_map pair_text ps ++ 62 ∷ r)
stopped [] r = record { stop = 62; rest = r; stops = refl; bytes_are = refl }
stopped (p ∷ ps) r = record { stop = 32; rest = p.0 ++ 61 ∷ 34 ∷ (flat_map value_byte p.1 ++ 34 ∷ (flat_map pair_text ps ++ 62 ∷ r)); stops = refl; bytes_are = first_pair p ps (62 ∷ r) }

-- a start tag, and what follows it
pub tags_apart : (n o : List ℕ) (ps qs : List Written) (r s : List ℕ) → list_all goes n ≡ true → list_all goes o ≡ true → all_go ps → all_go qs → n ++ (flat_map pair_text ps ++ 62 ∷ r) ≡ o ++ (flat_map pair_text qs ++ 62 ∷ s) → (n ≡ o) × (ps ≡ qs) × (r ≡ s)
tags_apart n o ps qs r s hn ho hp hq e =
    let x : IsStopped (flat_map pair_text ps ++ 62 ∷ r) = stopped ps r in
    let y : IsStopped (flat_map pair_text qs ++ 62 ∷ s) = stopped qs s in
    let names = names_apart n o x.stop y.stop x.rest y.rest hn ho x.stops y.stops (ap (λ z. n ++ z) (sym x.bytes_are) ∙ (e ∙ ap (λ z. o ++ z) y.bytes_are)) in
    let rest = attributes_apart ps qs r s hp hq (x.bytes_are ∙ ((λ i. names.1 i ∷ names.2 i) ∙ sym y.bytes_are)) in
    (names.0, rest.0, rest.1)

-- a start tag doesn't begin as an end tag does
pub not_end_tag : (n : List ℕ) (ps : List Written) (x r : List ℕ) → list_all goes n ≡ true → 47 ∷ x ≡ n ++ (flat_map pair_text ps ++ 62 ∷ r) → ⊥
not_end_tag [] ps x r h e =
    let y : IsStopped (flat_map pair_text ps ++ 62 ∷ r) = stopped ps r in
    let i : 47 ∷ x ≡ y.stop ∷ y.rest = e ∙ y.bytes_are in
    let same : 47 ≡ y.stop = cc in
    both_ways (is_stop 47) refl (ap is_stop same ∙ y.stops)
not_end_tag (c ∷ n) ps x r h e =
    let same : 47 ≡ c = cc in
    both_ways (goes 47) refl (ap goes same ∙ (and_parts (goes c) (list_all goes n) h).0)
