-- The content of a Value without a fault is a name, wherever it stands.
use Rattle.std.proofs.Common.{◌≡◌, ℕ, zero, suc, ◌+◌, Bool, true, false, not, ◌&&◌, cond, List, [], ◌∷◌, ◌++◌, length, take, drop, take_while, refl, ap, sym, ◌∙◌, one-add, Some, None, Option, option_map, option_and_then, unwrap_or}
use Rattle.std.specs.List.{list_all, prefix_len}
use Rattle.std.proofs.lemmas.Bool.{and_parts, both_ways, not-true, or_from}
use Rattle.std.proofs.lemmas.List.{map-append}
use lib.Utf8.{encodes}
use Rattle.pws_tree.specs.Names.{is_lawful_name}
use Rattle.pws_mark.specs.Documents.{Content, Nothing, Text, Section, Comment, Hollow, Element, spell_piece, section_start, section_end, comment_start, comment_end}
use Rattle.pws_mark.specs.Bindings.{Bindings, piece_char, written_prefix, has_two_colons, is_bound, element_name}
use Rattle.pws_mark.specs.Tokens.{is_white, is_name}
use Rattle.pws_mark.specs.Values.{Marked, placed, then_marked, marked, behind_white, first_word, letters, is_one_name}
use Rattle.pws_mark.specs.Meaning.{no_name, name_of, name_within, qualified_in}
use Rattle.pws_mark.specs.Faults.{Fault, first_place, content_faults_of, is_wrong_name}
use Rattle.pws_mark.specs.declared.errors.MarkKind.TheVariants as kind
use Rattle.pws_mark.proofs.LawfulTexts.{not_wrong}
use Rattle.pws_mark.proofs.LawfulNames.{AreLawful, IsResolved, resolves}
use Rattle.pws_mark.proofs.WrittenValues.{letters_of}

-- The letters that content has don't hang on its place.
letters_then : (c : Option ℕ) (a b : ℕ) (x y : Option Marked) → option_map letters x ≡ option_map letters y → option_map letters (then_marked c a x) ≡ option_map letters (then_marked c b y)
letters_then None a b x y h = refl
letters_then (Some c) a b None None h = refl
letters_then (Some c) a b None (Some y) h = absurd (none_some h)
  where
    none_some : ◌≡◌ {A = Option (List ℕ)} None (Some (letters y)) → ⊥
    none_some e = cc
letters_then (Some c) a b (Some x) None h = absurd (some_none h)
  where
    some_none : ◌≡◌ {A = Option (List ℕ)} (Some (letters x)) None → ⊥
    some_none e = cc
letters_then (Some c) a b (Some x) (Some y) h = ap (option_map (λ z. c ∷ z)) h

section_letters : (a : ℕ) (cs : List ℕ) (x : Option Marked) → option_map letters (option_map (λ more. placed a cs ++ more) x) ≡ option_map (λ z. cs ++ z) (option_map letters x)
section_letters a cs None = refl
section_letters a cs (Some x) = ap (λ z. Some z) (map-append (λ c. c.0) (placed a cs) x ∙ ap (λ z. z ++ letters x) (letters_of a cs))

letters_same : (a b : ℕ) (c : Content) → option_map letters (marked a c) ≡ option_map letters (marked b c)
letters_same a b Nothing = refl
letters_same a b (Text p rest) = letters_then (piece_char p) a b (marked (a + length (spell_piece p)) rest) (marked (b + length (spell_piece p)) rest) (letters_same (a + length (spell_piece p)) (b + length (spell_piece p)) rest)
letters_same a b (Section cs rest) =
    let size : ℕ = length (section_start ++ (encodes cs ++ section_end)) in
    section_letters (a + length section_start) cs (marked (a + size) rest)
    ∙ (ap (option_map (λ z. cs ++ z)) (letters_same (a + size) (b + size) rest) ∙ sym (section_letters (b + length section_start) cs (marked (b + size) rest)))
letters_same a b (Comment cs rest) =
    let size : ℕ = length (comment_start ++ (encodes cs ++ comment_end)) in
    letters_same (a + size) (b + size) rest
letters_same a b (Hollow tag rest) = refl
letters_same a b (Element tag inner gap rest) = refl

-- The name among letters.
behind : List ℕ → List ℕ
behind [] = []
behind (c ∷ cs) = cond (is_white c) (behind cs) (c ∷ cs)

abbrev not_white : ℕ → Bool
not_white c = not (is_white c)

word_in : List ℕ → List ℕ
word_in cs = take_while not_white (behind cs)

is_one : List ℕ → Bool
is_one cs = is_name (word_in cs) && (not (has_two_colons (word_in cs)) && list_all is_white (drop (length (word_in cs)) (behind cs)))

behind_letters : (xs : Marked) → letters (behind_white xs) ≡ behind (letters xs)
unfolding behind
behind_letters [] = refl
behind_letters (x ∷ xs) = by (is_white x.0) (behind_letters xs)
  where
    by : (b : Bool) → letters (behind_white xs) ≡ behind (letters xs) → letters (cond b (behind_white xs) (x ∷ xs)) ≡ cond b (behind (letters xs)) (x.0 ∷ letters xs)
    by true h = h
    by false h = refl

taken_letters : (xs : Marked) → letters (take_while (λ c. not_white c.0) xs) ≡ take_while not_white (letters xs)
taken_letters [] = refl
taken_letters (x ∷ xs) = by (not_white x.0) (taken_letters xs)
  where
    by : (b : Bool) → letters (take_while (λ c. not_white c.0) xs) ≡ take_while not_white (letters xs) → letters (take (cond b (1 + prefix_len (λ c. not_white c.0) xs) 0) (x ∷ xs)) ≡ take (cond b (1 + prefix_len not_white (letters xs)) 0) (x.0 ∷ letters xs)
    by true h = simp one-add (ap (λ z. x.0 ∷ z) h)
    by false h = refl

word_letters : (xs : Marked) → letters (first_word xs) ≡ word_in (letters xs)
unfolding word_in
word_letters xs = taken_letters (behind_white xs) ∙ ap (take_while not_white) (behind_letters xs)

letters_length : (xs : Marked) → length (letters xs) ≡ length xs
letters_length [] = refl
letters_length (x ∷ xs) = ap suc (letters_length xs)

dropped_letters : (n : ℕ) (xs : Marked) → letters (drop n xs) ≡ drop n (letters xs)
dropped_letters zero [] = refl
dropped_letters zero (x ∷ xs) = refl
dropped_letters (suc n) [] = refl
dropped_letters (suc n) (x ∷ xs) = dropped_letters n xs

white_letters : (xs : Marked) → list_all (λ c. is_white c.0) xs ≡ list_all is_white (letters xs)
white_letters [] = refl
white_letters (x ∷ xs) = ap (λ z. is_white x.0 && z) (white_letters xs)

one_letters : (xs : Marked) → is_one_name xs ≡ is_one (letters xs)
unfolding is_one
one_letters xs =
    let word : letters (first_word xs) ≡ word_in (letters xs) = word_letters xs in
    let rest : list_all (λ c. is_white c.0) (drop (length (first_word xs)) (behind_white xs)) ≡ list_all is_white (drop (length (word_in (letters xs))) (behind (letters xs))) =
    white_letters (drop (length (first_word xs)) (behind_white xs))
    ∙ ap (list_all is_white) (dropped_letters (length (first_word xs)) (behind_white xs) ∙ (λ i. drop (length_of i) (behind_letters xs i))) in
    (λ i. is_name (word i) && (not (has_two_colons (word i)) && rest i))
  where
    length_of : length (first_word xs) ≡ length (word_in (letters xs))
    length_of = sym (letters_length (first_word xs)) ∙ ap length (word_letters xs)

abbrev found_in : List ℕ → Option (List ℕ)
found_in cs = cond (is_one cs) (Some (word_in cs)) None

within_letters : (at : ℕ) (c : Content) → option_map letters (name_within at c) ≡ option_and_then found_in (option_map letters (marked at c))
within_letters at c = by (marked at c)
  where
    some : (xs : Marked) (b d : Bool) → b ≡ d → option_map letters (cond b (Some (first_word xs)) None) ≡ cond d (Some (word_in (letters xs))) None
    some xs true true e = ap (λ z. Some z) (word_letters xs)
    some xs true false e = absurd (both_ways true e refl)
    some xs false true e = absurd (both_ways false refl e)
    some xs false false e = refl

    by : (o : Option Marked) → option_map letters (option_and_then (λ chars. cond (is_one_name chars) (Some (first_word chars)) None) o) ≡ option_and_then found_in (option_map letters o)
    by None = refl
    by (Some xs) = some xs (is_one_name xs) (is_one (letters xs)) (one_letters xs)

-- the name is the same at each place
within_same : (a b : ℕ) (c : Content) → option_map letters (name_within a c) ≡ option_map letters (name_within b c)
within_same a b c = within_letters a c ∙ (ap (option_and_then found_in) (letters_same a b c) ∙ sym (within_letters b c))

-- A Value without a fault.
record IsWord (m : Bindings) (at : ℕ) (c : Content) : Type 0 where
  word : List ℕ
  given : option_map letters (name_within at c) ≡ Some word
  named : is_name word ≡ true
  right : is_wrong_name m word ≡ false

is_word : (m : Bindings) (at inner_at end : ℕ) (c : Content) → content_faults_of m at end (name_within inner_at c) ≡ [] → IsWord m inner_at c
is_word m at inner_at end c h = by (marked inner_at c) refl h
  where
    one : (xs : Marked) (b : Bool) → marked inner_at c ≡ Some xs → is_one_name xs ≡ b → content_faults_of m at end (cond b (Some (first_word xs)) None) ≡ [] → IsWord m inner_at c
    one xs false e f g = absurd (no_fault g)
      where
        no_fault : ◌≡◌ {A = List Fault} (record { kind = kind.Syntax; at = at; end = end } ∷ []) [] → ⊥
        no_fault i = cc
    one xs true e f g =
        let a = and_parts (is_name (letters (first_word xs))) (not (has_two_colons (letters (first_word xs))) && list_all (λ c. is_white c.0) (drop (length (first_word xs)) (behind_white xs))) f in
        let b = and_parts (not (has_two_colons (letters (first_word xs)))) (list_all (λ c. is_white c.0) (drop (length (first_word xs)) (behind_white xs))) a.1 in
        record {
          word = letters (first_word xs);
          given = ap (λ z. option_map letters (option_and_then (λ chars. cond (is_one_name chars) (Some (first_word chars)) None) z)) e ∙ ap (λ z. option_map letters (cond z (Some (first_word xs)) None)) f;
          named = a.0;
          right = or_from (has_two_colons (letters (first_word xs))) (not (is_bound m (written_prefix (letters (first_word xs))))) (not-true (has_two_colons (letters (first_word xs))) b.0) (not_wrong (not (is_bound m (written_prefix (letters (first_word xs))))) kind.Prefix (first_place (first_word xs)) end g);
        }

    by : (o : Option Marked) → marked inner_at c ≡ o → content_faults_of m at end (option_and_then (λ chars. cond (is_one_name chars) (Some (first_word chars)) None) o) ≡ [] → IsWord m inner_at c
    by None e g = absurd (no_fault g)
      where
        no_fault : ◌≡◌ {A = List Fault} (record { kind = kind.Syntax; at = at; end = end } ∷ []) [] → ⊥
        no_fault i = cc
    by (Some xs) e g = one xs (is_one_name xs) e refl g

letters_or : (o : Option Marked) → letters (unwrap_or o []) ≡ unwrap_or (option_map letters o) []
letters_or None = refl
letters_or (Some xs) = refl

pub value_lawful : (m : Bindings) (at inner_at end : ℕ) (c : Content) → AreLawful m → content_faults_of m at end (name_within inner_at c) ≡ [] → is_lawful_name (qualified_in m c) ≡ true
unfolding qualified_in name_of
value_lawful m at inner_at end c h g =
    let w : IsWord m inner_at c = is_word m at inner_at end c g in
    let r : IsResolved m w.word = resolves m w.word h w.named w.right in
    let word : letters (unwrap_or (name_within 0 c) []) ≡ w.word = letters_or (name_within 0 c) ∙ ap (λ z. unwrap_or z []) (within_same 0 inner_at c ∙ w.given) in
    ap (λ z. is_lawful_name (unwrap_or (element_name m z) no_name)) word ∙ (ap (λ z. is_lawful_name (unwrap_or z no_name)) r.found ∙ r.lawful)
