-- The reader takes the head of a document.
use Rattle.std.proofs.Common.{◌≡◌, ◌⊎◌, inl, inr, ℕ, ◌+◌, Bool, true, false, not, ◌&&◌, ◌||◌, List, [], ◌∷◌, ◌++◌, map, length, refl, ap, subst, sym, ◌∙◌, arith, length-append, append_assoc, append-nil, Option, Some, None}
use Rattle.std.specs.Prelude.{◌==◌, option_map, encode_utf8, encode_utf8_all, codes}
use Rattle.std.specs.List.{list_all}
use Rattle.std.specs.Str.{bytes_eq, str_to_ascii_lowercase}
use Rattle.std.proofs.lemmas.Bool.{and_parts, not-true, eqb-true, eq-eqb}
use Rattle.std.proofs.lemmas.Slice.Eq.{bytes_eq-Decides}
use lib.Utf8.{encode}
use Rattle.pws_tree.specs.Characters.{name_start_ranges}
use Rattle.pws_mark.specs.Documents.{Pseudo, Declaration, spell_pseudo, spell_optional, spell_declaration, byte_order_mark}
use Rattle.pws_mark.specs.Grammar.{is_pseudo, is_optional, is_declaration}
use Rattle.pws_mark.specs.Noted.{noted, noted_at, finds, then_noted}
use Rattle.pws_mark.specs.Scan.{next, run, then_run, step, outside, declaring_step, part_word, literal_word, part_behind, value_begins, as_compared}
use Rattle.pws_mark.specs.Spelling.{write_pseudo, write_optional, write_declaration}
use Rattle.pws_mark.specs.States.{State}
use Rattle.pws_mark.specs.TokenLaws.{Goes, state, may_follow, HeadIsTaken, HeadsAreTaken}
use Rattle.pws_mark.specs.Tokens.{is_white, is_gap, is_quote}
use Rattle.pws_mark.specs.declared.modes.Declaring.{Declaring}
use Rattle.pws_mark.specs.declared.modes.Declaring.TheVariants as declaring
use Rattle.pws_mark.specs.declared.modes.Literal.{Literal}
use Rattle.pws_mark.specs.declared.modes.Literal.TheVariants as literal
use Rattle.pws_mark.specs.declared.modes.Mode.{Mode}
use Rattle.pws_mark.specs.declared.modes.Mode.TheVariants as mode
use Rattle.pws_mark.specs.declared.modes.Part.{Part}
use Rattle.pws_mark.specs.declared.modes.Part.TheVariants as part
use Rattle.pws_mark.proofs.Going.{goes_on_to, goes_at, goes_once, goes_round, goes_nowhere, run_append, noted_append}
use Rattle.pws_mark.proofs.TakesEnds.{has_behind, has_none_behind}
use Rattle.pws_mark.proofs.TakesTags.{white_is, quote_is}

abbrev in_head : ℕ → Declaring → State
in_head at d = state at (mode.Declaring d) outside

declares_once : (d e : Declaring) (at c : ℕ) → declaring_step d c ≡ Some (Some e) → Goes (in_head at d) (c ∷ []) (in_head (at + length (encode_utf8 c)) e) []
unfolding next finds
declares_once d e at c h = goes_once (mode.Declaring d) (mode.Declaring e) outside outside at c [] (rw h refl) refl

declares_round : (d : Declaring) (p : ℕ → Bool) → ((c : ℕ) → p c ≡ true → declaring_step d c ≡ Some (Some d)) → (cs : List ℕ) (at : ℕ) → list_all p cs ≡ true → Goes (in_head at d) cs (in_head (at + length (encode_utf8_all cs)) d) []
unfolding next finds
declares_round d p stays cs at all = goes_round (mode.Declaring d) outside p (λ q c h. rw (stays c h) refl) (λ c h. refl) cs at all

white_in : (q : Part) (spaced : Bool) (gap : List ℕ) (at : ℕ) → list_all is_white gap ≡ true → Goes (in_head at (declaring.Gap q true)) gap (in_head (at + length (encode_utf8_all gap)) (declaring.Gap q true)) []
unfolding declaring_step
white_in q spaced gap at white = declares_round (declaring.Gap q true) is_white (λ c h. rw h refl) gap at white

gap_in : (q : Part) (spaced : Bool) (gap : List ℕ) (at : ℕ) → is_gap gap ≡ true → Goes (in_head at (declaring.Gap q spaced)) gap (in_head (at + length (encode_utf8_all gap)) (declaring.Gap q true)) []
unfolding declaring_step
gap_in q spaced [] at white = absurd cc
gap_in q spaced (c ∷ gap) at white =
    let parts = and_parts (is_white c) (list_all is_white gap) white in
    goes_at (in_head at (declaring.Gap q spaced)) (c ∷ gap) (mode.Declaring (declaring.Gap q true)) outside [] (at + length (encode_utf8 c) + length (encode_utf8_all gap)) (at + length (encode_utf8 c ++ encode_utf8_all gap))
    (omega (arith, length-append (encode_utf8 c) (encode_utf8_all gap)))
    (goes_on_to _ _ _ (c ∷ []) gap [] [] (declares_once (declaring.Gap q spaced) (declaring.Gap q true) at c (rw parts.0 refl)) (white_in q spaced gap (at + length (encode_utf8 c)) parts.1))

-- the words of the parts, each where it may stand
version_named : (at : ℕ) → Goes (in_head at (declaring.Gap part.Version true)) (codes "version") (in_head (at + 7) (declaring.Name part.Version 7)) []
unfolding next finds run noted declaring_step part_word encode
version_named at = record { runs = ap (λ p. Some (in_head p (declaring.Name part.Version 7))) seven; notes = refl }
  where
    seven : at + 1 + 1 + 1 + 1 + 1 + 1 + 1 ≡ at + 7
    seven = omega arith

encoding_named : (at : ℕ) → Goes (in_head at (declaring.Gap part.Encoding true)) (codes "encoding") (in_head (at + 8) (declaring.Name part.Encoding 8)) []
unfolding next finds run noted declaring_step part_word encode
encoding_named at = record { runs = ap (λ p. Some (in_head p (declaring.Name part.Encoding 8))) eight; notes = refl }
  where
    eight : at + 1 + 1 + 1 + 1 + 1 + 1 + 1 + 1 ≡ at + 8
    eight = omega arith

-- standalone may stand where encoding may
standalone_named : (q : Part) → (q ≡ part.Encoding) ⊎ (q ≡ part.Standalone) → (at : ℕ) → Goes (in_head at (declaring.Gap q true)) (codes "standalone") (in_head (at + 10) (declaring.Name part.Standalone 10)) []
unfolding next finds run noted declaring_step part_word encode
standalone_named q may at = subst (λ p. Goes (in_head at (declaring.Gap q true)) (codes "standalone") (in_head p (declaring.Name part.Standalone 10)) []) ten (by q may)
  where
    ten : at + 1 + 1 + 1 + 1 + 1 + 1 + 1 + 1 + 1 + 1 ≡ at + 10
    ten = omega arith

    by : (r : Part) → (r ≡ part.Encoding) ⊎ (r ≡ part.Standalone) → Goes (in_head at (declaring.Gap r true)) (codes "standalone") (in_head (at + 1 + 1 + 1 + 1 + 1 + 1 + 1 + 1 + 1 + 1) (declaring.Name part.Standalone 10)) []
    by part.Version (inl h) = absurd cc
    by part.Version (inr h) = absurd cc
    by part.Encoding h = record { runs = refl; notes = refl }
    by part.Standalone h = record { runs = refl; notes = refl }
    by part.End (inl h) = absurd cc
    by part.End (inr h) = absurd cc

-- behind the name of a part, up to the =
equals_in : (p : Part) (n : ℕ) (before : List ℕ) (at : ℕ) → length (part_word p) ≡ n → list_all is_white before ≡ true → Goes (in_head at (declaring.Name p n)) (before ++ 61 ∷ []) (in_head (at + (length (encode_utf8_all before) + 1)) (declaring.AfterEquals p)) []
unfolding declaring_step encode
equals_in p n [] at size white =
    subst (λ k. Goes (in_head at (declaring.Name p k)) (61 ∷ []) (in_head (at + (0 + 1)) (declaring.AfterEquals p)) []) size
    (goes_at (in_head at (declaring.Name p (length (part_word p)))) (61 ∷ []) (mode.Declaring (declaring.AfterEquals p)) outside [] (at + 1) (at + (0 + 1)) (omega arith)
    (declares_once (declaring.Name p (length (part_word p))) (declaring.AfterEquals p) at 61 (rw (has_none_behind (part_word p) 61, eq-eqb (length (part_word p)) (length (part_word p)) refl) refl)))
equals_in p n (c ∷ cs) at size white =
    let parts = and_parts (is_white c) (list_all is_white cs) white in
    subst (λ k. Goes (in_head at (declaring.Name p k)) (c ∷ (cs ++ 61 ∷ [])) (in_head (at + (length (encode_utf8 c ++ encode_utf8_all cs) + 1)) (declaring.AfterEquals p)) []) size
    (goes_at (in_head at (declaring.Name p (length (part_word p)))) (c ∷ (cs ++ 61 ∷ [])) (mode.Declaring (declaring.AfterEquals p)) outside [] (at + length (encode_utf8 c) + length (encode_utf8_all cs) + 1) (at + (length (encode_utf8 c ++ encode_utf8_all cs) + 1))
    (omega (arith, length-append (encode_utf8 c) (encode_utf8_all cs)))
    (goes_on_to _ _ _ (c ∷ []) (cs ++ 61 ∷ []) [] [] (declares_once (declaring.Name p (length (part_word p))) (declaring.BeforeEquals p) at c (rw (has_none_behind (part_word p) c, eq-eqb (length (part_word p)) (length (part_word p)) refl, parts.0) refl))
    (goes_on_to _ _ _ cs (61 ∷ []) [] [] (declares_round (declaring.BeforeEquals p) is_white (λ d h. rw h refl) cs (at + length (encode_utf8 c)) parts.1)
    (declares_once (declaring.BeforeEquals p) (declaring.AfterEquals p) (at + length (encode_utf8 c) + length (encode_utf8_all cs)) 61 refl))))

-- behind the =, up to the quote
quote_in : (p : Part) (d : ℕ → Declaring) (after : List ℕ) (quote at : ℕ) → ((c : ℕ) → value_begins p c ≡ Some (d c)) → list_all is_white after ≡ true → is_quote quote ≡ true → Goes (in_head at (declaring.AfterEquals p)) (after ++ quote ∷ []) (in_head (at + (length (encode_utf8_all after) + 1)) (d quote)) []
unfolding declaring_step encode
quote_in p d after quote at begins white is =
    let one : length (encode_utf8 quote) ≡ 1 = quote_is (λ q. length (encode_utf8 q) ≡ 1) refl refl quote is in
    let white_not : is_white quote ≡ false = quote_is (λ q. is_white q ≡ false) refl refl quote is in
    goes_at (in_head at (declaring.AfterEquals p)) (after ++ quote ∷ []) (mode.Declaring (d quote)) outside [] (at + length (encode_utf8_all after) + length (encode_utf8 quote)) (at + (length (encode_utf8_all after) + 1))
    (omega (arith, one))
    (goes_on_to _ _ _ after (quote ∷ []) [] [] (declares_round (declaring.AfterEquals p) is_white (λ c h. rw h refl) after at white)
    (declares_once (declaring.AfterEquals p) (d quote) (at + length (encode_utf8_all after)) quote (rw (white_not, is, begins quote) refl)))

-- the value of a part, up to its quote
value_in : (l : Literal) (quote : ℕ) (todo done : List ℕ) (at : ℕ) → literal_word l ≡ done ++ map (as_compared l) todo → is_quote quote ≡ true → Goes (in_head at (declaring.Value l quote (length done))) (todo ++ quote ∷ []) (in_head (at + (length (encode_utf8_all todo) + 1)) (declaring.Gap (part_behind l) false)) []
unfolding declaring_step encode
value_in l quote [] done at word is =
    let one : length (encode_utf8 quote) ≡ 1 = quote_is (λ q. length (encode_utf8 q) ≡ 1) refl refl quote is in
    let whole : literal_word l ≡ done = word ∙ append-nil done in
    goes_at (in_head at (declaring.Value l quote (length done))) (quote ∷ []) (mode.Declaring (declaring.Gap (part_behind l) false)) outside [] (at + length (encode_utf8 quote)) (at + (0 + 1)) (omega (arith, one))
    (declares_once (declaring.Value l quote (length done)) (declaring.Gap (part_behind l) false) at quote (rw (whole, has_none_behind done (as_compared l quote), eq-eqb (length done) (length done) refl, eq-eqb quote quote refl) refl))
value_in l quote (c ∷ todo) done at word is =
    let size : length (done ++ as_compared l c ∷ []) ≡ length done + 1 = length-append done (as_compared l c ∷ []) in
    let next_word : literal_word l ≡ (done ++ as_compared l c ∷ []) ++ map (as_compared l) todo = word ∙ sym (append_assoc done (as_compared l c ∷ []) (map (as_compared l) todo)) in
    goes_at (in_head at (declaring.Value l quote (length done))) (c ∷ (todo ++ quote ∷ [])) (mode.Declaring (declaring.Gap (part_behind l) false)) outside [] (at + length (encode_utf8 c) + (length (encode_utf8_all todo) + 1)) (at + (length (encode_utf8 c ++ encode_utf8_all todo) + 1))
    (omega (arith, length-append (encode_utf8 c) (encode_utf8_all todo)))
    (goes_on_to _ _ _ (c ∷ []) (todo ++ quote ∷ []) [] [] (declares_once (declaring.Value l quote (length done)) (declaring.Value l quote (length (done ++ as_compared l c ∷ []))) at c (rw (word, has_behind done (map (as_compared l) todo) (as_compared l c)) (ap (λ n. Some (Some (declaring.Value l quote n))) (sym size))))
    (value_in l quote todo (done ++ as_compared l c ∷ []) (at + length (encode_utf8 c)) next_word is))

same_bytes : (xs ys : List ℕ) → bytes_eq xs ys ≡ true → xs ≡ ys
same_bytes xs ys h = (bytes_eq-Decides xs ys).0 h

-- what is compared is the character itself, but for letters in UTF-8
one_is : (v : List ℕ) → bytes_eq v (codes "1.0") ≡ true → literal_word literal.One ≡ [] ++ map (as_compared literal.One) v
unfolding literal_word
one_is v h = subst (λ w. codes "1.0" ≡ map (as_compared literal.One) w) (sym (same_bytes v (codes "1.0") h)) refl

utf8_is : (v : List ℕ) → bytes_eq (str_to_ascii_lowercase v) (codes "utf-8") ≡ true → literal_word literal.Utf8 ≡ [] ++ map (as_compared literal.Utf8) v
unfolding literal_word
utf8_is v h = sym (same_bytes (str_to_ascii_lowercase v) (codes "utf-8") h)

choice_in : (v : List ℕ) (quote at : ℕ) → (bytes_eq v (codes "yes") || bytes_eq v (codes "no")) ≡ true → is_quote quote ≡ true → Goes (in_head at (declaring.Choice quote)) (v ++ quote ∷ []) (in_head (at + (length (encode_utf8_all v) + 1)) (declaring.Gap part.End false)) []
unfolding declaring_step literal_word encode
choice_in v quote at h is = by (bytes_eq v (codes "yes")) (bytes_eq v (codes "no")) (same_bytes v (codes "yes")) (same_bytes v (codes "no")) h
  where
    yes : Goes (in_head at (declaring.Choice quote)) (121 ∷ 101 ∷ 115 ∷ quote ∷ []) (in_head (at + 4) (declaring.Gap part.End false)) []
    yes = goes_at (in_head at (declaring.Choice quote)) (121 ∷ 101 ∷ 115 ∷ quote ∷ []) (mode.Declaring (declaring.Gap part.End false)) outside [] (at + 1 + 3) (at + 4) (omega arith)
        (goes_on_to _ _ _ (121 ∷ []) (101 ∷ 115 ∷ quote ∷ []) [] [] (declares_once (declaring.Choice quote) (declaring.Value literal.Yes quote 1) at 121 refl) (value_in literal.Yes quote (101 ∷ 115 ∷ []) (121 ∷ []) (at + 1) refl is))

    no_ : Goes (in_head at (declaring.Choice quote)) (110 ∷ 111 ∷ quote ∷ []) (in_head (at + 3) (declaring.Gap part.End false)) []
    no_ = goes_at (in_head at (declaring.Choice quote)) (110 ∷ 111 ∷ quote ∷ []) (mode.Declaring (declaring.Gap part.End false)) outside [] (at + 1 + 2) (at + 3) (omega arith)
        (goes_on_to _ _ _ (110 ∷ []) (111 ∷ quote ∷ []) [] [] (declares_once (declaring.Choice quote) (declaring.Value literal.No quote 1) at 110 refl) (value_in literal.No quote (111 ∷ []) (110 ∷ []) (at + 1) refl is))

    by : (s t : Bool) → (s ≡ true → v ≡ codes "yes") → (t ≡ true → v ≡ codes "no") → (s || t) ≡ true → Goes (in_head at (declaring.Choice quote)) (v ++ quote ∷ []) (in_head (at + (length (encode_utf8_all v) + 1)) (declaring.Gap part.End false)) []
    by true t a b g = subst (λ w. Goes (in_head at (declaring.Choice quote)) (w ++ quote ∷ []) (in_head (at + (length (encode_utf8_all w) + 1)) (declaring.Gap part.End false)) []) (sym (a refl)) yes
    by false true a b g = subst (λ w. Goes (in_head at (declaring.Choice quote)) (w ++ quote ∷ []) (in_head (at + (length (encode_utf8_all w) + 1)) (declaring.Gap part.End false)) []) (sym (b refl)) no_
    by false false a b g = absurd cc

-- a part of the declaration, whose front, name and value are taken
pseudo_goes : (front : Declaring) (q p r : Part) (word : List ℕ) (d : ℕ → Declaring) (x : Pseudo) (at : ℕ)
    → ((at : ℕ) → Goes (in_head at front) x.gap (in_head (at + length (encode_utf8_all x.gap)) (declaring.Gap q true)) [])
    → ((at : ℕ) → Goes (in_head at (declaring.Gap q true)) word (in_head (at + length word) (declaring.Name p (length word))) [])
    → length (part_word p) ≡ length word
    → ((c : ℕ) → value_begins p c ≡ Some (d c))
    → ((at : ℕ) → Goes (in_head at (d x.quote)) (x.value ++ x.quote ∷ []) (in_head (at + (length (encode_utf8_all x.value) + 1)) (declaring.Gap r false)) [])
    → list_all is_white x.before ≡ true → list_all is_white x.after ≡ true → is_quote x.quote ≡ true
    → Goes (in_head at front) (write_pseudo word x) (in_head (at + length (spell_pseudo word x)) (declaring.Gap r false)) []
pseudo_goes front q p r word d x at gap_taken named size begins valued before after is =
    let values = x.value ++ x.quote ∷ [] in
    let value_bytes = encode_utf8_all x.value ++ x.quote ∷ [] in
    let after_bytes = encode_utf8_all x.after ++ x.quote ∷ value_bytes in
    let before_bytes = encode_utf8_all x.before ++ 61 ∷ after_bytes in
    let word_at = at + length (encode_utf8_all x.gap) in
    let named_at = word_at + length word in
    let equal_at = named_at + (length (encode_utf8_all x.before) + 1) in
    let value_at = equal_at + (length (encode_utf8_all x.after) + 1) in
    goes_at (in_head at front) (write_pseudo word x) (mode.Declaring (declaring.Gap r false)) outside [] (value_at + (length (encode_utf8_all x.value) + 1)) (at + length (spell_pseudo word x))
    (omega (arith, length-append (encode_utf8_all x.gap) (word ++ before_bytes), length-append word before_bytes, length-append (encode_utf8_all x.before) (61 ∷ after_bytes), length-append (encode_utf8_all x.after) (x.quote ∷ value_bytes), length-append (encode_utf8_all x.value) (x.quote ∷ [])))
    (goes_on_to _ _ _ x.gap (word ++ (x.before ++ 61 ∷ (x.after ++ x.quote ∷ values))) [] [] (gap_taken at)
    (goes_on_to _ _ _ word (x.before ++ 61 ∷ (x.after ++ x.quote ∷ values)) [] [] (named word_at)
    (behind x.before (61 ∷ []) (x.after ++ x.quote ∷ values) _ _
    (goes_on_to _ _ _ (x.before ++ 61 ∷ []) (x.after ++ x.quote ∷ values) [] [] (equals_in p (length word) x.before named_at size before)
    (behind x.after (x.quote ∷ []) values _ _
    (goes_on_to _ _ _ (x.after ++ x.quote ∷ []) values [] [] (quote_in p d x.after x.quote equal_at begins after is) (valued value_at)))))))
  where
    behind : (xs ys zs : List ℕ) (s t : State) → Goes s ((xs ++ ys) ++ zs) t [] → Goes s (xs ++ (ys ++ zs)) t []
    behind xs ys zs s t h = subst (λ cs. Goes s cs t []) (append_assoc xs ys zs) h

-- the parts of a lawful part
record LawfulPseudo (allowed : List ℕ → Bool) (x : Pseudo) : Type 0 where
  gap : is_gap x.gap ≡ true
  before : list_all is_white x.before ≡ true
  after : list_all is_white x.after ≡ true
  quote : is_quote x.quote ≡ true
  value : allowed x.value ≡ true

lawful_pseudo : (allowed : List ℕ → Bool) (x : Pseudo) → is_pseudo allowed x ≡ true → LawfulPseudo allowed x
lawful_pseudo allowed x h =
    let one = and_parts (is_gap x.gap) (list_all is_white x.before && (list_all is_white x.after && (is_quote x.quote && allowed x.value))) h in
    let two = and_parts (list_all is_white x.before) (list_all is_white x.after && (is_quote x.quote && allowed x.value)) one.1 in
    let three = and_parts (list_all is_white x.after) (is_quote x.quote && allowed x.value) two.1 in
    let four = and_parts (is_quote x.quote) (allowed x.value) three.1 in
    record { gap = one.0; before = two.0; after = three.0; quote = four.0; value = four.1 }

-- behind <?xml
word_gap : (gap : List ℕ) (at : ℕ) → is_gap gap ≡ true → Goes (in_head at (declaring.Word 3)) gap (in_head (at + length (encode_utf8_all gap)) (declaring.Gap part.Version true)) []
unfolding declaring_step
word_gap [] at white = absurd cc
word_gap (c ∷ gap) at white =
    let parts = and_parts (is_white c) (list_all is_white gap) white in
    goes_at (in_head at (declaring.Word 3)) (c ∷ gap) (mode.Declaring (declaring.Gap part.Version true)) outside [] (at + length (encode_utf8 c) + length (encode_utf8_all gap)) (at + length (encode_utf8 c ++ encode_utf8_all gap))
    (omega (arith, length-append (encode_utf8 c) (encode_utf8_all gap)))
    (goes_on_to _ _ _ (c ∷ []) gap [] [] (declares_once (declaring.Word 3) (declaring.Gap part.Version true) at c (white_is (λ d. declaring_step (declaring.Word 3) d ≡ Some (Some (declaring.Gap part.Version true))) refl refl refl refl c parts.0)) (white_in part.Version true gap (at + length (encode_utf8 c)) parts.1))

version_goes : (x : Pseudo) (at : ℕ) → LawfulPseudo (λ v. bytes_eq v (codes "1.0")) x → Goes (in_head at (declaring.Word 3)) (write_pseudo (codes "version") x) (in_head (at + length (spell_pseudo (codes "version") x)) (declaring.Gap part.Encoding false)) []
unfolding part_word
version_goes x at h = pseudo_goes (declaring.Word 3) part.Version part.Version part.Encoding (codes "version") (λ c. declaring.Value literal.One c 0) x at (λ p. word_gap x.gap p h.gap) version_named refl (λ c. refl) (λ p. value_in literal.One x.quote x.value [] p (one_is x.value h.value) h.quote) h.before h.after h.quote

behind_encoding : Option Pseudo → Part
behind_encoding None = part.Encoding
behind_encoding (Some x) = part.Standalone

encoding_goes : (e : Option Pseudo) (at : ℕ) → is_optional (λ v. bytes_eq (str_to_ascii_lowercase v) (codes "utf-8")) e ≡ true → Goes (in_head at (declaring.Gap part.Encoding false)) (write_optional (codes "encoding") e) (in_head (at + length (spell_optional (codes "encoding") e)) (declaring.Gap (behind_encoding e) false)) []
unfolding part_word behind_encoding
encoding_goes None at lawful = goes_at (in_head at (declaring.Gap part.Encoding false)) [] (mode.Declaring (declaring.Gap part.Encoding false)) outside [] at (at + 0) (omega arith) (goes_nowhere (in_head at (declaring.Gap part.Encoding false)))
encoding_goes (Some x) at lawful =
    let h = lawful_pseudo (λ v. bytes_eq (str_to_ascii_lowercase v) (codes "utf-8")) x lawful in
    pseudo_goes (declaring.Gap part.Encoding false) part.Encoding part.Encoding part.Standalone (codes "encoding") (λ c. declaring.Value literal.Utf8 c 0) x at (λ p. gap_in part.Encoding false x.gap p h.gap) encoding_named refl (λ c. refl) (λ p. value_in literal.Utf8 x.quote x.value [] p (utf8_is x.value h.value) h.quote) h.before h.after h.quote

behind_standalone : Part → Option Pseudo → Part
behind_standalone q None = q
behind_standalone q (Some x) = part.End

standalone_goes : (q : Part) (s : Option Pseudo) (at : ℕ) → (q ≡ part.Encoding) ⊎ (q ≡ part.Standalone) → is_optional (λ v. bytes_eq v (codes "yes") || bytes_eq v (codes "no")) s ≡ true → Goes (in_head at (declaring.Gap q false)) (write_optional (codes "standalone") s) (in_head (at + length (spell_optional (codes "standalone") s)) (declaring.Gap (behind_standalone q s) false)) []
unfolding part_word behind_standalone
standalone_goes q None at may lawful = goes_at (in_head at (declaring.Gap q false)) [] (mode.Declaring (declaring.Gap q false)) outside [] at (at + 0) (omega arith) (goes_nowhere (in_head at (declaring.Gap q false)))
standalone_goes q (Some x) at may lawful =
    let h = lawful_pseudo (λ v. bytes_eq v (codes "yes") || bytes_eq v (codes "no")) x lawful in
    pseudo_goes (declaring.Gap q false) q part.Standalone part.End (codes "standalone") (λ c. declaring.Choice c) x at (λ p. gap_in q false x.gap p h.gap) (standalone_named q may) refl (λ c. refl) (λ p. choice_in x.value x.quote p h.value h.quote) h.before h.after h.quote

behind_encoding_may : (e : Option Pseudo) → (behind_encoding e ≡ part.Encoding) ⊎ (behind_encoding e ≡ part.Standalone)
unfolding behind_encoding
behind_encoding_may None = inl refl
behind_encoding_may (Some x) = inr refl

-- the end of a declaration, behind any part but before its version
may_end : Part → Bool
may_end part.Version = false
may_end _ = true

question_goes : (r : Part) (spaced : Bool) (at : ℕ) → may_end r ≡ true → Goes (in_head at (declaring.Gap r spaced)) (63 ∷ []) (in_head (at + 1) declaring.End) []
unfolding declaring_step encode may_end
question_goes part.Version spaced at may = absurd cc
question_goes part.Encoding spaced at may = declares_once (declaring.Gap part.Encoding spaced) declaring.End at 63 refl
question_goes part.Standalone spaced at may = declares_once (declaring.Gap part.Standalone spaced) declaring.End at 63 refl
question_goes part.End spaced at may = declares_once (declaring.Gap part.End spaced) declaring.End at 63 refl

close_goes : (at : ℕ) → Goes (in_head at declaring.End) (62 ∷ []) (state (at + 1) (mode.Content 0 false) outside) []
unfolding next finds declaring_step encode
close_goes at = goes_once (mode.Declaring declaring.End) (mode.Content 0 false) outside outside at 62 [] refl refl

end_goes : (r : Part) (gap : List ℕ) (at : ℕ) → may_end r ≡ true → list_all is_white gap ≡ true → Goes (in_head at (declaring.Gap r false)) (gap ++ codes "?>") (state (at + (length (encode_utf8_all gap) + 2)) (mode.Content 0 false) outside) []
end_goes r [] at may white =
    goes_at (in_head at (declaring.Gap r false)) (63 ∷ 62 ∷ []) (mode.Content 0 false) outside [] (at + 1 + 1) (at + (0 + 2)) (omega arith)
    (goes_on_to _ _ _ (63 ∷ []) (62 ∷ []) [] [] (question_goes r false at may) (close_goes (at + 1)))
end_goes r (c ∷ gap) at may white =
    let gap_end = at + length (encode_utf8_all (c ∷ gap)) in
    goes_at (in_head at (declaring.Gap r false)) ((c ∷ gap) ++ codes "?>") (mode.Content 0 false) outside [] (gap_end + 1 + 1) (at + (length (encode_utf8_all (c ∷ gap)) + 2)) (omega arith)
    (goes_on_to _ _ _ (c ∷ gap) (codes "?>") [] [] (gap_in r false (c ∷ gap) at white)
    (goes_on_to _ _ _ (63 ∷ []) (62 ∷ []) [] [] (question_goes r true gap_end may) (close_goes (gap_end + 1))))

ends_behind : (e s : Option Pseudo) → may_end (behind_standalone (behind_encoding e) s) ≡ true
unfolding behind_encoding behind_standalone may_end
ends_behind None None = refl
ends_behind (Some x) None = refl
ends_behind e (Some y) = refl

-- a declaration, behind <?xml
declaration_goes : (d : Declaration) (at : ℕ) → is_declaration (Some d) ≡ true →
    Goes (in_head at (declaring.Word 3)) (write_pseudo (codes "version") d.version ++ (write_optional (codes "encoding") d.encoding ++ (write_optional (codes "standalone") d.standalone ++ (d.gap ++ codes "?>"))))
    (state (at + length (spell_pseudo (codes "version") d.version ++ (spell_optional (codes "encoding") d.encoding ++ (spell_optional (codes "standalone") d.standalone ++ (encode_utf8_all d.gap ++ codes "?>"))))) (mode.Content 0 false) outside) []
declaration_goes d at lawful =
    let one = and_parts (is_pseudo (λ v. bytes_eq v (codes "1.0")) d.version) (is_optional (λ v. bytes_eq (str_to_ascii_lowercase v) (codes "utf-8")) d.encoding && (is_optional (λ v. bytes_eq v (codes "yes") || bytes_eq v (codes "no")) d.standalone && list_all is_white d.gap)) lawful in
    let two = and_parts (is_optional (λ v. bytes_eq (str_to_ascii_lowercase v) (codes "utf-8")) d.encoding) (is_optional (λ v. bytes_eq v (codes "yes") || bytes_eq v (codes "no")) d.standalone && list_all is_white d.gap) one.1 in
    let three = and_parts (is_optional (λ v. bytes_eq v (codes "yes") || bytes_eq v (codes "no")) d.standalone) (list_all is_white d.gap) two.1 in
    let version_bytes = spell_pseudo (codes "version") d.version in
    let encoding_bytes = spell_optional (codes "encoding") d.encoding in
    let standalone_bytes = spell_optional (codes "standalone") d.standalone in
    let end_bytes = encode_utf8_all d.gap ++ codes "?>" in
    let encoding_at = at + length version_bytes in
    let standalone_at = encoding_at + length encoding_bytes in
    let end_at = standalone_at + length standalone_bytes in
    let q = behind_encoding d.encoding in
    let r = behind_standalone q d.standalone in
    goes_at (in_head at (declaring.Word 3)) _ (mode.Content 0 false) outside [] (end_at + (length (encode_utf8_all d.gap) + 2)) (at + length (version_bytes ++ (encoding_bytes ++ (standalone_bytes ++ end_bytes))))
    (omega (arith, length-append version_bytes (encoding_bytes ++ (standalone_bytes ++ end_bytes)), length-append encoding_bytes (standalone_bytes ++ end_bytes), length-append standalone_bytes end_bytes, length-append (encode_utf8_all d.gap) (codes "?>")))
    (goes_on_to _ _ _ (write_pseudo (codes "version") d.version) _ [] [] (version_goes d.version at (lawful_pseudo (λ v. bytes_eq v (codes "1.0")) d.version one.0))
    (goes_on_to _ _ _ (write_optional (codes "encoding") d.encoding) _ [] [] (encoding_goes d.encoding encoding_at two.0)
    (goes_on_to _ _ _ (write_optional (codes "standalone") d.standalone) (d.gap ++ codes "?>") [] [] (standalone_goes q d.standalone standalone_at (behind_encoding_may d.encoding) three.0)
    (end_goes r d.gap end_at (ends_behind d.encoding d.standalone) three.1))))

-- at the start of a text the reader stands as behind a declaration, where none begins
fresh_first : (marked : Bool) (at c : ℕ) → is_white c ≡ true → (next (mode.Start marked) outside at c ≡ Some (mode.Content 0 false, outside)) × (next (mode.Content 0 false) outside at c ≡ Some (mode.Content 0 false, outside))
unfolding next
fresh_first marked at c white = (rw white refl, rw white refl)

pub fresh_opened : (at c : ℕ) → (c == 63) ≡ false → next (mode.HeadOpened at) outside (at + 1) c ≡ next (mode.Opened at) outside (at + 1) c
unfolding next
fresh_opened at c other = rw other refl

-- two states from which these characters lead to the same
record SameRuns (s t : State) (cs : List ℕ) : Type 0 where
  runs : run s cs ≡ run t cs
  notes : noted s cs ≡ noted t cs

same_step : (s t : State) (c : ℕ) (cs : List ℕ) → step s c ≡ step t c → noted_at s c ≡ noted_at t c → SameRuns s t (c ∷ cs)
unfolding run noted
same_step s t c cs stepped found = record {
  runs = ap (λ z. then_run z (λ u. run u cs)) stepped;
  notes = ap (λ z. noted_at s c ++ then_noted z (λ u. noted u cs)) stepped ∙ ap (λ z. z ++ then_noted (step t c) (λ u. noted u cs)) found;
}

same_next : (m n : Mode) (at c : ℕ) (cs : List ℕ) → next m outside at c ≡ next n outside at c → finds m outside c ≡ finds n outside c → SameRuns (state at m outside) (state at n outside) (c ∷ cs)
same_next m n at c cs stepped found = same_step (state at m outside) (state at n outside) c cs
    (ap (λ z. option_map (λ x. record { at = at + length (encode_utf8 c); mode = x.0; outer = x.1 }) z) stepped)
    (ap (λ z. map (λ f. record { kind = f.0; at = f.1; end = at + length (encode_utf8 c) }) z) found)

fresh_white : (marked : Bool) (at c : ℕ) (cs : List ℕ) → is_white c ≡ true → SameRuns (state at (mode.Start marked) outside) (state at (mode.Content 0 false) outside) (c ∷ cs)
unfolding finds
fresh_white marked at c cs white = let h = fresh_first marked at c white in same_next (mode.Start marked) (mode.Content 0 false) at c cs (h.0 ∙ sym h.1) refl

-- behind a <
fresh_behind : (marked : Bool) (at d : ℕ) (cs : List ℕ) → SameRuns (state (at + 1) (mode.HeadOpened at) outside) (state (at + 1) (mode.Opened at) outside) (d ∷ cs) → SameRuns (state at (mode.Start marked) outside) (state at (mode.Content 0 false) outside) (60 ∷ d ∷ cs)
unfolding run noted next finds encode
fresh_behind marked at d cs h = record { runs = h.runs; notes = h.notes }

fresh_tag : (marked : Bool) (at d : ℕ) (cs : List ℕ) → (d == 63) ≡ false → SameRuns (state at (mode.Start marked) outside) (state at (mode.Content 0 false) outside) (60 ∷ d ∷ cs)
unfolding finds
fresh_tag marked at d cs other = fresh_behind marked at d cs (same_next (mode.HeadOpened at) (mode.Opened at) (at + 1) d cs (fresh_opened at d other) refl)

fresh : (marked : Bool) (at : ℕ) (cs : List ℕ) → may_follow cs ≡ true → SameRuns (state at (mode.Start marked) outside) (state at (mode.Content 0 false) outside) cs
fresh marked at [] may = absurd cc
fresh marked at (c ∷ []) may = fresh_white marked at c [] may
fresh marked at (c ∷ d ∷ cs) may = by (is_white c) (c == 60) refl (eqb-true c 60) may
  where
    by : (w o : Bool) → is_white c ≡ w → (o ≡ true → c ≡ 60) → (w || (o && not (d == 63))) ≡ true → SameRuns (state at (mode.Start marked) outside) (state at (mode.Content 0 false) outside) (c ∷ d ∷ cs)
    by true o white opens h = fresh_white marked at c (d ∷ cs) white
    by false true white opens h = subst (λ e. SameRuns (state at (mode.Start marked) outside) (state at (mode.Content 0 false) outside) (e ∷ d ∷ cs)) (sym (opens refl)) (fresh_tag marked at d cs (not-true (d == 63) h))
    by false false white opens h = absurd cc

-- a declaration from its beginning
declaration_begins : (marked : Bool) (at : ℕ) → Goes (state at (mode.Start marked) outside) (codes "<?xml") (in_head (at + 5) (declaring.Word 3)) []
unfolding run noted next finds declaring_step encode name_start_ranges
declaration_begins marked at = record { runs = ap (λ p. Some (in_head p (declaring.Word 3))) five; notes = refl }
  where
    five : at + 1 + 1 + 1 + 1 + 1 ≡ at + 5
    five = omega arith

pub whole_declaration : (marked : Bool) (at : ℕ) (d : Declaration) → is_declaration (Some d) ≡ true → Goes (state at (mode.Start marked) outside) (write_declaration (Some d)) (state (at + length (spell_declaration (Some d))) (mode.Content 0 false) outside) []
whole_declaration marked at d lawful =
    let bytes = spell_pseudo (codes "version") d.version ++ (spell_optional (codes "encoding") d.encoding ++ (spell_optional (codes "standalone") d.standalone ++ (encode_utf8_all d.gap ++ codes "?>"))) in
    goes_at (state at (mode.Start marked) outside) (write_declaration (Some d)) (mode.Content 0 false) outside [] (at + 5 + length bytes) (at + length (spell_declaration (Some d)))
    (omega (arith, length-append (codes "<?xml") bytes))
    (goes_on_to _ _ _ (codes "<?xml") _ [] [] (declaration_begins marked at) (declaration_goes d (at + 5) lawful))

-- behind these characters another state leads to the same
record SameTail (s : State) (head : List ℕ) (t : State) (cs : List ℕ) : Type 0 where
  runs : run s (head ++ cs) ≡ run t cs
  notes : noted s (head ++ cs) ≡ noted t cs

tail_of : (s t : State) (head cs : List ℕ) → Goes s head t [] → SameTail s head t cs
tail_of s t head cs h = record {
  runs = run_append s head cs ∙ ap (λ z. then_run z (λ u. run u cs)) h.runs;
  notes = noted_append s head cs ∙ (ap (λ z. z ++ then_noted (run s head) (λ u. noted u cs)) h.notes ∙ ap (λ z. then_noted z (λ u. noted u cs)) h.runs);
}

zero_more : (n : ℕ) → n ≡ n + 0
zero_more n = omega arith

-- a declaration or none
heads_agree : (marked : Bool) (at : ℕ) (d : Option Declaration) (cs : List ℕ) → is_declaration d ≡ true → may_follow cs ≡ true → SameTail (state at (mode.Start marked) outside) (write_declaration d) (state (at + length (spell_declaration d)) (mode.Content 0 false) outside) cs
heads_agree marked at None cs lawful may =
    let h = fresh marked at cs may in
    subst (λ p. SameTail (state at (mode.Start marked) outside) [] (state p (mode.Content 0 false) outside) cs) (zero_more at) (record { runs = h.runs; notes = h.notes })
heads_agree marked at (Some d) cs lawful may = tail_of _ _ (write_declaration (Some d)) cs (whole_declaration marked at d lawful)

three_more : (bytes : List ℕ) → 3 + length bytes ≡ length (byte_order_mark ++ bytes)
three_more bytes = omega arith

none_more : (n : ℕ) → 0 + n ≡ n
none_more n = omega arith

pub heads_are_taken : HeadsAreTaken
unfolding run noted next finds encode
heads_are_taken d cs lawful may = by d.mark
  where
    by : (marked : Bool) → HeadIsTaken (record { mark = marked; declaration = d.declaration; before = d.before; root = d.root; after = d.after }) cs
    by true = let h = subst (λ p. SameTail (state 3 (mode.Start false) outside) (write_declaration d.declaration) (state p (mode.Content 0 false) outside) cs) (three_more (spell_declaration d.declaration)) (heads_agree false 3 d.declaration cs lawful may) in record { runs = h.runs; notes = h.notes }
    by false = let h = subst (λ p. SameTail (state 0 (mode.Start true) outside) (write_declaration d.declaration) (state p (mode.Content 0 false) outside) cs) (none_more (length (spell_declaration d.declaration))) (heads_agree true 0 d.declaration cs lawful may) in record { runs = h.runs; notes = h.notes }
