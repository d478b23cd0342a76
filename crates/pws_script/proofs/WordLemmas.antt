-- The words of a line.
use Rattle.std.proofs.Common.{◌≡◌, ℕ, suc, ◌+◌, ◌≤◌, ◌==◌, Bool, true, List, [], ◌∷◌, ◌++◌, length, map, drop, get_or, Some, refl, sym, ◌∙◌, ap, arith, codes, Bor, length-append, Err}
use Rattle.std.specs.List.{join_with_byte}
use Rattle.std.specs.Str.{bytes_eq, IsUtf8, is_utf8}
use Rattle.std.proofs.lemmas.Str.{is_utf8-from_IsUtf8}
use Rattle.pws_script.proofs.TextLemmas.{is_utf8_not}
use Rattle.pws_script.specs.declared.faults.ScriptFault.TheVariants as fault
use Rattle.std.proofs.lemmas.List.Splits.{join_with_byte-slice_split}
use Rattle.std.proofs.Math.Seq.{drop-append-add}
use Rattle.pws_script.specs.Reading.{words_of, text_set_in}
use Rattle.pws_script.specs.Steps.{line_at, words_or_text_at}

abbrev pub texts : List (Bor (List ℕ)) → List (List ℕ)
texts words = map (λ w. w.now) words

pub joined : (words : List (Bor (List ℕ))) (line : List ℕ) → texts words ≡ words_of line → line ≡ join_with_byte 32 (texts words)
joined words line e = sym (join_with_byte-slice_split 32 line) ∙ ap (join_with_byte 32) (sym e)

-- three words at least
pub record Three (words : List (Bor (List ℕ))) (line : List ℕ) (d : Bor (List ℕ)) : Type 0 where
  pub rest : List ℕ
  pub more : List (List ℕ)
  pub whole : line ≡ (get_or words 0 d).now ++ (32 ∷ ((get_or words 1 d).now ++ (32 ∷ rest)))
  pub parts : words_of line ≡ (get_or words 0 d).now ∷ (get_or words 1 d).now ∷ (get_or words 2 d).now ∷ more
  pub value : rest ≡ join_with_byte 32 ((get_or words 2 d).now ∷ more)

pub three_up : (words : List (Bor (List ℕ))) (line : List ℕ) (d : Bor (List ℕ)) → 3 ≤ length words → texts words ≡ words_of line → Three words line d
three_up [] line d h e = absurd (omega (arith, h))
three_up (a ∷ []) line d h e = absurd (omega (arith, h))
three_up (a ∷ b ∷ []) line d h e = absurd (omega (arith, h))
three_up (a ∷ b ∷ c ∷ more) line d h e =
    record {
      rest = join_with_byte 32 (c.now ∷ texts more);
      more = texts more;
      whole = joined (a ∷ b ∷ c ∷ more) line e;
      parts = sym e;
      value = refl;
    }

pub past_two : (a b rest line : List ℕ) → line ≡ a ++ (32 ∷ (b ++ (32 ∷ rest))) → length a + length b + 2 ≤ length line
past_two a b rest line e =
    let size = ap length e in
    omega (arith, size, length-append a (32 ∷ (b ++ (32 ∷ rest))), length-append b (32 ∷ rest))

drop_two : (a b rest : List ℕ) → drop (length a + length b + 2) (a ++ (32 ∷ (b ++ (32 ∷ rest)))) ≡ rest
drop_two a b rest =
    let place : length a + length b + 2 ≡ length a + suc (length b + 1) = omega arith in
    ap (λ n. drop n (a ++ (32 ∷ (b ++ (32 ∷ rest))))) place ∙ (drop-append-add a (32 ∷ (b ++ (32 ∷ rest))) (suc (length b + 1)) ∙ drop-append-add b (32 ∷ rest) 1)

found_set : (name word value rest : List ℕ) (more : List (List ℕ)) (quoted : List ℕ) → bytes_eq name (codes "set") ≡ true → (get_or value 0 0 == 34) ≡ true → quoted ≡ join_with_byte 32 (value ∷ more) → Some (word, quoted) ≡ text_set_in (name ∷ word ∷ value ∷ more)
found_set name word value rest more quoted n q e = rw (n, q) (ap (λ x. Some (word, x)) e)

-- where the first word is `set` and the third begins with a quote, this is the text's literal
pub text_set_found : (words : List (Bor (List ℕ))) (line : List ℕ) (d : Bor (List ℕ)) (quoted : List ℕ) → 3 ≤ length words → texts words ≡ words_of line → bytes_eq (get_or words 0 d).now (codes "set") ≡ true → (get_or (get_or words 2 d).now 0 0 == 34) ≡ true → quoted ≡ drop (length (get_or words 0 d).now + length (get_or words 1 d).now + 2) line → Some ((get_or words 1 d).now, quoted) ≡ text_set_in (words_of line)
text_set_found words line d quoted h e n q k =
    let t = three_up words line d h e in
    let cut : quoted ≡ t.rest = k ∙ (ap (drop (length (get_or words 0 d).now + length (get_or words 1 d).now + 2)) t.whole ∙ drop_two (get_or words 0 d).now (get_or words 1 d).now t.rest) in
    found_set (get_or words 0 d).now (get_or words 1 d).now (get_or words 2 d).now t.rest t.more quoted n q (cut ∙ t.value) ∙ ap text_set_in (sym t.parts)

-- a line that is UTF-8 is read by its words
pub line_at_utf8 : (lines : ℕ) (ended : Bool) (bytes : List ℕ) → IsUtf8 bytes → line_at lines ended bytes ≡ words_or_text_at lines ended (words_of bytes) (text_set_in (words_of bytes))
unfolding line_at
line_at_utf8 lines ended bytes u = rw (is_utf8-from_IsUtf8 bytes u) refl

pub line_at_other : (lines : ℕ) (ended : Bool) (bytes : List ℕ) → ¬ (IsUtf8 bytes) → line_at lines ended bytes ≡ Err fault.Text
unfolding line_at
line_at_other lines ended bytes n = rw (is_utf8_not bytes (is_utf8 bytes) n refl) refl
