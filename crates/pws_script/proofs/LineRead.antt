-- A line that is read is the text of its instruction.
use Rattle.std.proofs.Common.{◌≡◌, ℕ, ◌+◌, ◌<◌, ◌==◌, ◌&&◌, Bool, true, false, if◌then◌else◌, List, [], ◌∷◌, ◌++◌, length, get_or, take, Option, Some, None, Result, Ok, Err, refl, sym, ◌∙◌, ap, subst, arith, append-nil, codes, length-append, lit<, cond, not}
use Rattle.std.specs.List.{join_with_byte, list_all, find}
use Rattle.std.specs.Str.{bytes_eq, IsUtf8, is_utf8}
use Rattle.std.proofs.lemmas.Slice.Eq.{bytes_eq-Decides}
use Rattle.std.proofs.lemmas.List.Splits.{join_with_byte-slice_split}
use Rattle.std.proofs.lemmas.List.Folds.{list_all-append}
use Rattle.std.proofs.lemmas.Str.{IsUtf8-take, IsUtf8-drop, IsCharBoundary-before_ascii, IsCharBoundary-after_ascii, IsUtf8-from_is_utf8, is_utf8-from_IsUtf8}
use Rattle.std.proofs.Math.Seq.{drop-append-add}
use Rattle.pws_script.specs.Texts.{is_line, is_word}
use Rattle.pws_script.specs.Operations.{name_of, operations, operation_named}
use Rattle.pws_script.specs.Spelling.{quoted, spaced, operation_of, spelling, IsLawful}
use Rattle.pws_script.specs.Reading.{◌>>=◌, text_at, text_set_in, words_of}
use Rattle.pws_script.specs.Steps.{or_fault, register_at, instruction_at, text_set_at, words_at, words_or_text_at, line_at}
use Rattle.pws_script.specs.declared.faults.ScriptFault.TheVariants as fault
use Rattle.pws_script.specs.declared.operations.Operation.{Operation}
use Rattle.pws_script.specs.declared.instructions.Literal.TheVariants as literal
use Rattle.pws_script.specs.declared.instructions.Instruction.{Instruction}
use Rattle.pws_script.specs.declared.instructions.Instruction.TheVariants as line
use Rattle.pws_script.proofs.PieceLemmas.{both, words_plain}
use Rattle.pws_script.proofs.OperandsRead.{chained, given, register_is, is_plain, instruction_is}
use Rattle.pws_script.proofs.TextRead.{text_is}

-- what is known of a line that is read
pub record IsLineRead (lines : ℕ) (ended : Bool) (bytes : List ℕ) (i : Instruction) : Type 0 where
  pub whole : ended ≡ true
  pub spelled : spelling i ≡ bytes
  pub lawful : IsLawful lines i

-- ---- UTF-8 of the words

take_seam : (xs ys : List ℕ) → take (length xs) (xs ++ ys) ≡ xs
take_seam [] ys = refl
take_seam (x ∷ xs) ys = ap (λ zs. x ∷ zs) (take_seam xs ys)

get_seam : (xs ys : List ℕ) (c : ℕ) → get_or (xs ++ c ∷ ys) (length xs) 0 ≡ c
get_seam [] ys c = refl
get_seam (x ∷ xs) ys c = get_seam xs ys c

utf8_cut : (xs ys : List ℕ) → IsUtf8 (xs ++ 32 ∷ ys) → IsUtf8 xs × IsUtf8 ys
utf8_cut xs ys u =
    let bytes = xs ++ 32 ∷ ys in
    let inside : length xs < length (xs ++ 32 ∷ ys) = omega (arith, length-append xs (32 ∷ ys)) in
    let ascii : get_or (xs ++ 32 ∷ ys) (length xs) 0 < 128 = rw (get_seam xs ys 32) (lit< tt) in (
      subst IsUtf8 (take_seam xs (32 ∷ ys)) (IsUtf8-take bytes (length xs) u (IsCharBoundary-before_ascii bytes (length xs) inside ascii)),
      subst IsUtf8 (drop-append-add xs (32 ∷ ys) 1) (IsUtf8-drop bytes (length xs + 1) u (IsCharBoundary-after_ascii bytes (length xs) u inside ascii)),
    )

words_utf8 : (words : List (List ℕ)) → IsUtf8 (join_with_byte 32 words) → list_all is_utf8 words ≡ true
words_utf8 [] u = refl
words_utf8 (w ∷ []) u = rw (is_utf8-from_IsUtf8 w u) refl
words_utf8 (w ∷ x ∷ more) u =
    let parts = utf8_cut w (join_with_byte 32 (x ∷ more)) u in
    rw (is_utf8-from_IsUtf8 w parts.0) (words_utf8 (x ∷ more) parts.1)

both_all : (p q : List ℕ → Bool) (words : List (List ℕ)) → list_all p words ≡ true → list_all q words ≡ true → list_all (λ w. p w && q w) words ≡ true
both_all p q [] h k = refl
both_all p q (w ∷ words) h k =
    let hs = both (p w) (list_all p words) h in
    let ks = both (q w) (list_all q words) k in
    rw (hs.0, ks.0) (both_all p q words hs.1 ks.1)

-- ---- a line by its words

pub join_spaced : (word : List ℕ) (words : List (List ℕ)) → join_with_byte 32 (word ∷ words) ≡ word ++ spaced words
join_spaced word [] = sym (append-nil word)
join_spaced word (next ∷ words) = ap (λ xs. word ++ (32 ∷ xs)) (join_spaced next words)

found_is : (p : Operation → Bool) (list : List Operation) (o : Operation) → find p list ≡ Some o → p o ≡ true
found_is p [] o h = absurd (cc)
found_is p (x ∷ xs) o h = first (p x) refl h (found_is p xs o) where
  first : (b : Bool) → p x ≡ b → cond b (Some x) (find p xs) ≡ Some o → (find p xs ≡ Some o → p o ≡ true) → p o ≡ true
  first true e k r = let same : x ≡ o = cc in subst (λ y. p y ≡ true) same e
  first false e k r = r k

pub bytes_eq_is : (xs ys : List ℕ) → bytes_eq xs ys ≡ true → xs ≡ ys
bytes_eq_is xs ys h = let d = bytes_eq-Decides xs ys in d.0 h

named_is : (word : List ℕ) (o : Operation) → operation_named word ≡ Some o → name_of o ≡ word
unfolding operation_named
named_is word o h = bytes_eq_is (name_of o) word (found_is (λ p. bytes_eq (name_of p) word) operations o h)

words_are : (lines : ℕ) (ended : Bool) (words : List (List ℕ)) (i : Instruction) → list_all is_plain words ≡ true → words_at lines ended words ≡ Ok i → IsLineRead lines ended (join_with_byte 32 words) i
unfolding words_at spelling
words_are lines ended [] i p h = absurd (cc)
words_are lines false (name ∷ operands) i p h = absurd (cc)
words_are lines true (name ∷ operands) i p h =
    let a = chained (or_fault fault.Word (operation_named name)) (λ o. instruction_at lines o operands) i h in
    let named = named_is name a.value (given fault.Word (operation_named name) a.value a.is) in
    let plain = (both (is_plain name) (list_all is_plain operands) p).1 in
    let read = instruction_is lines a.value operands i plain a.gives in
    let front : name_of (operation_of i) ≡ name = ap name_of read.operation ∙ named in
    record {
      whole = refl;
      spelled = ap (λ xs. name_of (operation_of i) ++ spaced xs) read.operands ∙ (ap (λ xs. xs ++ spaced operands) front ∙ sym (join_spaced name operands));
      lawful = read.lawful;
    }

-- ---- a `set` with a text

-- the words of a `set` with a text
pub record IsTextSet (words : List (List ℕ)) (word literal : List ℕ) : Type 0 where
  pub spelled : join_with_byte 32 words ≡ codes "set" ++ (32 ∷ (word ++ (32 ∷ literal)))
  pub begins : (get_or literal 0 0 == 34) ≡ true

first_kept : (value : List ℕ) (more : List (List ℕ)) → (get_or value 0 0 == 34) ≡ true → (get_or (join_with_byte 32 (value ∷ more)) 0 0 == 34) ≡ true
first_kept value [] h = h
first_kept [] (next ∷ more) h = absurd (cc)
first_kept (c ∷ cs) (next ∷ more) h = h

text_set_test : (name word value : List ℕ) (more : List (List ℕ)) (a b : Bool) (p : List ℕ × List ℕ) → bytes_eq name (codes "set") ≡ a → (get_or value 0 0 == 34) ≡ b → (if a && b then Some (word, join_with_byte 32 (value ∷ more)) else None) ≡ Some p → IsTextSet (name ∷ word ∷ value ∷ more) p.0 p.1
text_set_test name word value more true true p e f h =
    let same : (word, join_with_byte 32 (value ∷ more)) ≡ p = cc in
    let set = bytes_eq_is name (codes "set") e in
    subst (λ (q : List ℕ × List ℕ). IsTextSet (name ∷ word ∷ value ∷ more) q.0 q.1) same
    (record {
      spelled = ap (λ xs. xs ++ (32 ∷ (word ++ (32 ∷ join_with_byte 32 (value ∷ more))))) set;
      begins = first_kept value more f;
    })
text_set_test name word value more true false p e f h = absurd (cc)
text_set_test name word value more false b p e f h = absurd (cc)

text_set_is : (words : List (List ℕ)) (p : List ℕ × List ℕ) → text_set_in words ≡ Some p → IsTextSet words p.0 p.1
text_set_is [] p h = absurd (cc)
text_set_is (a ∷ []) p h = absurd (cc)
text_set_is (a ∷ b ∷ []) p h = absurd (cc)
text_set_is (name ∷ word ∷ value ∷ more) p h = text_set_test name word value more (bytes_eq name (codes "set")) (get_or value 0 0 == 34) p refl refl h

text_set_read : (lines : ℕ) (ended : Bool) (word quote : List ℕ) (i : Instruction) → is_line quote ≡ true → (get_or quote 0 0 == 34) ≡ true → text_set_at ended word quote ≡ Ok i → IsLineRead lines ended (codes "set" ++ (32 ∷ (word ++ (32 ∷ quote)))) i
unfolding text_set_at spelling
text_set_read lines false word quote i l q h =
    let a = chained (text_at quote) (λ text. Err fault.Word) i h in
    absurd (cc)
text_set_read lines true word quote i l q h =
    let a = chained (text_at quote) (λ text. register_at word >>= λ target. Ok (line.Set target (literal.Text text))) i h in
    let b = chained (register_at word) (λ target. Ok (line.Set target (literal.Text a.value))) i a.gives in
    let same : line.Set b.value (literal.Text a.value) ≡ i = cc in
    let t = text_is quote a.value l q a.is in
    let r = register_is word b.value b.is in
    subst (IsLineRead lines true (codes "set" ++ (32 ∷ (word ++ (32 ∷ quote))))) same
    (record {
      whole = refl;
      spelled = ap (λ xs. codes "set" ++ (32 ∷ (xs ++ (32 ∷ (quoted a.value ++ []))))) r.0 ∙ ap (λ xs. codes "set" ++ (32 ∷ (word ++ (32 ∷ xs)))) (append-nil (quoted a.value) ∙ t.0);
      lawful = (r.1, t.1);
    })

-- ---- a line

taken : {A E : Type 0} (b : Bool) (r : Result A E) (e : E) (y : A) → (if b then r else Err e) ≡ Ok y → (b ≡ true) × (r ≡ Ok y)
taken true r e y h = (refl, h)
taken false r e y h = absurd (cc)

line_tail : (xs ys : List ℕ) → is_line (xs ++ ys) ≡ true → is_line ys ≡ true
line_tail xs ys h = (both (is_line xs) (is_line ys) (sym (list_all-append (λ b. not (b == 10)) xs ys) ∙ h)).1

choose : (lines : ℕ) (ended : Bool) (words : List (List ℕ)) (i : Instruction) (o : Option (List ℕ × List ℕ)) → text_set_in words ≡ o → list_all is_plain words ≡ true → is_line (join_with_byte 32 words) ≡ true → words_or_text_at lines ended words o ≡ Ok i → IsLineRead lines ended (join_with_byte 32 words) i
choose lines ended words i None e p l h = words_are lines ended words i p h
choose lines ended words i (Some set) e p l h =
    let t = text_set_is words set e in
    let rest : is_line (set.0 ++ (32 ∷ set.1)) ≡ true = line_tail (codes "set") (32 ∷ (set.0 ++ (32 ∷ set.1))) (sym (ap is_line t.spelled) ∙ l) in
    let quote : is_line set.1 ≡ true = line_tail set.0 (32 ∷ set.1) rest in
    subst (λ bytes. IsLineRead lines ended bytes i) (sym t.spelled) (text_set_read lines ended set.0 set.1 i quote t.begins h)

-- a line that is read ends by a line feed, and is the text of its instruction, which is lawful
pub line_is : (lines : ℕ) (ended : Bool) (bytes : List ℕ) (i : Instruction) → is_line bytes ≡ true → line_at lines ended bytes ≡ Ok i → IsLineRead lines ended bytes i
unfolding line_at
line_is lines ended bytes i l h =
    let words = words_of bytes in
    let joined : join_with_byte 32 (words_of bytes) ≡ bytes = join_with_byte-slice_split 32 bytes in
    let t = taken (is_utf8 bytes) (words_or_text_at lines ended words (text_set_in words)) fault.Text i h in
    let utf8 = words_utf8 words (subst IsUtf8 (sym joined) (IsUtf8-from_is_utf8 bytes t.0)) in
    let plain = both_all is_word is_utf8 words (words_plain bytes l) utf8 in
    subst (λ b. IsLineRead lines ended b i) joined (choose lines ended words i (text_set_in words) refl plain (ap is_line joined ∙ l) t.1)
