-- A text in double quotes that is read is quoted so.
use Rattle.std.proofs.Common.{◌≡◌, ℕ, ◌==◌, not, Bool, true, false, if◌then◌else◌, List, [], ◌∷◌, ◌++◌, length, get_or, Ok, Err, refl, sym, ◌∙◌, ap, subst, arith, append_assoc}
use Rattle.std.specs.List.{flat_map}
use Rattle.std.proofs.lemmas.Bool.Decides.{nat_tests}
use Rattle.pws_script.specs.Texts.{is_text, is_line}
use Rattle.pws_script.specs.Spelling.{escape, quoted}
use Rattle.pws_script.specs.Reading.{◌>>=◌, unescaped, bytes_after, text_at}
use Rattle.pws_script.specs.declared.faults.ScriptFault.TheVariants as fault
use Rattle.pws_script.proofs.PieceLemmas.{both}
use Rattle.pws_script.proofs.OperandsRead.{chained, tested}

-- the three escapes
escape_is : (c b : ℕ) (q s n : Bool) → (c == 34) ≡ q → (c == 92) ≡ s → (c == 110) ≡ n → (if q then Ok 34 else if s then Ok 92 else if n then Ok 10 else Err fault.Text) ≡ Ok b → escape b ≡ 92 ∷ c ∷ []
escape_is c b true s n e f g h =
    let same : 34 ≡ c = grind (arith, nat_tests, e) in
    let byte : 34 ≡ b = cc in
    subst (λ x. escape x ≡ 92 ∷ c ∷ []) byte (ap (λ x. 92 ∷ x ∷ []) same)
escape_is c b false true n e f g h =
    let same : 92 ≡ c = grind (arith, nat_tests, f) in
    let byte : 92 ≡ b = cc in
    subst (λ x. escape x ≡ 92 ∷ c ∷ []) byte (ap (λ x. 92 ∷ x ∷ []) same)
escape_is c b false false true e f g h =
    let same : 110 ≡ c = grind (arith, nat_tests, g) in
    let byte : 10 ≡ b = cc in
    subst (λ x. escape x ≡ 92 ∷ c ∷ []) byte (ap (λ x. 92 ∷ x ∷ []) same)
escape_is c b false false false e f g h = absurd (cc)

-- a byte that stands for itself
escape_other : (c : ℕ) → (c == 34) ≡ false → (c == 92) ≡ false → (c == 10) ≡ false → escape c ≡ c ∷ []
escape_other c q s n = rw (q, s, n) refl

pub not_true : (b : Bool) → not b ≡ true → b ≡ false
not_true true h = absurd (cc)
not_true false h = refl

abbrev backslash : Bool → List ℕ
backslash true = 92 ∷ []
backslash false = []

after_escape : (c : ℕ) (cs bs : List ℕ) → bytes_after true (c ∷ cs) ≡ Ok bs → ((more : List ℕ) → bytes_after false cs ≡ Ok more → cs ≡ flat_map escape more ++ 34 ∷ []) → 92 ∷ c ∷ cs ≡ flat_map escape bs ++ 34 ∷ []
after_escape c cs bs h k =
    let a = chained (unescaped c) (λ b. bytes_after false cs >>= λ more. Ok (b ∷ more)) bs h in
    let b = chained (bytes_after false cs) (λ more. Ok (a.value ∷ more)) bs a.gives in
    let same : a.value ∷ b.value ≡ bs = cc in
    let first = escape_is c a.value (c == 34) (c == 92) (c == 110) refl refl refl a.is in
    let rest = k b.value b.is in
    subst (λ xs. 92 ∷ c ∷ cs ≡ flat_map escape xs ++ 34 ∷ []) same
    (ap (λ xs. 92 ∷ c ∷ xs) rest ∙ (ap (λ xs. xs ++ (flat_map escape b.value ++ 34 ∷ [])) (sym first) ∙ sym (append_assoc (escape a.value) (flat_map escape b.value) (34 ∷ []))))

pub empty_is : (xs : List ℕ) → (length xs == 0) ≡ true → xs ≡ []
empty_is [] h = refl
empty_is (x ∷ xs) h =
    let none : length (x ∷ xs) ≡ 0 = grind (arith, nat_tests, h) in
    absurd (omega (arith, none))

closing : (cs bs : List ℕ) (b : Bool) → (length cs == 0) ≡ b → (if b then Ok [] else Err fault.Text) ≡ Ok bs → (cs ≡ []) × ([] ≡ bs)
closing cs bs true e h = (empty_is cs e, cc)
closing cs bs false e h = absurd (cc)

plain_byte : (c : ℕ) (cs bs : List ℕ) (q s : Bool) → (c == 34) ≡ q → (c == 92) ≡ s → (c == 10) ≡ false → (if q then (if length cs == 0 then Ok [] else Err fault.Text) else if s then bytes_after true cs else (bytes_after false cs >>= λ more. Ok (c ∷ more))) ≡ Ok bs → ((more : List ℕ) → bytes_after false cs ≡ Ok more → cs ≡ flat_map escape more ++ 34 ∷ []) → ((more : List ℕ) → bytes_after true cs ≡ Ok more → 92 ∷ cs ≡ flat_map escape more ++ 34 ∷ []) → c ∷ cs ≡ flat_map escape bs ++ 34 ∷ []
plain_byte c cs bs true s e f n h k l =
    let end = closing cs bs (length cs == 0) refl h in
    let quote : c ≡ 34 = grind (arith, nat_tests, e) in
    subst (λ xs. c ∷ cs ≡ flat_map escape xs ++ 34 ∷ []) end.1 (ap (λ xs. c ∷ xs) end.0 ∙ ap (λ x. x ∷ []) quote)
plain_byte c cs bs false true e f n h k l =
    let slash : c ≡ 92 = grind (arith, nat_tests, f) in
    ap (λ x. x ∷ cs) slash ∙ l bs h
plain_byte c cs bs false false e f n h k l =
    let b = chained (bytes_after false cs) (λ more. Ok (c ∷ more)) bs h in
    let same : c ∷ b.value ≡ bs = cc in
    let rest = k b.value b.is in
    subst (λ xs. c ∷ cs ≡ flat_map escape xs ++ 34 ∷ []) same
    (ap (λ xs. c ∷ xs) rest ∙ (ap (λ xs. xs ++ (flat_map escape b.value ++ 34 ∷ [])) (sym (escape_other c e f n)) ∙ sym (append_assoc (escape c) (flat_map escape b.value) (34 ∷ []))))

bytes_are : (escaped : Bool) (cs bs : List ℕ) → is_line cs ≡ true → bytes_after escaped cs ≡ Ok bs → backslash escaped ++ cs ≡ flat_map escape bs ++ 34 ∷ []
bytes_are true [] bs l h = absurd (cc)
bytes_are false [] bs l h = absurd (cc)
bytes_are true (c ∷ cs) bs l h =
    let parts = both (not (c == 10)) (is_line cs) l in
    after_escape c cs bs h (λ more k. bytes_are false cs more parts.1 k)
bytes_are false (c ∷ cs) bs l h =
    let parts = both (not (c == 10)) (is_line cs) l in
    plain_byte c cs bs (c == 34) (c == 92) refl refl (not_true (c == 10) parts.0) h (λ more k. bytes_are false cs more parts.1 k) (λ more k. bytes_are true cs more parts.1 k)

-- a text that is read is quoted so, and lawful
pub text_is : (line text : List ℕ) → is_line line ≡ true → (get_or line 0 0 == 34) ≡ true → text_at line ≡ Ok text → (quoted text ≡ line) × (is_text text ≡ true)
unfolding text_at quoted
text_is [] text l q h = absurd (cc)
text_is (c ∷ cs) text l q h =
    let a = chained (bytes_after false cs) (λ bytes. if is_text bytes then Ok bytes else Err fault.Text) text h in
    let t = tested (is_text a.value) a.value text fault.Text a.gives in
    let quote : 34 ≡ c = grind (arith, nat_tests, q) in
    let rest = bytes_are false cs a.value (both (not (c == 10)) (is_line cs) l).1 a.is in
    subst (λ x. (34 ∷ (flat_map escape x ++ 34 ∷ []) ≡ c ∷ cs) × (is_text x ≡ true)) t.1
    (ap (λ xs. 34 ∷ xs) (sym rest) ∙ ap (λ x. x ∷ cs) quote, t.0)
