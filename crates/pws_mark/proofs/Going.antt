-- How runs of the reader follow one another.
use Rattle.std.proofs.Common.{◌≡◌, ℕ, ◌+◌, Bool, true, false, List, [], ◌∷◌, ◌++◌, length, refl, ap, subst, sym, ◌∙◌, append_assoc, append-nil, arith, length-append, Option, Some, None}
use Rattle.std.specs.Prelude.{◌==◌, ◌&&◌, if◌then◌else◌, option_map, encode_utf8, encode_utf8_all}
use Rattle.std.specs.List.{list_all}
use Rattle.std.proofs.lemmas.Bool.{and_parts, ne_eqb, eqb-true}
use Rattle.std.proofs.lemmas.Str.{encodes-append}
use Rattle.pws_tree.specs.Characters.{is_name_start, is_name_char}
use Rattle.pws_mark.specs.Faults.{Fault}
use Rattle.pws_mark.specs.Noted.{noted, noted_at, then_noted, finds}
use Rattle.pws_mark.specs.Scan.{step, run, then_run, next}
use Rattle.pws_mark.specs.States.{Outer, State}
use Rattle.pws_mark.specs.TokenLaws.{Goes, state, ending}
use Rattle.pws_mark.specs.Tokens.{goes_on}
use Rattle.pws_mark.specs.declared.errors.MarkKind.{MarkKind}
use Rattle.pws_mark.specs.declared.modes.Mode.{Mode}

-- a run over two lists is a run over the first and then the second
pub run_append : (s : State) (xs ys : List ℕ) → run s (xs ++ ys) ≡ then_run (run s xs) (λ t. run t ys)
unfolding run
run_append s [] ys = refl
run_append s (x ∷ xs) ys = by (step s x) (λ t. run_append t xs ys)
  where
    by : (o : Option State) → ((t : State) → run t (xs ++ ys) ≡ then_run (run t xs) (λ u. run u ys)) → then_run o (λ t. run t (xs ++ ys)) ≡ then_run (then_run o (λ t. run t xs)) (λ t. run t ys)
    by None again = refl
    by (Some t) again = again t

pub noted_append : (s : State) (xs ys : List ℕ) → noted s (xs ++ ys) ≡ noted s xs ++ then_noted (run s xs) (λ t. noted t ys)
unfolding run noted
noted_append s [] ys = refl
noted_append s (x ∷ xs) ys = by (step s x) (λ t. noted_append t xs ys)
  where
    by : (o : Option State) → ((t : State) → noted t (xs ++ ys) ≡ noted t xs ++ then_noted (run t xs) (λ u. noted u ys)) → noted_at s x ++ then_noted o (λ t. noted t (xs ++ ys)) ≡ (noted_at s x ++ then_noted o (λ t. noted t xs)) ++ then_noted (then_run o (λ t. run t xs)) (λ t. noted t ys)
    by None again = sym (append-nil (noted_at s x ++ []))
    by (Some t) again = ap (λ z. noted_at s x ++ z) (again t) ∙ sym (append_assoc (noted_at s x) (noted t xs) (then_noted (run t xs) (λ u. noted u ys)))

-- one run after another
pub goes_on_to : (s t u : State) (xs ys : List ℕ) (fs gs : List Fault) → Goes s xs t fs → Goes t ys u gs → Goes s (xs ++ ys) u (fs ++ gs)
goes_on_to s t u xs ys fs gs a b = record {
  runs = run_append s xs ys ∙ (ap (λ z. then_run z (λ v. run v ys)) a.runs ∙ b.runs);
  notes = noted_append s xs ys ∙ (ap (λ z. noted s xs ++ then_noted z (λ v. noted v ys)) a.runs ∙ (ap (λ z. z ++ noted t ys) a.notes ∙ ap (λ z. fs ++ z) b.notes));
}

-- no character
pub goes_nowhere : (s : State) → Goes s [] s []
unfolding run noted
goes_nowhere s = record { runs = refl; notes = refl }

-- one character, and then others
pub goes_step : (s t u : State) (c : ℕ) (cs : List ℕ) (fs gs : List Fault) → step s c ≡ Some t → noted_at s c ≡ fs → Goes t cs u gs → Goes s (c ∷ cs) u (fs ++ gs)
unfolding run noted
goes_step s t u c cs fs gs stepped found more = record {
  runs = ap (λ z. then_run z (λ v. run v cs)) stepped ∙ more.runs;
  notes = ap (λ z. noted_at s c ++ then_noted z (λ v. noted v cs)) stepped ∙ (ap (λ z. z ++ noted t cs) found ∙ ap (λ z. fs ++ z) more.notes);
}

-- a place may be told otherwise
pub goes_at : (s : State) (cs : List ℕ) (m : Mode) (o : Outer) (fs : List Fault) (here there : ℕ) → here ≡ there → Goes s cs (state here m o) fs → Goes s cs (state there m o) fs
goes_at s cs m o fs here there e h = subst (λ p. Goes s cs (state p m o) fs) e h

-- so may that at which faults are noted
pub goes_until : (s : State) (cs : List ℕ) (m : Mode) (o : Outer) (finding : List (MarkKind × ℕ)) (here there : ℕ) → here ≡ there → Goes s cs (state here m o) (ending here finding) → Goes s cs (state there m o) (ending there finding)
goes_until s cs m o finding here there e h = subst (λ p. Goes s cs (state p m o) (ending p finding)) e h

-- one character
pub goes_once : (m n : Mode) (o p : Outer) (at c : ℕ) (finding : List (MarkKind × ℕ)) → next m o at c ≡ Some (n, p) → finds m o c ≡ finding → Goes (state at m o) (c ∷ []) (state (at + length (encode_utf8 c)) n p) (ending (at + length (encode_utf8 c)) finding)
unfolding run noted
goes_once m n o p at c finding stepped found = record {
  runs = ap (λ z. then_run (option_map (λ x. record { at = at + length (encode_utf8 c); mode = x.0; outer = x.1 }) z) (λ t. Some t)) stepped;
  notes = ap (λ z. noted_at (state at m o) c ++ then_noted (option_map (λ x. record { at = at + length (encode_utf8 c); mode = x.0; outer = x.1 }) z) (λ t. [])) stepped ∙ (append-nil (noted_at (state at m o) c) ∙ ap (λ z. ending (at + length (encode_utf8 c)) z) found);
}

-- one character with nothing to note, and then others
pub goes_quietly : (m n k : Mode) (o p q : Outer) (at c : ℕ) (cs : List ℕ) (fs : List Fault) → next m o at c ≡ Some (n, p) → finds m o c ≡ []
    → Goes (state (at + length (encode_utf8 c)) n p) cs (state (at + length (encode_utf8 c) + length (encode_utf8_all cs)) k q) fs
    → Goes (state at m o) (c ∷ cs) (state (at + length (encode_utf8 c ++ encode_utf8_all cs)) k q) fs
goes_quietly m n k o p q at c cs fs stepped found more =
    goes_at (state at m o) (c ∷ cs) k q fs (at + length (encode_utf8 c) + length (encode_utf8_all cs)) (at + length (encode_utf8 c ++ encode_utf8_all cs))
    (omega (arith, length-append (encode_utf8 c) (encode_utf8_all cs)))
    (goes_on_to _ _ _ (c ∷ []) cs [] fs (goes_once m n o p at c [] stepped found) more)

-- the same where what comes after is noted at its end
pub goes_before : (m n k : Mode) (o p q : Outer) (at c : ℕ) (cs : List ℕ) (finding : List (MarkKind × ℕ)) → next m o at c ≡ Some (n, p) → finds m o c ≡ []
    → Goes (state (at + length (encode_utf8 c)) n p) cs (state (at + length (encode_utf8 c) + length (encode_utf8_all cs)) k q) (ending (at + length (encode_utf8 c) + length (encode_utf8_all cs)) finding)
    → Goes (state at m o) (c ∷ cs) (state (at + length (encode_utf8 c ++ encode_utf8_all cs)) k q) (ending (at + length (encode_utf8 c ++ encode_utf8_all cs)) finding)
goes_before m n k o p q at c cs finding stepped found more =
    goes_until (state at m o) (c ∷ cs) k q finding (at + length (encode_utf8 c) + length (encode_utf8_all cs)) (at + length (encode_utf8 c ++ encode_utf8_all cs))
    (omega (arith, length-append (encode_utf8 c) (encode_utf8_all cs)))
    (goes_on_to _ _ _ (c ∷ []) cs [] (ending (at + length (encode_utf8 c) + length (encode_utf8_all cs)) finding) (goes_once m n o p at c [] stepped found) more)

-- characters with nothing to note, and then others
pub goes_over : (m n k : Mode) (o p q : Outer) (at : ℕ) (xs ys : List ℕ) (finding : List (MarkKind × ℕ))
    → Goes (state at m o) xs (state (at + length (encode_utf8_all xs)) n p) []
    → Goes (state (at + length (encode_utf8_all xs)) n p) ys (state (at + length (encode_utf8_all xs) + length (encode_utf8_all ys)) k q) (ending (at + length (encode_utf8_all xs) + length (encode_utf8_all ys)) finding)
    → Goes (state at m o) (xs ++ ys) (state (at + length (encode_utf8_all (xs ++ ys))) k q) (ending (at + length (encode_utf8_all (xs ++ ys))) finding)
goes_over m n k o p q at xs ys finding one more =
    let size : length (encode_utf8_all (xs ++ ys)) ≡ length (encode_utf8_all xs) + length (encode_utf8_all ys) = ap length (encodes-append xs ys) ∙ length-append (encode_utf8_all xs) (encode_utf8_all ys) in
    goes_until (state at m o) (xs ++ ys) k q finding (at + length (encode_utf8_all xs) + length (encode_utf8_all ys)) (at + length (encode_utf8_all (xs ++ ys)))
    (omega (arith, size))
    (goes_on_to _ _ _ xs ys [] (ending (at + length (encode_utf8_all xs) + length (encode_utf8_all ys)) finding) one more)

-- characters of one sort that leave the reader in its mode
pub goes_round : (m : Mode) (o : Outer) (p : ℕ → Bool) → ((at c : ℕ) → p c ≡ true → next m o at c ≡ Some (m, o)) → ((c : ℕ) → p c ≡ true → finds m o c ≡ []) →
    (cs : List ℕ) (at : ℕ) → list_all p cs ≡ true → Goes (state at m o) cs (state (at + length (encode_utf8_all cs)) m o) []
goes_round m o p stays quiet [] at all = goes_at (state at m o) [] m o [] at (at + 0) (omega arith) (goes_nowhere (state at m o))
goes_round m o p stays quiet (c ∷ cs) at all =
    let parts = and_parts (p c) (list_all p cs) all in
    goes_quietly m m m o o o at c cs [] (stays at c parts.0) (quiet c parts.0) (goes_round m o p stays quiet cs (at + length (encode_utf8 c)) parts.1)

-- a character of one sort isn't one that isn't of it
pub other : (p : ℕ → Bool) (c d : ℕ) → p c ≡ true → p d ≡ false → (c == d) ≡ false
other p c d is isnt = ne_eqb c d (λ same. absurd (let both : p c ≡ p d = ap p same in cc))

-- characters that make a name, in a mode that keeps what was read of it
pub goes_names : (mk : List ℕ → Bool → Mode) (o : Outer)
    → ((name : List ℕ) (at c : ℕ) → is_name_start c ≡ true → (next (mk name true) o at c ≡ Some (mk (name ++ c ∷ []) false, o)) × (finds (mk name true) o c ≡ []))
    → ((name : List ℕ) (at c : ℕ) → is_name_char c ≡ true → (next (mk name false) o at c ≡ Some (mk (name ++ c ∷ []) false, o)) × (finds (mk name false) o c ≡ []))
    → ((name : List ℕ) (at : ℕ) → (next (mk name false) o at 58 ≡ Some (mk (name ++ 58 ∷ []) true, o)) × (finds (mk name false) o 58 ≡ []))
    → (cs name : List ℕ) (starts : Bool) (at : ℕ) → goes_on starts cs ≡ true → Goes (state at (mk name starts) o) cs (state (at + length (encode_utf8_all cs)) (mk (name ++ cs) false) o) []
goes_names mk o start more colon [] name true at lawful = absurd cc
goes_names mk o start more colon [] name false at lawful =
    subst (λ n. Goes (state at (mk name false) o) [] (state (at + 0) (mk n false) o) []) (sym (append-nil name))
    (goes_at (state at (mk name false) o) [] (mk name false) o [] at (at + 0) (omega arith) (goes_nowhere (state at (mk name false) o)))
goes_names mk o start more colon (c ∷ cs) name true at lawful =
    let parts = and_parts (is_name_start c) (goes_on false cs) lawful in
    let now = start name at c parts.0 in
    subst (λ n. Goes (state at (mk name true) o) (c ∷ cs) (state (at + length (encode_utf8 c ++ encode_utf8_all cs)) (mk n false) o) []) (append_assoc name (c ∷ []) cs)
    (goes_quietly (mk name true) (mk (name ++ c ∷ []) false) (mk ((name ++ c ∷ []) ++ cs) false) o o o at c cs [] now.0 now.1 (goes_names mk o start more colon cs (name ++ c ∷ []) false (at + length (encode_utf8 c)) parts.1))
goes_names mk o start more colon (c ∷ cs) name false at lawful =
    by (c == 58) (eqb-true c 58) lawful (goes_names mk o start more colon cs (name ++ c ∷ []))
  where
    by : (b : Bool) → (b ≡ true → c ≡ 58) → (if b then goes_on true cs else is_name_char c && goes_on false cs) ≡ true
        → ((starts : Bool) (at : ℕ) → goes_on starts cs ≡ true → Goes (state at (mk (name ++ c ∷ []) starts) o) cs (state (at + length (encode_utf8_all cs)) (mk ((name ++ c ∷ []) ++ cs) false) o) [])
        → Goes (state at (mk name false) o) (c ∷ cs) (state (at + length (encode_utf8 c ++ encode_utf8_all cs)) (mk (name ++ c ∷ cs) false) o) []
    by true same h again =
        let now : (next (mk name false) o at c ≡ Some (mk (name ++ c ∷ []) true, o)) × (finds (mk name false) o c ≡ []) = subst (λ d. (next (mk name false) o at d ≡ Some (mk (name ++ d ∷ []) true, o)) × (finds (mk name false) o d ≡ [])) (sym (same refl)) (colon name at) in
        subst (λ n. Goes (state at (mk name false) o) (c ∷ cs) (state (at + length (encode_utf8 c ++ encode_utf8_all cs)) (mk n false) o) []) (append_assoc name (c ∷ []) cs)
        (goes_quietly (mk name false) (mk (name ++ c ∷ []) true) (mk ((name ++ c ∷ []) ++ cs) false) o o o at c cs [] now.0 now.1 (again true (at + length (encode_utf8 c)) h))
    by false same h again =
        let parts = and_parts (is_name_char c) (goes_on false cs) h in
        let now = more name at c parts.0 in
        subst (λ n. Goes (state at (mk name false) o) (c ∷ cs) (state (at + length (encode_utf8 c ++ encode_utf8_all cs)) (mk n false) o) []) (append_assoc name (c ∷ []) cs)
        (goes_quietly (mk name false) (mk (name ++ c ∷ []) false) (mk ((name ++ c ∷ []) ++ cs) false) o o o at c cs [] now.0 now.1 (again false (at + length (encode_utf8 c)) parts.1))
