-- What was read goes on with each character: in the literals of a declaration, and at its end.
use Rattle.std.proofs.Common.{◌≡◌, inl, inr, ℕ, ◌+◌, Bool, true, false, ◌&&◌, List, [], ◌∷◌, ◌++◌, map, length, refl, ap, subst, sym, ◌∙◌, length-append, append_assoc, append-nil, Option, Some, None}
use Rattle.std.proofs.lemmas.List.{length-map}
use Rattle.std.specs.Prelude.{◌==◌, option_map, codes}
use Rattle.std.specs.List.{list_all}
use Rattle.std.specs.Str.{bytes_eq, str_to_ascii_lowercase}
use Rattle.std.proofs.lemmas.Bool.{and_parts, and_from, or_left, or_right, eqb-true}
use Rattle.std.proofs.lemmas.Slice.Eq.{bytes_eq-Decides}
use Rattle.pws_mark.specs.Documents.{Nothing, Pseudo, Declaration}
use Rattle.pws_mark.specs.Grammar.{is_declaration}
use Rattle.pws_mark.specs.Scan.{next, stays, in_declaration, declaring_step, part_word, literal_word, part_behind, as_compared, has_at}
use Rattle.pws_mark.specs.Spelling.{write_pseudo, write_optional, write_declaration}
use Rattle.pws_mark.specs.States.{Outer}
use Rattle.pws_mark.specs.Tokens.{is_white, is_gap, is_quote}
use Rattle.pws_mark.specs.declared.modes.Declaring.{Declaring}
use Rattle.pws_mark.specs.declared.modes.Declaring.TheVariants as declaring
use Rattle.pws_mark.specs.declared.modes.Literal.{Literal}
use Rattle.pws_mark.specs.declared.modes.Literal.TheVariants as literal
use Rattle.pws_mark.specs.declared.modes.Mode.{Mode}
use Rattle.pws_mark.specs.declared.modes.Mode.TheVariants as mode
use Rattle.pws_mark.specs.declared.modes.Part.TheVariants as part
use Rattle.pws_mark.proofs.StandingTokens.{which}
use Rattle.pws_mark.proofs.StandingModes.{Stands, mark_text, Declared, None_read, Version_read, Encoding_read, All_read, is_version, is_encoding, is_standalone, LawfulDeclared, write_declared, part_of, may_come, Declares, part_with, InLiteral, InDeclarationEnd, InDeclaring}
use Rattle.pws_mark.proofs.StandingHeads.{at_head, none_step, Goes_on, part_after_more, word_goes, gap_goes, name_goes, before_goes, after_goes, choice_goes}
use Rattle.pws_mark.proofs.StandingValues.{has_split, none_left}

map_more : (f : ℕ → ℕ) (xs : List ℕ) (c : ℕ) (more : List ℕ) → map f xs ++ f c ∷ more ≡ map f (xs ++ c ∷ []) ++ more
map_more f [] c more = refl
map_more f (x ∷ xs) c more = ap (λ z. f x ∷ z) (map_more f xs c more)

-- the value of a literal
abbrev is_literal : Literal → Pseudo → Bool
is_literal literal.One p = is_version p
is_literal literal.Utf8 p = is_encoding p
is_literal literal.Yes p = is_standalone p
is_literal literal.No p = is_standalone p

-- what was read, and one part more
record Grown (l : Literal) (x : Declared) (p : Pseudo) : Type 0 where
  new : Declared
  lawful : LawfulDeclared new
  comes : part_of new ≡ part_behind l
  is : write_declared new ≡ write_declared x ++ write_pseudo (part_word (part_with l)) p

alone : (x : Declared) (p : Pseudo) (l : Literal) → part_with l ≡ part.Standalone → part_behind l ≡ part.End → LawfulDeclared x → may_come x part.Standalone ≡ true → is_standalone p ≡ true → Grown l x p
unfolding part_word
alone None_read p l w b lawful may is = absurd cc
alone (Version_read v) p l w b lawful may is = record { new = All_read v None p; lawful = (lawful, refl, is); comes = sym b; is = sym (append_assoc (codes "<?xml") (write_pseudo (codes "version") v) (write_pseudo (codes "standalone") p)) ∙ ap (λ q. write_declared (Version_read v) ++ write_pseudo (part_word q) p) (sym w) }
alone (Encoding_read v e) p l w b lawful may is = record { new = All_read v (Some e) p; lawful = (lawful.0, lawful.1, is); comes = sym b; is = on (codes "<?xml") (write_pseudo (codes "version") v) (write_pseudo (codes "encoding") e) (write_pseudo (codes "standalone") p) ∙ ap (λ q. write_declared (Encoding_read v e) ++ write_pseudo (part_word q) p) (sym w) }
  where
    on : (a b c d : List ℕ) → a ++ (b ++ (c ++ d)) ≡ (a ++ (b ++ c)) ++ d
    on a b c d = simp append_assoc
alone (All_read v e s) p l w b lawful may is = absurd cc

grow : (l : Literal) (x : Declared) (p : Pseudo) → LawfulDeclared x → may_come x (part_with l) ≡ true → is_literal l p ≡ true → Grown l x p
unfolding part_word
grow literal.One None_read p lawful may is = record { new = Version_read p; lawful = is; comes = refl; is = refl }
grow literal.One (Version_read v) p lawful may is = absurd cc
grow literal.One (Encoding_read v e) p lawful may is = absurd cc
grow literal.One (All_read v e s) p lawful may is = absurd cc
grow literal.Utf8 None_read p lawful may is = absurd cc
grow literal.Utf8 (Version_read v) p lawful may is = record { new = Encoding_read v p; lawful = (lawful, is); comes = refl; is = sym (append_assoc (codes "<?xml") (write_pseudo (codes "version") v) (write_pseudo (codes "encoding") p)) }
grow literal.Utf8 (Encoding_read v e) p lawful may is = absurd cc
grow literal.Utf8 (All_read v e s) p lawful may is = absurd cc
grow literal.Yes x p lawful may is = alone x p literal.Yes refl refl lawful may is
grow literal.No x p lawful may is = alone x p literal.No refl refl lawful may is

same : (xs : List ℕ) → map (λ c. c) xs ≡ xs
same [] = refl
same (x ∷ xs) = ap (λ z. x ∷ z) (same xs)

equal : (xs ys : List ℕ) → xs ≡ ys → bytes_eq xs ys ≡ true
equal xs ys e = (bytes_eq-Decides xs ys).1 e

-- a value whose characters are the literal's
literal_is : (l : Literal) (p : Pseudo) → is_gap p.gap ≡ true → list_all is_white p.before ≡ true → list_all is_white p.after ≡ true → is_quote p.quote ≡ true → literal_word l ≡ map (as_compared l) p.value → is_literal l p ≡ true
unfolding literal_word
literal_is literal.One p g b a q e = and_from _ _ g (and_from _ _ b (and_from _ _ a (and_from _ _ q (equal p.value (codes "1.0") (sym (e ∙ same p.value))))))
literal_is literal.Utf8 p g b a q e = and_from _ _ g (and_from _ _ b (and_from _ _ a (and_from _ _ q (equal (str_to_ascii_lowercase p.value) (codes "utf-8") (sym e)))))
literal_is literal.Yes p g b a q e = and_from _ _ g (and_from _ _ b (and_from _ _ a (and_from _ _ q (or_left _ _ (equal p.value (codes "yes") (sym (e ∙ same p.value)))))))
literal_is literal.No p g b a q e = and_from _ _ g (and_from _ _ b (and_from _ _ a (and_from _ _ q (or_right _ _ (equal p.value (codes "no") (sym (e ∙ same p.value)))))))

not_first : (l : Literal) {A : Type 0} → part_behind l ≡ part.Version → A
not_first literal.One e = absurd cc
not_first literal.Utf8 e = absurd cc
not_first literal.Yes e = absurd cc
not_first literal.No e = absurd cc

abbrev as_pseudo : (gap before after : List ℕ) (quote : ℕ) (value : List ℕ) → Pseudo
as_pseudo gap before after quote value = record { gap = gap; before = before; after = after; quote = quote; value = value }

-- a quote behind the last character
closes : (o : Outer) (front : List ℕ) (l : Literal) (q n c : ℕ) → InLiteral l q n o front → n ≡ length (literal_word l) → c ≡ q → Goes_on (Some (declaring.Gap (part_behind l) false)) o (front ++ c ∷ [])
closes o front l q n c h size is = record {
  gap = [];
  declares = record {
    outside = declares.outside;
    mark = declares.mark;
    read = grown.new;
    lawful = grown.lawful;
    is = ap (λ z. z ++ c ∷ []) declares.is ∙ (append_assoc (mark_text declares.mark) (write_declared declares.read ++ (h.at.at.gap ++ (part_word (part_with l) ++ (h.at.before ++ 61 ∷ (h.at.after ++ q ∷ h.chars))))) (c ∷ []) ∙ ap (λ z. mark_text declares.mark ++ z) (ap (λ d. (write_declared declares.read ++ (h.at.at.gap ++ (part_word (part_with l) ++ (h.at.before ++ 61 ∷ (h.at.after ++ q ∷ h.chars))))) ++ d ∷ []) is ∙ (on (write_declared declares.read) h.at.at.gap (part_word (part_with l)) h.at.before h.at.after h.chars ∙ ap (λ z. z ++ []) (sym grown.is))));
  };
  comes = grown.comes;
  white = refl;
  some = λ e. absurd cc;
  first = λ e. not_first l e;
}
  where
    declares : Declares (h.at.at.gap ++ (part_word (part_with l) ++ (h.at.before ++ 61 ∷ (h.at.after ++ q ∷ h.chars)))) o front
    declares = h.at.at.declares

    on : (d gap word before after chars : List ℕ) → (d ++ (gap ++ (word ++ (before ++ 61 ∷ (after ++ q ∷ chars))))) ++ q ∷ [] ≡ (d ++ (gap ++ (word ++ (before ++ 61 ∷ (after ++ q ∷ (chars ++ q ∷ [])))))) ++ []
    on d gap word before after chars = simp (append_assoc, append-nil)

    none : h.todo ≡ []
    none = none_left (map (as_compared l) h.chars) h.todo (length-map h.chars (as_compared l) ∙ (h.size ∙ (size ∙ ap length h.word)))

    grown : Grown l h.at.at.declares.read (as_pseudo h.at.at.gap h.at.before h.at.after q h.chars)
    grown = grow l h.at.at.declares.read (as_pseudo h.at.at.gap h.at.before h.at.after q h.chars) h.at.at.declares.lawful h.at.at.may (literal_is l (as_pseudo h.at.at.gap h.at.before h.at.after q h.chars) h.at.at.white h.at.before_white h.at.after_white h.quote (h.word ∙ (ap (λ t. map (as_compared l) h.chars ++ t) none ∙ append-nil (map (as_compared l) h.chars))))

pub value_goes : (o : Outer) (front : List ℕ) (l : Literal) (q n c : ℕ) (e : Option Declaring) → InLiteral l q n o front → declaring_step (declaring.Value l q n) c ≡ Some e → Goes_on e o (front ++ c ∷ [])
unfolding declaring_step
value_goes o front l q n c e h step = elim (which (has_at (literal_word l) n (as_compared l c)) _ _ _ step) [
  | inl i ↦ let more = has_split (map (as_compared l) h.chars) h.todo (as_compared l c) (ap (λ k. has_at (map (as_compared l) h.chars ++ h.todo) k (as_compared l c)) (length-map h.chars (as_compared l) ∙ h.size) ∙ (ap (λ w. has_at w n (as_compared l c)) (sym h.word) ∙ i.0)) in
      subst (λ y. Goes_on y o (front ++ c ∷ [])) i.1 (record {
        chars = h.chars ++ c ∷ [];
        todo = more.0;
        at = part_after_more (part_with l) (q ∷ h.chars) (q ∷ (h.chars ++ c ∷ [])) o front c refl h.at;
        quote = h.quote;
        word = h.word ∙ (ap (λ t. map (as_compared l) h.chars ++ t) more.1 ∙ map_more (as_compared l) h.chars c more.0);
        size = length-append h.chars (c ∷ []) ∙ ap (λ k. k + 1) h.size;
      })
  | inr g ↦ elim (which (n == length (literal_word l) && c == q) _ _ _ g.1) [
    | inl i ↦ let parts = and_parts (n == length (literal_word l)) (c == q) i.0 in subst (λ y. Goes_on y o (front ++ c ∷ [])) i.1 (closes o front l q n c h (eqb-true n _ parts.0) (eqb-true c q parts.1))
    | inr g ↦ none_step e g.1
  ]
]

-- a declaration that is whole
record Whole (x : Declared) (gap : List ℕ) : Type 0 where
  declaration : Option Declaration
  lawful : is_declaration declaration ≡ true
  is : write_declaration declaration ≡ write_declared x ++ (gap ++ codes "?>")

whole : (x : Declared) (gap : List ℕ) → LawfulDeclared x → (part_of x ≡ part.Version → ⊥) → list_all is_white gap ≡ true → Whole x gap
whole None_read gap lawful some white = absurd (some refl)
whole (Version_read v) gap lawful some white = record {
  declaration = Some (record { version = v; encoding = None; standalone = None; gap = gap });
  lawful = and_from _ _ lawful (and_from _ _ refl (and_from _ _ refl white));
  is = sym (append_assoc (codes "<?xml") (write_pseudo (codes "version") v) (gap ++ codes "?>"));
}
whole (Encoding_read v e) gap lawful some white = record {
  declaration = Some (record { version = v; encoding = Some e; standalone = None; gap = gap });
  lawful = and_from _ _ lawful.0 (and_from _ _ lawful.1 (and_from _ _ refl white));
  is = on (codes "<?xml") (write_pseudo (codes "version") v) (write_pseudo (codes "encoding") e) (gap ++ codes "?>");
}
  where
    on : (a b c d : List ℕ) → a ++ (b ++ (c ++ d)) ≡ (a ++ (b ++ c)) ++ d
    on a b c d = simp append_assoc
whole (All_read v e s) gap lawful some white = record {
  declaration = Some (record { version = v; encoding = e; standalone = Some s; gap = gap });
  lawful = and_from _ _ lawful.0 (and_from _ _ lawful.1 (and_from _ _ lawful.2 white));
  is = on (codes "<?xml") (write_pseudo (codes "version") v) (write_optional (codes "encoding") e) (write_pseudo (codes "standalone") s) (gap ++ codes "?>");
}
  where
    on : (a b c d f : List ℕ) → a ++ (b ++ (c ++ (d ++ f))) ≡ (a ++ (b ++ (c ++ d))) ++ f
    on a b c d f = simp append_assoc

pub end_goes : (o : Outer) (front : List ℕ) (c : ℕ) (e : Option Declaring) → InDeclarationEnd o front → declaring_step declaring.End c ≡ Some e → Goes_on e o (front ++ c ∷ [])
unfolding declaring_step
end_goes o front c e h step = elim (which (c == 62) _ _ _ step) [
  | inl i ↦ subst (λ y. Goes_on y o (front ++ c ∷ [])) i.1 (record {
    here = at_head o (front ++ c ∷ []) h.declares.mark made.declaration Nothing [] h.declares.outside (record { declaration = made.lawful; before = refl })
        (ap (λ z. z ++ c ∷ []) h.declares.is ∙ (on (mark_text h.declares.mark) (write_declared h.declares.read) h.gap ∙ (ap (λ d. mark_text h.declares.mark ++ (write_declared h.declares.read ++ (h.gap ++ 63 ∷ d ∷ []))) (eqb-true c 62 i.0) ∙ (ap (λ z. mark_text h.declares.mark ++ z) (sym made.is) ∙ last (mark_text h.declares.mark) (write_declaration made.declaration)))));
    marks = tt;
  })
  | inr g ↦ none_step e g.1
]
  where
    made : Whole h.declares.read h.gap
    made = whole h.declares.read h.gap h.declares.lawful h.some h.white

    on : (mark read gap : List ℕ) → (mark ++ (read ++ (gap ++ 63 ∷ []))) ++ c ∷ [] ≡ mark ++ (read ++ (gap ++ 63 ∷ c ∷ []))
    on mark read gap = simp append_assoc

    last : (a b : List ℕ) → a ++ b ≡ ((a ++ b) ++ []) ++ []
    last a b = simp append-nil

-- where a declaration goes on
record Took (o : Outer) (x : Option (Option Declaring)) (z : Mode × Outer) : Type 0 where
  to : Option Declaring
  steps : x ≡ Some to
  is : (in_declaration to, o) ≡ z

took : (o : Outer) (x : Option (Option Declaring)) (z : Mode × Outer) → stays o (option_map in_declaration x) ≡ Some z → Took o x z
took o None z h = absurd cc
took o (Some e) z h = record { to = e; steps = refl; is = (let i : (in_declaration e, o) ≡ z = cc in i) }

goes : (d : Declaring) (o : Outer) (front : List ℕ) (c : ℕ) (e : Option Declaring) → InDeclaring d o front → declaring_step d c ≡ Some e → Goes_on e o (front ++ c ∷ [])
goes (declaring.Word n) o front c e h step = word_goes o front n c e h step
goes (declaring.Gap p spaced) o front c e h step = gap_goes o front p spaced c e h step
goes (declaring.Name p n) o front c e h step = name_goes o front p n c e h step
goes (declaring.BeforeEquals p) o front c e h step = before_goes o front p c e h step
goes (declaring.AfterEquals p) o front c e h step = after_goes o front p c e h step
goes (declaring.Choice q) o front c e h step = choice_goes o front q c e h step
goes (declaring.Value l q n) o front c e h step = value_goes o front l q n c e h step
goes declaring.End o front c e h step = end_goes o front c e h step

pub declaring_stands : (o : Outer) (front : List ℕ) (at c : ℕ) (d : Declaring) (z : Mode × Outer) → InDeclaring d o front → next (mode.Declaring d) o at c ≡ Some z → Stands z (front ++ c ∷ [])
unfolding next
declaring_stands o front at c d z h step = let t = took o (declaring_step d c) z step in subst (λ y. Stands y (front ++ c ∷ [])) t.is (goes d o front c t.to h t.steps)
