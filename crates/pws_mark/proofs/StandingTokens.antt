-- What was read of a name, of a reference, of a comment or of a CDATA section.
use Rattle.std.proofs.Common.{◌≡◌, ◌⊎◌, inl, inr, ℕ, zero, suc, ◌+◌, ◌<◌, Bool, true, false, not, ◌&&◌, List, [], ◌∷◌, ◌++◌, replicate, refl, ap, subst, sym, ◌∙◌, arith, append_assoc, append-nil, add-one, Option, Some, None}
use Rattle.std.specs.Prelude.{◌==◌, nat_eq, if◌then◌else◌}
use Rattle.std.specs.List.{list_all, starts_with}
use Rattle.std.specs.Str.{bytes_eq}
use Rattle.std.proofs.lemmas.Bool.{and_parts, and_from, and_left, and_right, or_from, not_from_false, eqb-true}
use Rattle.std.proofs.lemmas.List.Folds.{list_all-append}
use Rattle.pws_tree.specs.Characters.{is_xml_char, xml_ranges, is_name_start, is_name_char, name_start_ranges, name_more_ranges}
use Rattle.pws_mark.specs.Digits.{is_digit, is_hexadecimal}
use Rattle.pws_mark.specs.Documents.{Piece, Entity, Decimal, Hexadecimal, section_end}
use Rattle.pws_mark.specs.Scan.{reference_step, marks_after}
use Rattle.pws_mark.specs.Tokens.{is_name, goes_on, is_piece, is_section, is_comment, has_within}
use Rattle.pws_mark.specs.declared.modes.Reference.{Reference}
use Rattle.pws_mark.specs.declared.modes.Reference.TheVariants as reference
use Rattle.pws_mark.specs.declared.modes.ReferenceStep.{ReferenceStep}
use Rattle.pws_mark.specs.declared.modes.ReferenceStep.TheVariants as stepped
use Rattle.pws_mark.proofs.Going.{other}
use Rattle.pws_mark.proofs.TakesPieces.{same_either_way}
use Rattle.pws_mark.proofs.TakesReferences.{behind_mark, is_reference}

-- a name, or a beginning of one that ends in a colon
abbrev pub NameSoFar : Bool → List ℕ → Type 0
NameSoFar false name = is_name name ≡ true
NameSoFar true name = (before : List ℕ) × (name ≡ before ++ 58 ∷ []) × (is_name before ≡ true)

goes_on_char : (starts : Bool) (cs : List ℕ) (c : ℕ) → goes_on starts cs ≡ true → is_name_char c ≡ true → goes_on starts (cs ++ c ∷ []) ≡ true
unfolding name_start_ranges name_more_ranges
goes_on_char true [] c h is = absurd cc
goes_on_char false [] c h is = rw (other is_name_char c 58 is refl) (and_from _ _ is refl)
goes_on_char true (d ∷ cs) c h is =
    let parts = and_parts (is_name_start d) (goes_on false cs) h in
    and_from _ _ parts.0 (goes_on_char false cs c parts.1 is)
goes_on_char false (d ∷ cs) c h is = by (d == 58) h (λ starts g. goes_on_char starts cs c g is)
  where
    by : (b : Bool) → (if b then goes_on true cs else is_name_char d && goes_on false cs) ≡ true → ((starts : Bool) → goes_on starts cs ≡ true → goes_on starts (cs ++ c ∷ []) ≡ true) → (if b then goes_on true (cs ++ c ∷ []) else is_name_char d && goes_on false (cs ++ c ∷ [])) ≡ true
    by true g again = again true g
    by false g again = let parts = and_parts (is_name_char d) (goes_on false cs) g in and_from _ _ parts.0 (again false parts.1)

goes_on_colon : (starts : Bool) (cs : List ℕ) (c : ℕ) → goes_on starts cs ≡ true → is_name_start c ≡ true → goes_on starts (cs ++ 58 ∷ c ∷ []) ≡ true
goes_on_colon true [] c h is = absurd cc
goes_on_colon false [] c h is = and_from _ _ is refl
goes_on_colon true (d ∷ cs) c h is =
    let parts = and_parts (is_name_start d) (goes_on false cs) h in
    and_from _ _ parts.0 (goes_on_colon false cs c parts.1 is)
goes_on_colon false (d ∷ cs) c h is = by (d == 58) h (λ starts g. goes_on_colon starts cs c g is)
  where
    by : (b : Bool) → (if b then goes_on true cs else is_name_char d && goes_on false cs) ≡ true → ((starts : Bool) → goes_on starts cs ≡ true → goes_on starts (cs ++ 58 ∷ c ∷ []) ≡ true) → (if b then goes_on true (cs ++ 58 ∷ c ∷ []) else is_name_char d && goes_on false (cs ++ 58 ∷ c ∷ [])) ≡ true
    by true g again = again true g
    by false g again = let parts = and_parts (is_name_char d) (goes_on false cs) g in and_from _ _ parts.0 (again false parts.1)

pub name_begins : (c : ℕ) → is_name_start c ≡ true → NameSoFar false (c ∷ [])
unfolding is_name
name_begins c is = and_from _ _ is refl

pub name_grows : (name : List ℕ) (c : ℕ) → NameSoFar false name → is_name_char c ≡ true → NameSoFar false (name ++ c ∷ [])
unfolding is_name
name_grows name c h is = goes_on_char true name c h is

pub name_colon : (name : List ℕ) → NameSoFar false name → NameSoFar true (name ++ 58 ∷ [])
name_colon name h = (name, refl, h)

pub name_starts : (name : List ℕ) (c : ℕ) → NameSoFar true name → is_name_start c ≡ true → NameSoFar false (name ++ c ∷ [])
unfolding is_name
name_starts name c h is =
    let on : h.0 ++ 58 ∷ c ∷ [] ≡ name ++ c ∷ [] = sym (append_assoc h.0 (58 ∷ []) (c ∷ [])) ∙ ap (λ z. z ++ c ∷ []) (sym h.1) in
    subst (λ n. is_name n ≡ true) on (goes_on_colon true h.0 c h.2 is)

-- how a name ends
abbrev pub name_rest : Bool → List ℕ
name_rest false = []
name_rest true = 97 ∷ []

pub name_ends : (starts : Bool) (name : List ℕ) → NameSoFar starts name → is_name (name ++ name_rest starts) ≡ true
unfolding name_start_ranges
name_ends false name h = ap is_name (append-nil name) ∙ h
name_ends true name h = name_starts name 97 h refl

-- digits, at least one
abbrev pub DigitsAre : (ℕ → Bool) → List ℕ → Type 0
DigitsAre p digits = (not (bytes_eq digits []) && list_all p digits) ≡ true

pub digits_begin : (p : ℕ → Bool) (c : ℕ) → p c ≡ true → DigitsAre p (c ∷ [])
digits_begin p c is = and_from _ _ is refl

pub digits_grow : (p : ℕ → Bool) (digits : List ℕ) (c : ℕ) → DigitsAre p digits → p c ≡ true → DigitsAre p (digits ++ c ∷ [])
digits_grow p [] c h is = absurd cc
digits_grow p (d ∷ digits) c h is =
    let parts = and_parts (p d) (list_all p digits) h in
    and_from _ _ parts.0 (list_all-append p digits (c ∷ []) ∙ and_from _ _ parts.1 (and_from _ _ is refl))

-- what was read of a reference behind its &
abbrev pub RefHolds : Reference → List ℕ → Type 0
RefHolds reference.Begun cs = cs ≡ []
RefHolds (reference.Entity name starts) cs = (cs ≡ name) × NameSoFar starts name
RefHolds reference.Number cs = cs ≡ 35 ∷ []
RefHolds reference.HexadecimalBegun cs = cs ≡ 35 ∷ 120 ∷ []
RefHolds (reference.Decimal n) cs = (digits : List ℕ) × (cs ≡ 35 ∷ digits) × DigitsAre is_digit digits
RefHolds (reference.Hexadecimal n) cs = (digits : List ℕ) × (cs ≡ 35 ∷ 120 ∷ digits) × DigitsAre is_hexadecimal digits

-- which arc was taken
pub which : {A : Type 0} (b : Bool) (x : A) (y : Option A) (z : A) → (if b then Some x else y) ≡ Some z → ((b ≡ true) × (x ≡ z)) ⊎ ((b ≡ false) × (y ≡ Some z))
which true x y z h = inl (refl, let e : x ≡ z = cc in e)
which false x y z h = inr (refl, h)

more_is : (r s : Reference) → ◌≡◌ {A = ReferenceStep} (stepped.More r) (stepped.More s) → r ≡ s
more_is r s h = let e : r ≡ s = cc in e

no_done : {A : Type 0} (r : Reference) (d : Option ℕ) → ◌≡◌ {A = ReferenceStep} (stepped.Done d) (stepped.More r) → A
no_done r d h = absurd cc

pub ref_goes : (r s : Reference) (cs : List ℕ) (c : ℕ) → RefHolds r cs → reference_step r c ≡ Some (stepped.More s) → RefHolds s (cs ++ c ∷ [])
unfolding reference_step
ref_goes reference.Begun s cs c h step = elim (which (is_name_start c) _ _ _ step) [
  | inl e ↦ subst (λ t. RefHolds t (cs ++ c ∷ [])) (more_is _ _ e.1) (ap (λ z. z ++ c ∷ []) h, name_begins c e.0)
  | inr g ↦ elim (which (c == 35) _ _ _ g.1) [
    | inl e ↦ subst (λ t. RefHolds t (cs ++ c ∷ [])) (more_is _ _ e.1) (ap (λ z. z ++ c ∷ []) h ∙ ap (λ d. d ∷ []) (eqb-true c 35 e.0))
    | inr g ↦ absurd (let bad : None ≡ Some (stepped.More s) = g.1 in cc)
  ]
]
ref_goes (reference.Entity name true) s cs c h step = elim (which (is_name_start c) _ _ _ step) [
  | inl e ↦ subst (λ t. RefHolds t (cs ++ c ∷ [])) (more_is _ _ e.1) (ap (λ z. z ++ c ∷ []) h.0, name_starts name c h.1 e.0)
  | inr g ↦ absurd (let bad : None ≡ Some (stepped.More s) = g.1 in cc)
]
ref_goes (reference.Entity name false) s cs c h step = elim (which (is_name_char c) _ _ _ step) [
  | inl e ↦ subst (λ t. RefHolds t (cs ++ c ∷ [])) (more_is _ _ e.1) (ap (λ z. z ++ c ∷ []) h.0, name_grows name c h.1 e.0)
  | inr g ↦ elim (which (c == 58) _ _ _ g.1) [
    | inl e ↦ subst (λ t. RefHolds t (cs ++ c ∷ [])) (more_is _ _ e.1) (ap (λ z. z ++ c ∷ []) h.0, subst (λ d. NameSoFar true (name ++ d ∷ [])) (sym (eqb-true c 58 e.0)) (name_colon name h.1))
    | inr g ↦ elim (which (c == 59) _ _ _ g.1) [
      | inl e ↦ no_done s _ e.1
      | inr g ↦ absurd (let bad : None ≡ Some (stepped.More s) = g.1 in cc)
    ]
  ]
]
ref_goes reference.Number s cs c h step = elim (which (is_digit c) _ _ _ step) [
  | inl e ↦ subst (λ t. RefHolds t (cs ++ c ∷ [])) (more_is _ _ e.1) (c ∷ [], ap (λ z. z ++ c ∷ []) h, digits_begin is_digit c e.0)
  | inr g ↦ elim (which (c == 120) _ _ _ g.1) [
    | inl e ↦ subst (λ t. RefHolds t (cs ++ c ∷ [])) (more_is _ _ e.1) (ap (λ z. z ++ c ∷ []) h ∙ ap (λ d. 35 ∷ d ∷ []) (eqb-true c 120 e.0))
    | inr g ↦ absurd (let bad : None ≡ Some (stepped.More s) = g.1 in cc)
  ]
]
ref_goes reference.HexadecimalBegun s cs c h step = elim (which (is_hexadecimal c) _ _ _ step) [
  | inl e ↦ subst (λ t. RefHolds t (cs ++ c ∷ [])) (more_is _ _ e.1) (c ∷ [], ap (λ z. z ++ c ∷ []) h, digits_begin is_hexadecimal c e.0)
  | inr g ↦ absurd (let bad : None ≡ Some (stepped.More s) = g.1 in cc)
]
ref_goes (reference.Decimal n) s cs c h step = elim (which (is_digit c) _ _ _ step) [
  | inl e ↦ subst (λ t. RefHolds t (cs ++ c ∷ [])) (more_is _ _ e.1) (h.0 ++ c ∷ [], ap (λ z. z ++ c ∷ []) h.1, digits_grow is_digit h.0 c h.2 e.0)
  | inr g ↦ elim (which (c == 59) _ _ _ g.1) [
    | inl e ↦ no_done s _ e.1
    | inr g ↦ absurd (let bad : None ≡ Some (stepped.More s) = g.1 in cc)
  ]
]
ref_goes (reference.Hexadecimal n) s cs c h step = elim (which (is_hexadecimal c) _ _ _ step) [
  | inl e ↦ subst (λ t. RefHolds t (cs ++ c ∷ [])) (more_is _ _ e.1) (h.0 ++ c ∷ [], ap (λ z. z ++ c ∷ []) h.1, digits_grow is_hexadecimal h.0 c h.2 e.0)
  | inr g ↦ elim (which (c == 59) _ _ _ g.1) [
    | inl e ↦ no_done s _ e.1
    | inr g ↦ absurd (let bad : None ≡ Some (stepped.More s) = g.1 in cc)
  ]
]

-- a reference is whole
pub record IsRef (cs : List ℕ) : Type 0 where
  pub piece : Piece
  pub behind : behind_mark piece ≡ cs
  pub is : is_reference piece ≡ true
  pub lawful : (q : ℕ → Bool) → is_piece q piece ≡ true

entity_whole : (name : List ℕ) → is_name name ≡ true → IsRef (name ++ 59 ∷ [])
entity_whole name h = record { piece = Entity name; behind = refl; is = refl; lawful = λ q. h }

decimal_whole : (digits : List ℕ) → DigitsAre is_digit digits → IsRef (35 ∷ (digits ++ 59 ∷ []))
decimal_whole digits h = record { piece = Decimal digits; behind = refl; is = refl; lawful = λ q. h }

hexadecimal_whole : (digits : List ℕ) → DigitsAre is_hexadecimal digits → IsRef (35 ∷ 120 ∷ (digits ++ 59 ∷ []))
hexadecimal_whole digits h = record { piece = Hexadecimal digits; behind = refl; is = refl; lawful = λ q. h }

no_more : {A : Type 0} (r : Reference) (d : Option ℕ) → ◌≡◌ {A = ReferenceStep} (stepped.More r) (stepped.Done d) → A
no_more r d h = absurd cc

nothing_is : {A : Type 0} (x : ReferenceStep) → ◌≡◌ {A = Option ReferenceStep} None (Some x) → A
nothing_is x h = absurd cc

pub ref_done : (r : Reference) (cs : List ℕ) (c : ℕ) (d : Option ℕ) → RefHolds r cs → reference_step r c ≡ Some (stepped.Done d) → IsRef (cs ++ c ∷ [])
unfolding reference_step
ref_done reference.Begun cs c d h step = elim (which (is_name_start c) _ _ _ step) [
  | inl e ↦ no_more _ d e.1
  | inr g ↦ elim (which (c == 35) _ _ _ g.1) [ inl e ↦ no_more _ d e.1 | inr g ↦ nothing_is _ g.1 ]
]
ref_done (reference.Entity name true) cs c d h step = elim (which (is_name_start c) _ _ _ step) [ inl e ↦ no_more _ d e.1 | inr g ↦ nothing_is _ g.1 ]
ref_done (reference.Entity name false) cs c d h step = elim (which (is_name_char c) _ _ _ step) [
  | inl e ↦ no_more _ d e.1
  | inr g ↦ elim (which (c == 58) _ _ _ g.1) [
    | inl e ↦ no_more _ d e.1
    | inr g ↦ elim (which (c == 59) _ _ _ g.1) [
      | inl e ↦ subst IsRef (ap (λ z. z ++ 59 ∷ []) (sym h.0) ∙ ap (λ b. cs ++ b ∷ []) (sym (eqb-true c 59 e.0))) (entity_whole name h.1)
      | inr g ↦ nothing_is _ g.1
    ]
  ]
]
ref_done reference.Number cs c d h step = elim (which (is_digit c) _ _ _ step) [
  | inl e ↦ no_more _ d e.1
  | inr g ↦ elim (which (c == 120) _ _ _ g.1) [ inl e ↦ no_more _ d e.1 | inr g ↦ nothing_is _ g.1 ]
]
ref_done reference.HexadecimalBegun cs c d h step = elim (which (is_hexadecimal c) _ _ _ step) [ inl e ↦ no_more _ d e.1 | inr g ↦ nothing_is _ g.1 ]
ref_done (reference.Decimal n) cs c d h step = elim (which (is_digit c) _ _ _ step) [
  | inl e ↦ no_more _ d e.1
  | inr g ↦ elim (which (c == 59) _ _ _ g.1) [
    | inl e ↦ subst IsRef (ap (λ z. z ++ 59 ∷ []) (sym h.1) ∙ ap (λ b. cs ++ b ∷ []) (sym (eqb-true c 59 e.0))) (decimal_whole h.0 h.2)
    | inr g ↦ nothing_is _ g.1
  ]
]
ref_done (reference.Hexadecimal n) cs c d h step = elim (which (is_hexadecimal c) _ _ _ step) [
  | inl e ↦ no_more _ d e.1
  | inr g ↦ elim (which (c == 59) _ _ _ g.1) [
    | inl e ↦ subst IsRef (ap (λ z. z ++ 59 ∷ []) (sym h.1) ∙ ap (λ b. cs ++ b ∷ []) (sym (eqb-true c 59 e.0))) (hexadecimal_whole h.0 h.2)
    | inr g ↦ nothing_is _ g.1
  ]
]

pub ref_ends : (r : Reference) (cs : List ℕ) → RefHolds r cs → (more : List ℕ) × IsRef (cs ++ more)
unfolding name_start_ranges
ref_ends reference.Begun cs h = (97 ∷ 59 ∷ [], subst IsRef (ap (λ z. z ++ 97 ∷ 59 ∷ []) (sym h)) (entity_whole (97 ∷ []) (name_begins 97 refl)))
ref_ends (reference.Entity name starts) cs h = (name_rest starts ++ 59 ∷ [], subst IsRef (append_assoc name (name_rest starts) (59 ∷ []) ∙ ap (λ z. z ++ (name_rest starts ++ 59 ∷ [])) (sym h.0)) (entity_whole (name ++ name_rest starts) (name_ends starts name h.1)))
ref_ends reference.Number cs h = (48 ∷ 59 ∷ [], subst IsRef (ap (λ z. z ++ 48 ∷ 59 ∷ []) (sym h)) (decimal_whole (48 ∷ []) refl))
ref_ends reference.HexadecimalBegun cs h = (48 ∷ 59 ∷ [], subst IsRef (ap (λ z. z ++ 48 ∷ 59 ∷ []) (sym h)) (hexadecimal_whole (48 ∷ []) refl))
ref_ends (reference.Decimal n) cs h = (59 ∷ [], subst IsRef (ap (λ z. z ++ 59 ∷ []) (sym h.1)) (decimal_whole h.0 h.2))
ref_ends (reference.Hexadecimal n) cs h = (59 ∷ [], subst IsRef (ap (λ z. z ++ 59 ∷ []) (sym h.1)) (hexadecimal_whole h.0 h.2))

-- characters of a comment, with no two hyphens side by side, and then so many hyphens
abbrev pub dashes_run : ℕ → List ℕ → Bool
dashes_run n [] = n == 0
dashes_run n (c ∷ cs) = if c == 45 then n == 0 && dashes_run 1 cs else dashes_run 0 cs

pub record CommentHolds (n : ℕ) (cs : List ℕ) : Type 0 where
  pub text : List ℕ
  pub xml : list_all is_xml_char text ≡ true
  pub runs : dashes_run 0 text ≡ true
  pub few : n < 3
  pub is : cs ≡ text ++ replicate n 45

no_start : (c : ℕ) (cs : List ℕ) → (c == 45) ≡ false → starts_with nat_eq (c ∷ cs) (45 ∷ 45 ∷ []) ≡ false
no_start c cs e = and_left (45 == c) _ (same_either_way 45 c ∙ e)

no_second : (c : ℕ) (cs : List ℕ) → (c == 45) ≡ false → starts_with nat_eq (45 ∷ c ∷ cs) (45 ∷ 45 ∷ []) ≡ false
no_second c cs e = and_left (45 == c) _ (same_either_way 45 c ∙ e)

dashes_within : (n : ℕ) (cs : List ℕ) → n < 2 → dashes_run n cs ≡ true → has_within (45 ∷ 45 ∷ []) (replicate n 45 ++ (cs ++ 45 ∷ [])) ≡ false
dashes_within zero [] few h = refl
dashes_within (suc zero) [] few h = absurd cc
dashes_within zero (c ∷ cs) few h = by (c == 45) refl h (dashes_within zero cs few) (dashes_within (suc zero) cs (omega arith))
  where
    by : (b : Bool) → (c == 45) ≡ b → (if b then dashes_run 1 cs else dashes_run 0 cs) ≡ true → (dashes_run 0 cs ≡ true → has_within (45 ∷ 45 ∷ []) (cs ++ 45 ∷ []) ≡ false) → (dashes_run 1 cs ≡ true → has_within (45 ∷ 45 ∷ []) (45 ∷ (cs ++ 45 ∷ [])) ≡ false) → has_within (45 ∷ 45 ∷ []) (c ∷ (cs ++ 45 ∷ [])) ≡ false
    by true e g plain dashed = subst (λ d. has_within (45 ∷ 45 ∷ []) (d ∷ (cs ++ 45 ∷ [])) ≡ false) (sym (eqb-true c 45 e)) (dashed g)
    by false e g plain dashed = or_from _ _ (no_start c (cs ++ 45 ∷ []) e) (plain g)
dashes_within (suc zero) (c ∷ cs) few h = by (c == 45) refl h (dashes_within zero cs (omega arith))
  where
    by : (b : Bool) → (c == 45) ≡ b → (if b then false else dashes_run 0 cs) ≡ true → (dashes_run 0 cs ≡ true → has_within (45 ∷ 45 ∷ []) (cs ++ 45 ∷ []) ≡ false) → has_within (45 ∷ 45 ∷ []) (45 ∷ c ∷ (cs ++ 45 ∷ [])) ≡ false
    by true e g plain = absurd cc
    by false e g plain = or_from _ _ (no_second c (cs ++ 45 ∷ []) e) (or_from _ _ (no_start c (cs ++ 45 ∷ []) e) (plain g))
dashes_within (suc (suc n)) cs few h = absurd (omega arith)

pub comment_whole : (text : List ℕ) → list_all is_xml_char text ≡ true → dashes_run 0 text ≡ true → is_comment text ≡ true
comment_whole text xml runs = and_from _ _ xml (not_from_false _ (dashes_within 0 text (omega arith) runs))

-- a character that is no hyphen
dashes_on : (n m : ℕ) (cs : List ℕ) (c : ℕ) → dashes_run n cs ≡ true → (c == 45) ≡ false → m < 2 → dashes_run n (cs ++ (replicate m 45 ++ c ∷ [])) ≡ true
dashes_on n zero [] c h other few = rw other refl
dashes_on n (suc zero) [] c h other few = and_from _ _ h (rw other refl)
dashes_on n (suc (suc m)) cs c h other few = absurd (omega arith)
dashes_on n m (d ∷ cs) c h other few = by (d == 45) h (λ k g. dashes_on k m cs c g other few)
  where
    by : (b : Bool) → (if b then (n == 0) && dashes_run 1 cs else dashes_run 0 cs) ≡ true → ((k : ℕ) → dashes_run k cs ≡ true → dashes_run k (cs ++ (replicate m 45 ++ c ∷ [])) ≡ true) → (if b then (n == 0) && dashes_run 1 (cs ++ (replicate m 45 ++ c ∷ [])) else dashes_run 0 (cs ++ (replicate m 45 ++ c ∷ []))) ≡ true
    by true g again = let parts = and_parts (n == 0) (dashes_run 1 cs) g in and_from _ _ parts.0 (again 1 parts.1)
    by false g again = again 0 g

replicate_more : (n : ℕ) (x : ℕ) → replicate n x ++ x ∷ [] ≡ replicate (n + 1) x
replicate_more zero x = refl
replicate_more (suc n) x = rw add-one (ap (λ z. x ∷ z) (replicate_more n x ∙ rw add-one refl))

-- a further character of a comment
pub comment_dashes : (n : ℕ) (cs : List ℕ) → n < 2 → CommentHolds n cs → CommentHolds (n + 1) (cs ++ 45 ∷ [])
comment_dashes n cs few h = record {
  text = h.text;
  xml = h.xml;
  runs = h.runs;
  few = omega arith;
  is = ap (λ z. z ++ 45 ∷ []) h.is ∙ (append_assoc h.text (replicate n 45) (45 ∷ []) ∙ ap (λ z. h.text ++ z) (replicate_more n 45));
}

xml_on : (text : List ℕ) (n c d : ℕ) → list_all is_xml_char text ≡ true → is_xml_char c ≡ true → is_xml_char d ≡ true → list_all is_xml_char (text ++ (replicate n c ++ d ∷ [])) ≡ true
xml_on text n c d xml one other = list_all-append is_xml_char text (replicate n c ++ d ∷ []) ∙ and_from _ _ xml (list_all-append is_xml_char (replicate n c) (d ∷ []) ∙ and_from _ _ (same n) (and_from _ _ other refl))
  where
    same : (m : ℕ) → list_all is_xml_char (replicate m c) ≡ true
    same zero = refl
    same (suc m) = and_from _ _ one (same m)

pub comment_char : (n : ℕ) (cs : List ℕ) (c : ℕ) → n < 2 → CommentHolds n cs → (c == 45) ≡ false → is_xml_char c ≡ true → CommentHolds 0 (cs ++ c ∷ [])
unfolding xml_ranges
comment_char n cs c few h other xml = record {
  text = h.text ++ (replicate n 45 ++ c ∷ []);
  xml = xml_on h.text n 45 c h.xml refl xml;
  runs = dashes_on 0 n h.text c h.runs other few;
  few = omega arith;
  is = ap (λ z. z ++ c ∷ []) h.is ∙ (append_assoc h.text (replicate n 45) (c ∷ []) ∙ sym (append-nil (h.text ++ (replicate n 45 ++ c ∷ []))));
}

pub comment_none : CommentHolds 0 []
comment_none = record { text = []; xml = refl; runs = refl; few = omega arith; is = refl }

-- characters of a CDATA section, with so many brackets before, and how many stand behind
abbrev pub brackets_run : ℕ → List ℕ → Option ℕ
brackets_run n [] = Some n
brackets_run n (c ∷ cs) = if n == 2 && c == 62 then None else brackets_run (marks_after 93 n c) cs

pub record SectionHolds (n : ℕ) (cs : List ℕ) : Type 0 where
  pub text : List ℕ
  pub xml : list_all is_xml_char text ≡ true
  pub behind : ℕ
  pub runs : brackets_run 0 text ≡ Some behind
  pub none : n < 2 → behind ≡ 0
  pub few : n < 3
  pub is : cs ≡ text ++ replicate n 93

no_bracket : (c : ℕ) (cs : List ℕ) → (c == 93) ≡ false → starts_with nat_eq (c ∷ cs) section_end ≡ false
unfolding section_end
no_bracket c cs e = and_left (93 == c) _ (same_either_way 93 c ∙ e)

no_bracket_behind : (c : ℕ) (cs : List ℕ) → (c == 93) ≡ false → starts_with nat_eq (93 ∷ c ∷ cs) section_end ≡ false
unfolding section_end
no_bracket_behind c cs e = and_left (93 == c) _ (same_either_way 93 c ∙ e)

no_end_behind : (c : ℕ) (cs : List ℕ) → (c == 62) ≡ false → starts_with nat_eq (93 ∷ 93 ∷ c ∷ cs) section_end ≡ false
unfolding section_end
no_end_behind c cs e = and_left (62 == c) true (same_either_way 62 c ∙ e)

brackets_within : (n m : ℕ) (cs : List ℕ) → n < 3 → brackets_run n cs ≡ Some m → has_within section_end (replicate n 93 ++ cs) ≡ false
unfolding section_end
brackets_within zero m [] few h = refl
brackets_within (suc zero) m [] few h = refl
brackets_within (suc (suc zero)) m [] few h = refl
brackets_within (suc (suc (suc n))) m cs few h = absurd (omega arith)
brackets_within zero m (c ∷ cs) few h = by (c == 93) refl h (brackets_within zero m cs few) (brackets_within (suc zero) m cs (omega arith))
  where
    by : (b : Bool) → (c == 93) ≡ b → brackets_run (if b then 1 else 0) cs ≡ Some m → (brackets_run 0 cs ≡ Some m → has_within section_end cs ≡ false) → (brackets_run 1 cs ≡ Some m → has_within section_end (93 ∷ cs) ≡ false) → has_within section_end (c ∷ cs) ≡ false
    by true e g plain more = subst (λ d. has_within section_end (d ∷ cs) ≡ false) (sym (eqb-true c 93 e)) (more g)
    by false e g plain more = or_from _ _ (no_bracket c cs e) (plain g)
brackets_within (suc zero) m (c ∷ cs) few h = by (c == 93) refl h (brackets_within zero m cs (omega arith)) (brackets_within (suc (suc zero)) m cs (omega arith))
  where
    by : (b : Bool) → (c == 93) ≡ b → brackets_run (if b then 2 else 0) cs ≡ Some m → (brackets_run 0 cs ≡ Some m → has_within section_end cs ≡ false) → (brackets_run 2 cs ≡ Some m → has_within section_end (93 ∷ 93 ∷ cs) ≡ false) → has_within section_end (93 ∷ c ∷ cs) ≡ false
    by true e g plain more = subst (λ d. has_within section_end (93 ∷ d ∷ cs) ≡ false) (sym (eqb-true c 93 e)) (more g)
    by false e g plain more = or_from _ _ (no_bracket_behind c cs e) (or_from _ _ (no_bracket c cs e) (plain g))
brackets_within (suc (suc zero)) m (c ∷ cs) few h = last (c == 62) refl h (brackets_within zero m cs (omega arith)) (brackets_within (suc (suc zero)) m cs few)
  where
    by : (b : Bool) → (c == 93) ≡ b → (c == 62) ≡ false → brackets_run (if b then 2 else 0) cs ≡ Some m → (brackets_run 0 cs ≡ Some m → has_within section_end cs ≡ false) → (brackets_run 2 cs ≡ Some m → has_within section_end (93 ∷ 93 ∷ cs) ≡ false) → has_within section_end (93 ∷ 93 ∷ c ∷ cs) ≡ false
    by true e no_end g plain more = subst (λ d. has_within section_end (93 ∷ 93 ∷ d ∷ cs) ≡ false) (sym (eqb-true c 93 e)) (more g)
    by false e no_end g plain more = or_from _ _ (no_end_behind c cs no_end) (or_from _ _ (no_bracket_behind c cs e) (or_from _ _ (no_bracket c cs e) (plain g)))

    last : (b : Bool) → (c == 62) ≡ b → (if b then None else brackets_run (marks_after 93 2 c) cs) ≡ Some m → (brackets_run 0 cs ≡ Some m → has_within section_end cs ≡ false) → (brackets_run 2 cs ≡ Some m → has_within section_end (93 ∷ 93 ∷ cs) ≡ false) → has_within section_end (93 ∷ 93 ∷ c ∷ cs) ≡ false
    last true e g plain more = absurd cc
    last false e g plain more = by (c == 93) refl e g plain more

brackets_append : (n m : ℕ) (cs ds : List ℕ) → brackets_run n cs ≡ Some m → brackets_run n (cs ++ ds) ≡ brackets_run m ds
brackets_append n m [] ds h = ap (λ k. brackets_run k ds) (let e : n ≡ m = cc in e)
brackets_append n m (c ∷ cs) ds h = by (n == 2 && c == 62) h (brackets_append (marks_after 93 n c) m cs ds)
  where
    by : (b : Bool) → (if b then None else brackets_run (marks_after 93 n c) cs) ≡ Some m → (brackets_run (marks_after 93 n c) cs ≡ Some m → brackets_run (marks_after 93 n c) (cs ++ ds) ≡ brackets_run m ds) → (if b then None else brackets_run (marks_after 93 n c) (cs ++ ds)) ≡ brackets_run m ds
    by true g again = absurd cc
    by false g again = again g

pub section_whole : (n : ℕ) (cs : List ℕ) (h : SectionHolds n cs) → is_section h.text ≡ true
section_whole n cs h = and_from _ _ h.xml (not_from_false _ (brackets_within 0 h.behind h.text (omega arith) h.runs))

pub section_none : SectionHolds 0 []
section_none = record { text = []; xml = refl; behind = 0; runs = refl; none = λ h. refl; few = omega arith; is = refl }

pub section_bracket : (n : ℕ) (cs : List ℕ) → n < 2 → SectionHolds n cs → SectionHolds (n + 1) (cs ++ 93 ∷ [])
section_bracket n cs few h = record {
  text = h.text;
  xml = h.xml;
  behind = h.behind;
  runs = h.runs;
  none = λ g. h.none (omega arith);
  few = omega arith;
  is = ap (λ z. z ++ 93 ∷ []) h.is ∙ (append_assoc h.text (replicate n 93) (93 ∷ []) ∙ ap (λ z. h.text ++ z) (replicate_more n 93));
}

-- a bracket behind two
pub section_third : (cs : List ℕ) → SectionHolds 2 cs → SectionHolds 2 (cs ++ 93 ∷ [])
unfolding xml_ranges
section_third cs h = record {
  text = h.text ++ 93 ∷ [];
  xml = list_all-append is_xml_char h.text (93 ∷ []) ∙ and_from _ _ h.xml refl;
  behind = marks_after 93 h.behind 93;
  runs = brackets_append 0 h.behind h.text (93 ∷ []) h.runs ∙ by (h.behind == 2);
  none = λ g. absurd (omega arith);
  few = omega arith;
  is = ap (λ z. z ++ 93 ∷ []) h.is ∙ two h.text;
}
  where
    by : (b : Bool) → (if b && false then None else Some (marks_after 93 h.behind 93)) ≡ Some (marks_after 93 h.behind 93)
    by true = refl
    by false = refl

    two : (text : List ℕ) → (text ++ 93 ∷ 93 ∷ []) ++ 93 ∷ [] ≡ (text ++ 93 ∷ []) ++ 93 ∷ 93 ∷ []
    two text = simp append_assoc

run_char : (k c : ℕ) → (c == 93) ≡ false → (k == 2 && c == 62) ≡ false → brackets_run k (c ∷ []) ≡ Some 0
run_char k c other free = rw (free, other) refl

run_bracket : (k : ℕ) (cs : List ℕ) → brackets_run k (93 ∷ cs) ≡ brackets_run (marks_after 93 k 93) cs
run_bracket k cs = by (k == 2)
  where
    by : (b : Bool) → (if b && false then None else brackets_run (marks_after 93 k 93) cs) ≡ brackets_run (marks_after 93 k 93) cs
    by true = refl
    by false = refl

pub section_char : (n : ℕ) (cs : List ℕ) (c : ℕ) → SectionHolds n cs → (c == 93) ≡ false → (n == 2 && c == 62) ≡ false → is_xml_char c ≡ true → SectionHolds 0 (cs ++ c ∷ [])
unfolding xml_ranges
section_char n cs c h other free xml = record {
  text = h.text ++ (replicate n 93 ++ c ∷ []);
  xml = xml_on h.text n 93 c h.xml refl xml;
  behind = 0;
  runs = brackets_append 0 h.behind h.text (replicate n 93 ++ c ∷ []) h.runs ∙ by n h.few h.none free;
  none = λ g. refl;
  few = omega arith;
  is = ap (λ z. z ++ c ∷ []) h.is ∙ (append_assoc h.text (replicate n 93) (c ∷ []) ∙ sym (append-nil (h.text ++ (replicate n 93 ++ c ∷ []))));
}
  where
    by : (n : ℕ) → n < 3 → (n < 2 → h.behind ≡ 0) → (n == 2 && c == 62) ≡ false → brackets_run h.behind (replicate n 93 ++ c ∷ []) ≡ Some 0
    by zero few none g = ap (λ k. brackets_run k (c ∷ [])) (none (omega arith)) ∙ run_char 0 c other refl
    by (suc zero) few none g = ap (λ k. brackets_run k (93 ∷ c ∷ [])) (none (omega arith)) ∙ run_char 1 c other refl
    by (suc (suc zero)) few none g =
        run_bracket h.behind (93 ∷ c ∷ []) ∙ (run_bracket (marks_after 93 h.behind 93) (c ∷ []) ∙ run_char (marks_after 93 (marks_after 93 h.behind 93) 93) c other (and_right (marks_after 93 (marks_after 93 h.behind 93) 93 == 2) (c == 62) g))
    by (suc (suc (suc n))) few none g = absurd (omega arith)
