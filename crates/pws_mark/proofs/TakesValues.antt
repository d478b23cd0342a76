-- The reader takes the values of attributes.
use Rattle.std.proofs.Common.{◌≡◌, ℕ, ◌+◌, Bool, true, false, ◌&&◌, ◌||◌, List, [], ◌∷◌, ◌++◌, drop, length, refl, ap, subst, sym, ◌∙◌, arith, length-append, append_assoc, append-nil, Option, Some, None}
use Rattle.std.specs.Prelude.{◌==◌, is_none, option_map, encode_utf8, encode_utf8_all, if◌then◌else◌}
use Rattle.std.specs.List.{list_all, flat_map}
use Rattle.std.proofs.lemmas.Bool.{and_parts, eqb-true}
use lib.Utf8.{encode}
use Rattle.pws_tree.specs.Characters.{xml_ranges}
use Rattle.pws_mark.specs.Bindings.{piece_char, first_is, put_before, value_of}
use Rattle.pws_mark.specs.Documents.{Piece, Char, Entity, Decimal, Hexadecimal, spell_piece}
use Rattle.pws_mark.specs.Faults.{Fault, piece_faults, value_faults}
use Rattle.pws_mark.specs.Noted.{finds, if_found}
use Rattle.pws_mark.specs.Scan.{next, value_with, value_with_reference, value_bytes}
use Rattle.pws_mark.specs.Spelling.{write_piece}
use Rattle.pws_mark.specs.States.{Outer}
use Rattle.pws_mark.specs.TokenLaws.{Goes, state}
use Rattle.pws_mark.specs.Tokens.{is_piece, is_value_char}
use Rattle.pws_mark.specs.declared.errors.MarkKind.TheVariants as kind
use Rattle.pws_mark.specs.declared.modes.Mode.TheVariants as mode
use Rattle.pws_mark.specs.declared.modes.ReadName.{ReadName}
use Rattle.pws_mark.specs.declared.modes.ReadTag.{ReadTag}
use Rattle.pws_mark.specs.declared.modes.ReadValue.{ReadValue}
use Rattle.pws_mark.specs.declared.modes.Reference.TheVariants as reference
use Rattle.pws_mark.proofs.Going.{goes_on_to, goes_at, goes_until, goes_once, goes_before, goes_nowhere}
use Rattle.pws_mark.proofs.TakesPieces.{same_either_way, ending_found, reference_size}
use Rattle.pws_mark.proofs.TakesReferences.{behind_mark, is_reference, reference_goes}

-- a value with one more piece, with more pieces
abbrev pub value_next : ReadValue → Piece → ReadValue
value_next v (Char c) = value_with v c
value_next v (Entity name) = value_with_reference v (piece_char (Entity name))
value_next v (Decimal digits) = value_with_reference v (piece_char (Decimal digits))
value_next v (Hexadecimal digits) = value_with_reference v (piece_char (Hexadecimal digits))

abbrev pub value_behind : ReadValue → List Piece → ReadValue
value_behind v [] = v
value_behind v (p ∷ ps) = value_behind (value_next v p) ps

abbrev Takes : ReadTag → ReadName → ReadValue → Outer → ℕ → List ℕ → ℕ → ReadValue → List Fault → Type 0
Takes tag name v o at cs size w fs = Goes (state at (mode.Value tag name v) o) cs (state (at + size) (mode.Value tag name w) o) fs

value_reference : (tag : ReadTag) (name : ReadName) (v : ReadValue) (o : Outer) (at : ℕ) (p : Piece) (q : ℕ → Bool) → is_reference p ≡ true → is_piece q p ≡ true →
    Takes tag name v o at (38 ∷ behind_mark p) (length (spell_piece p)) (value_with_reference v (piece_char p)) (piece_faults at p)
unfolding next finds encode xml_ranges
value_reference tag name v o at p q is lawful =
    let found = if_found (is_none (piece_char p)) kind.Entity at in
    let w = mode.Value tag name (value_with_reference v (piece_char p)) in
    let size : at + length (encode_utf8_all (38 ∷ behind_mark p)) ≡ at + length (spell_piece p) = omega (arith, reference_size p is) in
    subst (λ fs. Goes (state at (mode.Value tag name v) o) (38 ∷ behind_mark p) (state (at + length (spell_piece p)) w o) fs) (ending_found (is_none (piece_char p)) kind.Entity at (at + length (spell_piece p)))
    (goes_until (state at (mode.Value tag name v) o) (38 ∷ behind_mark p) w o found (at + length (encode_utf8_all (38 ∷ behind_mark p))) (at + length (spell_piece p)) size
    (goes_before (mode.Value tag name v) (mode.ValueReference tag name v at reference.Begun) w o o o at 38 (behind_mark p) found refl refl
    (reference_goes (λ r. mode.ValueReference tag name v at r) o (λ d. mode.Value tag name (value_with_reference v d)) (λ d. o) at
    (λ r s place c e. (rw e refl, rw e refl)) (λ r place c d e. (rw e refl, rw e refl)) p q (at + 1) is lawful)))

value_piece : (tag : ReadTag) (name : ReadName) (v : ReadValue) (o : Outer) (at : ℕ) (p : Piece) → is_piece (is_value_char v.quote) p ≡ true →
    Takes tag name v o at (write_piece p) (length (spell_piece p)) (value_next v p) (piece_faults at p)
unfolding next finds
value_piece tag name v o at (Char c) lawful = goes_once (mode.Value tag name v) (mode.Value tag name (value_with v c)) o o at c [] (rw lawful refl) refl
value_piece tag name v o at (Entity n) lawful = value_reference tag name v o at (Entity n) (is_value_char v.quote) refl lawful
value_piece tag name v o at (Decimal n) lawful = value_reference tag name v o at (Decimal n) (is_value_char v.quote) refl lawful
value_piece tag name v o at (Hexadecimal n) lawful = value_reference tag name v o at (Hexadecimal n) (is_value_char v.quote) refl lawful

pub same_quote : (v : ReadValue) (p : Piece) → (value_next v p).quote ≡ v.quote
same_quote v (Char c) = refl
same_quote v (Entity n) = by (piece_char (Entity n))
  where
    by : (d : Option ℕ) → (value_with_reference v d).quote ≡ v.quote
    by None = refl
    by (Some c) = refl
same_quote v (Decimal n) = by (piece_char (Decimal n))
  where
    by : (d : Option ℕ) → (value_with_reference v d).quote ≡ v.quote
    by None = refl
    by (Some c) = refl
same_quote v (Hexadecimal n) = by (piece_char (Hexadecimal n))
  where
    by : (d : Option ℕ) → (value_with_reference v d).quote ≡ v.quote
    by None = refl
    by (Some c) = refl

pub value_goes : (tag : ReadTag) (name : ReadName) (o : Outer) (ps : List Piece) (v : ReadValue) (at : ℕ) → list_all (is_piece (is_value_char v.quote)) ps ≡ true →
    Goes (state at (mode.Value tag name v) o) (flat_map write_piece ps) (state (at + length (flat_map spell_piece ps)) (mode.Value tag name (value_behind v ps)) o) (value_faults at ps)
value_goes tag name o [] v at lawful = goes_at (state at (mode.Value tag name v) o) [] (mode.Value tag name v) o [] at (at + 0) (omega arith) (goes_nowhere (state at (mode.Value tag name v) o))
value_goes tag name o (p ∷ ps) v at lawful =
    let parts = and_parts (is_piece (is_value_char v.quote) p) (list_all (is_piece (is_value_char v.quote)) ps) lawful in
    let more : list_all (is_piece (is_value_char (value_next v p).quote)) ps ≡ true = subst (λ q. list_all (is_piece (is_value_char q)) ps ≡ true) (sym (same_quote v p)) parts.1 in
    goes_at (state at (mode.Value tag name v) o) (write_piece p ++ flat_map write_piece ps) (mode.Value tag name (value_behind (value_next v p) ps)) o (piece_faults at p ++ value_faults (at + length (spell_piece p)) ps) (at + length (spell_piece p) + length (flat_map spell_piece ps)) (at + length (spell_piece p ++ flat_map spell_piece ps))
    (omega (arith, length-append (spell_piece p) (flat_map spell_piece ps)))
    (goes_on_to _ _ _ (write_piece p) (flat_map write_piece ps) (piece_faults at p) (value_faults (at + length (spell_piece p)) ps) (value_piece tag name v o at p parts.0)
    (value_goes tag name o ps (value_next v p) (at + length (spell_piece p)) more))

-- one value behind another; nothing where a reference in it is refused
abbrev pub both_values : Option (List ℕ) → Option (List ℕ) → Option (List ℕ)
both_values (Some a) (Some b) = Some (a ++ b)
both_values _ _ = None

-- the value of pieces, where a CR stands right before or not
abbrev pub value_rest : Bool → List Piece → Option (List ℕ)
value_rest after_return ps = if after_return && first_is 10 ps then value_of (drop 1 ps) else value_of ps

-- a character in front
in_front : (t : List ℕ) (d : ℕ) (rest : Option (List ℕ)) → both_values (Some (t ++ encode_utf8 d)) rest ≡ both_values (Some t) (put_before (Some d) rest)
in_front t d None = refl
in_front t d (Some b) = ap (λ z. Some z) (append_assoc t (encode_utf8 d) b)

-- behind a CR a LF is a part of the line end
behind_return : (t : List ℕ) (ps : List Piece) → both_values (Some (t ++ 32 ∷ [])) (value_rest true ps) ≡ both_values (Some t) (if first_is 10 ps then value_of ps else put_before (Some 32) (value_of ps))
unfolding encode
behind_return t [] = in_front t 32 (Some [])
behind_return t (Char d ∷ ps) = by (10 == d) (eqb-true 10 d)
  where
    by : (b : Bool) → (b ≡ true → 10 ≡ d) → both_values (Some (t ++ 32 ∷ [])) (if b then value_of ps else value_of (Char d ∷ ps)) ≡ both_values (Some t) (if b then value_of (Char d ∷ ps) else put_before (Some 32) (value_of (Char d ∷ ps)))
    by true same = subst (λ e. both_values (Some (t ++ 32 ∷ [])) (value_of ps) ≡ both_values (Some t) (value_of (Char e ∷ ps))) (same refl) (in_front t 32 (value_of ps))
    by false same = in_front t 32 (value_of (Char d ∷ ps))
behind_return t (Entity n ∷ ps) = in_front t 32 (value_of (Entity n ∷ ps))
behind_return t (Decimal n ∷ ps) = in_front t 32 (value_of (Decimal n ∷ ps))
behind_return t (Hexadecimal n ∷ ps) = in_front t 32 (value_of (Hexadecimal n ∷ ps))

char_read : (c : ℕ) (ps : List Piece) (t : List ℕ) (after_return : Bool) → both_values (Some (t ++ value_bytes after_return c)) (value_rest (c == 13) ps) ≡ both_values (Some t) (value_rest after_return (Char c ∷ ps))
unfolding encode
char_read c ps t after_return =
    rw (same_either_way c 9, same_either_way c 10, same_either_way c 13) (by after_return (9 == c) (10 == c) (13 == c) apart)
  where
    apart : (10 == c) ≡ true → (13 == c) ≡ false
    apart same = subst (λ d. (13 == d) ≡ false) (eqb-true 10 c same) refl

    plain : (nine ten thirteen : Bool) → thirteen ≡ false → both_values (Some (t ++ (if nine || (ten || thirteen) then 32 ∷ [] else encode_utf8 c))) (value_of ps) ≡ both_values (Some t) (put_before (if nine || (ten || thirteen) then Some 32 else Some c) (value_of ps))
    plain true ten thirteen h = in_front t 32 (value_of ps)
    plain false true thirteen h = in_front t 32 (value_of ps)
    plain false false true h = in_front t 32 (value_of ps)
    plain false false false h = in_front t c (value_of ps)

    by : (r nine ten thirteen : Bool) → (ten ≡ true → thirteen ≡ false) → both_values (Some (t ++ (if r && ten then [] else if nine || (ten || thirteen) then 32 ∷ [] else encode_utf8 c))) (value_rest thirteen ps) ≡ both_values (Some t) (if r && ten then value_of ps else (if thirteen && first_is 10 ps then value_of ps else put_before (if nine || (ten || thirteen) then Some 32 else Some c) (value_of ps)))
    by true nine true true far = absurd (let h : true ≡ false = far refl in cc)
    by true nine true false far = ap (λ z. both_values (Some z) (value_of ps)) (append-nil t)
    by true true false true far = behind_return t ps
    by true false false true far = behind_return t ps
    by true nine false false far = plain nine false false refl
    by false nine true true far = absurd (let h : true ≡ false = far refl in cc)
    by false true false true far = behind_return t ps
    by false false false true far = behind_return t ps
    by false nine ten false far = plain nine ten false refl

reference_read : (quote : ℕ) (text : Option (List ℕ)) (after_return : Bool) (d : Option ℕ) (ps : List Piece) → let w = value_with_reference (record { quote = quote; text = text; after_return = after_return }) d in
    both_values w.text (value_rest w.after_return ps) ≡ both_values text (put_before d (value_of ps))
reference_read quote None after_return None ps = refl
reference_read quote (Some t) after_return None ps = refl
reference_read quote None after_return (Some c) ps = refl
reference_read quote (Some t) after_return (Some c) ps = in_front t c (value_of ps)

not_after : (r : Bool) (x y : Option (List ℕ)) → y ≡ (if r && false then x else y)
not_after true x y = refl
not_after false x y = refl

piece_read : (p : Piece) (ps : List Piece) (v : ReadValue) → both_values (value_next v p).text (value_rest (value_next v p).after_return ps) ≡ both_values v.text (value_rest v.after_return (p ∷ ps))
piece_read (Char c) ps v = by v.text
  where
    by : (text : Option (List ℕ)) → both_values (option_map (λ t. t ++ value_bytes v.after_return c) text) (value_rest (c == 13) ps) ≡ both_values text (value_rest v.after_return (Char c ∷ ps))
    by None = refl
    by (Some t) = char_read c ps t v.after_return
piece_read (Entity n) ps v = reference_read v.quote v.text v.after_return (piece_char (Entity n)) ps ∙ ap (both_values v.text) (not_after v.after_return (value_of ps) (put_before (piece_char (Entity n)) (value_of ps)))
piece_read (Decimal n) ps v = reference_read v.quote v.text v.after_return (piece_char (Decimal n)) ps ∙ ap (both_values v.text) (not_after v.after_return (value_of ps) (put_before (piece_char (Decimal n)) (value_of ps)))
piece_read (Hexadecimal n) ps v = reference_read v.quote v.text v.after_return (piece_char (Hexadecimal n)) ps ∙ ap (both_values v.text) (not_after v.after_return (value_of ps) (put_before (piece_char (Hexadecimal n)) (value_of ps)))

value_read_on : (ps : List Piece) (v : ReadValue) → (value_behind v ps).text ≡ both_values v.text (value_rest v.after_return ps)
value_read_on [] v = by v.text v.after_return
  where
    by : (text : Option (List ℕ)) (r : Bool) → text ≡ both_values text (value_rest r [])
    by None r = refl
    by (Some t) true = ap (λ z. Some z) (sym (append-nil t))
    by (Some t) false = ap (λ z. Some z) (sym (append-nil t))
value_read_on (p ∷ ps) v = value_read_on ps (value_next v p) ∙ piece_read p ps v

pub value_read : (quote : ℕ) (ps : List Piece) → (value_behind (record { quote = quote; text = Some []; after_return = false }) ps).text ≡ value_of ps
value_read quote ps = value_read_on ps (record { quote = quote; text = Some []; after_return = false }) ∙ by (value_of ps)
  where
    by : (rest : Option (List ℕ)) → both_values (Some []) rest ≡ rest
    by None = refl
    by (Some b) = refl
