-- A place where a mark of ASCII stands is between characters.
use Rattle.std.proofs.Common.{◌≡◌, ◌⊎◌, inl, inr, ℕ, ◌+◌, ◌<◌, ◌≤◌, true, List, [], ◌∷◌, ◌++◌, length, take, drop, get_or, refl, ap, sym, ◌∙◌, arith, Some, None}
use Rattle.std.specs.Prelude.{nat_eq, encode_utf8_all}
use Rattle.std.specs.List.{starts_with}
use Rattle.std.specs.Str.{all_scalars, IsUtf8}
use Rattle.std.proofs.lemmas.Bool.{and_parts, eqb-true}
use Rattle.std.proofs.lemmas.List.{take-append-drop, length-drop, length-take-le}
use Rattle.std.proofs.lemmas.Str.{encodes-append, encode_ascii, cons_from_encodes, encodes_same, IsUtf8-take, IsUtf8-drop, IsCharBoundary-before_ascii}
use Rattle.std.proofs.Math.Seq.{get_or-drop}
use Rattle.pws_mark.specs.Scan.{step, run, start, then_run}
use Rattle.pws_mark.specs.States.{State}
use Rattle.pws_mark.proofs.Going.{run_append}

-- what stands at a place
pub stands : (needle xs : List ℕ) → starts_with nat_eq xs needle ≡ true → xs ≡ needle ++ drop (length needle) xs
stands [] xs h = refl
stands (n ∷ ns) [] h = absurd cc
stands (n ∷ ns) (x ∷ xs) h =
    let parts = and_parts (nat_eq n x) (starts_with nat_eq xs ns) h in
    let same : n ≡ x = eqb-true n x parts.0 in
    ap (λ z. x ∷ z) (stands ns xs parts.1) ∙ ap (λ z. z ∷ (ns ++ drop (length ns) xs)) (sym same)

-- characters that are cut before a mark of ASCII
pub record Cut (cs : List ℕ) (at c : ℕ) (t : List ℕ) : Type 0 where
  pub xs : List ℕ
  pub ys : List ℕ
  pub are : cs ≡ xs ++ c ∷ ys
  pub front : encode_utf8_all xs ≡ take at (encode_utf8_all cs)
  pub size : length (encode_utf8_all xs) ≡ at
  pub behind : encode_utf8_all ys ≡ t

one_more : (c : ℕ) (ys t : List ℕ) → c < 128 → encode_utf8_all ys ≡ c ∷ t → (zs : List ℕ) × (ys ≡ c ∷ zs) × (encode_utf8_all zs ≡ t)
one_more c ys t low e = cons_from_encodes ys t c (e ∙ ap (λ z. z ++ t) (sym (encode_ascii c low)))

pub next_is : (c : ℕ) (ys t : List ℕ) → c < 128 → encode_utf8_all ys ≡ c ∷ t → (zs : List ℕ) × (ys ≡ c ∷ zs) × (encode_utf8_all zs ≡ t)
next_is = one_more

pub cut_at : (cs : List ℕ) (at c : ℕ) (t : List ℕ) → all_scalars cs ≡ true → c < 128 → drop at (encode_utf8_all cs) ≡ c ∷ t → Cut cs at c t
cut_at cs at c t scalars low e =
    let bytes = encode_utf8_all cs in
    let lawful : IsUtf8 bytes = (cs, (scalars, refl)) in
    let long : length (drop at bytes) ≡ length (c ∷ t) = ap length e in
    let sized = length-drop at bytes in
    let inside : at < length bytes = omega arith in
    let there : get_or (drop at bytes) 0 0 ≡ get_or bytes (at + 0) 0 = get_or-drop at bytes 0 0 in
    let byte : get_or bytes (at + 0) 0 ≡ c = sym there ∙ ap (λ z. get_or z 0 0) e in
    let same_place : at + 0 ≡ at = omega arith in
    let here : get_or bytes at 0 ≡ c = ap (λ z. get_or bytes z 0) (sym same_place) ∙ byte in
    let boundary = IsCharBoundary-before_ascii bytes at inside (omega arith) in
    let one = IsUtf8-take bytes at lawful boundary in
    let two = IsUtf8-drop bytes at lawful boundary in
    let whole : encode_utf8_all (one.0 ++ two.0) ≡ bytes = encodes-append one.0 two.0 ∙ ((λ i. one.1.1 i ++ two.1.1 i) ∙ take-append-drop at bytes) in
    let more = one_more c two.0 t low (two.1.1 ∙ e) in
    record {
      xs = one.0;
      ys = more.0;
      are = encodes_same cs (one.0 ++ two.0) (sym whole) ∙ ap (λ z. one.0 ++ z) more.1;
      front = one.1.1;
      size = ap length one.1.1 ∙ length_taken at bytes (omega arith);
      behind = more.2;
    }
  where
    length_taken : (n : ℕ) (xs : List ℕ) → n ≤ length xs → length (take n xs) ≡ n
    length_taken n xs h = length-take-le n xs h

-- of two ways to split a list, one goes further
pub record Longer (front rest xs ys : List ℕ) : Type 0 where
  pub more : List ℕ
  pub front_is : front ≡ xs ++ more
  pub ys_is : ys ≡ more ++ rest

pub record Shorter (front rest xs ys : List ℕ) : Type 0 where
  pub char : ℕ
  pub more : List ℕ
  pub xs_is : xs ≡ front ++ char ∷ more
  pub rest_is : rest ≡ char ∷ (more ++ ys)

pub two_splits : (front rest xs ys : List ℕ) → front ++ rest ≡ xs ++ ys → Longer front rest xs ys ⊎ Shorter front rest xs ys
two_splits front rest [] ys e = inl (record { more = front; front_is = refl; ys_is = sym e })
two_splits [] rest (x ∷ xs) ys e = inr (record { char = x; more = xs; xs_is = refl; rest_is = e })
two_splits (f ∷ front) rest (x ∷ xs) ys e =
    let same : f ≡ x = cc in
    let others : front ++ rest ≡ xs ++ ys = cc in
    by same (two_splits front rest xs ys others)
  where
    by : f ≡ x → Longer front rest xs ys ⊎ Shorter front rest xs ys → Longer (f ∷ front) rest (x ∷ xs) ys ⊎ Shorter (f ∷ front) rest (x ∷ xs) ys
    by same (inl l) = inl (record { more = l.more; front_is = (λ i. same i ∷ l.front_is i); ys_is = l.ys_is })
    by same (inr s) = inr (record { char = s.char; more = s.more; xs_is = (λ i. sym same i ∷ s.xs_is i); rest_is = s.rest_is })

-- the reader goes no further than here
abbrev pub IsStuck : State → List ℕ → Type 0
IsStuck s rest = (c : ℕ) (cs : List ℕ) → rest ≡ c ∷ cs → step s c ≡ None

-- a run that is part of another
pub record GoesOn (front rest xs ys : List ℕ) (u s : State) : Type 0 where
  pub more : List ℕ
  pub front_is : front ≡ xs ++ more
  pub ys_is : ys ≡ more ++ rest
  pub runs : run u more ≡ Some s

pub goes_further : (front rest xs ys : List ℕ) (s u : State) → run start front ≡ Some s → IsStuck s rest → run start xs ≡ Some u → front ++ rest ≡ xs ++ ys → GoesOn front rest xs ys u s
unfolding run
goes_further front rest xs ys s u runs stuck there e = by (two_splits front rest xs ys e)
  where
    by : Longer front rest xs ys ⊎ Shorter front rest xs ys → GoesOn front rest xs ys u s
    by (inl l) = record {
      more = l.more;
      front_is = l.front_is;
      ys_is = l.ys_is;
      runs = sym (sym runs ∙ (ap (run start) l.front_is ∙ (run_append start xs l.more ∙ ap (λ z. then_run z (λ t. run t l.more)) there)));
    }
    by (inr m) =
        let none : step s m.char ≡ None = stuck m.char (m.more ++ ys) m.rest_is in
        let whole : run start xs ≡ then_run (step s m.char) (λ t. run t m.more) = ap (run start) m.xs_is ∙ (run_append start front (m.char ∷ m.more) ∙ ap (λ z. then_run z (λ t. run t (m.char ∷ m.more))) runs) in
        absurd (let bad : Some u ≡ then_run None (λ t. run t m.more) = sym there ∙ (whole ∙ ap (λ z. then_run z (λ t. run t m.more)) none) in cc)
