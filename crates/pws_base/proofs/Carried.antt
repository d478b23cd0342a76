-- How far reading to the end and writing to the end have come.
use Rattle.std.proofs.Common.{◌≡◌, ℕ, ◌+◌, ◌<◌, ◌≤◌, List, [], ◌++◌, length, take, drop, Option, Some, None, Ok, Err, refl, sym, ◌∙◌, ap, subst, append_assoc, arith, length-append, append-nil, length-drop, ◌-◌}
use Rattle.std.proofs.lemmas.List.{take-append-drop}
use Rattle.std.proofs.Math.Seq.{take-add, take-length}
use Rattle.pws_base.specs.Streams.{TakesNext, Holds}
use Rattle.pws_base.specs.Whole.{ReadsAll, Grows}
use Rattle.pws_base.specs.declared.streams.Got.TheVariants as got
use Rattle.pws_base.specs.declared.streams.Took.TheVariants as took
use Rattle.pws_base.specs.declared.whole.ReadError.TheVariants as read_error

-- what was left is what was read and what is left now
abbrev pub Carries : Option (List ℕ) → Option (List ℕ) → List ℕ → Type 0
Carries None now read = Unit {0}
Carries (Some left) now read = (rest : List ℕ) × (now ≡ Some rest) × (left ≡ read ++ rest)

-- nothing was read yet
pub Carries-nothing : (before : Option (List ℕ)) → Carries before before []
Carries-nothing None = tt
Carries-nothing (Some left) = (left, refl, refl)

-- one more piece was read
pub Carries-more : (before mid now : Option (List ℕ)) (read buffer : List ℕ) (count : ℕ) → Carries before mid read → TakesNext mid now buffer (got.Read count) → Carries before now (read ++ take count buffer)
Carries-more None mid now read buffer count c t = tt
Carries-more (Some left) mid now read buffer count c t =
    let next = subst (λ m. TakesNext m now buffer (got.Read count)) c.1 t in
    (drop count c.0, next.2, c.2 ∙ (ap (λ xs. read ++ xs) (sym (take-append-drop count c.0)) ∙ (sym (append_assoc read (take count c.0) (drop count c.0)) ∙ ap (λ xs. (read ++ xs) ++ drop count c.0) (sym next.1))))

-- all was read
pub Carries-all : (before mid now : Option (List ℕ)) (read buffer : List ℕ) (limit : ℕ) → length read ≤ limit → Carries before mid read → TakesNext mid now buffer got.End → ReadsAll limit before (Ok read)
Carries-all None mid now read buffer limit h c t = tt
Carries-all (Some left) mid now read buffer limit h c t =
    let next = subst (λ m. TakesNext m now buffer got.End) c.1 t in
    let whole : left ≡ read = c.2 ∙ (ap (λ xs. read ++ xs) next.0 ∙ append-nil read) in
    (subst (λ xs. length xs ≤ limit) (sym whole) h, sym whole)

-- more is left than was to be read
pub Carries-long : (before mid now : Option (List ℕ)) (read buffer : List ℕ) (count limit : ℕ) → limit < length read + count → Carries before mid read → TakesNext mid now buffer (got.Read count) → ReadsAll limit before (Err read_error.Limit)
Carries-long None mid now read buffer count limit h c t = tt
Carries-long (Some left) mid now read buffer count limit h c t =
    let next = subst (λ m. TakesNext m now buffer (got.Read count)) c.1 t in
    let whole = ap length c.2 in
    omega (arith, whole, next.0, length-append read c.0)

-- one more piece was written
pub Grows-more : (before mid now : Option (List ℕ)) (text : List ℕ) (at count : ℕ) → Grows before mid (take at text) → Holds mid now (drop at text) (took.Wrote count) → Grows before now (take (at + count) text)
Grows-more None mid now text at count g t = tt
Grows-more (Some held) mid now text at count g t =
    let next = subst (λ m. Holds m now (drop at text) (took.Wrote count)) g t in
    next ∙ ap Some (append_assoc held (take at text) (take count (drop at text)) ∙ ap (λ xs. held ++ xs) (sym (take-add at count text)))

-- nothing more was written
pub Grows-same : (before mid now : Option (List ℕ)) (text piece : List ℕ) → Grows before mid text → Holds mid now piece took.Failed → Grows before now text
Grows-same None mid now text piece g t = tt
Grows-same (Some held) mid now text piece g t = subst (λ m. Holds m now piece took.Failed) g t

-- the piece of a text from a place on is what is left there
pub from_place : (at : ℕ) (text : List ℕ) → take (length text - at) (drop at text) ≡ drop at text
from_place at text = rw (← length-drop at text) (take-length (drop at text))
