-- From what std says of a reader's or a writer's known bytes to what a source or a sink tells.
use Rattle.std.proofs.Common.{◌≡◌, ℕ, ◌≤◌, List, ◌++◌, length, take, drop, Option, Some, None, refl, sym, ◌∙◌, ap, arith, length-append}
use Rattle.std.proofs.lemmas.List.{take_at, drop_at, length-take-le}
use Rattle.std.specs.Io.KnownBytes.{Keeps, Appends, Consumes, IsAtEnd}
use Rattle.pws_base.specs.Streams.{TakesNext, Holds}
use Rattle.pws_base.specs.declared.streams.Got.TheVariants as got
use Rattle.pws_base.specs.declared.streams.Took.TheVariants as took

pub Keeps-same : (known : Option (List ℕ)) → Keeps known known
Keeps-same None = tt
Keeps-same (Some xs) = refl

-- what was kept twice was kept
pub kept_again : (before mid now : Option (List ℕ)) → Keeps before mid → Keeps mid now → Keeps before now
kept_again None mid now k l = tt
kept_again (Some xs) None now k l = absurd k
kept_again (Some xs) (Some ys) None k l = absurd l
kept_again (Some xs) (Some ys) (Some zs) k l = l ∙ k

pub read_next : (before mid now : Option (List ℕ)) (buffer : List ℕ) (count : ℕ) → Keeps before mid → Consumes mid now (take count buffer) → count ≤ length buffer → TakesNext before now buffer (got.Read count)
read_next None mid now buffer count k c h = tt
read_next (Some xs) None now buffer count k c h = absurd k
read_next (Some xs) (Some ys) None buffer count k c h = absurd c
read_next (Some xs) (Some ys) (Some zs) buffer count k c h =
    let size : length (take count buffer) ≡ count = length-take-le count buffer h in
    let whole : xs ≡ take count buffer ++ zs = sym k ∙ c in (
      omega (arith, ap length whole, length-append (take count buffer) zs, size),
      sym (ap (take count) whole ∙ take_at (take count buffer) zs count size),
      ap Some (sym (ap (drop count) whole ∙ drop_at (take count buffer) zs count size)),
    )

pub read_end : (before mid now : Option (List ℕ)) (buffer : List ℕ) → Keeps before mid → Consumes mid now (take 0 buffer) → IsAtEnd now → TakesNext before now buffer got.End
read_end None mid now buffer k c e = tt
read_end (Some xs) None now buffer k c e = absurd k
read_end (Some xs) (Some ys) None buffer k c e = absurd c
read_end (Some xs) (Some ys) (Some zs) buffer k c e = (sym k ∙ (c ∙ e), ap Some (sym (sym k ∙ c)))

pub read_failed : (before now : Option (List ℕ)) (buffer : List ℕ) → Keeps before now → TakesNext before now buffer got.Failed
read_failed None now buffer k = tt
read_failed (Some xs) None buffer k = absurd k
read_failed (Some xs) (Some ys) buffer k = ap Some k

pub write_more : (before mid now : Option (List ℕ)) (piece : List ℕ) (count : ℕ) → Keeps before mid → Appends mid now (take count piece) → Holds before now piece (took.Wrote count)
write_more None mid now piece count k a = tt
write_more (Some xs) None now piece count k a = absurd k
write_more (Some xs) (Some ys) None piece count k a = absurd a
write_more (Some xs) (Some ys) (Some zs) piece count k a = ap Some (a ∙ ap (λ held. held ++ take count piece) k)

pub write_failed : (before now : Option (List ℕ)) (piece : List ℕ) → Keeps before now → Holds before now piece took.Failed
write_failed None now piece k = tt
write_failed (Some xs) None piece k = absurd k
write_failed (Some xs) (Some ys) piece k = ap Some k
