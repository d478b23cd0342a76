-- Reading refuses a text in one way.
use Rattle.std.proofs.Common.{◌≡◌, ◌⊎◌, inl, inr, ℕ, zero, suc, ◌<◌, ◌≤◌, List, length, refl, ap, sym, ◌∙◌, arith}
use Rattle.std.specs.Str.{IsUtf8, IsValidUpTo}
use Rattle.pws_mark.specs.Causes.{IsLeastCause, rank}
use Rattle.pws_mark.specs.Reading.{Refuses}
use Rattle.pws_mark.specs.TreeOf.{OneRefusal}
use Rattle.pws_mark.specs.declared.errors.MarkError.{MarkError}
use Rattle.pws_mark.specs.declared.errors.MarkKind.{MarkKind}
use Rattle.pws_mark.specs.declared.errors.MarkKind.TheVariants as kind
use Rattle.pws_mark.proofs.TreeOf.{never_invalid}

-- the kind of a rank
of_rank : ℕ → MarkKind
of_rank zero = kind.Size
of_rank (suc zero) = kind.Utf8
of_rank (suc (suc zero)) = kind.Doctype
of_rank (suc (suc (suc zero))) = kind.Instruction
of_rank (suc (suc (suc (suc zero)))) = kind.Depth
of_rank (suc (suc (suc (suc (suc zero))))) = kind.Prefix
of_rank (suc (suc (suc (suc (suc (suc zero)))))) = kind.Twice
of_rank (suc (suc (suc (suc (suc (suc (suc zero))))))) = kind.Entity
of_rank (suc (suc (suc (suc (suc (suc (suc (suc n)))))))) = kind.Syntax

ranked : (k : MarkKind) → of_rank (rank k) ≡ k
unfolding of_rank
ranked kind.Size = refl
ranked kind.Utf8 = refl
ranked kind.Doctype = refl
ranked kind.Instruction = refl
ranked kind.Depth = refl
ranked kind.Prefix = refl
ranked kind.Twice = refl
ranked kind.Entity = refl
ranked kind.Syntax = refl

same_kind : (k l : MarkKind) → rank k ≡ rank l → k ≡ l
same_kind k l h = sym (ranked k) ∙ (ap of_rank h ∙ ranked l)

same_error : (d e : MarkError) → d.kind ≡ e.kind → d.at ≡ e.at → d ≡ e
same_error d e p q = λ i. record { kind = p i; at = q i }

-- ---- the three sorts of refusals

record IsLong (bytes : List ℕ) (e : MarkError) : Type 0 where
  pub kind_is : e.kind ≡ kind.Size
  pub long : 32768 < length bytes
  pub at_is : e.at ≡ 32768

record IsInvalid (bytes : List ℕ) (e : MarkError) : Type 0 where
  pub kind_is : e.kind ≡ kind.Utf8
  pub short : length bytes ≤ 32768
  pub valid : IsValidUpTo bytes e.at

record IsCaused (bytes : List ℕ) (e : MarkError) : Type 0 where
  pub short : length bytes ≤ 32768
  pub utf8 : IsUtf8 bytes
  pub least : IsLeastCause bytes e

data Sort (bytes : List ℕ) (e : MarkError) : Type 0 where
  Long : IsLong bytes e → Sort bytes e
  Invalid : IsInvalid bytes e → Sort bytes e
  Caused : IsCaused bytes e → Sort bytes e

caused : (bytes : List ℕ) (e : MarkError) → (length bytes ≤ 32768) × IsUtf8 bytes × IsLeastCause bytes e → Sort bytes e
caused bytes e r = Caused (record { short = r.0; utf8 = r.1; least = r.2 })

sort_of : (bytes : List ℕ) (e : MarkError) (k : MarkKind) → e.kind ≡ k → Refuses bytes e k → Sort bytes e
sort_of bytes e kind.Size h r = Long (record { kind_is = h; long = r.0; at_is = r.1 })
sort_of bytes e kind.Utf8 h r = Invalid (record { kind_is = h; short = r.0; valid = r.1 })
sort_of bytes e kind.Doctype h r = caused bytes e r
sort_of bytes e kind.Instruction h r = caused bytes e r
sort_of bytes e kind.Depth h r = caused bytes e r
sort_of bytes e kind.Prefix h r = caused bytes e r
sort_of bytes e kind.Twice h r = caused bytes e r
sort_of bytes e kind.Entity h r = caused bytes e r
sort_of bytes e kind.Syntax h r = caused bytes e r

-- ---- two of one sort are the same

not_beyond : (bytes : List ℕ) (m n : ℕ) → IsValidUpTo bytes m → IsValidUpTo bytes n → m < n → ⊥
not_beyond bytes m n v w h = v.longest n h w.front

same_valid : (bytes : List ℕ) (m n : ℕ) → IsValidUpTo bytes m → IsValidUpTo bytes n → m ≡ n
same_valid bytes m n v w = by (not_beyond bytes m n v w) (not_beyond bytes n m w v)
  where
    by : (m < n → ⊥) → (n < m → ⊥) → m ≡ n
    by f g = omega (arith, f, g)

-- of two causes each comes first
both_first : (d e : MarkError) → (d.at < e.at) ⊎ ((d.at ≡ e.at) × (rank d.kind ≤ rank e.kind)) → (e.at < d.at) ⊎ ((e.at ≡ d.at) × (rank e.kind ≤ rank d.kind)) → (d.at ≡ e.at) × (rank d.kind ≡ rank e.kind)
both_first d e (inl h) (inl g) = absurd (omega (arith, h, g))
both_first d e (inl h) (inr g) = absurd (omega (arith, h, g.0))
both_first d e (inr h) (inl g) = absurd (omega (arith, h.0, g))
both_first d e (inr h) (inr g) = (h.0, omega (arith, h.1, g.1))

same_least : (bytes : List ℕ) (d e : MarkError) → IsLeastCause bytes d → IsLeastCause bytes e → d ≡ e
same_least bytes d e l m =
    let b = both_first d e (l.least e.kind e.at m.cause) (m.least d.kind d.at l.cause) in
    same_error d e (same_kind d.kind e.kind b.1) b.0

same_sort : (bytes : List ℕ) (d e : MarkError) → Sort bytes d → Sort bytes e → d ≡ e
same_sort bytes d e (Long l) (Long m) = same_error d e (l.kind_is ∙ sym m.kind_is) (l.at_is ∙ sym m.at_is)
same_sort bytes d e (Long l) (Invalid m) = absurd (omega (arith, l.long, m.short))
same_sort bytes d e (Long l) (Caused m) = absurd (omega (arith, l.long, m.short))
same_sort bytes d e (Invalid l) (Long m) = absurd (omega (arith, l.short, m.long))
same_sort bytes d e (Invalid l) (Invalid m) = same_error d e (l.kind_is ∙ sym m.kind_is) (same_valid bytes d.at e.at l.valid m.valid)
same_sort bytes d e (Invalid l) (Caused m) = absurd (never_invalid bytes d.at m.utf8 l.valid)
same_sort bytes d e (Caused l) (Long m) = absurd (omega (arith, l.short, m.long))
same_sort bytes d e (Caused l) (Invalid m) = absurd (never_invalid bytes e.at l.utf8 m.valid)
same_sort bytes d e (Caused l) (Caused m) = same_least bytes d e l.least m.least

pub one_refusal : OneRefusal
one_refusal bytes d e r s = same_sort bytes d e (sort_of bytes d d.kind refl r) (sort_of bytes e e.kind refl s)
