-- The least of what is refused, as the reader keeps it. It is here for the proofs alone: no contract of another crate
-- names it.
use Rattle.std.specs.Prelude.{ℕ, Bool, ◌&&◌, ◌||◌, ◌==◌, nat_lt, if◌then◌else◌, List, fold, Option, Some, None}
use Rattle.pws_mark.specs.Causes.{rank}
use Rattle.pws_mark.specs.declared.errors.MarkKind.{MarkKind}
use Rattle.pws_mark.specs.declared.errors.MarkError.{MarkError}

abbrev pub error_of : MarkKind × ℕ → MarkError
error_of f = record { kind = f.0; at = f.1 }

abbrev pub comes_before : MarkKind × ℕ → MarkError → Bool
comes_before f e = nat_lt f.1 e.at || (f.1 == e.at && nat_lt (rank f.0) (rank e.kind))

abbrev pub lower : Option MarkError → MarkKind × ℕ → Option MarkError
lower None f = Some (error_of f)
lower (Some e) f = if comes_before f e then Some (error_of f) else Some e

unfoldable pub lowered : Option MarkError → List (MarkKind × ℕ) → Option MarkError
lowered least finds = fold lower least finds
