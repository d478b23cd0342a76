-- Rows read one after the other.
use Rattle.std.proofs.Common.{◌≡◌, ℕ, zero, suc, ◌+◌, ◌-◌, ◌<◌, List, [], ◌∷◌, ◌++◌, Result, Ok, Err, refl, sym, ◌∙◌, ap, arith, append_assoc}
use Rattle.std.proofs.lemmas.List.{append-nil}
use Rattle.pws_base.specs.declared.fields.FieldFault.{FieldFault}
use Rattle.pws_base.specs.declared.fields.FieldError.{FieldError}
use Rattle.pws_base.specs.declared.fields.FieldError.TheVariants as field_error
use Rattle.pws_base.specs.Fields.{Unread, ◌>>=◌, IsRefusal}
use Rattle.pws_msg.specs.RowFields.{rows_at}

-- these rows, and then those that are read
abbrev pub prepended : {A : Type 0} → List A → Result (List A × Unread) FieldFault → Result (List A × Unread) FieldFault
prepended done (Ok x) = Ok (done ++ x.0, x.1)
prepended done (Err e) = Err e

pub prepended-nil : {A : Type 0} (r : Result (List A × Unread) FieldFault) → r ≡ prepended [] r
prepended-nil (Ok x) = refl
prepended-nil (Err e) = refl

-- a row more in front of those that are read
pub row_more : {A : Type 0} (done : List A) (x : A) (r : Result (List A × Unread) FieldFault) → prepended done (r >>= (λ more. Ok (x ∷ more.0, more.1))) ≡ prepended (done ++ x ∷ []) r
row_more done x (Ok y) = rw append_assoc refl
row_more done x (Err e) = refl

-- the first of the rows is read
pub rows_first : {A : Type 0} (row_at : Unread → Result (A × Unread) FieldFault) (n m : ℕ) (done : List A) (u v : Unread) (x : A) → n ≡ suc m → row_at u ≡ Ok (x, v) → prepended done (rows_at row_at n u) ≡ prepended (done ++ x ∷ []) (rows_at row_at m v)
unfolding rows_at
rows_first row_at n m done u v x e h = rw (e, h) (row_more done x (rows_at row_at m v))

-- it is refused
pub rows_refused : {A : Type 0} (row_at : Unread → Result (A × Unread) FieldFault) (n m : ℕ) (done : List A) (u : Unread) (e : FieldFault) → n ≡ suc m → row_at u ≡ Err e → prepended done (rows_at row_at n u) ≡ Err e
unfolding rows_at
rows_refused row_at n m done u e s h = rw (s, h) refl

-- none is left
pub rows_none : {A : Type 0} (row_at : Unread → Result (A × Unread) FieldFault) (n : ℕ) (done : List A) (u : Unread) → n ≡ 0 → prepended done (rows_at row_at n u) ≡ Ok (done, u)
unfolding rows_at
rows_none row_at n done u e = rw (e, append-nil) refl

-- what refuses the first of the rows refuses them all
pub rows_refusal : {A : Type 0} (row_at : Unread → Result (A × Unread) FieldFault) (n m : ℕ) (done : List A) (u : Unread) (whole : Result (List A × Unread) FieldFault) (e : FieldError) → whole ≡ prepended done (rows_at row_at n u) → n ≡ suc m → IsRefusal e (row_at u) → IsRefusal e whole
rows_refusal row_at n m done u whole field_error.Memory w s h = tt
rows_refusal row_at n m done u whole (field_error.Fault e) w s h = w ∙ rows_refused row_at n m done u e s h
