-- What is opened is said, and what is said in a move that isn't refused is spoken.
use Rattle.std.proofs.Common.{◌≡◌, ◌⊎◌, inl, inr, ℕ, zero, suc, ◌<◌, Bool, true, false, not, ◌||◌, cond, List, [], ◌∷◌, length, map, filter, Contains, slice_index_or, Option, Some, None, Result, Ok, Err, refl, sym, ◌∙◌, ap, subst, arith}
use Rattle.std.specs.List.{list_any}
use Rattle.std.specs.FinMap.{get}
use Rattle.pws_base.specs.declared.shapes.ReplicaId.{ReplicaId}
use Rattle.pws_base.specs.Replicas.{is_same}
use Rattle.pws_auth.specs.Keys.{Keys}
use Rattle.pws_msg.specs.declared.errors.PacketError.{PacketError}
use Rattle.pws_msg.specs.Packets.{VoucherFields, PacketFields}
use Rattle.pws_msg.specs.PacketFields.{packet_of}
use Rattle.pws_protocol.specs.Hearing.{Vouched}
use Rattle.pws_runs.specs.declared.errors.OpenError.{OpenError}
use Rattle.pws_runs.specs.declared.errors.OpenError.TheVariants as open_error
use Rattle.pws_runs.specs.declared.errors.StepError.{StepError}
use Rattle.pws_runs.specs.declared.errors.StepError.TheVariants as step_error
use Rattle.pws_runs.specs.Saying.{outer, verifies, statements_of, said_by, says}
use Rattle.pws_runs.specs.Opening.{Checked, is_known, has_its_body, checked, open_read, opens}
use Rattle.pws_runs.specs.ReplicaStates.{ReplicaState, Input}
use Rattle.pws_runs.specs.ReplicaStates as input
use Rattle.pws_runs.specs.Worlds.{Setting, WorldState}
use Rattle.pws_runs.specs.Speaking.{speaks, is_forged_text}
use Rattle.pws_runs.specs.Moves.{Bytes, refusal_by, refusal_of}

-- ---- elements

abbrev Has : {A : Type 0} → List A → A → Type 0
Has [] x = ⊥
Has (y ∷ ys) x = (y ≡ x) ⊎ Has ys x

to_has : {A : Type 0} (xs : List A) (x : A) (k : ℕ) → k < length xs → slice_index_or xs k x ≡ x → Has xs x
to_has [] x k b e = absurd (omega (arith, b))
to_has (y ∷ ys) x zero b e = inl e
to_has (y ∷ ys) x (suc k) b e = inr (to_has ys x k (omega (arith, b)) e)

from_has : {A : Type 0} (xs : List A) (x : A) → Has xs x → Contains xs x
from_has [] x h = absurd h
from_has (y ∷ ys) x (inl e) = (0, omega arith, e)
from_has (y ∷ ys) x (inr h) = let t = from_has ys x h in (suc (t.0), let b = t.1 in omega (arith, b), t.2)

-- ---- filters

kept_if : {A : Type 0} (b : Bool) (p : A → Bool) (y : A) (ys : List A) (x : A) → Has ys x → Has (cond b (y ∷ ys) ys) x
kept_if true p y ys x h = inr h
kept_if false p y ys x h = h

kept : {A : Type 0} (p : A → Bool) (xs : List A) (x : A) → Has xs x → p x ≡ true → Has (filter p xs) x
kept p [] x h t = h
kept p (y ∷ ys) x (inl e) t = let q : p y ≡ true = ap p e ∙ t in rw q (inl e)
kept p (y ∷ ys) x (inr h) t = kept_if (p y) p y (filter p ys) x (kept p ys x h t)

-- ---- opening

error_ok : {A : Type 0} (e : OpenError) (c : Checked) → ◌≡◌ {A = Result Checked OpenError} (Err e) (Ok c) → A
error_ok e c h = absurd (cc)

ok_is : (x c : Checked) → ◌≡◌ {A = Result Checked OpenError} (Ok x) (Ok c) → x ≡ c
ok_is x c h = cc

passes : (a b d f : Bool) (x c : Checked) → cond (not a) (Err open_error.Unknown) (cond b (Err open_error.Own) (cond (not d) (Err open_error.Tag) (cond (not f) (Err open_error.Body) (Ok x)))) ≡ Ok c → (d ≡ true) × (x ≡ c)
passes false b d f x c h = error_ok open_error.Unknown c h
passes true true d f x c h = error_ok open_error.Own c h
passes true false false f x c h = error_ok open_error.Tag c h
passes true false true false x c h = error_ok open_error.Body c h
passes true false true true x c h = (refl, ok_is x c h)

vouched : (keys : Keys) (me : ReplicaId) (vs : List VoucherFields) (v : Vouched) → Has (map (λ (x : VoucherFields). record { voucher = x; is_verified = verifies keys me x }) vs) v → Has vs v.voucher × (v.is_verified ≡ verifies keys me v.voucher)
vouched keys me [] v h = absurd h
vouched keys me (x ∷ vs) v (inl e) = (inl (ap (λ (y : Vouched). y.voucher) e), sym (ap (λ (y : Vouched). y.is_verified) e) ∙ ap (λ (y : Vouched). verifies keys me y.voucher) e)
vouched keys me (x ∷ vs) v (inr h) = let t = vouched keys me vs v h in (inr t.0, t.1)

abbrev Told : Keys → ReplicaId → Result PacketFields PacketError → Checked → Type 0
Told keys me o c = Has (said_by keys me o) (outer c.packet) × ((v : Vouched) → Has c.vouchers v → v.is_verified ≡ true → Has (said_by keys me o) v.voucher)

told_by : (keys : Keys) (me : ReplicaId) (p : PacketFields) → verifies keys me (outer p) ≡ true → Told keys me (Ok p) (checked keys me p)
told_by keys me p t = (
  kept (verifies keys me) (statements_of p) (outer p) (inl refl) t,
  λ v h is. let x = vouched keys me p.vouchers v h in kept (verifies keys me) (statements_of p) v.voucher (inr x.0) (sym x.1 ∙ is),
)

told : (keys : Keys) (me : ReplicaId) (o : Result PacketFields PacketError) (c : Checked) → open_read keys me o ≡ Ok c → Told keys me o c
unfolding open_read
told keys me (Err e) c h = error_ok (open_error.Packet e) c h
told keys me (Ok p) c h =
    let t = passes (is_known keys me p) (is_same p.sender me) (verifies keys me (outer p)) (has_its_body p.content p.body) (checked keys me p) c h in
    subst (λ (x : Checked). Told keys me (Ok p) x) t.1 (told_by keys me p t.0)

pub opened_said : (keys : Keys) (me : ReplicaId) (bytes : List ℕ) (c : Checked) → opens keys me bytes ≡ Ok c →
    Contains (says keys me bytes) (outer c.packet) × ((v : Vouched) → Contains c.vouchers v → v.is_verified ≡ true → Contains (says keys me bytes) v.voucher)
unfolding opens says
opened_said keys me bytes c h =
    let t = told keys me (packet_of bytes) c h in
    (from_has (said_by keys me (packet_of bytes)) (outer c.packet) t.0, λ v k is. from_has (said_by keys me (packet_of bytes)) v.voucher (t.1 v (to_has c.vouchers v k.0 k.1 k.2) is))

-- ---- moves

some_none : {A : Type 0} (x : StepError) → ◌≡◌ {A = Option StepError} (Some x) None → A
some_none x h = absurd (cc)

not_forged : (b : Bool) (o : Option StepError) → cond b (Some step_error.Forged) o ≡ None → b ≡ false
not_forged true o h = some_none step_error.Forged h
not_forged false o h = refl

no_true : {A : Type 0} → ◌≡◌ {A = Bool} true false → A
no_true h = absurd (cc)

none_here : {A : Type 0} (b : Bool) (p : A → Bool) (y x : A) → p y ≡ b → y ≡ x → (more : Bool) → not b || more ≡ false → p x ≡ true
none_here true p y x e same more h = sym (ap p same) ∙ e
none_here false p y x e same more h = no_true h

none_later : (b more : Bool) → b || more ≡ false → more ≡ false
none_later true more h = no_true h
none_later false more h = h

none_of : {A : Type 0} (p : A → Bool) (xs : List A) (x : A) → list_any (λ y. not (p y)) xs ≡ false → Has xs x → p x ≡ true
none_of p [] x h c = absurd c
none_of p (y ∷ ys) x h (inl e) = none_here (p y) p y x refl e (list_any (λ z. not (p z)) ys) h
none_of p (y ∷ ys) x h (inr c) = none_of p ys x (none_later (not (p y)) (list_any (λ z. not (p z)) ys) h) c

spoken_by : (e : Setting) (w : WorldState) (to : ReplicaId) (bytes : List ℕ) (s : Option ReplicaState) → refusal_by e w to s (Some (input.Bytes bytes)) ≡ None → is_forged_text e w to bytes ≡ false
spoken_by e w to bytes None h = some_none step_error.NoReplica h
spoken_by e w to bytes (Some s) h = not_forged (is_forged_text e w to bytes) _ h

pub given_spoken : (e : Setting) (w : WorldState) (to : ReplicaId) (bytes : List ℕ) → refusal_of e w (Bytes to bytes) ≡ None →
    (v : VoucherFields) → Contains (says e.keys to bytes) v → speaks e w to.group v.sender v.content ≡ true
unfolding refusal_of is_forged_text
given_spoken e w to bytes h v c = none_of (λ (x : VoucherFields). speaks e w to.group x.sender x.content) (says e.keys to bytes) v (spoken_by e w to bytes (get w.replicas to) h) (to_has (says e.keys to bytes) v c.0 c.1 c.2)
