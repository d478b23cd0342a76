-- Slots as a finite map, and as the function that a core has.
use Rattle.std.proofs.Common.{◌≡◌, ℕ, Bool, true, false, cond, Option, Some, None, refl, sym, ◌∙◌, ap, nat_lt, ◌==◌}
use mathlib.Core.Path.{fun_ext}
use Rattle.std.specs.Option.{option_map}
use Rattle.std.specs.Ordering.{nat_cmp, eq_by_cmp}
use Rattle.std.specs.FinMap.{FinMap, get, insert, retain_keys, empty, get-insert, get-retain_keys, get-empty}
use Rattle.std.proofs.lemmas.Bool.{eq-eqb, ne_eqb}
use Rattle.std.proofs.lemmas.Cmp.{nat_cmp_total}
use Rattle.std.proofs.lemmas.Map.Lookups.{exact_unsigned}
use Rattle.std.proofs.lemmas.Map.Views.{tells_apart}
use Rattle.std.specs.Cmp.{tied_itself}
use Rattle.std.specs.Ordering.{is_eq}
use Rattle.pws_safety.specs.Voters as safe
use Rattle.pws_protocol.specs.States.{Slot}
use Rattle.pws_refine.specs.Cores.{slot_of}

abbrev Slots : Type 0
Slots = FinMap nat_cmp Slot

abbrev pub seen_by : Slots → ℕ → Option safe.Slot
seen_by slots p = option_map slot_of (get slots p)

same_by : (q p : ℕ) (b : Bool) → eq_by_cmp nat_cmp q p ≡ b → b ≡ (q == p)
same_by q p true e = sym (eq-eqb q p (tells_apart exact_unsigned q p e))
same_by q p false e = sym (ne_eqb q p (λ s. let y : eq_by_cmp nat_cmp q p ≡ true = ap (λ x. eq_by_cmp nat_cmp q x) (sym s) ∙ ap is_eq (tied_itself nat_cmp_total q) in absurd (cc)))

put_by : (slots : Slots) (q : ℕ) (t : Slot) (b : Bool) → option_map slot_of (cond b (Some t) (get slots q)) ≡ cond b (Some (slot_of t)) (seen_by slots q)
put_by slots q t true = refl
put_by slots q t false = refl

pub slot_put : (slots : Slots) (p : ℕ) (t : Slot) → seen_by (insert slots p t) ≡ safe.with_slot (seen_by slots) p (slot_of t)
slot_put slots p t = fun_ext (λ q.
    ap (option_map slot_of) (get-insert nat_cmp_total slots p t q)
    ∙ put_by slots q t (eq_by_cmp nat_cmp q p)
    ∙ ap (λ b. cond b (Some (slot_of t)) (seen_by slots q)) (same_by q p (eq_by_cmp nat_cmp q p) refl))

above_by : (o : Option Slot) (b : Bool) → option_map slot_of (cond b o None) ≡ cond b (option_map slot_of o) None
above_by o true = refl
above_by o false = refl

pub slots_above : (slots : Slots) (low : ℕ) → seen_by (retain_keys slots (nat_lt low)) ≡ safe.above low (seen_by slots)
slots_above slots low = fun_ext (λ q.
    ap (option_map slot_of) (get-retain_keys slots (nat_lt low) q (λ x e. ap (nat_lt low) (sym (exact_unsigned q x e))))
    ∙ above_by (get slots q) (nat_lt low q))

abbrev no_slot : ℕ → Option safe.Slot
no_slot q = None

pub slots_none : seen_by empty ≡ no_slot
slots_none = fun_ext (λ q. ap (option_map slot_of) (get-empty nat_cmp q))
