-- That the groups of a layout, tried one after the other, are all that there are.
use Rattle.std.proofs.Common.{◌≡◌, ◌∙◌, ◌+◌, ◌<◌, ◌≤◌, ◌&&◌, ◌↔◌, ◌⊎◌, inl, inr, refl, sym, ap, arith, ℕ, zero, suc, Bool, true, false, List, length, slice_get, IsTrue, is_some, Option, Some, None}
use Rattle.std.specs.List.{list_all, range_with_len}
use Rattle.std.proofs.Math.Nat.{eq-or-lt_of_le}
use Rattle.std.proofs.lemmas.Option.{slice_get_within, slice_get-get_or}
use Rattle.pws_base.specs.declared.shapes.ReplicaId.{ReplicaId}
use Rattle.pws_base.specs.Shapes.{has_replica}
use Rattle.pws_auth.specs.Keys.{Keys, can_seal, SealsForAll}
use Rattle.pws_opening.specs.Members.{IsMember}

left : (a b : Bool) → a && b ≡ true → a ≡ true
left true b h = refl
left false b h = h

right : (a b : Bool) → a && b ≡ true → b ≡ true
right true b h = h
right false b h = absurd (cc)

both : (a b : Bool) → a ≡ true → b ≡ true → a && b ≡ true
both true b h k = k
both false b h k = h

first_or : (p : ℕ → Bool) (a n i : ℕ) → p a && list_all p (range_with_len (a + 1) n) ≡ true → ((a < i) → p i ≡ true) → (a ≡ i) ⊎ (a < i) → p i ≡ true
first_or p a n i h k (inl e) = ap p (sym e) ∙ left (p a) _ h
first_or p a n i h k (inr l) = k l

-- what holds of all of a range holds of each
each : (p : ℕ → Bool) (a n : ℕ) → list_all p (range_with_len a n) ≡ true → (i : ℕ) → a ≤ i → i < a + n → p i ≡ true
each p a zero h i l u = absurd (omega arith)
each p a (suc n) h i l u = first_or p a n i h (λ l. each p (a + 1) n (right (p a) _ h) i (omega (arith, l)) (omega (arith, u))) (eq-or-lt_of_le l)

-- and the other way round
all_of : (p : ℕ → Bool) (a n : ℕ) → ((i : ℕ) → a ≤ i → i < a + n → p i ≡ true) → list_all p (range_with_len a n) ≡ true
all_of p a zero h = refl
all_of p a (suc n) h = both (p a) _ (h a (omega arith) (omega arith)) (all_of p (a + 1) n (λ i l u. h i (omega arith) (omega arith)))

-- a group that a layout has is below its length
inside : (layout : List ℕ) (group : ℕ) (o : Option ℕ) → slice_get layout group ≡ o → is_some o ≡ true → group < length layout
inside layout group None e h = absurd (cc)
inside layout group (Some f) e h = slice_get_within layout group f e

is_there : (layout : List ℕ) (group : ℕ) → group < length layout → is_some (slice_get layout group) ≡ true
is_there layout group h = ap is_some (slice_get-get_or layout group 0 h)

seals : (keys : Keys) (me : ReplicaId) → list_all (can_seal keys me) (range_with_len 0 (length keys.layout)) ≡ true → SealsForAll keys me
seals keys me h group s = each (can_seal keys me) 0 (length keys.layout) h group (omega arith) (let l : group < length keys.layout = inside keys.layout group (slice_get keys.layout group) refl s in omega (arith, l))

tried : (keys : Keys) (me : ReplicaId) → SealsForAll keys me → list_all (can_seal keys me) (range_with_len 0 (length keys.layout)) ≡ true
tried keys me s = all_of (can_seal keys me) 0 (length keys.layout) (λ i l u. s i (is_there keys.layout i (omega (arith, u))))

-- a replica of the layout is a member where it can seal for each of its groups
pub member_tested : (layout : List ℕ) (keys : Keys) (me : ReplicaId) (b : Bool) → layout ≡ keys.layout → has_replica layout me ≡ true → b ≡ list_all (can_seal keys me) (range_with_len 0 (length layout))
    → IsTrue b ↔ IsMember (record { me = me; keys = keys })
member_tested layout keys me b e k t =
    let tested : b ≡ list_all (can_seal keys me) (range_with_len 0 (length keys.layout)) = t ∙ ap (λ l. list_all (can_seal keys me) (range_with_len 0 (length l))) e in (
      λ h. record { known = ap (λ l. has_replica l me) (sym e) ∙ k; seals = seals keys me (sym tested ∙ h) },
      λ m. tested ∙ tried keys me m.seals,
    )
