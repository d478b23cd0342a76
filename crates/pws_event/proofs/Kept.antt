-- One more slot.
use Rattle.std.proofs.Common.{◌≡◌, ◌⊎◌, inl, inr, ℕ, zero, suc, ◌+◌, ◌<◌, ◌≤◌, ◌^◌, List, [], ◌∷◌, ◌++◌, length, take, slice_get, Some, replicate, refl, sym, ◌∙◌, ap, subst, arith, length-append, IfSome}
use Rattle.std.proofs.lemmas.List.{map-append, take-append-le, length-map}
use Rattle.std.proofs.Math.Seq.{take-length}
use Rattle.std.proofs.lemmas.List.Sums.{fold-append}
use Rattle.std.proofs.lemmas.Option.{slice_get_within}
use Rattle.std.proofs.lemmas.Grind.{common_steps}
use Rattle.sha2.specs.Sha256.{sha256}
use Rattle.pws_event.specs.declared.lists.Slot.{Slot}
use Rattle.pws_event.specs.Events.{chain_of, digest_of}
use Rattle.pws_event.specs.Lists.{text_length, digests_of}
use Rattle.pws_event.specs.Slots.{IsKept, place_of, places_of}

-- what stands in a list after a push
pub slice_get_pushed : {X : Type 0} (xs : List X) (y x : X) (i : ℕ) → slice_get (xs ++ y ∷ []) i ≡ Some x → (slice_get xs i ≡ Some x) ⊎ ((i ≡ length xs) × (y ≡ x))
slice_get_pushed [] y x zero h = inr (refl, cc)
slice_get_pushed [] y x (suc i) h = absurd (cc)
slice_get_pushed (z ∷ xs) y x zero h = inl h
slice_get_pushed (z ∷ xs) y x (suc i) h =
    elim (slice_get_pushed xs y x i h) [ inl p ↦ inl p | inr p ↦ inr (ap suc p.0, p.1) ]

pub digests_pushed : (slots : List Slot) (s : Slot) → digests_of (places_of (slots ++ s ∷ [])) ≡ digests_of (places_of slots) ++ s.digest ∷ []
digests_pushed slots s = simp map-append refl

pub length_digests : (slots : List Slot) → length (digests_of (places_of slots)) ≡ length slots
length_digests slots = simp length-map refl

pub take_whole : {X : Type 0} (n : ℕ) (xs : List X) → n ≡ length xs → take n xs ≡ xs
take_whole n xs e = rw e (take-length xs)

pub IsKept_add : (slots : List Slot) (kept size : ℕ) (s : Slot) → IsKept slots kept → length slots < 1000000 → size ≡ text_length (place_of s) → kept + size ≤ 2 ^ 30 → IfSome s.event (λ e. s.digest ≡ digest_of e) → s.chain ≡ sha256 (chain_of (digests_of (places_of slots)) ++ s.digest) → IsKept (slots ++ s ∷ []) (kept + size)
IsKept_add slots kept size s k few e small digest chain =
    record {
      few = grind (arith, common_steps);
      sum = grind (arith, common_steps);
      small = small;
      digests = λ i x h. elim (slice_get_pushed slots s x i h) [
        | inl p ↦ k.digests i x p
        | inr p ↦ subst (λ (y : Slot). IfSome y.event (λ e. y.digest ≡ digest_of e)) p.1 digest
      ];
      chains = λ i x h. rw digests_pushed (elim (slice_get_pushed slots s x i h) [
        | inl p ↦ let w : i + 1 ≤ length (digests_of (places_of slots)) = omega (arith, slice_get_within slots i x p, length_digests slots) in rw take-append-le (k.chains i x p)
        | inr p ↦ let whole : take (i + 1) (digests_of (places_of slots) ++ s.digest ∷ []) ≡ digests_of (places_of slots) ++ s.digest ∷ [] = take_whole (i + 1) _ (omega (arith, p.0, length_digests slots, length-append (digests_of (places_of slots)) (s.digest ∷ []))) in rw whole (ap (λ (y : Slot). y.chain) (sym p.1) ∙ (chain ∙ sym (fold-append (λ c d. sha256 (c ++ d)) (replicate 32 0) (digests_of (places_of slots)) (s.digest ∷ []))))
      ]);
    }
