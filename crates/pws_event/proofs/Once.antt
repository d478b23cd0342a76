-- The number of a caller's last request never falls, and a request that takes effect has the next one; so no request
-- takes effect at two places.
use Rattle.std.proofs.Common.{◌≡◌, ℕ, zero, suc, ◌+◌, ◌-◌, ◌<◌, ◌≤◌, Bool, true, false, List, [], ◌∷◌, ◌++◌, take, drop, slice_get, Option, Some, None, refl, sym, ◌∙◌, ap, arith, nat_eq, cond}
use Rattle.std.specs.List.{fold, cons_option}
use Rattle.std.specs.Option.{option_and_then}
use Rattle.std.proofs.lemmas.Grind.{fold-append}
use Rattle.std.proofs.lemmas.Bool.Decides.{nat_tests}
use Rattle.std.proofs.lemmas.List.Elements.{filter_map-append}
use Rattle.std.proofs.lemmas.Option.{slice_get_within, get_or_from_slice_get}
use Rattle.std.proofs.Math.Seq.{take-suc, take-add}
use Rattle.pws_event.specs.Requests.{RequestFields}
use Rattle.pws_event.specs.Effects.{Acts, field_after, last_of, low_of, takes_effect, with_event}
use Rattle.pws_event.specs.Lists.{PlacedEvent, event_at, whole_events, effects_in}
use Rattle.pws_event.specs.Laws.{TakesEffectAt, EffectsAreOnce}
use Rattle.pws_event.specs.declared.events.Event.{Event}
use Rattle.pws_event.specs.declared.events.Event.TheVariants as event
use Rattle.pws_event.proofs.Latest.{latest_after, next_number}

last_after : (caller : ℕ) (fx : List Event) (r : RequestFields) → last_of caller (fx ++ event.Request r ∷ []) ≡ cond (nat_eq r.caller caller) r.number (last_of caller fx)
last_after caller fx r = latest_after (λ r. r.number) caller 0 fx r

same_or_next : (caller : ℕ) (fx : List Event) (r : RequestFields) → r.number ≡ last_of r.caller fx + 1 → (b : Bool) → nat_eq r.caller caller ≡ b → last_of caller fx ≤ cond b r.number (last_of caller fx)
same_or_next caller fx r h true e = let s : r.caller ≡ caller = grind (arith, nat_tests) in omega (arith, ap (λ k. last_of k fx) s)
same_or_next caller fx r h false e = omega arith

rises_by : (caller : ℕ) (fx : List Event) (r : RequestFields) (b : Bool) → (b ≡ true → r.number ≡ last_of r.caller fx + 1) → last_of caller fx ≤ last_of caller (cond b (fx ++ event.Request r ∷ []) fx)
rises_by caller fx r true h = rw (last_after caller fx r) (same_or_next caller fx r (h refl) (nat_eq r.caller caller) refl)
rises_by caller fx r false h = omega arith

-- an effect that is no request leaves the last number
other_rises : (caller : ℕ) (fx : List Event) (e : Event) → ((n : ℕ) → field_after (λ r. r.number) caller n e ≡ n) → (b : Bool) → last_of caller fx ≤ last_of caller (cond b (fx ++ e ∷ []) fx)
other_rises caller fx e same true = omega (arith, fold-append (field_after (λ r. r.number) caller) 0 fx (e ∷ []), same (last_of caller fx))
other_rises caller fx e same false = omega arith

rises_step : (me : ℕ) (layout : List ℕ) (acts : List Event → Acts) (caller : ℕ) (fx : List Event) (e : Event) → last_of caller fx ≤ last_of caller (with_event me layout acts fx e)
rises_step me layout acts caller fx (event.Request r) = rises_by caller fx r (takes_effect me layout (acts fx) fx (event.Request r)) (next_number me layout (last_of r.caller fx) (low_of r.caller fx) r)
rises_step me layout acts caller fx event.Null = omega arith
rises_step me layout acts caller fx (event.Reply r) = other_rises caller fx (event.Reply r) (λ n. refl) (takes_effect me layout (acts fx) fx (event.Reply r))
rises_step me layout acts caller fx (event.Abort a) = other_rises caller fx (event.Abort a) (λ n. refl) (takes_effect me layout (acts fx) fx (event.Abort a))
rises_step me layout acts caller fx (event.Clock c) = other_rises caller fx (event.Clock c) (λ n. refl) (takes_effect me layout (acts fx) fx (event.Clock c))
rises_step me layout acts caller fx (event.Random r) = other_rises caller fx (event.Random r) (λ n. refl) (takes_effect me layout (acts fx) fx (event.Random r))

rises_fold : (me : ℕ) (layout : List ℕ) (acts : List Event → Acts) (caller : ℕ) (events fx : List Event) → last_of caller fx ≤ last_of caller (fold (with_event me layout acts) fx events)
rises_fold me layout acts caller [] fx = omega arith
rises_fold me layout acts caller (e ∷ events) fx = omega (arith, rises_step me layout acts caller fx e, rises_fold me layout acts caller events (with_event me layout acts fx e))

effects_more : (me : ℕ) (layout : List ℕ) (acts : List Event → Acts) (xs ys : List PlacedEvent) → effects_in me layout acts (xs ++ ys) ≡ fold (with_event me layout acts) (effects_in me layout acts xs) (whole_events ys)
effects_more me layout acts xs ys = ap (fold (with_event me layout acts) []) (filter_map-append (λ (p : PlacedEvent). p.event) xs ys) ∙ fold-append (with_event me layout acts) [] (whole_events xs) (whole_events ys)

-- the last number after more places is no less
rises : (me : ℕ) (layout : List ℕ) (acts : List Event → Acts) (caller i j : ℕ) (places : List PlacedEvent) → i ≤ j → last_of caller (effects_in me layout acts (take i places)) ≤ last_of caller (effects_in me layout acts (take j places))
rises me layout acts caller i j places h =
    let s : j ≡ i + (j - i) = omega arith in
    let between = whole_events (take (j - i) (drop i places)) in
    let e : last_of caller (effects_in me layout acts (take j places)) ≡ last_of caller (fold (with_event me layout acts) (effects_in me layout acts (take i places)) between) = ap (last_of caller) (ap (λ n. effects_in me layout acts (take n places)) s ∙ (ap (effects_in me layout acts) (take-add i (j - i) places) ∙ effects_more me layout acts (take i places) (take (j - i) (drop i places)))) in
    omega (arith, e, rises_fold me layout acts caller between (effects_in me layout acts (take i places)))

take_next : (places : List PlacedEvent) (i : ℕ) (p : PlacedEvent) → slice_get places i ≡ Some p → take (suc i) places ≡ take i places ++ p ∷ []
take_next places i p h = take-suc places i p (slice_get_within places i p h) ∙ ap (λ y. take i places ++ y ∷ []) (get_or_from_slice_get places i p p h)

one_effect : (me : ℕ) (layout : List ℕ) (acts : List Event → Acts) (fx : List Event) (o : Option Event) (r : RequestFields) → o ≡ Some (event.Request r) → takes_effect me layout (acts fx) fx (event.Request r) ≡ true → fold (with_event me layout acts) fx (cons_option o []) ≡ fx ++ event.Request r ∷ []
one_effect me layout acts fx o r e t = ap (λ (o : Option Event). fold (with_event me layout acts) fx (cons_option o [])) e ∙ ap (λ b. cond b (fx ++ event.Request r ∷ []) fx) t

-- after a request took effect, its number is the last of its caller
last_at : (me : ℕ) (layout : List ℕ) (acts : List Event → Acts) (places : List PlacedEvent) (i : ℕ) (p : PlacedEvent) (r : RequestFields) → slice_get places i ≡ Some p → p.event ≡ Some (event.Request r) → takes_effect me layout (acts (effects_in me layout acts (take i places))) (effects_in me layout acts (take i places)) (event.Request r) ≡ true → last_of r.caller (effects_in me layout acts (take (suc i) places)) ≡ r.number
last_at me layout acts places i p r g e t =
    let own : nat_eq r.caller r.caller ≡ true = grind (arith, nat_tests) in
    let fx = effects_in me layout acts (take i places) in
    ap (λ ys. last_of r.caller (effects_in me layout acts ys)) (take_next places i p g) ∙ (ap (last_of r.caller) (effects_more me layout acts (take i places) (p ∷ []) ∙ one_effect me layout acts fx p.event r e t) ∙ (last_after r.caller fx r ∙ ap (λ b. cond b r.number (last_of r.caller fx)) own))

event_of : (o : Option PlacedEvent) (e : Event) → option_and_then (λ (p : PlacedEvent). p.event) o ≡ Some e → (p : PlacedEvent) × (o ≡ Some p) × (p.event ≡ Some e)
event_of None e h = absurd (cc)
event_of (Some p) e h = (p, refl, h)

place_is : (places : List PlacedEvent) (place : ℕ) (e : Event) → event_at places place ≡ Some e → (i : ℕ) × (p : PlacedEvent) × (place ≡ suc i) × (slice_get places i ≡ Some p) × (p.event ≡ Some e)
place_is places zero e h = absurd (cc)
place_is places (suc i) e h =
    let z : nat_eq (suc i) 0 ≡ false = grind (arith, nat_tests) in
    let k : suc i - 1 ≡ i = omega arith in
    let p = event_of (slice_get places i) e (rw (z, k) at h) in
    (i, p.0, refl, p.1, p.2)

no_later : (me : ℕ) (layout : List ℕ) (acts : List Event → Acts) (places : List PlacedEvent) (p q : ℕ) (r s : RequestFields) → TakesEffectAt me layout acts places p r → TakesEffectAt me layout acts places q s → r.caller ≡ s.caller → r.number ≡ s.number → p < q → ⊥
no_later me layout acts places p q r s t u c n l =
    let x = place_is places p (event.Request r) t.stands in
    let y = place_is places q (event.Request s) u.stands in
    let i : p - 1 ≡ x.0 = omega (arith, x.2) in
    let last = last_at me layout acts places x.0 x.1 r x.3 x.4 (ap (λ k. takes_effect me layout (acts (effects_in me layout acts (take k places))) (effects_in me layout acts (take k places)) (event.Request r)) (sym i) ∙ t.takes) in
    let grows = rises me layout acts r.caller (suc x.0) (q - 1) places (omega (arith, x.2, y.2)) in
    let next = next_number me layout (last_of s.caller (effects_in me layout acts (take (q - 1) places))) (low_of s.caller (effects_in me layout acts (take (q - 1) places))) s u.takes in
    let same = ap (λ k. last_of k (effects_in me layout acts (take (q - 1) places))) c in
    omega (arith, last, grows, next, same, n)

pub effects_are_once : EffectsAreOnce
effects_are_once me layout acts places p q r s t u c n =
    let before : p < q → ⊥ = no_later me layout acts places p q r s t u c n in
    let behind : q < p → ⊥ = no_later me layout acts places q p s r u t (sym c) (sym n) in
    omega (arith, before, behind)
