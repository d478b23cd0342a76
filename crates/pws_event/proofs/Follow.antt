-- One place more: what takes effect there, and what stands there.
use Rattle.std.proofs.Common.{◌≡◌, ℕ, ◌+◌, ◌-◌, nat_eq, Bool, true, false, not, ◌&&◌, cond, List, [], ◌∷◌, ◌++◌, length, slice_get, Some, None, refl, ap, ◌∙◌, arith}
use Rattle.std.specs.List.{fold}
use Rattle.std.proofs.lemmas.List.Elements.{filter_map-append}
use Rattle.std.proofs.lemmas.List.Sums.{fold-append}
use Rattle.std.proofs.lemmas.Bool.Decides.{nat_tests}
use Rattle.pws_event.specs.declared.events.Event.{Event}
use Rattle.pws_event.specs.Events.{digest_of}
use Rattle.pws_event.specs.Effects.{Acts, takes_effect, with_event}
use Rattle.pws_event.specs.Lists.{PlacedEvent, placed, would_pass, at_place, effects_in, whole_events}
use Rattle.pws_event.specs.Laws.{EffectsFollow, EventsAreLast}

one_more : (me : ℕ) (layout : List ℕ) (acts : List Event → Acts) (places : List PlacedEvent) (p : PlacedEvent) →
    effects_in me layout acts (places ++ p ∷ []) ≡ fold (with_event me layout acts) (effects_in me layout acts places) (whole_events (p ∷ []))
one_more me layout acts places p =
    ap (λ (es : List Event). fold (with_event me layout acts) [] es) (filter_map-append (λ (q : PlacedEvent). q.event) places (p ∷ []))
    ∙ fold-append (with_event me layout acts) [] (whole_events places) (whole_events (p ∷ []))

by_bound : (me : ℕ) (layout : List ℕ) (acts : List Event → Acts) (es : List Event) (e : Event) (b : Bool) →
    fold (with_event me layout acts) es (whole_events (record { digest = digest_of e; event = cond b None (Some e) } ∷ []))
    ≡ cond (not b && takes_effect me layout (acts es) es e) (es ++ e ∷ []) es
by_bound me layout acts es e true = refl
by_bound me layout acts es e false = refl

pub effects_follow : EffectsFollow
effects_follow = λ me layout acts places e.
    one_more me layout acts places (placed places e)
    ∙ by_bound me layout acts (effects_in me layout acts places) e (would_pass places e)

get_last : {A : Type 0} (xs : List A) (y : A) → slice_get (xs ++ y ∷ []) (length xs) ≡ Some y
get_last [] y = refl
get_last (x ∷ xs) y = get_last xs y

place_after : (places : List PlacedEvent) (n m : ℕ) → n ≡ m + 1 → at_place places n ≡ slice_get places m
place_after places n m e =
    let some : nat_eq n 0 ≡ false = grind (arith, nat_tests, e) in
    let last : n - 1 ≡ m = omega (arith, e) in
    ap (λ b. cond b None (slice_get places (n - 1))) some ∙ ap (slice_get places) last

pub events_are_last : EventsAreLast
events_are_last = λ places e. place_after (places ++ placed places e ∷ []) (length places + 1) (length places) refl ∙ get_last places (placed places e)
