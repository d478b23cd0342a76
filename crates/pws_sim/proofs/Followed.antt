-- What the replica keeps after one more place.
use Rattle.std.proofs.Common.{◌≡◌, ℕ, ◌*◌, ◌<◌, ◌≤◌, true, List, [], ◌∷◌, ◌++◌, length, Option, Some, None, sym, ◌∙◌, ap, subst}
use Rattle.std.specs.List.{cons_option}
use Rattle.std.proofs.lemmas.Grind.{fold-append}
use Rattle.std.proofs.lemmas.List.Elements.{filter_map-append}
use Rattle.pws_event.specs.Counters.{Counters, HasTaken}
use Rattle.pws_event.specs.Requests.{RequestFields, IsRequest}
use Rattle.pws_event.specs.Effects.{no_acts, silent, takes_effect, with_event, effects}
use Rattle.pws_event.specs.Histories.{Past, after_event}
use Rattle.pws_event.specs.Lists.{PlacedEvent, event_at, placed, kept_bytes, whole_events, effects_in}
use Rattle.pws_event.specs.declared.events.Event.{Event}
use Rattle.pws_event.specs.declared.events.Event.TheVariants as event
use Rattle.pws_sim.specs.Followed.{Follows, past_in}
use Rattle.pws_sim.specs.Replica.{two_groups}
use Rattle.pws_sim.proofs.Taken.{not_bare, bytes_more, all_more, last_event}

whole_more : (places more : List PlacedEvent) (p : PlacedEvent) (o : Option Event) → more ≡ places ++ p ∷ [] → p.event ≡ o → whole_events more ≡ whole_events places ++ cons_option o []
whole_more places more p o m e = ap whole_events m ∙ (filter_map-append (λ (q : PlacedEvent). q.event) places (p ∷ []) ∙ ap (λ (o : Option Event). whole_events places ++ cons_option o []) e)

-- one more place, whose request takes effect
pub follows_more : (places more : List PlacedEvent) (p : PlacedEvent) (r : RequestFields) (place : ℕ) (e : Event) (before now : Counters)
    → more ≡ places ++ p ∷ [] → p ≡ placed places (event.Request r) → length places < 32 → IsRequest r
    → takes_effect 1 two_groups no_acts (effects_in 1 two_groups silent places) (event.Request r) ≡ true
    → place ≡ length more → Some e ≡ event_at more place → Follows places before
    → ((past : Past) → HasTaken before past → HasTaken now (after_event before.me before.layout past e)) → now.me ≡ before.me → now.layout ≡ before.layout → Follows more now
follows_more places more p r place e before now m q room h takes n g f t a b =
    let own : p.event ≡ Some e = sym (last_event places more p place m n) ∙ sym g in
    let whole = whole_more places more p (Some e) m own in
    let grown : effects_in 1 two_groups silent more ≡ with_event 1 two_groups silent (effects_in 1 two_groups silent places) e = ap (effects 1 two_groups silent) whole ∙ fold-append (with_event 1 two_groups silent) [] (whole_events places) (e ∷ []) in
    let request : p.event ≡ Some (event.Request r) = ap (λ (q : PlacedEvent). q.event) q ∙ not_bare places r f.bytes room h in
    record {
      taken = subst (λ fx. HasTaken now (record { acts = no_acts; effects = fx })) (sym grown) (subst (λ l. HasTaken now (after_event 1 l (past_in places) e)) f.layout (subst (λ m. HasTaken now (after_event m before.layout (past_in places) e)) f.me (t (past_in places) f.taken)));
      me = a ∙ f.me;
      layout = b ∙ f.layout;
      bytes = bytes_more places more p r m request h f.bytes;
      effects = all_more 1 two_groups places more p r m request (ap (λ (q : PlacedEvent). q.digest) q) takes f.effects;
    }

-- the last place is never bare
pub never_bare : (places more : List PlacedEvent) (p : PlacedEvent) (r : RequestFields) (place : ℕ)
    → more ≡ places ++ p ∷ [] → p ≡ placed places (event.Request r) → length places < 32 → IsRequest r
    → kept_bytes places ≤ 32782 * length places → place ≡ length more → None ≡ event_at more place → ⊥
never_bare places more p r place m q room h k n g =
    let own : p.event ≡ None = sym (last_event places more p place m n) ∙ sym g in
    let request : p.event ≡ Some (event.Request r) = ap (λ (q : PlacedEvent). q.event) q ∙ not_bare places r k room h in
    cc
