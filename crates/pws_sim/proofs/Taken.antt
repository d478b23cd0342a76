-- Every place of the replica's list holds a request that takes effect there.
use Rattle.std.proofs.Common.{◌≡◌, inl, inr, ℕ, zero, suc, ◌+◌, ◌-◌, ◌*◌, ◌^◌, ◌<◌, ◌≤◌, true, false, cond, List, [], ◌∷◌, ◌++◌, length, take, slice_get, Option, Some, None, refl, ◌∙◌, ap, arith, nat_eq, length-append}
use Rattle.std.specs.Option.{option_and_then, option_map, option_map_or}
use Rattle.std.proofs.lemmas.Bool.{cases_lt}
use Rattle.std.proofs.lemmas.Bool.Decides.{nat_tests}
use Rattle.std.proofs.lemmas.List.{take-append-le}
use Rattle.std.proofs.lemmas.List.Sums.{sum_by-append}
use Rattle.std.proofs.Math.Seq.{take-append_seam}
use Rattle.pws_base.specs.Texts.{u32_text}
use Rattle.pws_event.specs.Requests.{RequestFields, IsRequest}
use Rattle.pws_event.specs.Events.{event_text, digest_of}
use Rattle.pws_event.specs.Effects.{silent, no_acts, takes_effect}
use Rattle.pws_event.specs.Lists.{PlacedEvent, event_at, placed, text_length, kept_bytes, would_pass, effects_in, digest_at}
use Rattle.pws_event.specs.Laws.{TakesEffectAt}
use Rattle.pws_event.specs.declared.events.Event.{Event}
use Rattle.pws_event.specs.declared.events.Event.TheVariants as event
use Rattle.pws_sim.specs.Once.{AllTakeEffect}

slice_get_last : (places : List PlacedEvent) (p : PlacedEvent) → slice_get (places ++ p ∷ []) (length places) ≡ Some p
slice_get_last [] p = refl
slice_get_last (q ∷ places) p = slice_get_last places p

-- what stands at the last place
pub last_event : (places more : List PlacedEvent) (p : PlacedEvent) (place : ℕ) → more ≡ places ++ p ∷ [] → place ≡ length more → event_at more place ≡ p.event
last_event places more p place m e =
    let size : place ≡ length places + 1 = e ∙ (ap length m ∙ length-append places (p ∷ [])) in
    let z : nat_eq (length places + 1) 0 ≡ false = grind (arith, nat_tests) in
    let k : length places + 1 - 1 ≡ length places = omega arith in
    rw (size, m, z, k) (ap (λ (o : Option PlacedEvent). option_and_then (λ (q : PlacedEvent). q.event) o) (slice_get_last places p))

u32_size : (n : ℕ) → length (u32_text n) ≡ 4
unfolding u32_text
u32_size n = refl

-- the text of a request has 14 bytes before its body
text_size : (r : RequestFields) → length (event_text (event.Request r)) ≡ 14 + length r.body
text_size r = simp (length-append, u32_size) (omega arith)

text_small : (r : RequestFields) → IsRequest r → length (event_text (event.Request r)) ≤ 32782
text_small r h = omega (arith, text_size r, h.body)

-- 32 places of requests don't pass the bound on kept texts
pub not_bare : (places : List PlacedEvent) (r : RequestFields) → kept_bytes places ≤ 32782 * length places → length places < 32 → IsRequest r → (placed places (event.Request r)).event ≡ Some (event.Request r)
not_bare places r k n h =
    let t = text_small r h in
    let small : kept_bytes places + length (event_text (event.Request r)) ≤ 2 ^ 30 = omega (arith, k, n, t) in
    let whole : would_pass places (event.Request r) ≡ false = grind (arith, nat_tests) in
    ap (λ b. cond b None (Some (event.Request r))) whole

pub bytes_more : (places more : List PlacedEvent) (p : PlacedEvent) (r : RequestFields) → more ≡ places ++ p ∷ [] → p.event ≡ Some (event.Request r) → IsRequest r → kept_bytes places ≤ 32782 * length places → kept_bytes more ≤ 32782 * length more
bytes_more places more p r m e h k =
    let size : text_length p ≡ length (event_text (event.Request r)) = ap (λ (o : Option Event). option_map_or (λ e. length (event_text e)) o 0) e in
    let sum : kept_bytes more ≡ kept_bytes places + (0 + text_length p) = ap kept_bytes m ∙ sum_by-append text_length places (p ∷ []) in
    let count : length more ≡ length places + 1 = ap length m ∙ length-append places (p ∷ []) in
    omega (arith, sum, count, size, text_small r h, k)

slice_get_front : (places : List PlacedEvent) (p q : PlacedEvent) (i : ℕ) → i < length places → slice_get (places ++ p ∷ []) i ≡ slice_get places i
slice_get_front [] p q i h = absurd (omega arith)
slice_get_front (x ∷ places) p q zero h = refl
slice_get_front (x ∷ places) p q (suc i) h = slice_get_front places p q i (omega arith)

-- the places before the last stand as they stood
front_event : (places : List PlacedEvent) (p : PlacedEvent) (place : ℕ) → 1 ≤ place → place ≤ length places → event_at (places ++ p ∷ []) place ≡ event_at places place
front_event places p zero h k = absurd (omega arith)
front_event places p (suc i) h k =
    let z : nat_eq (suc i) 0 ≡ false = grind (arith, nat_tests) in
    let n : suc i - 1 ≡ i = omega arith in
    rw (z, n) (ap (λ (o : Option PlacedEvent). option_and_then (λ (q : PlacedEvent). q.event) o) (slice_get_front places p p i (omega arith)))

front_digest : (places : List PlacedEvent) (p : PlacedEvent) (place : ℕ) → 1 ≤ place → place ≤ length places → digest_at (places ++ p ∷ []) place ≡ digest_at places place
front_digest places p zero h k = absurd (omega arith)
front_digest places p (suc i) h k =
    let z : nat_eq (suc i) 0 ≡ false = grind (arith, nat_tests) in
    let n : suc i - 1 ≡ i = omega arith in
    rw (z, n) (ap (λ (o : Option PlacedEvent). option_map (λ (q : PlacedEvent). q.digest) o) (slice_get_front places p p i (omega arith)))

last_digest : (places more : List PlacedEvent) (p : PlacedEvent) (place : ℕ) → more ≡ places ++ p ∷ [] → place ≡ length more → digest_at more place ≡ Some p.digest
last_digest places more p place m e =
    let size : place ≡ length places + 1 = e ∙ (ap length m ∙ length-append places (p ∷ [])) in
    let z : nat_eq (length places + 1) 0 ≡ false = grind (arith, nat_tests) in
    let k : length places + 1 - 1 ≡ length places = omega arith in
    rw (size, m, z, k) (ap (λ (o : Option PlacedEvent). option_map (λ (q : PlacedEvent). q.digest) o) (slice_get_last places p))

pub all_more : (me : ℕ) (layout : List ℕ) (places more : List PlacedEvent) (p : PlacedEvent) (r : RequestFields) → more ≡ places ++ p ∷ [] → p.event ≡ Some (event.Request r) → p.digest ≡ digest_of (event.Request r) → takes_effect me layout no_acts (effects_in me layout silent places) (event.Request r) ≡ true → AllTakeEffect me layout places → AllTakeEffect me layout more
all_more me layout places more p r m e d t all place h k =
    let count : length more ≡ length places + 1 = ap length m ∙ length-append places (p ∷ []) in
    elim (cases_lt place (length more)) [
      | inl below ↦
          let old = all place h (omega (arith, count, below)) in
          let front : take (place - 1) more ≡ take (place - 1) places = ap (take (place - 1)) m ∙ take-append-le (place - 1) places (p ∷ []) (omega (arith, count, below)) in
          let stands : TakesEffectAt me layout silent more place old.0 = record {
            stands = ap (λ xs. event_at xs place) m ∙ (front_event places p place h (omega (arith, count, below)) ∙ old.1.stands);
            takes = ap (λ xs. takes_effect me layout no_acts (effects_in me layout silent xs) (event.Request old.0)) front ∙ old.1.takes;
          } in
          (old.0, stands, ap (λ xs. digest_at xs place) m ∙ (front_digest places p place h (omega (arith, count, below)) ∙ old.2))
      | inr top ↦
          let last : place ≡ length more = omega (arith, k, top) in
          let whole : take (place - 1) more ≡ places = ap (λ n. take n more) (omega (arith, count, last)) ∙ (ap (take (length places)) m ∙ take-append_seam places (p ∷ [])) in
          let stands : TakesEffectAt me layout silent more place r = record {
            stands = last_event places more p place m last ∙ e;
            takes = ap (λ xs. takes_effect me layout no_acts (effects_in me layout silent xs) (event.Request r)) whole ∙ t;
          } in
          (r, stands, last_digest places more p place m last ∙ ap Some d)
    ]
