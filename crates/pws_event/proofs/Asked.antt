-- The ask that waits.
use Rattle.std.proofs.Common.{◌≡◌, ℕ, ◌+◌, Bool, true, false, ◌&&◌, List, [], ◌∷◌, ◌++◌, length, slice_get, Option, Some, None, refl, sym, ◌∙◌, ap, arith, nat_eq, cond, length-append}
use Rattle.std.specs.Option.{option_map, option_map_or}
use Rattle.std.proofs.lemmas.Option.{slice_get_past}
use Rattle.std.proofs.lemmas.List.Sums.{sum_by-append}
use Rattle.pws_event.specs.declared.readings.Sort.{Sort}
use Rattle.pws_event.specs.declared.events.Event.{Event}
use Rattle.pws_event.specs.Effects.{is_sort, answers_ask, answered_asks, waiting_ask, ask_waits}
use Rattle.pws_event.specs.Histories.{Past, with_ask}
use Rattle.pws_event.specs.Counters.{Counters, HasTaken, CountsAsks, would_answer, after_ask, waiting_count}

pub waiting_same : (c : Counters) (past : Past) → HasTaken c past → option_map (λ s. (c.answered + 1, s)) c.ask ≡ waiting_ask past.acts past.effects
waiting_same c past h = ap (option_map (λ s. (c.answered + 1, s))) h.asks.ask ∙ ap (λ n. option_map (λ s. (n + 1, s)) (slice_get past.acts.asks n)) h.asks.answered

tested : (n ask : ℕ) (s : Sort) (o : Option Sort) → option_map_or (λ w. nat_eq (n + 1) ask && is_sort w s) o false ≡ option_map_or (λ (w : ℕ × Sort). nat_eq w.0 ask && is_sort w.1 s) (option_map (λ t. (n + 1, t)) o) false
tested n ask s None = refl
tested n ask s (Some t) = refl

-- the counters tell whether an ask waits
pub answer_same : (c : Counters) (past : Past) (ask : ℕ) (s : Sort) → HasTaken c past → would_answer c ask s ≡ ask_waits past.acts past.effects ask s
answer_same c past ask s h = tested c.answered ask s c.ask ∙ ap (λ (o : Option (ℕ × Sort)). option_map_or (λ (w : ℕ × Sort). nat_eq w.0 ask && is_sort w.1 s) o false) (waiting_same c past h)

count_after : (fx : List Event) (e : Event) (b : Bool) → answers_ask e ≡ b → answered_asks (fx ++ e ∷ []) ≡ answered_asks fx + cond b 1 0
count_after fx e b h = sum_by-append (λ e. cond (answers_ask e) 1 0) fx (e ∷ []) ∙ (ap (λ b. answered_asks fx + (0 + cond b 1 0)) h ∙ omega arith)

-- one more effect that answers the ask that waits
pub asks_answered : (count : ℕ) (sort : Option Sort) (s : Sort) (past : Past) (e : Event) → sort ≡ Some s → answers_ask e ≡ true → CountsAsks count sort past → CountsAsks (count + 1) None (record past { effects = past.effects ++ e ∷ [] })
asks_answered count sort s past e is a h =
    let more = count_after past.effects e true a in
    let size : length past.acts.asks ≡ count + 1 = h.asked ∙ ap (λ o. count + waiting_count o) is in
    record {
      answered = omega (arith, more, h.answered);
      asked = omega (arith, size);
      ask = sym (slice_get_past past.acts.asks (count + 1) (omega (arith, size)));
    }

-- one more effect that answers no ask
pub asks_same : (count : ℕ) (sort : Option Sort) (past : Past) (e : Event) → answers_ask e ≡ false → CountsAsks count sort past → CountsAsks count sort (record past { effects = past.effects ++ e ∷ [] })
asks_same count sort past e a h =
    let more = count_after past.effects e false a in
    record {
      answered = omega (arith, more, h.answered);
      asked = h.asked;
      ask = h.ask;
    }

last_asked : (asks : List Sort) (s : Sort) → slice_get (asks ++ s ∷ []) (length asks) ≡ Some s
last_asked [] s = refl
last_asked (t ∷ asks) s = last_asked asks s

-- one more ask
pub asks_more : (count : ℕ) (sort : Option Sort) (s : Sort) (past : Past) → sort ≡ None → CountsAsks count sort past → CountsAsks count (Some s) (record past { acts = with_ask s past.acts })
asks_more count sort s past none h =
    let size : length past.acts.asks ≡ count = h.asked ∙ (ap (λ o. count + waiting_count o) none ∙ omega arith) in
    record {
      answered = h.answered;
      asked = omega (arith, length-append past.acts.asks (s ∷ []), size);
      ask = sym (ap (slice_get (past.acts.asks ++ s ∷ [])) (sym size) ∙ last_asked past.acts.asks s);
    }

pub ask_more : (c : Counters) (past : Past) (s : Sort) → c.ask ≡ None → HasTaken c past → HasTaken (after_ask c s) (record past { acts = with_ask s past.acts })
ask_more c past s none h = record {
  requests = h.requests;
  calls = record { last = h.calls.last; waiting = h.calls.waiting; answered = h.calls.answered };
  asks = asks_more c.answered c.ask s past none h.asks;
  clock = h.clock;
}
