-- The counters are those of the past, whatever is taken.
use Rattle.std.proofs.Common.{◌≡◌, ℕ, ◌+◌, ◌<◌, Bool, true, false, ◌&&◌, List, [], ◌∷◌, ◌++◌, get_or, slice_index, max, Option, Some, None, refl, sym, ◌∙◌, ap, subst, arith, nat_eq, nat_lt, cond}
use Rattle.std.proofs.Math.ListN.{set}
use Rattle.std.specs.Option.{option_map_or}
use Rattle.std.proofs.lemmas.Grind.{fold-append}
use Rattle.std.proofs.lemmas.Bool.Decides.{nat_tests}
use Rattle.pws_event.specs.Requests.{RequestFields, IsRequest}
use Rattle.pws_event.specs.Times.{agreed_time}
use Rattle.pws_event.specs.Events.{IsEvent}
use Rattle.pws_event.specs.declared.readings.Sort.{Sort}
use Rattle.pws_event.specs.declared.readings.Sort.TheVariants as sort
use Rattle.pws_event.specs.declared.events.Event.{Event}
use Rattle.pws_event.specs.declared.events.Event.TheVariants as event
use Rattle.pws_event.specs.Readings.{ClockFields}
use Rattle.pws_event.specs.Effects.{last_of, is_next, is_sort, field_after, answers, answers_ask, takes_effect, time_after, clock_of}
use Rattle.pws_event.specs.Histories.{Past, after_event}
use Rattle.pws_event.specs.Counters.{Counters, IsCounters, HasTaken, counter_of, slot_of, is_waiting, would_take, would_answer, would_effect, ask_answered, counters_after}
use Rattle.pws_event.proofs.Latest.{requests_more, requests_same}
use Rattle.pws_event.proofs.Waiting.{answered_more, calls_same}
use Rattle.pws_event.proofs.Asked.{answer_same, asks_answered, asks_same}

within : (counters : List ℕ) (group none : ℕ) → group < 16 → get_or counters group 0 ≡ counter_of counters group none
within counters group none h = let b : nat_lt group 16 ≡ true = grind (arith, nat_tests) in ap (λ b. cond b (get_or counters group 0) none) (sym b)

-- the counters decide on a request as the rule does
pub request_same : (c : Counters) (past : Past) (r : RequestFields) → IsRequest r → HasTaken c past → would_take c r ≡ takes_effect c.me c.layout past.acts past.effects (event.Request r)
request_same c past r l h = ap (λ n. is_next c.me c.layout n (get_or c.low r.caller 0) r) (within c.last r.caller 0 l.caller ∙ h.requests.last r.caller) ∙ ap (λ n. is_next c.me c.layout (last_of r.caller past.effects) n r) (within c.low r.caller 1 l.caller ∙ h.requests.low r.caller)

-- and so on every event
pub effect_same : (c : Counters) (past : Past) (e : Event) → IsEvent e → HasTaken c past → would_effect c e ≡ takes_effect c.me c.layout past.acts past.effects e
effect_same c past event.Null l h = refl
effect_same c past (event.Request r) l h = request_same c past r l h
effect_same c past (event.Reply r) l h = h.calls.waiting r.called r.number
effect_same c past (event.Abort a) l h = h.calls.waiting a.called a.number
effect_same c past (event.Clock r) l h = answer_same c past r.ask sort.Clock h
effect_same c past (event.Random r) l h = answer_same c past r.ask sort.Random h

decided : (c next : Counters) (past : Past) (e : Event) (w t : Bool) → w ≡ t → HasTaken c past → (w ≡ true → HasTaken next (record past { effects = past.effects ++ e ∷ [] })) → HasTaken (cond w next c) (record past { effects = cond t (past.effects ++ e ∷ []) past.effects })
decided c next past e true t same h more = subst (λ t. HasTaken next (record past { effects = cond t (past.effects ++ e ∷ []) past.effects })) same (more refl)
decided c next past e false t same h more = subst (λ t. HasTaken c (record past { effects = cond t (past.effects ++ e ∷ []) past.effects })) same h

time_same : (f clock : ℕ) (past : Past) (e : Event) → ((t : ℕ) → time_after f t e ≡ t) → clock ≡ clock_of f past.effects → clock ≡ clock_of f (past.effects ++ e ∷ [])
time_same f clock past e same h = h ∙ sym (fold-append (time_after f) 0 past.effects (e ∷ []) ∙ same (clock_of f past.effects))

time_more : (f clock : ℕ) (past : Past) (r : ClockFields) → clock ≡ clock_of f past.effects → max clock (agreed_time f r.readings) ≡ clock_of f (past.effects ++ event.Clock r ∷ [])
time_more f clock past r h = ap (λ t. max t (agreed_time f r.readings)) h ∙ sym (fold-append (time_after f) 0 past.effects (event.Clock r ∷ []))

waiting_group : (slots : List ℕ) (called number : ℕ) → is_waiting slots called number ≡ true → called < 16
waiting_group slots called number h = grind (arith, nat_tests)

answer_more : (c : Counters) (past : Past) (e : Event) (called number : ℕ) → IsCounters c → HasTaken c past → is_waiting c.waiting called number ≡ true
    → ((field : RequestFields → ℕ) (caller value : ℕ) → field_after field caller value e ≡ value) → ((g n : ℕ) → answers g n e ≡ (nat_eq called g && nat_eq number n)) → answers_ask e ≡ false → ((f t : ℕ) → time_after f t e ≡ t)
    → HasTaken (record c { waiting = set c.waiting (slot_of called number) 0 }) (record past { effects = past.effects ++ e ∷ [] })
answer_more c past e called number s h w a b d t = record {
  requests = requests_same c.last c.low past.effects e a h.requests;
  calls = answered_more c.called c.waiting past e called number s.calls.1 (waiting_group c.waiting called number w) w (s.window called number w).0 b h.calls;
  asks = asks_same c.answered c.ask past e d h.asks;
  clock = time_same (slice_index c.layout c.me) c.clock past e (t (slice_index c.layout c.me)) h.clock;
}

asked_sort : (n ask : ℕ) (s : Sort) (o : Option Sort) → option_map_or (λ w. nat_eq (n + 1) ask && is_sort w s) o false ≡ true → (t : Sort) × (o ≡ Some t)
asked_sort n ask s None h = absurd (cc)
asked_sort n ask s (Some t) h = (t, refl)

pub event_more : (c : Counters) (past : Past) (e : Event) → IsCounters c → IsEvent e → HasTaken c past → HasTaken (counters_after c e) (after_event c.me c.layout past e)
event_more c past event.Null s l h = h
event_more c past (event.Request r) s l h =
    decided c (record c { last = set c.last r.caller r.number; low = set c.low r.caller r.low }) past (event.Request r) (would_take c r) (takes_effect c.me c.layout past.acts past.effects (event.Request r)) (request_same c past r l h) h (λ w. record {
      requests = requests_more c.last c.low past.effects r s.callers.0 s.callers.1 l.caller h.requests;
      calls = calls_same c.called c.waiting past (event.Request r) (λ g n. refl) h.calls;
      asks = asks_same c.answered c.ask past (event.Request r) refl h.asks;
      clock = time_same (slice_index c.layout c.me) c.clock past (event.Request r) (λ t. refl) h.clock;
    })
event_more c past (event.Reply r) s l h =
    decided c (record c { waiting = set c.waiting (slot_of r.called r.number) 0 }) past (event.Reply r) (is_waiting c.waiting r.called r.number) (takes_effect c.me c.layout past.acts past.effects (event.Reply r)) (h.calls.waiting r.called r.number) h
    (λ w. answer_more c past (event.Reply r) r.called r.number s h w (λ f k v. refl) (λ g n. refl) refl (λ f t. refl))
event_more c past (event.Abort a) s l h =
    decided c (record c { waiting = set c.waiting (slot_of a.called a.number) 0 }) past (event.Abort a) (is_waiting c.waiting a.called a.number) (takes_effect c.me c.layout past.acts past.effects (event.Abort a)) (h.calls.waiting a.called a.number) h
    (λ w. answer_more c past (event.Abort a) a.called a.number s h w (λ f k v. refl) (λ g n. refl) refl (λ f t. refl))
event_more c past (event.Clock r) s l h =
    decided c (record (ask_answered c) { clock = max c.clock (agreed_time (slice_index c.layout c.me) r.readings) }) past (event.Clock r) (would_answer c r.ask sort.Clock) (takes_effect c.me c.layout past.acts past.effects (event.Clock r)) (answer_same c past r.ask sort.Clock h) h (λ w.
    let t = asked_sort c.answered r.ask sort.Clock c.ask w in
    record {
      requests = requests_same c.last c.low past.effects (event.Clock r) (λ f k v. refl) h.requests;
      calls = calls_same c.called c.waiting past (event.Clock r) (λ g n. refl) h.calls;
      asks = asks_answered c.answered c.ask t.0 past (event.Clock r) t.1 refl h.asks;
      clock = time_more (slice_index c.layout c.me) c.clock past r h.clock;
    })
event_more c past (event.Random r) s l h =
    decided c (ask_answered c) past (event.Random r) (would_answer c r.ask sort.Random) (takes_effect c.me c.layout past.acts past.effects (event.Random r)) (answer_same c past r.ask sort.Random h) h (λ w.
    let t = asked_sort c.answered r.ask sort.Random c.ask w in
    record {
      requests = requests_same c.last c.low past.effects (event.Random r) (λ f k v. refl) h.requests;
      calls = calls_same c.called c.waiting past (event.Random r) (λ g n. refl) h.calls;
      asks = asks_answered c.answered c.ask t.0 past (event.Random r) t.1 refl h.asks;
      clock = time_same (slice_index c.layout c.me) c.clock past (event.Random r) (λ t. refl) h.clock;
    })
