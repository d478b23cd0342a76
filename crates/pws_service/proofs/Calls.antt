-- A lawful call may be noted.
use Rattle.std.proofs.Common.{◌≡◌, ◌⊎◌, inl, inr, ℕ, ◌+◌, ◌<◌, ◌≤◌, ◌==◌, Bool, true, false, not, ◌&&◌, ◌||◌, IsTrue, cond, nat_eq, nat_lt, List, [], ◌∷◌, ◌++◌, length, find, Option, Some, None, refl, sym, ◌∙◌, ap, arith, append_assoc}
use Rattle.std.specs.List.{fold, list_any, filter_map, count_by, range_with_len}
use Rattle.std.specs.Option.{unwrap_or}
use Rattle.std.proofs.lemmas.List.{append-nil}
use Rattle.std.proofs.lemmas.List.Elements.{filter_map-append}
use Rattle.std.proofs.lemmas.List.Sums.{fold-append, sum_by-append}
use Rattle.std.proofs.lemmas.Bool.Decides.{nat_tests}
use Rattle.pws_event.specs.declared.events.Event.{Event}
use Rattle.pws_event.specs.declared.events.Event.TheVariants as event
use Rattle.pws_base.specs.Replicas.{is_other}
use Rattle.pws_event.specs.Effects.{Call, last_call, answers, is_answered, waits}
use Rattle.pws_event.specs.Effects as effects
use Rattle.pws_event.specs.Counters.{Counters, HasTaken, CanCall, counter_of, is_waiting, least_waiting}
use Rattle.pws_service.specs.declared.keys.Key.{Key}
use Rattle.pws_service.specs.declared.acts.Act.{Act}
use Rattle.pws_service.specs.declared.acts.Act.TheVariants as act
use Rattle.pws_service.specs.Effects.{call_in, noted}
use Rattle.pws_service.specs.Keys.{same_key}
use Rattle.pws_service.specs.Lawful.{is_call, is_answer, to_group, calls_to, CallAfter, LawfulCalls, IsLawfulCall}
use Rattle.pws_service.specs.Noting.{led}

-- ---- the last number is the count

last_more : (g : ℕ) (before : List Act) (a : Act) → last_call (filter_map call_in (before ++ a ∷ [])) g ≡ fold (λ last (c : Call). cond (nat_eq c.called g) c.number last) (last_call (filter_map call_in before) g) (filter_map call_in (a ∷ []))
last_more g before a =
    ap (λ (cs : List Call). last_call cs g) (filter_map-append call_in before (a ∷ []))
    ∙ fold-append (λ last (c : Call). cond (nat_eq c.called g) c.number last) 0 (filter_map call_in before) (filter_map call_in (a ∷ []))

count_more : (g : ℕ) (before : List Act) (a : Act) → calls_to g (before ++ a ∷ []) ≡ calls_to g before + (0 + cond (to_group g a) 1 0)
count_more g before a = sum_by-append (λ (a : Act). cond (to_group g a) 1 0) before (a ∷ [])

here : (g called number last count own : ℕ) (b : Bool) → nat_eq called g ≡ b → last ≡ count → (called ≡ g → own ≡ count) → number ≡ own + 1 → cond b number last ≡ count + (0 + cond b 1 0)
here g called number last count own true e h f n = let q : called ≡ g = grind (arith, nat_tests) in let o = f q in omega arith
here g called number last count own false e h f n = omega arith

kept : (last count : ℕ) → last ≡ count → last ≡ count + (0 + 0)
kept last count h = omega arith

step : (me : ℕ) (layout : List ℕ) (es : List Event) (g : ℕ) (before : List Act) (a : Act) → last_call (filter_map call_in before) g ≡ calls_to g before → CallAfter me layout es before a → fold (λ last (c : Call). cond (nat_eq c.called g) c.number last) (last_call (filter_map call_in before) g) (filter_map call_in (a ∷ [])) ≡ calls_to g before + (0 + cond (to_group g a) 1 0)
step me layout es g before (act.Call called number low body timeout) h l = here g called number (last_call (filter_map call_in before) g) (calls_to g before) (calls_to called before) (nat_eq called g) refl h (λ q. ap (λ (n : ℕ). calls_to n before) q) l.number
step me layout es g before (act.Reply caller number body) h l = kept _ _ h
step me layout es g before (act.AskClock ask) h l = kept _ _ h
step me layout es g before (act.AskRandom ask) h l = kept _ _ h
step me layout es g before act.Halted h l = kept _ _ h

last_is_count : (me : ℕ) (layout : List ℕ) (es : List Event) (g : ℕ) (before acts : List Act) → last_call (filter_map call_in before) g ≡ calls_to g before → LawfulCalls me layout es before acts → last_call (filter_map call_in (before ++ acts)) g ≡ calls_to g (before ++ acts)
last_is_count me layout es g before [] h l = rw (append-nil before) h
last_is_count me layout es g before (a ∷ acts) h l =
    let s : last_call (filter_map call_in (before ++ a ∷ [])) g ≡ calls_to g (before ++ a ∷ []) = last_more g before a ∙ (step me layout es g before a h l.0 ∙ sym (count_more g before a)) in
    let t = last_is_count me layout es g (before ++ a ∷ []) acts s l.1 in
    rw (← append_assoc before (a ∷ []) acts) t

-- ---- a call that waits was made, and isn't answered

flip : (a b c d : ℕ) → (nat_eq a b && nat_eq c d) ≡ (nat_eq b a && nat_eq d c)
flip a b c d = grind (arith, nat_tests)

made : (k : Key) (acts : List Act) → list_any (effects.is_call k.group k.number) (filter_map call_in acts) ≡ list_any (is_call k) acts
made k [] = refl
made k (act.Call called number low body timeout ∷ acts) =
    ap (λ b. b || list_any (effects.is_call k.group k.number) (filter_map call_in acts)) (flip called k.group number k.number)
    ∙ ap (λ b. (nat_eq k.group called && nat_eq k.number number) || b) (made k acts)
made k (act.Reply caller number body ∷ acts) = made k acts
made k (act.AskClock ask ∷ acts) = made k acts
made k (act.AskRandom ask ∷ acts) = made k acts
made k (act.Halted ∷ acts) = made k acts

answered_by : (k : Key) (e : Event) → answers k.group k.number e ≡ is_answer k e
answered_by k event.Null = refl
answered_by k (event.Request r) = refl
answered_by k (event.Reply r) = flip r.called k.group r.number k.number
answered_by k (event.Abort a) = flip a.called k.group a.number k.number
answered_by k (event.Clock c) = refl
answered_by k (event.Random r) = refl

answered : (k : Key) (es : List Event) → is_answered k.group k.number es ≡ list_any (is_answer k) es
answered k [] = refl
answered k (e ∷ es) = ap (λ b. b || is_answered k.group k.number es) (answered_by k e) ∙ ap (λ b. is_answer k e || b) (answered k es)

both : (a b : Bool) → (a && not b) ≡ true → (a ≡ true) × (b ≡ false)
both true false h = (refl, refl)
both true true h = let i : ◌≡◌ {A = Bool} false true = h in absurd (cc)
both false b h = let i : ◌≡◌ {A = Bool} false true = h in absurd (cc)

-- a call of the group that waits is at or above the low number
above : (me : ℕ) (layout : List ℕ) (c : Counters) (es : List Event) (before : List Act) (k : Key) (low : ℕ) (body : List ℕ) → HasTaken c (led before es) → IsLawfulCall me layout es before k low body → (x : ℕ) → is_waiting c.waiting k.group x ≡ true → k.number < x + 16
unfolding noted
above me layout c es before k low body h l x w =
    let j : Key = record { group = k.group; number = x } in
    let t = both (list_any (effects.is_call k.group x) (filter_map call_in before)) (is_answered k.group x es) (sym (h.calls.waiting k.group x) ∙ w) in
    let m : low ≤ x = l.low_waiting j refl (sym (made j before) ∙ t.0) (sym (answered j es) ∙ t.1) in
    omega (arith, m, l.window)

room_at : (p : ℕ → Bool) (x : ℕ) (xs : List ℕ) (number none : ℕ) (b : Bool) → p x ≡ b → ((x : ℕ) → p x ≡ true → number < x + 16) → number < unwrap_or (find p xs) none + 16 → number < unwrap_or (cond b (Some x) (find p xs)) none + 16
room_at p x xs number none true e f h = f x e
room_at p x xs number none false e f h = h

room_in : (p : ℕ → Bool) (xs : List ℕ) (number none : ℕ) → ((x : ℕ) → p x ≡ true → number < x + 16) → number < none + 16 → number < unwrap_or (find p xs) none + 16
room_in p [] number none f h = h
room_in p (x ∷ xs) number none f h = room_at p x xs number none (p x) refl f (room_in p xs number none f h)

other : (me : ℕ) (layout : List ℕ) (g : ℕ) → g < length layout → nat_eq g me ≡ false → IsTrue (is_other me layout g)
other me layout g a b = grind (arith, nat_tests)

pub may_call : (c : Counters) (es : List Event) (before : List Act) (k : Key) (low : ℕ) (body : List ℕ) → HasTaken c (led before es) → LawfulCalls c.me c.layout es [] before → IsLawfulCall c.me c.layout es before k low body → CanCall c k.group k.number
unfolding noted
may_call c es before k low body h calls l =
    let count = last_is_count c.me c.layout es k.group [] before refl calls in
    let next : k.number ≡ counter_of c.called k.group 0 + 1 = l.number ∙ ap (λ (n : ℕ). n + 1) (sym count ∙ sym (h.calls.last k.group)) in
    record {
      other = other c.me c.layout k.group l.group l.other;
      next = next;
      room = room_in (is_waiting c.waiting k.group) (range_with_len _ _) k.number (counter_of c.called k.group 0 + 1) (above c.me c.layout c es before k low body h l) (omega (arith, next));
      small = l.most;
    }
