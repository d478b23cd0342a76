-- The effects of a run stay those of its state's list.
use Rattle.std.proofs.Common.{◌≡◌, ℕ, Bool, true, false, not, ◌&&◌, cond, List, [], ◌∷◌, ◌++◌, length, drop, Option, Some, None, slice_get, refl, sym, ◌∙◌, ap}
use Rattle.std.specs.Prelude.{if◌then◌else◌}
use Rattle.std.specs.List.{fold}
use Rattle.std.specs.FinMap.{contains_key, insert}
use Rattle.sha2.specs.Sha256.{sha256}
use Rattle.std.proofs.lemmas.List.Elements.{filter_map-append}
use Rattle.std.proofs.lemmas.List.Sums.{fold-append}
use Rattle.pws_event.specs.declared.events.Event.{Event}
use Rattle.pws_event.specs.Events.{digest_of}
use Rattle.pws_event.specs.Effects.{with_event}
use Rattle.pws_event.specs.Lists.{PlacedEvent, placed, would_pass, whole_events}
use Rattle.pws_service.specs.declared.acts.Act.{Act}
use Rattle.pws_service.specs.declared.acts.Act.TheVariants as act
use Rattle.pws_service.specs.declared.keys.Key.{Key}
use Rattle.pws_service.specs.Effects.{noted, takes_effect_after}
use Rattle.pws_msg.specs.Packets.{VoucherFields}
use Rattle.pws_runs.specs.ReplicaStates.{ReplicaState, Input, Run, Serve, Part, Executed, Acted, PassedOver, own_f, call_key}
use Rattle.pws_runs.specs.declared.errors.Ignored.TheVariants as ignored
use Rattle.pws_protocol.specs.Reactions as heard
use Rattle.pws_runs.specs.Calls.{CallFields, effects_at, kept_reply, waiting_calls}
use Rattle.pws_runs.specs.Packets.{is_responder, reply_out, part_out}
use Rattle.pws_runs.specs.Bundles.{Stepped, still, bundled, bundle_at, with_bundle, with_part, is_ready, matching, heard_part, fits_part}
use Rattle.pws_runs.specs.Ticks.{key_of, found_at, found_by, with_expired, over, ticked}
use Rattle.pws_runs.specs.Steps.{Execution, put, at_state, started, act_sent, act_done, acts_done, parted, tick_of, tick_sent, voted, takes, with_effect, void_at, pushed, settled_state, placed_state, step, step_with, run_from}
use Rattle.pws_runs.specs.Courses.{Phase, starts, ignores, fetches, parts, ticks, votes, executes, Course, rests, goes}
use Rattle.pws_runs.specs.Laws.{IsLed}
use Rattle.pws_runs.proofs.Courses.{step_course}

-- the parts of a state that the effects are read from are the same
abbrev Same : ReplicaState → ReplicaState → Type 0
Same s t = (t.me ≡ s.me) × (t.keys ≡ s.keys) × (t.places ≡ s.places)

same : (s : ReplicaState) → Same s s
same s = (refl, refl, refl)

thence : (s t u : ReplicaState) → Same s t → Same t u → Same s u
thence s t u a b = (b.0 ∙ a.0, b.1 ∙ a.1, b.2 ∙ a.2)

-- and the effects of the run
abbrev SameRun : Run → Run → Type 0
SameRun a b = Same a.state b.state × (b.effects ≡ a.effects)

then_run : (a b c : Run) → SameRun a b → SameRun b c → SameRun a c
then_run a b c x y = (thence a.state b.state c.state x.0 y.0, y.1 ∙ x.1)

led_on : (serve : Serve) (a b : Run) → SameRun a b → IsLed serve a → IsLed serve b
led_on serve a b x h = rw (x.0.0, x.0.1, x.0.2, x.1) h

if_same : (b : Bool) (s : ReplicaState) (x y : Stepped) → Same s x.state → Same s y.state → Same s (cond b x y).state
if_same true s x y g h = g
if_same false s x y g h = h

bundled_same : (s : ReplicaState) (k : Key) (body : Option (List ℕ)) → Same s (bundled s k body).state
unfolding bundled
bundled_same s k None = same s
bundled_same s k (Some body) =
    if_same (is_ready (own_f s) (bundle_at s k) (sha256 body)) s
    (still (with_bundle s k (record (bundle_at s k) { is_sent = true })) (reply_out s k body None (matching (bundle_at s k) (sha256 body)) ∷ []))
    (still s []) (same s) (same s)

part_same : (s : ReplicaState) (acts : List Act) (effects : List Event) (sender : ℕ) (k : Key) (x : Part) → Same s (heard_part s acts effects sender k x).state
unfolding heard_part
part_same s acts effects sender k x =
    let t = with_bundle s k (with_part (bundle_at s k) sender x) in
    let y = bundled t k (kept_reply acts effects k) in
    let z = if contains_key (bundle_at s k).parts sender then still s (PassedOver ignored.Already ∷ []) else y in
    if_same (not (fits_part s effects k)) s (still s (PassedOver ignored.Outside ∷ [])) z (same s)
    (if_same (contains_key (bundle_at s k).parts sender) s (still s (PassedOver ignored.Already ∷ [])) y (same s) (bundled_same t k (kept_reply acts effects k)))

run_if : (b : Bool) (a x y : Run) → SameRun a x → SameRun a y → SameRun a (cond b x y)
run_if true a x y g h = g
run_if false a x y g h = h

sent_same : (serve : Serve) (r : Run) (a : Act) → SameRun r (act_sent serve r a)
sent_same serve r (act.Call called number low body timeout) = (same r.state, refl)
sent_same serve r (act.Reply caller number body) =
    run_if (is_responder r.state (call_key caller number)) r
    (at_state r (bundled r.state (call_key caller number) (kept_reply (serve r.effects) r.effects (call_key caller number))))
    (put r (part_out r.state (call_key caller number) body ∷ []))
    (bundled_same r.state (call_key caller number) (kept_reply (serve r.effects) r.effects (call_key caller number)), refl)
    (same r.state, refl)
sent_same serve r (act.AskClock ask) = (same r.state, refl)
sent_same serve r (act.AskRandom ask) = (same r.state, refl)
sent_same serve r act.Halted = (same r.state, refl)

acts_same : (serve : Serve) (r : Run) (acts : List Act) → SameRun r (acts_done serve r acts)
unfolding acts_done
acts_same serve r [] = (same r.state, refl)
acts_same serve r (a ∷ acts) = then_run r (act_done serve r a) (acts_done serve (act_done serve r a) acts) (sent_same serve (put r (Acted a ∷ [])) a) (acts_same serve (act_done serve r a) acts)

started_same : (serve : Serve) (r : Run) → SameRun r (started serve r)
unfolding started
started_same serve r =
    let q : Run = record r { state = record r.state { started = true } } in
    run_if r.state.started r r (acts_done serve q (serve [])) (same r.state, refl) (acts_same serve q (serve []))

parted_same : (serve : Serve) (r : Run) (index : ℕ) (k : Key) (digest : List ℕ) (v : Option VoucherFields) → SameRun r (parted serve r index k digest v)
parted_same serve r index k digest None = (same r.state, refl)
parted_same serve r index k digest (Some v) = (part_same r.state (serve r.effects) r.effects index k (record { digest = digest; voucher = v }), refl)

found_same_if : (b : Bool) (s t : ReplicaState) → Same s t → Same s (cond b s t)
found_same_if true s t h = same s
found_same_if false s t h = h

found_same : (ms : ℕ) (s : ReplicaState) (calls : List CallFields) → Same s (found_by s ms calls)
found_same ms s [] = same s
found_same ms s (c ∷ calls) = thence s (found_at ms s c) (found_by (found_at ms s c) ms calls) (found_same_if (contains_key s.first_ticks (key_of c)) s (record s { first_ticks = insert s.first_ticks (key_of c) ms }) (same s)) (found_same ms (found_at ms s c) calls)

expired_same : (s : ReplicaState) (calls : List CallFields) → Same s (fold with_expired s calls)
expired_same s [] = same s
expired_same s (c ∷ calls) = expired_same (with_expired s c) calls

ticked_same : (s : ReplicaState) (ms : ℕ) (random : List ℕ) (acts : List Act) (effects : List Event) → Same s (ticked s ms random acts effects).state
unfolding ticked
ticked_same s ms random acts effects =
    let t = found_by s ms (waiting_calls acts effects) in
    thence s t (fold with_expired t (over t ms (waiting_calls acts effects))) (found_same ms s (waiting_calls acts effects)) (expired_same t (over t ms (waiting_calls acts effects)))

voted_same : (serve : Serve) (r : Run) (i : heard.Input) → SameRun r (voted serve r i)
unfolding voted
voted_same serve r i = (same r.state, refl)

-- ---- a place more

more : (serve : Serve) (me : ℕ) (layout : List ℕ) (places : List PlacedEvent) (p : PlacedEvent) →
    effects_at serve me layout (places ++ p ∷ []) ≡ fold (with_event me layout (λ es. noted (serve es))) (effects_at serve me layout places) (whole_events (p ∷ []))
more serve me layout places p =
    ap (λ (es : List Event). fold (with_event me layout (λ ds. noted (serve ds))) [] es) (filter_map-append (λ (q : PlacedEvent). q.event) places (p ∷ []))
    ∙ fold-append (with_event me layout (λ es. noted (serve es))) [] (whole_events places) (whole_events (p ∷ []))

by_bound : (serve : Serve) (me : ℕ) (layout : List ℕ) (es : List Event) (e : Event) (b : Bool) →
    fold (with_event me layout (λ ds. noted (serve ds))) es (whole_events (record { digest = digest_of e; event = cond b None (Some e) } ∷ []))
    ≡ cond (not b && takes_effect_after me layout (serve es) es e) (es ++ e ∷ []) es
by_bound serve me layout es e true = refl
by_bound serve me layout es e false = refl

follow : (serve : Serve) (r : Run) (e : Event) → IsLed serve r →
    cond (takes serve r e) (r.effects ++ e ∷ []) r.effects ≡ effects_at serve r.state.me.group r.state.keys.layout (r.state.places ++ placed r.state.places e ∷ [])
unfolding takes
follow serve r e h =
    sym (more serve r.state.me.group r.state.keys.layout r.state.places (placed r.state.places e)
    ∙ by_bound serve r.state.me.group r.state.keys.layout (effects_at serve r.state.me.group r.state.keys.layout r.state.places) e (would_pass r.state.places e)
    ∙ ap (λ (es : List Event). cond (not (would_pass r.state.places e) && takes_effect_after r.state.me.group r.state.keys.layout (serve es) es e) (es ++ e ∷ []) es) (sym h))

effect_led : (serve : Serve) (r : Run) (x : Execution) →
    r.effects ++ x.event ∷ [] ≡ effects_at serve r.state.me.group r.state.keys.layout (r.state.places ++ placed r.state.places x.event ∷ []) → IsLed serve (with_effect serve r x (r.effects ++ x.event ∷ []))
unfolding settled_state
effect_led serve r x h =
    let es = r.effects ++ x.event ∷ [] in
    let q : Run = record { state = settled_state (placed_state r.state x.event) (serve es) es; effects = es; outs = r.outs ++ Executed x.place x.event true ∷ [] } in
    led_on serve q (acts_done serve q (drop (length (serve r.effects)) (serve es))) (acts_same serve q (drop (length (serve r.effects)) (serve es))) h

pushed_if : (serve : Serve) (r : Run) (x : Execution) (b : Bool) →
    cond b (r.effects ++ x.event ∷ []) r.effects ≡ effects_at serve r.state.me.group r.state.keys.layout (r.state.places ++ placed r.state.places x.event ∷ [])
    → IsLed serve (cond b (with_effect serve r x (r.effects ++ x.event ∷ [])) (void_at r x))
pushed_if serve r x true h = effect_led serve r x h
pushed_if serve r x false h = h

pushed_led : (serve : Serve) (r : Run) (x : Execution) → IsLed serve r → IsLed serve (pushed serve r x)
unfolding pushed
pushed_led serve r x h = pushed_if serve r x (takes serve r x.event) (follow serve r x.event h)

-- ---- phases

phase_led : (serve : Serve) (given : Input) (a b : Run) → Phase serve given a b → IsLed serve a → IsLed serve b
phase_led serve given a b (starts r) h = led_on serve r (started serve r) (started_same serve r) h
phase_led serve given a b (ignores r e u) h = h
phase_led serve given a b (fetches r c w g e) h = h
phase_led serve given a b (parts r c x g e) h =
    let k = call_key x.caller x.number in
    led_on serve r (parted serve r c.packet.sender.index k x.digest (slice_get c.packet.vouchers 0)) (parted_same serve r c.packet.sender.index k x.digest (slice_get c.packet.vouchers 0)) h
phase_led serve given a b (ticks r ms random g) h = led_on serve r (tick_sent r (tick_of serve r ms random)) (ticked_same r.state ms random (serve r.effects) r.effects, refl) h
phase_led serve given a b (votes r i g e) h = led_on serve r (voted serve r i) (voted_same serve r i) h
phase_led serve given a b (executes r i x g e) h = pushed_led serve (voted serve r i) x (led_on serve r (voted serve r i) (voted_same serve r i) h)

course_led : (serve : Serve) (given : Input) (a b : Run) → Course serve given a b → IsLed serve a → IsLed serve b
course_led serve given a b (rests r) h = h
course_led serve given a b (goes r m q p c) h = course_led serve given m q c (phase_led serve given r m p h)

pub step_led : (serve : Serve) (s : ReplicaState) (i : Input) → IsLed serve (step serve s i)
step_led serve s i =
    let es = effects_at serve s.me.group s.keys.layout s.places in
    course_led serve i (run_from s es) (step_with serve es s i) (step_course serve es s i) refl
