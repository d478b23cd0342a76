-- What an instruction and a taking can come to, by cases: what holds in each case holds of each move. It is here for the proofs alone.
use Rattle.std.proofs.Common.{◌≡◌, ◌⊎◌, inl, inr, ℕ, ◌+◌, ◌-◌, ◌<◌, Bool, true, false, cond, nat_eq, nat_lt, nat_le, List, [], ◌∷◌, ◌++◌, slice_index, slice_get, Option, Some, None, refl, sym, ◌∙◌, ap, subst, arith}
use Rattle.std.specs.Option.{option_map, option_and_then, unwrap_or}
use Rattle.std.proofs.lemmas.Bool.Decides.{nat_tests}
use Rattle.rand_chacha.specs.ChaCha.{ChaCha}
use Rattle.pws_script.specs.declared.instructions.Instruction.{Instruction}
use Rattle.pws_script.specs.declared.instructions.Instruction.TheVariants as line
use Rattle.pws_event.specs.Requests.{RequestFields}
use Rattle.pws_event.specs.declared.events.Event.{Event}
use Rattle.pws_event.specs.declared.events.Event.TheVariants as event
use Rattle.pws_service.specs.declared.keys.Key.{Key}
use Rattle.pws_service.specs.declared.acts.Act.{Act}
use Rattle.pws_service.specs.declared.acts.Act.TheVariants as act
use Rattle.pws_driver.specs.declared.values.Value.{Value}
use Rattle.pws_driver.specs.declared.values.Value.TheVariants as value
use Rattle.pws_driver.specs.declared.cores.Wait.{Wait}
use Rattle.pws_driver.specs.declared.cores.Mode.{Mode}
use Rattle.pws_driver.specs.declared.cores.Mode.TheVariants as mode
use Rattle.pws_driver.specs.declared.cores.Core.{Core}
use Rattle.pws_driver.specs.Services.{Service}
use Rattle.pws_service.specs.Keys.{same_key}
use Rattle.pws_driver.specs.Keys.{has_key, without}
use Rattle.pws_driver.specs.Values.{number_of, text_of, digits_or_text_of, call_of, request_of, message_of, same_value}
use Rattle.pws_driver.specs.Moves.{Moved, budget, quiet, halted, waiting, held, put}
use Rattle.pws_driver.specs.Instructions.{put_some, value_of, bit_of, with_two, sum_of, difference_of, less_of, joined_of, bounded, jumped, low_of, may_call, called_with, call_from, await_calls, answer_with, ask_by, drawn, perform, counted, line_of, begin}
use Rattle.pws_service.specs.Keys.{request_key, reply_key, abort_key}
use Rattle.pws_service.specs.Lawful.{is_clock, is_random}
use Rattle.pws_driver.specs.Takings.{wanted_by, wants_in, wants, put_key, hand, request_taken, take_by, take_answer, take_clock, take_seed, when_halted, takes_in, takes}
use Rattle.pws_service.specs.Lawful.{is_answer}

-- ---- an instruction

pub record Instructed (P : Moved → Type 0) (s : Service) (c : Core) : Type 0 where
  pub halts : P (halted c)
  pub goes_on : (registers : List Value) (line : ℕ) (stream : Option ChaCha) → P (quiet (record c { registers = registers; line = line; stream = stream }))
  pub waits : (w : Wait) → P (waiting c w)
  pub calls : (d g ms n : ℕ) (text body : List ℕ) → n ≡ slice_index c.called g + 1 → may_call s g n (low_of c g n) ≡ true → s.words.call_text s.me (record { group = g; number = n }) text ≡ Some body → P (called_with c d g n (low_of c g n) body ms)
  pub replies : (k : Key) (message text : List ℕ) → has_key c.open_requests k ≡ true → P (record { core = record c { open_requests = without k c.open_requests }; acts = act.Reply k.group k.number (s.words.reply_text s.me k message text) ∷ [] })
  pub asks_clock : (d : ℕ) → c.asks < 1000000 → P (record { core = record c { mode = mode.AskingClock d; asks = c.asks + 1 }; acts = act.AskClock (c.asks + 1) ∷ [] })
  pub asks_seed : c.asks < 1000000 → P (record { core = record c { mode = mode.AskingSeed; asks = c.asks + 1 }; acts = act.AskRandom (c.asks + 1) ∷ [] })

abbrev Moves : (Moved → Type 0) → Core → Option Moved → Type 0
Moves P c o = P (unwrap_or o (halted c))

put_holds : (P : Moved → Type 0) (s : Service) (c : Core) (d : ℕ) (o : Option Value) → Instructed P s c → Moves P c (put_some c d o)
put_holds P s c d None h = h.halts
put_holds P s c d (Some v) h = h.goes_on (put c d v).registers c.line c.stream

jump_holds : (P : Moved → Type 0) (s : Service) (c : Core) (l : ℕ) (b : Bool) → Instructed P s c → P (quiet (cond b c (record c { line = l - 1 })))
jump_holds P s c l true h = h.goes_on c.registers c.line c.stream
jump_holds P s c l false h = h.goes_on c.registers (l - 1) c.stream

map_holds : {A : Type 0} (P : Moved → Type 0) (c : Core) (f : A → Moved) (o : Option A) → P (halted c) → ((a : A) → P (f a)) → Moves P c (option_map f o)
map_holds P c f None z h = z
map_holds P c f (Some a) z h = h a

then_holds : {A : Type 0} (P : Moved → Type 0) (c : Core) (f : A → Option Moved) (o : Option A) → P (halted c) → ((a : A) → Moves P c (f a)) → Moves P c (option_and_then f o)
then_holds P c f None z h = z
then_holds P c f (Some a) z h = h a

if_holds : (P : Moved → Type 0) (c : Core) (b : Bool) (x : Moved) → P (halted c) → (b ≡ true → P x) → Moves P c (cond b (Some x) None)
if_holds P c true x z h = h refl
if_holds P c false x z h = z

unless_holds : (P : Moved → Type 0) (c : Core) (b : Bool) (x : Moved) → P (halted c) → (b ≡ false → P x) → Moves P c (cond b None (Some x))
unless_holds P c true x z h = z
unless_holds P c false x z h = h refl

below_limit : (n : ℕ) → nat_le 1000000 n ≡ false → n < 1000000
below_limit n h = grind (arith, nat_tests)

drawn_holds : (P : Moved → Type 0) (s : Service) (c : Core) (d bound : ℕ) (o : Option ChaCha) → Instructed P s c → Moves P c (drawn c d bound o)
drawn_holds P s c d bound None h = h.halts
drawn_holds P s c d bound (Some g) h = unless_holds P c (nat_eq bound 0) _ h.halts (λ e. h.goes_on _ c.line _)

body_holds : (P : Moved → Type 0) (s : Service) (c : Core) (d g ms n : ℕ) (text : List ℕ) (o : Option (List ℕ)) → n ≡ slice_index c.called g + 1 → may_call s g n (low_of c g n) ≡ true → s.words.call_text s.me (record { group = g; number = n }) text ≡ o → Instructed P s c → Moves P c (option_map (λ body. called_with c d g n (low_of c g n) body ms) o)
body_holds P s c d g ms n text None e may f h = h.halts
body_holds P s c d g ms n text (Some body) e may f h = h.calls d g ms n text body e may f

calls_hold : (P : Moved → Type 0) (s : Service) (c : Core) (d g ms n : ℕ) (text : List ℕ) (b : Bool) → n ≡ slice_index c.called g + 1 → may_call s g n (low_of c g n) ≡ b → Instructed P s c → Moves P c (cond b (option_map (λ body. called_with c d g n (low_of c g n) body ms) (s.words.call_text s.me (record { group = g; number = n }) text)) None)
calls_hold P s c d g ms n text true e may h = body_holds P s c d g ms n text (s.words.call_text s.me (record { group = g; number = n }) text) e may refl h
calls_hold P s c d g ms n text false e may h = h.halts

pub perform_holds : (P : Moved → Type 0) (s : Service) (c : Core) (i : Instruction) → Instructed P s c → Moves P c (perform s c i)
perform_holds P s c (line.Set d l) h = put_holds P s c d (Some (value_of l)) h
perform_holds P s c (line.Add d a b) h = put_holds P s c d (with_two sum_of (number_of (held c a)) (number_of (held c b))) h
perform_holds P s c (line.Sub d a b) h = put_holds P s c d (with_two difference_of (number_of (held c a)) (number_of (held c b))) h
perform_holds P s c (line.Less d a b) h = put_holds P s c d (with_two less_of (number_of (held c a)) (number_of (held c b))) h
perform_holds P s c (line.Same d a b) h = put_holds P s c d (Some (bit_of (same_value s.words.same_message (held c a) (held c b)))) h
perform_holds P s c (line.Jump l a) h = map_holds P c (λ n. quiet (jumped c l n)) (number_of (held c a)) h.halts (λ n. jump_holds P s c l (nat_eq n 0) h)
perform_holds P s c (line.Join d a b) h = put_holds P s c d (with_two joined_of (digits_or_text_of (held c a)) (digits_or_text_of (held c b))) h
perform_holds P s c (line.Field d m name) h = put_holds P s c d (option_and_then (λ message. bounded (s.words.field_text message name)) (message_of (held c m))) h
perform_holds P s c (line.Receive r m) h = h.waits _
perform_holds P s c (line.Call d g t ms) h = then_holds P c (call_from s c d g ms) (text_of (held c t)) h.halts (λ text. calls_hold P s c d g ms (slice_index c.called g + 1) text _ refl refl h)
perform_holds P s c (line.Await m r) h = then_holds P c (λ k. await_calls c None m (k ∷ [])) (call_of (held c r)) h.halts (λ k. unless_holds P c _ _ h.halts (λ e. h.waits _))
perform_holds P s c (line.AwaitAny d m among) h = unless_holds P c _ _ h.halts (λ e. h.waits _)
perform_holds P s c (line.Next d m) h = h.waits _
perform_holds P s c (line.Reply r t) h =
    then_holds P c (λ q. option_and_then (answer_with s c q) (text_of (held c t))) (request_of (held c r)) h.halts
    (λ q. then_holds P c (answer_with s c q) (text_of (held c t)) h.halts (λ text. if_holds P c (has_key c.open_requests q.0) _ h.halts (λ e. h.replies q.0 q.1 text e)))
perform_holds P s c (line.Clock d) h = unless_holds P c (nat_le 1000000 c.asks) _ h.halts (λ e. h.asks_clock d (below_limit c.asks e))
perform_holds P s c line.Seed h = unless_holds P c (nat_le 1000000 c.asks) _ h.halts (λ e. h.asks_seed (below_limit c.asks e))
perform_holds P s c (line.Draw d n) h = then_holds P c (λ bound. drawn c d bound c.stream) (number_of (held c n)) h.halts (λ bound. drawn_holds P s c d bound c.stream h)
perform_holds P s c line.Stop h = h.halts

some_left : (n : ℕ) → nat_eq n 0 ≡ false → 0 < n
some_left n h = grind (arith, nat_tests)

begin_in : (P : Moved → Type 0) (s : Service) (c : Core) (b : Bool) (o : Option Instruction) → nat_eq c.left 0 ≡ b → P (halted c) → (0 < c.left → Instructed P s (counted c)) → P (cond b (halted c) (line_of s c o))
begin_in P s c true o e z h = z
begin_in P s c false None e z h = z
begin_in P s c false (Some i) e z h = perform_holds P s (counted c) i (h (some_left c.left e))

pub begin_holds : (P : Moved → Type 0) (s : Service) (c : Core) → P (halted c) → (0 < c.left → Instructed P s (counted c)) → P (begin s c)
unfolding begin
begin_holds P s c z h = begin_in P s c (nat_eq c.left 0) (slice_get s.script c.line) refl z h

-- ---- a taking

pub record Taken (P : Moved → Type 0) (s : Service) (c : Core) (e : Event) : Type 0 where
  pub nothing : P (quiet c)
  pub request : (w : Wait) (r : RequestFields) (registers : List Value) → c.mode ≡ mode.Waiting w → e ≡ event.Request r → P (quiet (record c { mode = mode.Ready; left = budget; registers = registers; open_requests = c.open_requests ++ request_key r ∷ [] }))
  pub refused : (w : Wait) (r : RequestFields) (fault : List ℕ) → c.mode ≡ mode.Waiting w → e ≡ event.Request r → s.words.refusal_of s.me (request_key r) r.body ≡ Some fault → P (record { core = record c { left = budget }; acts = act.Reply r.caller r.number fault ∷ [] })
  pub answer : (w : Wait) (k : Key) (registers : List Value) → c.mode ≡ mode.Waiting w → is_answer k e ≡ true → P (quiet (record c { mode = mode.Ready; left = budget; registers = registers; pending = without k c.pending }))
  pub clock : (d now : ℕ) (registers : List Value) → c.mode ≡ mode.AskingClock d → is_clock c.asks e ≡ true → P (quiet (record c { mode = mode.Ready; left = budget; registers = registers; clock = now }))
  pub seed : (stream : Option ChaCha) → c.mode ≡ mode.AskingSeed → is_random c.asks e ≡ true → P (quiet (record c { mode = mode.Ready; left = budget; stream = stream }))
  pub told : (r : RequestFields) → c.mode ≡ mode.Halted → e ≡ event.Request r → P (record { core = c; acts = act.Reply r.caller r.number (s.words.halted_text s.me (request_key r) r.body) ∷ [] })

hand_holds : (P : Moved → Type 0) (o : Option ℕ) (c : Core) (v : Value) (r : ℕ) (m : List ℕ) → ((registers : List Value) → P (quiet (record c { registers = registers }))) → P (quiet (put (put_key o c v) r (value.Message m)))
hand_holds P None c v r m h = h _
hand_holds P (Some q) c v r m h = h _

request_holds : (P : Moved → Type 0) (s : Service) (w : Wait) (c : Core) (r : RequestFields) (o : Option (List ℕ)) → c.mode ≡ mode.Waiting w → s.words.refusal_of s.me (request_key r) r.body ≡ o → Taken P s c (event.Request r) → P (request_taken w c (request_key r) r.body o)
request_holds P s w c r None m e h =
    let d : Core = record c { mode = mode.Ready; left = budget; open_requests = c.open_requests ++ request_key r ∷ [] } in
    hand_holds P w.key d (value.Request (request_key r) r.body) w.message r.body (λ registers. h.request w r registers m refl)
request_holds P s w c r (Some fault) m e h = h.refused w r fault m refl e

answer_holds : (P : Moved → Type 0) (s : Service) (w : Wait) (c : Core) (e : Event) (k : Key) (message : List ℕ) → c.mode ≡ mode.Waiting w → is_answer k e ≡ true → Taken P s c e → P (take_answer w c k message)
answer_holds P s w c e k message m a h =
    let d : Core = record c { mode = mode.Ready; left = budget; pending = without k c.pending } in
    hand_holds P w.key d (value.Call k) w.message message (λ registers. h.answer w k registers m a)

same_self : (k : Key) → same_key k k ≡ true
same_self k = grind (arith, nat_tests)

wait_holds : (P : Moved → Type 0) (s : Service) (w : Wait) (c : Core) (e : Event) → c.mode ≡ mode.Waiting w → Taken P s c e → P (take_by s w c e)
wait_holds P s w c event.Null m h = h.nothing
wait_holds P s w c (event.Request r) m h = request_holds P s w c r (s.words.refusal_of s.me (request_key r) r.body) m refl h
wait_holds P s w c (event.Reply r) m h = answer_holds P s w c (event.Reply r) (reply_key r) _ m (same_self (reply_key r)) h
wait_holds P s w c (event.Abort a) m h = answer_holds P s w c (event.Abort a) (abort_key a) _ m (same_self (abort_key a)) h
wait_holds P s w c (event.Clock r) m h = h.nothing
wait_holds P s w c (event.Random r) m h = h.nothing

clock_holds : (P : Moved → Type 0) (s : Service) (f d : ℕ) (c : Core) (e : Event) → c.mode ≡ mode.AskingClock d → is_clock c.asks e ≡ true → Taken P s c e → P (take_clock f d c e)
clock_holds P s f d c event.Null m a h = h.nothing
clock_holds P s f d c (event.Request r) m a h = h.nothing
clock_holds P s f d c (event.Reply r) m a h = h.nothing
clock_holds P s f d c (event.Abort r) m a h = h.nothing
clock_holds P s f d c (event.Clock r) m a h = h.clock d _ _ m a
clock_holds P s f d c (event.Random r) m a h = h.nothing

seed_holds : (P : Moved → Type 0) (s : Service) (c : Core) (e : Event) → c.mode ≡ mode.AskingSeed → is_random c.asks e ≡ true → Taken P s c e → P (take_seed c e)
seed_holds P s c event.Null m a h = h.nothing
seed_holds P s c (event.Request r) m a h = h.nothing
seed_holds P s c (event.Reply r) m a h = h.nothing
seed_holds P s c (event.Abort r) m a h = h.nothing
seed_holds P s c (event.Clock r) m a h = h.nothing
seed_holds P s c (event.Random r) m a h = h.seed _ m a

halted_holds : (P : Moved → Type 0) (s : Service) (c : Core) (e : Event) → c.mode ≡ mode.Halted → Taken P s c e → P (record { core = c; acts = when_halted s e })
halted_holds P s c event.Null m h = h.nothing
halted_holds P s c (event.Request r) m h = h.told r m refl
halted_holds P s c (event.Reply r) m h = h.nothing
halted_holds P s c (event.Abort r) m h = h.nothing
halted_holds P s c (event.Clock r) m h = h.nothing
halted_holds P s c (event.Random r) m h = h.nothing

mode_holds : (P : Moved → Type 0) (s : Service) (m : Mode) (c : Core) (e : Event) → c.mode ≡ m → wants_in m c.asks e ≡ true → Taken P s c e → P (takes_in s m c e)
mode_holds P s mode.Ready c e q w h = h.nothing
mode_holds P s (mode.Waiting v) c e q w h = wait_holds P s v c e q h
mode_holds P s (mode.AskingClock d) c e q w h = clock_holds P s (slice_index s.layout s.me) d c e q w h
mode_holds P s mode.AskingSeed c e q w h = seed_holds P s c e q w h
mode_holds P s mode.Halted c e q w h = halted_holds P s c e q h

pub takes_holds : (P : Moved → Type 0) (s : Service) (c : Core) (e : Event) → wants c e ≡ true → Taken P s c e → P (takes s c e)
unfolding takes wants
takes_holds P s c e w h = mode_holds P s c.mode c e refl w h
