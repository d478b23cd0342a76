-- Which effect a script takes next, and what taking it comes to; this project's own rules.
use Rattle.std.specs.Prelude.{ℕ, ◌==◌, Bool, true, false, max, if◌then◌else◌, List, [], ◌∷◌, ◌++◌, slice_index, Option, Some, None}
use Rattle.rand_chacha.specs.ChaCha.{of_seed}
use Rattle.pws_event.specs.Requests.{RequestFields}
use Rattle.pws_event.specs.Answers.{ReplyFields, AbortFields}
use Rattle.pws_event.specs.Times.{agreed_time, agreed_seed}
use Rattle.pws_event.specs.declared.events.Event.{Event}
use Rattle.pws_event.specs.declared.events.Event.TheVariants as event
use Rattle.pws_service.specs.declared.keys.Key.{Key}
use Rattle.pws_service.specs.declared.acts.Act.{Act}
use Rattle.pws_service.specs.declared.acts.Act.TheVariants as act
use Rattle.pws_driver.specs.declared.values.Value.{Value}
use Rattle.pws_driver.specs.declared.values.Value.TheVariants as value
use Rattle.pws_driver.specs.declared.cores.Answers.{Answers}
use Rattle.pws_driver.specs.declared.cores.Answers.TheVariants as answers
use Rattle.pws_driver.specs.declared.cores.Wait.{Wait}
use Rattle.pws_driver.specs.declared.cores.Mode.{Mode}
use Rattle.pws_driver.specs.declared.cores.Mode.TheVariants as mode
use Rattle.pws_driver.specs.declared.cores.Core.{Core}
use Rattle.pws_driver.specs.Services.{Service}
use Rattle.pws_service.specs.Keys.{request_key, reply_key, abort_key}
use Rattle.pws_service.specs.Lawful.{is_clock, is_random}
use Rattle.pws_driver.specs.Keys.{has_key, without}
use Rattle.pws_driver.specs.Moves.{Moved, budget, quiet, put}

-- ---- what is taken next

abbrev pub among_answers : Answers → Key → Bool
among_answers answers.Any k = true
among_answers (answers.Of ks) k = has_key ks k

abbrev pub wanted_by : Wait → Event → Bool
wanted_by w event.Null = false
wanted_by w (event.Request r) = w.requests
wanted_by w (event.Reply r) = among_answers w.answers (reply_key r)
wanted_by w (event.Abort a) = among_answers w.answers (abort_key a)
wanted_by w (event.Clock c) = false
wanted_by w (event.Random r) = false

-- a halted script takes all
abbrev pub wants_in : Mode → ℕ → Event → Bool
wants_in mode.Ready asks e = false
wants_in (mode.Waiting w) asks e = wanted_by w e
wants_in (mode.AskingClock d) asks e = is_clock asks e
wants_in mode.AskingSeed asks e = is_random asks e
wants_in mode.Halted asks e = true

-- whether the script takes the event next, if none before it in the list is such a one
unfoldable pub wants : Core → Event → Bool
wants c e = wants_in c.mode c.asks e

-- ---- requests and answers

-- after a taking the instructions are counted anew
abbrev pub ready : Core → Core
ready c = record c { mode = mode.Ready; left = budget }

abbrev pub put_key : Option ℕ → Core → Value → Core
put_key None c v = c
put_key (Some r) c v = put c r v

-- the key first, then the message
abbrev pub hand : Wait → Core → Value → List ℕ → Core
hand w c v m = put (put_key w.key c v) w.message (value.Message m)

-- a refused request is answered with its fault, and the wait goes on
abbrev pub request_taken : Wait → Core → Key → List ℕ → Option (List ℕ) → Moved
request_taken w c k body None = quiet (hand w (record (ready c) { open_requests = c.open_requests ++ k ∷ [] }) (value.Request k body) body)
request_taken w c k body (Some fault) = record { core = record c { left = budget }; acts = act.Reply k.group k.number fault ∷ [] }

abbrev pub take_request : Service → Wait → Core → RequestFields → Moved
take_request s w c r = request_taken w c (request_key r) r.body (s.words.refusal_of s.me (request_key r) r.body)

-- the message of a reply with this body
abbrev pub answer_of : Service → List ℕ → List ℕ
answer_of s body = if s.words.is_readable body then body else s.words.unreadable

abbrev pub take_answer : Wait → Core → Key → List ℕ → Moved
take_answer w c k m = quiet (hand w (record (ready c) { pending = without k c.pending }) (value.Call k) m)

abbrev pub take_by : Service → Wait → Core → Event → Moved
take_by s w c event.Null = quiet c
take_by s w c (event.Request r) = take_request s w c r
take_by s w c (event.Reply r) = take_answer w c (reply_key r) (answer_of s r.body)
take_by s w c (event.Abort a) = take_answer w c (abort_key a) s.words.timed_out
take_by s w c (event.Clock r) = quiet c
take_by s w c (event.Random r) = quiet c

-- ---- the agreed time and the agreed seed

abbrev clock_taken : ℕ → Core → ℕ → Core
clock_taken d c now = put (record (ready c) { clock = now }) d (value.Number now)

-- the agreed time in a group that bears f compromised replicas; it doesn't fall
abbrev pub take_clock : ℕ → ℕ → Core → Event → Moved
take_clock f d c event.Null = quiet c
take_clock f d c (event.Request r) = quiet c
take_clock f d c (event.Reply r) = quiet c
take_clock f d c (event.Abort a) = quiet c
take_clock f d c (event.Clock r) = quiet (clock_taken d c (max c.clock (agreed_time f r.readings)))
take_clock f d c (event.Random r) = quiet c

abbrev pub take_seed : Core → Event → Moved
take_seed c event.Null = quiet c
take_seed c (event.Request r) = quiet c
take_seed c (event.Reply r) = quiet c
take_seed c (event.Abort a) = quiet c
take_seed c (event.Clock r) = quiet c
take_seed c (event.Random r) = quiet (record (ready c) { stream = Some (of_seed (agreed_seed r.shares)) })

-- ---- a halted script

-- each request is answered with a fault
abbrev pub when_halted : Service → Event → List Act
when_halted s event.Null = []
when_halted s (event.Request r) = act.Reply r.caller r.number (s.words.halted_text s.me (request_key r) r.body) ∷ []
when_halted s (event.Reply r) = []
when_halted s (event.Abort a) = []
when_halted s (event.Clock r) = []
when_halted s (event.Random r) = []

-- ---- any taking

abbrev pub takes_in : Service → Mode → Core → Event → Moved
takes_in s mode.Ready c e = quiet c
takes_in s (mode.Waiting w) c e = take_by s w c e
takes_in s (mode.AskingClock d) c e = take_clock (slice_index s.layout s.me) d c e
takes_in s mode.AskingSeed c e = take_seed c e
takes_in s mode.Halted c e = record { core = c; acts = when_halted s e }

-- what taking the event comes to
unfoldable pub takes : Service → Core → Event → Moved
takes s c e = takes_in s c.mode c e

abbrev pub ready_in : Mode → Bool
ready_in mode.Ready = true
ready_in (mode.Waiting w) = false
ready_in (mode.AskingClock d) = false
ready_in mode.AskingSeed = false
ready_in mode.Halted = false

-- whether an instruction comes next
unfoldable pub is_ready : Core → Bool
is_ready c = ready_in c.mode
