-- What one instruction comes to; this project's own table. None stands for a fault, which halts the script. An
-- instruction doesn't see the list of effects: a wait only says what it takes.
use Rattle.std.specs.Prelude.{ℕ, ◌+◌, ◌-◌, ◌*◌, ◌%◌, ◌^◌, ◌==◌, ◌&&◌, ◌||◌, not, Bool, true, false, nat_lt, nat_le, if◌then◌else◌, List, [], ◌∷◌, ◌++◌, length, slice_get, slice_set, slice_index, Option, Some, None}
use Rattle.std.specs.List.{list_any, filter_map, find}
use Rattle.std.specs.Option.{option_map, option_and_then, option_map_or, unwrap_or}
use Rattle.pws_base.specs.Limits.{max_number, call_window}
use Rattle.rand_chacha.specs.ChaCha.{ChaCha, word_at}
use Rattle.pws_script.specs.declared.instructions.Literal.{Literal}
use Rattle.pws_script.specs.declared.instructions.Literal.TheVariants as literal
use Rattle.pws_script.specs.declared.instructions.Instruction.{Instruction}
use Rattle.pws_script.specs.declared.instructions.Instruction.TheVariants as line
use Rattle.pws_service.specs.declared.keys.Key.{Key}
use Rattle.pws_service.specs.declared.acts.Act.{Act}
use Rattle.pws_service.specs.declared.acts.Act.TheVariants as act
use Rattle.pws_driver.specs.declared.values.Value.{Value}
use Rattle.pws_driver.specs.declared.values.Value.TheVariants as value
use Rattle.pws_driver.specs.declared.cores.Answers.TheVariants as answers
use Rattle.pws_driver.specs.declared.cores.Mode.{Mode}
use Rattle.pws_driver.specs.declared.cores.Mode.TheVariants as mode
use Rattle.pws_driver.specs.declared.cores.Core.{Core}
use Rattle.pws_driver.specs.Services.{Service}
use Rattle.pws_driver.specs.Keys.{has_key, without}
use Rattle.pws_driver.specs.Values.{number_of, text_of, digits_or_text_of, call_of, request_of, message_of, same_value}
use Rattle.pws_driver.specs.Moves.{Moved, max_text, quiet, halted, waiting, held, put}

-- ---- instructions that put a value

abbrev pub put_some : Core → ℕ → Option Value → Option Moved
put_some c d v = option_map (λ x. quiet (put c d x)) v

-- what two operands give, where there are both
abbrev pub with_two : {A : Type 0} → (A → A → Option Value) → Option A → Option A → Option Value
with_two f (Some a) (Some b) = f a b
with_two f (Some a) None = None
with_two f None (Some b) = None
with_two f None None = None

abbrev pub value_of : Literal → Value
value_of (literal.Number n) = value.Number n
value_of (literal.Text t) = value.Text t

abbrev pub sum_of : ℕ → ℕ → Option Value
sum_of a b = if nat_lt (a + b) (2 ^ 64) then Some (value.Number (a + b)) else None

abbrev pub difference_of : ℕ → ℕ → Option Value
difference_of a b = if nat_le b a then Some (value.Number (a - b)) else None

-- 1 for true, 0 for false
abbrev pub bit_of : Bool → Value
bit_of b = value.Number (if b then 1 else 0)

abbrev pub less_of : ℕ → ℕ → Option Value
less_of a b = Some (bit_of (nat_lt a b))

-- a text in a register has a bound
abbrev pub bounded : List ℕ → Option Value
bounded t = if nat_le (length t) max_text then Some (value.Text t) else None

abbrev pub joined_of : List ℕ → List ℕ → Option Value
joined_of s t = bounded (s ++ t)

abbrev pub set_by : Core → ℕ → Literal → Option Moved
set_by c d l = put_some c d (Some (value_of l))

abbrev pub add_by : Core → ℕ → ℕ → ℕ → Option Moved
add_by c d a b = put_some c d (with_two sum_of (number_of (held c a)) (number_of (held c b)))

abbrev pub sub_by : Core → ℕ → ℕ → ℕ → Option Moved
sub_by c d a b = put_some c d (with_two difference_of (number_of (held c a)) (number_of (held c b)))

abbrev pub less_by : Core → ℕ → ℕ → ℕ → Option Moved
less_by c d a b = put_some c d (with_two less_of (number_of (held c a)) (number_of (held c b)))

abbrev pub same_by : Service → Core → ℕ → ℕ → ℕ → Option Moved
same_by s c d a b = put_some c d (Some (bit_of (same_value s.words.same_message (held c a) (held c b))))

abbrev pub join_by : Core → ℕ → ℕ → ℕ → Option Moved
join_by c d a b = put_some c d (with_two joined_of (digits_or_text_of (held c a)) (digits_or_text_of (held c b)))

abbrev pub field_by : Service → Core → ℕ → ℕ → List ℕ → Option Moved
field_by s c d m name = put_some c d (option_and_then (λ message. bounded (s.words.field_text message name)) (message_of (held c m)))

-- ---- jumps

-- on line l, counted from 1, unless the number is 0
abbrev pub jumped : Core → ℕ → ℕ → Core
jumped c l n = if n == 0 then c else record c { line = l - 1 }

abbrev pub jump_by : Core → ℕ → ℕ → Option Moved
jump_by c l a = option_map (λ n. quiet (jumped c l n)) (number_of (held c a))

-- ---- calls

-- the least number of a call to the group whose answer the script hasn't taken, or this number
abbrev pub low_of : Core → ℕ → ℕ → ℕ
low_of c g number = option_map_or (λ k. k.number) (find (λ k. k.group == g) c.pending) number

-- whether a call is lawful: to another group of the layout, with a number in range and within the window from the
-- low number on
abbrev pub may_call : Service → ℕ → ℕ → ℕ → Bool
may_call s g number low =
    nat_lt g (length s.layout) && not (g == s.me) && nat_le number max_number && nat_lt number (low + call_window)

abbrev pub called_with : Core → ℕ → ℕ → ℕ → ℕ → List ℕ → ℕ → Moved
called_with c d g number low body ms =
    record { core = put (record c { called = slice_set c.called g number; pending = c.pending ++ record { group = g; number = number } ∷ [] }) d (value.Call (record { group = g; number = number })); acts = act.Call g number low body ms ∷ [] }

-- a call of this number; where its body would be too long it is a fault
abbrev call_as : Service → Core → ℕ → ℕ → ℕ → List ℕ → ℕ → Option Moved
call_as s c d g ms text number =
    if may_call s g number (low_of c g number)
    then option_map (λ body. called_with c d g number (low_of c g number) body ms) (s.words.call_text s.me (record { group = g; number = number }) text)
    else None

-- a call to the group, with the next number
abbrev pub call_from : Service → Core → ℕ → ℕ → ℕ → List ℕ → Option Moved
call_from s c d g ms text = call_as s c d g ms text (slice_index c.called g + 1)

abbrev pub call_by : Service → Core → ℕ → ℕ → ℕ → ℕ → Option Moved
call_by s c d g t ms = option_and_then (call_from s c d g ms) (text_of (held c t))

-- ---- waits

abbrev pub receive_by : Core → ℕ → ℕ → Option Moved
receive_by c r m = Some (waiting c (record { requests = true; answers = answers.Of []; key = Some r; message = m }))

abbrev pub next_by : Core → ℕ → ℕ → Option Moved
next_by c d m = Some (waiting c (record { requests = true; answers = answers.Any; key = Some d; message = m }))

-- a wait for one of these calls: there is one, and the answer of none was taken
abbrev pub await_calls : Core → Option ℕ → ℕ → List Key → Option Moved
await_calls c key m ks =
    if not (nat_lt 0 (length ks)) || list_any (λ k. not (has_key c.pending k)) ks then None
    else Some (waiting c (record { requests = false; answers = answers.Of ks; key = key; message = m }))

abbrev pub await_by : Core → ℕ → ℕ → Option Moved
await_by c m r = option_and_then (λ k. await_calls c None m (k ∷ [])) (call_of (held c r))

-- the calls that these registers hold
abbrev pub calls_in : Core → List ℕ → List Key
calls_in c among = filter_map (λ r. call_of (held c r)) among

abbrev pub await_any_by : Core → ℕ → ℕ → List ℕ → Option Moved
await_any_by c d m among = await_calls c (Some d) m (calls_in c among)

-- ---- replies

abbrev pub answer_with : Service → Core → (Key × List ℕ) → List ℕ → Option Moved
answer_with s c q text =
    if has_key c.open_requests q.0
    then Some (record { core = record c { open_requests = without q.0 c.open_requests }; acts = act.Reply q.0.group q.0.number (s.words.reply_text s.me q.0 q.1 text) ∷ [] })
    else None

abbrev pub reply_by : Service → Core → ℕ → ℕ → Option Moved
reply_by s c r t = option_and_then (λ q. option_and_then (answer_with s c q) (text_of (held c t))) (request_of (held c r))

-- ---- the agreed time and the agreed seed

-- the next ask, of at most as many as a number can tell
abbrev pub ask_by : Core → Mode → (ℕ → Act) → Option Moved
ask_by c m ask = if nat_le max_number c.asks then None else Some (record { core = record c { mode = m; asks = c.asks + 1 }; acts = ask (c.asks + 1) ∷ [] })

abbrev pub clock_by : Core → ℕ → Option Moved
clock_by c d = ask_by c (mode.AskingClock d) (λ ask. act.AskClock ask)

abbrev pub seed_by : Core → Option Moved
seed_by c = ask_by c mode.AskingSeed (λ ask. act.AskRandom ask)

-- ---- draws

abbrev pub word_of : ChaCha → ℕ
word_of g = word_at 10 g.key g.stream g.word_pos

abbrev pub after_word : ChaCha → ChaCha
after_word g = record g { word_pos = (g.word_pos + 1) % 2 ^ 68 }

-- two words w, x of the stream: (w + x * 2^32) mod the number
abbrev pub draw_of : ChaCha → ℕ → ℕ
draw_of g bound = (word_of g + word_of (after_word g) * 2 ^ 32) % bound

abbrev pub drawn : Core → ℕ → ℕ → Option ChaCha → Option Moved
drawn c d bound None = None
drawn c d bound (Some g) =
    if bound == 0 then None else Some (quiet (put (record c { stream = Some (after_word (after_word g)) }) d (value.Number (draw_of g bound))))

abbrev pub draw_by : Core → ℕ → ℕ → Option Moved
draw_by c d n = option_and_then (λ bound. drawn c d bound c.stream) (number_of (held c n))

-- ---- the table

abbrev pub perform : Service → Core → Instruction → Option Moved
perform s c (line.Set d l) = set_by c d l
perform s c (line.Add d a b) = add_by c d a b
perform s c (line.Sub d a b) = sub_by c d a b
perform s c (line.Less d a b) = less_by c d a b
perform s c (line.Same d a b) = same_by s c d a b
perform s c (line.Jump l a) = jump_by c l a
perform s c (line.Join d a b) = join_by c d a b
perform s c (line.Field d m name) = field_by s c d m name
perform s c (line.Receive r m) = receive_by c r m
perform s c (line.Call d g t ms) = call_by s c d g t ms
perform s c (line.Await m r) = await_by c m r
perform s c (line.AwaitAny d m among) = await_any_by c d m among
perform s c (line.Next d m) = next_by c d m
perform s c (line.Reply r t) = reply_by s c r t
perform s c (line.Clock d) = clock_by c d
perform s c line.Seed = seed_by c
perform s c (line.Draw d n) = draw_by c d n
perform s c line.Stop = None

-- the next line, and one instruction fewer
abbrev pub counted : Core → Core
counted c = record c { left = c.left - 1; line = c.line + 1 }

-- past the last line the script halts
abbrev pub line_of : Service → Core → Option Instruction → Moved
line_of s c None = halted c
line_of s c (Some i) = unwrap_or (perform s (counted c) i) (halted (counted c))

-- what the next instruction comes to; the one past the budget halts
unfoldable pub begin : Service → Core → Moved
begin s c = if c.left == 0 then halted c else line_of s c (slice_get s.script c.line)
