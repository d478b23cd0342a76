-- The first form of a schedule, and the requests that it says; this project's own rule.
use Rattle.std.specs.Prelude.{◌≡◌, ℕ, Bool, false, ◌&&◌, nat_le, ◌==◌, if◌then◌else◌, List, [], ◌∷◌, length, take, drop, codes, Option, Some, None, Result, Ok, Err}
use Rattle.std.specs.List.{list_all, slice_split}
use Rattle.std.specs.Option.{option_map}
use Rattle.std.specs.Str.{bytes_eq}
use Rattle.pws_base.specs.Cursors.{u8_at, u32_at, bytes_at}
use Rattle.pws_event.specs.Requests.{RequestFields}
use Rattle.pws_sched.specs.Hexadecimal.{is_lower_digit, lower_hex}
use Rattle.pws_sched.specs.declared.first_form.FirstFormError.{FirstFormError}
use Rattle.pws_sched.specs.declared.first_form.FirstFormError.TheVariants as form_error

-- what a reader answers, seen by view, is what is wanted, unless memory ran out
abbrev pub Gives : {A B : Type 0} → (A → B) → Result A FirstFormError → Option B → Type 0
Gives view (Ok x) wanted = wanted ≡ Some (view x)
Gives view (Err form_error.NotFirstForm) wanted = wanted ≡ None
Gives view (Err form_error.Memory) wanted = Unit {0}

-- the second step, on what the first gave, or nothing where it gave nothing
infixl 10 ◌>>=◌
abbrev pub ◌>>=◌ : {A B : Type 0} → Option A → (A → Option B) → Option B
Some x >>= f = f x
None >>= f = None

-- what follows these bytes, where the text begins with them
abbrev pub after : List ℕ → List ℕ → Option (List ℕ)
after front text = if bytes_eq (take (length front) text) front then Some (drop (length front) text) else None

-- what follows a seed of 64 lower-case digits
abbrev pub after_seed : List ℕ → Option (List ℕ)
after_seed text = do
  seed ← bytes_at 64 text
  if list_all is_lower_digit seed.0 then Some seed.1 else None

-- whether a byte is the line feed
abbrev pub is_line_feed : ℕ → Bool
is_line_feed byte = byte == 10

-- the pieces of a text between its line feeds
abbrev pub lines_of : List ℕ → List (List ℕ)
lines_of text = slice_split is_line_feed text

-- whether the numbers and the length of the body of a request are in range: the ranges of `IsRequest`, as a test
abbrev pub in_range : ℕ → ℕ → ℕ → Bool
in_range number low size = nat_le 1 number && nat_le number 1000000 && nat_le 1 low && nat_le low 1000000 && nat_le size 32768

-- the request of caller 0 that these bytes spell: kind 1, number, low number, and the body after its length
abbrev pub request_of : List ℕ → Option RequestFields
request_of bytes = do
  kind ← u8_at bytes
  number ← u32_at kind.1
  low ← u32_at number.1
  size ← u32_at low.1
  body ← bytes_at size.0 size.1
  if kind.0 == 1 && in_range number.0 low.0 size.0 && length body.1 == 0 then Some (record { caller = 0; number = number.0; low = low.0; body = body.0 }) else None

-- the request that a line says
abbrev pub said_by : List ℕ → Option RequestFields
said_by line = do
  digits ← after (codes "say 0.0 1.0 ") line
  bytes ← lower_hex digits
  request_of bytes

-- whether only the end of the text follows
abbrev pub is_last : List (List ℕ) → Bool
is_last (line ∷ []) = length line == 0
is_last lines = false

-- the first request before the rest, where there are both
abbrev pub with_first : Option RequestFields → Option (List RequestFields) → Option (List RequestFields)
with_first first rest = first >>= λ r. option_map (λ more. r ∷ more) rest

-- the requests that the lines up to `end` say, in order, where the text ends there
abbrev pub moves_of : List (List ℕ) → Option (List RequestFields)
moves_of [] = None
moves_of (line ∷ lines) =
    if bytes_eq line (codes "end") then (if is_last lines then Some [] else None)
    else with_first (said_by line) (moves_of lines)

-- the requests that a schedule of the first form says, in order, and nothing for every other text
abbrev pub first_form : List ℕ → Option (List RequestFields)
first_form text = do
  seed ← after (codes "pws-schedule 1\nseed ") text
  head ← after_seed seed
  moves ← after (codes "\ngroup 0 0\ngroup 1 0\nbad 0.0\nbegin\n") head
  moves_of (lines_of moves)
