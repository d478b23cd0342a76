-- How candidates are found, replica by replica; for proofs alone.
use Rattle.std.specs.Prelude.{◌≡◌, ℕ, Bool, true, false, if◌then◌else◌, List, Option, Some, None}
use Rattle.std.specs.Option.{option_map, option_map_or}
use Rattle.std.specs.FinMap.{get}
use Rattle.pws_event.specs.declared.events.Event.{Event}
use Rattle.pws_event.specs.declared.events.Event.TheVariants as event
use Rattle.pws_msg.specs.Statements.{OwnRequestFields}
use Rattle.pws_protocol.specs.Keys.{body_key}
use Rattle.pws_protocol.specs.Evidence.{Evidence}
use Rattle.pws_protocol.specs.Candidates.{lesser_of}

-- the event of a caller's request
abbrev pub request_event : ℕ → OwnRequestFields → Event
request_event caller r = event.Request (record { caller = caller; number = r.number; low = r.low; body = r.body })

-- the event of a reply to a call whose body, which has this digest, is held
abbrev pub reply_under : Evidence → ℕ → ℕ → List ℕ → Option Event
reply_under e called number digest = option_map (λ body. event.Reply (record { called = called; number = number; body = body })) (get e.bodies (body_key called number digest))

-- of two events, where they are there, the one of the lesser digest
abbrev pub lesser_if : Option Event → Option Event → Option Event
lesser_if best None = best
lesser_if best (Some x) = lesser_of best x

-- the better of the best event so far and of another, which counts where it passes the test
abbrev pub better_of : (Event → Bool) → Option Event → Option Event → Option Event
better_of due best None = best
better_of due best (Some x) = if due x then lesser_of best x else best

-- the answer tells whether the event is there and passes the test, or is false since the best so far stays the best
pub record IsBetter (due : Event → Bool) (x best : Option Event) (answer : Bool) : Type 0 where
  pub passes : answer ≡ true → option_map_or due x false ≡ true
  pub stays : answer ≡ false → better_of due best x ≡ best
