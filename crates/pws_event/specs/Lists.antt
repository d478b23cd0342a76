-- The list of the events of a group; its bounds are this project's own.
use Rattle.std.specs.Prelude.{ℕ, ◌+◌, ◌-◌, ◌^◌, ◌==◌, Bool, nat_lt, nat_le, if◌then◌else◌, List, length, map, take, sum_by, slice_get, Option, Some, None}
use Rattle.std.specs.List.{filter_map}
use Rattle.std.specs.Option.{option_map_or, option_and_then, option_map}
use Rattle.pws_event.specs.Events.{event_text, digest_of, chain_of}
use Rattle.pws_event.specs.Effects.{Acts, effects}
use Rattle.pws_event.specs.declared.events.Event.{Event}
use Rattle.pws_event.specs.declared.lists.Pushed.{Pushed}
use Rattle.pws_event.specs.declared.lists.Pushed.TheVariants as pushed

-- one place: the digest of its event, and the event unless the place is bare
pub record PlacedEvent : Type 0 where
  pub digest : List ℕ
  pub event : Option Event

-- how many bytes the text has that is kept at a place
abbrev pub text_length : PlacedEvent → ℕ
text_length p = option_map_or (λ e. length (event_text e)) p.event 0

-- how many bytes the kept texts have together
abbrev pub kept_bytes : List PlacedEvent → ℕ
kept_bytes places = sum_by text_length places

-- whether the kept texts would pass their bound with this event
abbrev pub would_pass : List PlacedEvent → Event → Bool
would_pass places e = nat_lt (2 ^ 30) (kept_bytes places + length (event_text e))

-- the place that an event gets after these places
abbrev pub placed : List PlacedEvent → Event → PlacedEvent
placed places e = record { digest = digest_of e; event = if would_pass places e then None else Some e }

-- how an event is kept after these places
abbrev pub pushed_as : List PlacedEvent → Event → Pushed
pushed_as places e = if would_pass places e then pushed.Bare else pushed.Whole

-- the place of this number, counted from 1
abbrev pub at_place : List PlacedEvent → ℕ → Option PlacedEvent
at_place places place = if place == 0 then None else slice_get places (place - 1)

-- the event, the digest at a place
abbrev pub event_at : List PlacedEvent → ℕ → Option Event
event_at places place = option_and_then (λ p. p.event) (at_place places place)

abbrev pub digest_at : List PlacedEvent → ℕ → Option (List ℕ)
digest_at places place = option_map (λ p. p.digest) (at_place places place)

-- the digests of all places, in order
abbrev pub digests_of : List PlacedEvent → List (List ℕ)
digests_of places = map (λ p. p.digest) places

-- the chain up to a place
abbrev pub chain_at : List PlacedEvent → ℕ → Option (List ℕ)
chain_at places place = if nat_le place (length places) then Some (chain_of (take place (digests_of places))) else None

-- the events that are kept whole, in order; a bare place never takes effect
abbrev pub whole_events : List PlacedEvent → List Event
whole_events places = filter_map (λ p. p.event) places

-- the events of these places that take effect in the group me of this layout, whose service calls and asks what acts
-- tells
abbrev pub effects_in : ℕ → List ℕ → (List Event → Acts) → List PlacedEvent → List Event
effects_in me layout acts places = effects me layout acts (whole_events places)
