-- The places of the effects that are no requests, of which there are few.
use Rattle.std.specs.Prelude.{ℕ, suc, ◌-◌, ◌==◌, not, nat_lt, Bool, true, false, if◌then◌else◌, List, [], ◌∷◌, map, slice_get}
use Rattle.std.specs.List.{filter}
use Rattle.std.specs.Option.{option_map_or}
use Rattle.pws_event.specs.declared.events.Event.{Event}
use Rattle.pws_event.specs.declared.events.Event.TheVariants as event
use Rattle.pws_driver.specs.declared.cores.Mode.{Mode}
use Rattle.pws_driver.specs.declared.cores.Mode.TheVariants as mode
use Rattle.pws_driver.specs.declared.cores.Core.{Core}

abbrev pub is_other : Event → Bool
is_other event.Null = true
is_other (event.Request r) = false
is_other (event.Reply r) = true
is_other (event.Abort a) = true
is_other (event.Clock c) = true
is_other (event.Random r) = true

-- the places of these in a list, counted from 0
unfoldable pub places_of : List Event → List ℕ
places_of [] = []
places_of (e ∷ es) = if is_other e then 0 ∷ map (λ p. suc p) (places_of es) else map (λ p. suc p) (places_of es)

-- whether the effect at a place passes
abbrev pub passes_at : (Event → Bool) → List Event → ℕ → Bool
passes_at test es place = option_map_or test (slice_get es place) false

-- a place after another one was taken out
abbrev pub lowered : ℕ → ℕ → ℕ
lowered place p = if nat_lt place p then p - 1 else p

-- these places but one
abbrev pub without_place : ℕ → List ℕ → List ℕ
without_place place ps = filter (λ p. not (place == p)) ps

-- whether a script takes a request next
abbrev pub wants_requests_in : Mode → Bool
wants_requests_in mode.Ready = false
wants_requests_in (mode.Waiting w) = w.requests
wants_requests_in (mode.AskingClock d) = false
wants_requests_in mode.AskingSeed = false
wants_requests_in mode.Halted = true

unfoldable pub wants_requests : Core → Bool
wants_requests c = wants_requests_in c.mode
