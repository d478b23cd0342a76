-- The report of the first form; this project's own.
use Rattle.std.specs.Prelude.{ℕ, List, ◌++◌, flat_map, codes, decimal, Option, Some, None}
use Rattle.std.specs.List.{enumerate_from}
use Rattle.hex.specs.Hex.{encode_lower}
use Rattle.pws_event.specs.Lists.{PlacedEvent}
use Rattle.pws_event.specs.declared.events.Event.{Event}
use Rattle.pws_event.specs.declared.events.Event.TheVariants as event
use Rattle.pws_event.specs.Words.{event_words}

-- requests of the replica's list always take effect, and all else is void, since the replica calls and asks nothing
abbrev pub fate : Event → List ℕ
fate (event.Request r) = codes " taken"
fate e = codes " void"

-- what stands at a place, and whether it took effect
abbrev pub what_of : Option Event → List ℕ
what_of None = codes "bare void"
what_of (Some e) = event_words e ++ fate e

-- a place's number, what stands there, and its digest in hexadecimal
abbrev pub place_line : ℕ → PlacedEvent → List ℕ
place_line place p = codes "place " ++ decimal place ++ codes " " ++ what_of p.event ++ codes " " ++ encode_lower p.digest ++ codes "\n"

-- the lines of the places, which are numbered from 1
abbrev pub place_lines : List PlacedEvent → List ℕ
place_lines places = flat_map (λ p. place_line p.0 p.1) (enumerate_from 1 places)

abbrev pub report_of : List PlacedEvent → List ℕ
report_of places = codes "pws-first 1\n" ++ place_lines places ++ codes "end\n"
