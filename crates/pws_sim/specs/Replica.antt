-- One replica of group 1 that hears the requests of group 0, and whose service calls and asks nothing; this project's own rule.
use Rattle.std.specs.Prelude.{ℕ, zero, suc, ◌+◌, ◌&&◌, ◌==◌, nat_lt, nat_le, is_none, Bool, if◌then◌else◌, List, [], ◌∷◌, ◌++◌, length, find, Option, Some, None}
use Rattle.std.specs.List.{fold}
use Rattle.pws_event.specs.Requests.{RequestFields}
use Rattle.pws_event.specs.declared.events.Event.TheVariants as event
use Rattle.pws_event.specs.Effects.{last_of, no_acts, silent, takes_effect}
use Rattle.pws_event.specs.Lists.{PlacedEvent, placed, effects_in}

-- the requests that were kept, in the order of their coming, and the places of the event list
pub record ReplicaState : Type 0 where
  pub kept : List RequestFields
  pub places : List PlacedEvent

-- the layout of the first form: two groups of one replica each
abbrev pub two_groups : List ℕ
two_groups = 0 ∷ 0 ∷ []

abbrev pub start : ReplicaState
start = record { kept = []; places = [] }

-- the number of the last request of group 0 that took effect
abbrev pub last_in : List PlacedEvent → ℕ
last_in places = last_of 0 (effects_in 1 two_groups silent places)

-- the kept request of this number
abbrev pub kept_with : ℕ → List RequestFields → Option RequestFields
kept_with number kept = find (λ r. r.number == number) kept

-- whether a request is kept: the first of its number, among the sixteen numbers after the last
abbrev pub is_kept : ReplicaState → RequestFields → Bool
is_kept s r = nat_lt (last_in s.places) r.number && nat_le r.number (last_in s.places + 16) && is_none (kept_with r.number s.kept)

-- a request that isn't kept changes nothing
abbrev pub keep : ReplicaState → RequestFields → ReplicaState
keep s r = if is_kept s r then record s { kept = s.kept ++ r ∷ [] } else s

abbrev pub if_taken : List PlacedEvent → Option RequestFields → Option RequestFields
if_taken places None = None
if_taken places (Some r) = if takes_effect 1 two_groups no_acts (effects_in 1 two_groups silent places) (event.Request r) then Some r else None

-- the kept request of the next number, where it would take effect and the list has fewer than 32 places
abbrev pub next_of : ReplicaState → Option RequestFields
next_of s = if nat_lt (length s.places) 32 then if_taken s.places (kept_with (last_in s.places + 1) s.kept) else None

-- the request gets the next place
unfoldable pub push : ReplicaState → RequestFields → ReplicaState
push s r = record s { places = s.places ++ placed s.places (event.Request r) ∷ [] }

abbrev pub after_next : Option RequestFields → ReplicaState → (RequestFields → ReplicaState) → ReplicaState
after_next None s more = s
after_next (Some r) s more = more r

-- the state once the next request was pushed, and the next after it, and so on, at most so many times
unfoldable pub pushes : ℕ → ReplicaState → ReplicaState
pushes zero s = s
pushes (suc n) s = after_next (next_of s) s (λ r. pushes n (push s r))

-- the state after a request was heard: it is kept, and then the next requests are pushed while there are any; the
-- list has at most 32 places, so 32 times are enough
abbrev pub hear : ReplicaState → RequestFields → ReplicaState
hear s r = pushes 32 (keep s r)

-- the places of the event list after these requests were heard in turn
abbrev pub places_after : List RequestFields → List PlacedEvent
places_after requests = (fold hear start requests).places
