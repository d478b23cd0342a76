-- The events that a primary may propose, in order; this project's own.
use Rattle.std.specs.Prelude.{ℕ, ◌+◌, ◌==◌, ◌&&◌, ◌++◌, Bool, if◌then◌else◌, List, length, take, filter, slice_index, Option, Some, None, option_to_list}
use Rattle.std.specs.List.{fold, filter_map, flat_map, range_with_len}
use Rattle.std.specs.Option.{option_map, option_or, option_and_then}
use Rattle.std.specs.FinMap.{get}
use Rattle.pws_base.specs.Limits.{call_window}
use Rattle.pws_base.specs.Replicas.{is_other}
use Rattle.pws_base.specs.Shapes.{size_of_group, quorum_of}
use Rattle.pws_event.specs.declared.readings.Reading.{Reading}
use Rattle.pws_event.specs.declared.readings.Share.{Share}
use Rattle.pws_event.specs.declared.readings.Sort.{Sort}
use Rattle.pws_event.specs.declared.readings.Sort.TheVariants as sort
use Rattle.pws_event.specs.declared.events.Event.{Event}
use Rattle.pws_event.specs.declared.events.Event.TheVariants as event
use Rattle.pws_event.specs.Events.{digest_of}
use Rattle.pws_event.specs.Counters.{Counters, counter_of, least_waiting, is_waiting, would_effect}
use Rattle.pws_msg.specs.declared.readings.ReadingValue.{ReadingValue}
use Rattle.pws_msg.specs.declared.readings.ReadingValue.TheVariants as value
use Rattle.pws_msg.specs.declared.contents.Content.{Content}
use Rattle.pws_msg.specs.declared.contents.Content.TheVariants as content
use Rattle.pws_change.specs.Rising.{is_digest_below}
use Rattle.pws_protocol.specs.declared.keys.Matter.TheVariants.{Requested, Replied, Read}
use Rattle.pws_protocol.specs.Keys.{replica, body_key}
use Rattle.pws_protocol.specs.Evidence.{Evidence, first_of}
use Rattle.pws_protocol.specs.Support.{supports}

-- of two events the one of the lesser digest
abbrev pub lesser_of : Option Event → Event → Option Event
lesser_of None x = Some x
lesser_of (Some best) x = if is_digest_below (digest_of x) (digest_of best) then Some x else Some best

-- of several events the one of the least digest
abbrev pub least_event : List Event → Option Event
least_event events = fold lesser_of None events

-- the other groups of the layout, rising
abbrev pub other_groups : Evidence → List ℕ
other_groups e = filter (is_other e.group e.layout) (range_with_len 0 (length e.layout))

-- the indices of a group's replicas, rising
abbrev pub members_of : Evidence → ℕ → List ℕ
members_of e group = range_with_len 0 (size_of_group (slice_index e.layout group))

-- the event of a request that is kept of a replica of the caller
abbrev pub request_in : ℕ → Content → Option Event
request_in caller (content.Request r) = Some (event.Request (record { caller = caller; number = r.number; low = r.low; body = r.body }))
request_in caller _ = None

-- the event of the request with this number that is kept of a replica of the caller
abbrev pub kept_request : Evidence → ℕ → ℕ → ℕ → Option Event
kept_request e caller number index = option_and_then (request_in caller) (first_of e (replica caller index) (Requested caller number))

-- whether an event is supported and would take effect
abbrev pub is_due : Evidence → Counters → Event → Bool
is_due e asked x = supports e x && would_effect asked x

-- a caller's next request, where it is due; of several the one of the least digest
unfoldable pub request_for : Evidence → Counters → ℕ → Option Event
request_for e asked caller = least_event (filter (is_due e asked) (filter_map (kept_request e caller (counter_of asked.last caller 0 + 1)) (members_of e caller)))

-- the event of a reply
abbrev reply_event : ℕ → ℕ → List ℕ → Event
reply_event called number body = event.Reply (record { called = called; number = number; body = body })

-- the event of a reply, where its body is held
abbrev pub reply_in : Evidence → ℕ → Content → Option Event
reply_in e called (content.Reply r) = option_map (reply_event called r.number) (get e.bodies (body_key called r.number r.digest))
reply_in e called _ = None

-- the event of the reply to this call that is kept of a replica of the called group, where its body is held
abbrev pub kept_reply : Evidence → ℕ → ℕ → ℕ → Option Event
kept_reply e called number index = option_and_then (reply_in e called) (first_of e (replica called index) (Replied called number))

-- a call's supported reply; of several the one of the least digest
abbrev pub reply_for : Evidence → ℕ → ℕ → Option Event
reply_for e called number = least_event (filter (supports e) (filter_map (kept_reply e called number) (members_of e called)))

-- the abort of a call
abbrev pub abort_event : ℕ → ℕ → Event
abort_event called number = event.Abort (record { called = called; number = number })

-- a call's abort, where it is supported
abbrev pub abort_for : Evidence → ℕ → ℕ → Option Event
abort_for e called number = if supports e (abort_event called number) then Some (abort_event called number) else None

-- a waiting call's supported reply, or without one its supported abort
abbrev pub answer_for : Evidence → Counters → ℕ → ℕ → Option Event
answer_for e asked called number =
    if is_waiting asked.waiting called number
    then option_or (reply_for e called number) (abort_for e called number)
    else None

-- the answers to the waiting calls to a group, by rising number
unfoldable pub answers_from : Evidence → Counters → ℕ → List Event
answers_from e asked called = filter_map (answer_for e asked called) (range_with_len (least_waiting asked called) call_window)

-- a replica's time, where the reading is one
abbrev pub time_in : ℕ → ReadingValue → Option Reading
time_in index (value.Time ms) = Some (record { index = index; ms = ms })
time_in index (value.Share share) = None

-- a replica's share, where the reading is one
abbrev pub share_in : ℕ → ReadingValue → Option Share
share_in index (value.Time ms) = None
share_in index (value.Share share) = Some (record { index = index; bytes = share })

-- the reading in a statement
abbrev pub value_in : Content → Option ReadingValue
value_in (content.Reading r) = Some r.value
value_in _ = None

-- the reading for this ask that is kept of a replica of the own group
abbrev pub kept_value : Evidence → ℕ → ℕ → Option ReadingValue
kept_value e ask index = option_and_then value_in (first_of e (replica e.group index) (Read ask))

-- the kept times for an ask, by rising index
abbrev pub kept_times : Evidence → ℕ → List Reading
kept_times e ask = filter_map (λ i. option_and_then (time_in i) (kept_value e ask i)) (members_of e e.group)

-- the kept shares for an ask, by rising index
abbrev pub kept_shares : Evidence → ℕ → List Share
kept_shares e ask = filter_map (λ i. option_and_then (share_in i) (kept_value e ask i)) (members_of e e.group)

-- the first 2f + 1 of a list, if there are so many
abbrev pub quorum_in : {X : Type 0} → Evidence → List X → Option (List X)
quorum_in e xs = if length (take (quorum_of (slice_index e.layout e.group)) xs) == quorum_of (slice_index e.layout e.group) then Some (take (quorum_of (slice_index e.layout e.group)) xs) else None

-- the event of these readings of the clock
abbrev pub clock_event : ℕ → List Reading → Event
clock_event ask xs = event.Clock (record { ask = ask; readings = xs })

-- the event of these shares of a seed
abbrev pub random_event : ℕ → List Share → Event
random_event ask xs = event.Random (record { ask = ask; shares = xs })

-- the answer to an ask of this sort: of the 2f + 1 lowest replicas whose kept reading has the sort
abbrev pub answer_of_sort : Evidence → ℕ → Sort → Option Event
answer_of_sort e ask sort.Clock = option_map (clock_event ask) (quorum_in e (kept_times e ask))
answer_of_sort e ask sort.Random = option_map (random_event ask) (quorum_in e (kept_shares e ask))

-- the answer to the ask that waits
unfoldable pub ask_answer : Evidence → Counters → Option Event
ask_answer e asked = option_and_then (answer_of_sort e (asked.answered + 1)) asked.ask

-- all candidates: requests by caller, answers by called group and number, the answer to the ask
unfoldable pub candidates : Evidence → Counters → List Event
candidates e asked =
    filter_map (request_for e asked) (other_groups e)
    ++ (flat_map (answers_from e asked) (other_groups e)
    ++ option_to_list (ask_answer e asked))
