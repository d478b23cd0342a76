-- When two events are one, and when they are for one request, one call or one ask; this project's own.
use Rattle.std.specs.Prelude.{ℕ, ◌==◌, ◌&&◌, Bool, true, false}
use Rattle.std.specs.Str.{bytes_eq}
use Rattle.std.specs.Cmp.Lexicographic.{pointwise}
use Rattle.pws_event.specs.declared.readings.Reading.{Reading}
use Rattle.pws_event.specs.declared.readings.Share.{Share}
use Rattle.pws_event.specs.Answers.{ReplyFields, AbortFields}
use Rattle.pws_event.specs.Readings.{ClockFields, RandomFields}
use Rattle.pws_event.specs.Requests.{RequestFields}
use Rattle.pws_event.specs.declared.events.Event.{Event}
use Rattle.pws_event.specs.declared.events.Event.TheVariants as event

-- whether two readings are one
abbrev pub same_reading : Reading → Reading → Bool
same_reading a b = a.index == b.index && a.ms == b.ms

-- whether two shares are one
abbrev pub same_share : Share → Share → Bool
same_share a b = a.index == b.index && bytes_eq a.bytes b.bytes

-- whether an event is Null
abbrev pub is_null : Event → Bool
is_null event.Null = true
is_null _ = false

-- whether an event is this request
abbrev pub is_request : RequestFields → Event → Bool
is_request a (event.Request b) = a.caller == b.caller && (a.number == b.number && (a.low == b.low && bytes_eq a.body b.body))
is_request a _ = false

-- whether an event is this reply
abbrev pub is_reply : ReplyFields → Event → Bool
is_reply a (event.Reply b) = a.called == b.called && (a.number == b.number && bytes_eq a.body b.body)
is_reply a _ = false

-- whether an event is this abort
abbrev pub is_abort : AbortFields → Event → Bool
is_abort a (event.Abort b) = a.called == b.called && a.number == b.number
is_abort a _ = false

-- whether an event is these readings of the clock
abbrev pub is_clock : ClockFields → Event → Bool
is_clock a (event.Clock b) = a.ask == b.ask && pointwise same_reading a.readings b.readings
is_clock a _ = false

-- whether an event is these shares of a seed
abbrev pub is_random : RandomFields → Event → Bool
is_random a (event.Random b) = a.ask == b.ask && pointwise same_share a.shares b.shares
is_random a _ = false

-- whether two events are one
unfoldable pub same_event : Event → Event → Bool
same_event event.Null b = is_null b
same_event (event.Request a) b = is_request a b
same_event (event.Reply a) b = is_reply a b
same_event (event.Abort a) b = is_abort a b
same_event (event.Clock a) b = is_clock a b
same_event (event.Random a) b = is_random a b

-- whether an event is for this request of its caller, by the number
abbrev pub is_for_request : RequestFields → Event → Bool
is_for_request r (event.Request x) = r.caller == x.caller && r.number == x.number
is_for_request r _ = false

-- whether an event answers this call
abbrev pub is_for_call : ℕ → ℕ → Event → Bool
is_for_call called number (event.Reply x) = called == x.called && number == x.number
is_for_call called number (event.Abort x) = called == x.called && number == x.number
is_for_call called number _ = false

-- whether an event answers this ask, of whichever sort
abbrev pub is_for_ask : ℕ → Event → Bool
is_for_ask ask (event.Clock x) = ask == x.ask
is_for_ask ask (event.Random x) = ask == x.ask
is_for_ask ask _ = false

-- whether two events are for one request, one call, or one ask, of whichever sort
unfoldable pub is_for_same : Event → Event → Bool
is_for_same event.Null x = false
is_for_same (event.Request r) x = is_for_request r x
is_for_same (event.Reply r) x = is_for_call r.called r.number x
is_for_same (event.Abort a) x = is_for_call a.called a.number x
is_for_same (event.Clock c) x = is_for_ask c.ask x
is_for_same (event.Random r) x = is_for_ask r.ask x
