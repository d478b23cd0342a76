-- What is counted for an event, replica by replica; for proofs alone.
use Rattle.std.specs.Prelude.{◌≡◌, ℕ, ◌==◌, ◌&&◌, Bool, false, List, map, filter}
use Rattle.std.specs.List.{list_any, range_with_len}
use Rattle.sha2.specs.Sha256.{sha256}
use Rattle.pws_base.specs.declared.shapes.ReplicaId.{ReplicaId}
use Rattle.pws_event.specs.Readings.{ClockFields, RandomFields}
use Rattle.pws_event.specs.declared.readings.Reading.{Reading}
use Rattle.pws_event.specs.declared.readings.Share.{Share}
use Rattle.pws_event.specs.declared.events.Event.{Event}
use Rattle.pws_event.specs.declared.events.Event.TheVariants as event
use Rattle.pws_msg.specs.declared.readings.ReadingValue.TheVariants as value
use Rattle.pws_msg.specs.declared.contents.Content.{Content}
use Rattle.pws_msg.specs.declared.contents.Content.TheVariants as content
use Rattle.pws_protocol.specs.Keys.{replica}
use Rattle.pws_protocol.specs.Evidence.{Evidence, is_kept}
use Rattle.pws_protocol.specs.Support.{Support, Always, SaidBy, ReadBy, Stated, reading_said}

-- a request as a content
abbrev pub request_content : ℕ → ℕ → List ℕ → Content
request_content number low body = content.Request (record { number = number; low = low; body = body })

-- a reply as a content
abbrev pub reply_content : ℕ → ℕ → List ℕ → Content
reply_content caller number digest = content.Reply (record { caller = caller; number = number; digest = digest })

-- that a call expired, as a content
abbrev pub expired_content : ℕ → ℕ → Content
expired_content called number = content.Expired (record { called = called; number = number })

-- beside a request or a reply stands the digest of its body
abbrev pub IsBodyDigest : Event → List ℕ → Type 0
IsBodyDigest (event.Request r) digest = digest ≡ sha256 r.body
IsBodyDigest (event.Reply r) digest = digest ≡ sha256 r.body
IsBodyDigest _ digest = Unit {0}

-- a reading as an event names it
abbrev pub time_stated : Reading → Stated
time_stated r = record { index = r.index; value = value.Time r.ms }

-- a share as an event names it
abbrev pub share_stated : Share → Stated
share_stated s = record { index = s.index; value = value.Share s.bytes }

-- whether a reading that an event names is that of this replica, and is kept
abbrev pub names_kept : Evidence → ℕ → ℕ → Stated → Bool
names_kept e ask index x = x.index == index && is_kept e (replica e.group index) (reading_said ask x.value)

-- whether the reading that an event names of this replica is kept
abbrev pub is_named : Evidence → ℕ → List Stated → ℕ → Bool
is_named e ask xs index = list_any (names_kept e ask index) xs

-- the group whose replicas are counted
abbrev pub sayer_of : Evidence → Support → ℕ
sayer_of e Always = e.group
sayer_of e (SaidBy sayer c) = sayer
sayer_of e (ReadBy ask xs) = e.group

-- whether a replica of that group is counted
abbrev pub is_counted : Evidence → Support → ℕ → Bool
is_counted e Always index = false
is_counted e (SaidBy sayer c) index = is_kept e (replica sayer index) c
is_counted e (ReadBy ask xs) index = is_named e ask xs index

-- those of its first n replicas that are counted
abbrev pub counted_among : Evidence → Support → ℕ → List ReplicaId
counted_among e s n = map (replica (sayer_of e s)) (filter (is_counted e s) (range_with_len 0 n))

-- the readings that a clock event names
abbrev pub times_stated : ClockFields → List Stated
times_stated c = map time_stated c.readings

-- the shares that a random event names
abbrev pub shares_stated : RandomFields → List Stated
shares_stated r = map share_stated r.shares
