-- Which events are supported, over a test of who says what; this project's own. With the kept statements for the test it
-- is what a voter counts; with what the replicas of a world said it is what an event is backed by.
use Rattle.std.specs.Prelude.{ℕ, ◌==◌, ◌&&◌, Bool, true, false, nat_lt, nat_le, List, [], map, filter, length, slice_get, slice_index}
use Rattle.std.specs.List.{list_any, list_all, range_with_len}
use Rattle.std.specs.Option.{option_map_or}
use Rattle.sha2.specs.Sha256.{sha256}
use Rattle.pws_base.specs.declared.shapes.ReplicaId.{ReplicaId}
use Rattle.pws_base.specs.Counts.{count_below}
use Rattle.pws_base.specs.Shapes.{size_of_group, quorum_of, weak_of}
use Rattle.pws_event.specs.Answers.{ReplyFields, AbortFields}
use Rattle.pws_event.specs.Readings.{ClockFields, RandomFields}
use Rattle.pws_event.specs.Requests.{RequestFields}
use Rattle.pws_event.specs.declared.events.Event.{Event}
use Rattle.pws_event.specs.declared.events.Event.TheVariants as event
use Rattle.pws_msg.specs.declared.readings.ReadingValue.{ReadingValue}
use Rattle.pws_msg.specs.declared.readings.ReadingValue.TheVariants as value
use Rattle.pws_msg.specs.declared.contents.Content.{Content}
use Rattle.pws_msg.specs.declared.contents.Content.TheVariants as content
use Rattle.pws_change.specs.Rising.{rises}
use Rattle.pws_protocol.specs.Keys.{replica}
use Rattle.pws_protocol.specs.Evidence.{Evidence, is_kept}

-- a reading or a share that an event names, with the index of its replica
pub record Stated : Type 0 where
  pub index : ℕ
  pub value : ReadingValue

-- what an event is supported by
pub data Support : Type 0 where
  Always : Support  -- it needs no statement
  SaidBy : (group : ℕ) → Content → Support  -- f + 1 replicas of this group say this
  ReadBy : (ask : ℕ) → List Stated → Support  -- 2f + 1 replicas of the own group read just these for the ask

-- the statement of a request
abbrev request_said : RequestFields → Content
request_said r = content.Request (record { number = r.number; low = r.low; body = r.body })

-- the statement of a reply to the group
abbrev reply_said : ℕ → ReplyFields → Content
reply_said group r = content.Reply (record { caller = group; number = r.number; digest = sha256 r.body })

-- the statement that a call expired
abbrev expired_said : AbortFields → Content
expired_said a = content.Expired (record { called = a.called; number = a.number })

-- the statement of a reading for an ask
abbrev pub reading_said : ℕ → ReadingValue → Content
reading_said ask v = content.Reading (record { ask = ask; value = v })

-- the readings that a clock event names
abbrev times_of : ClockFields → List Stated
times_of c = map (λ r. record { index = r.index; value = value.Time r.ms }) c.readings

-- the shares that a random event names
abbrev shares_of : RandomFields → List Stated
shares_of r = map (λ s. record { index = s.index; value = value.Share s.bytes }) r.shares

-- the table of support, for events of a group
unfoldable pub support_of : ℕ → Event → Support
support_of group event.Null = Always
support_of group (event.Request r) = SaidBy r.caller (request_said r)
support_of group (event.Reply r) = SaidBy r.called (reply_said group r)
support_of group (event.Abort a) = SaidBy group (expired_said a)
support_of group (event.Clock c) = ReadBy c.ask (times_of c)
support_of group (event.Random r) = ReadBy r.ask (shares_of r)

-- how many replicas of a group that bears f compromised ones say this
abbrev pub sayers : (ReplicaId → Content → Bool) → ℕ → ℕ → Content → ℕ
sayers says f group c = count_below (size_of_group f) (λ i. says (replica group i) c)

-- whether f + 1 replicas of a group of the layout say this
abbrev pub enough_say : (ReplicaId → Content → Bool) → List ℕ → ℕ → Content → Bool
enough_say says layout group c = option_map_or (λ f. nat_le (weak_of f) (sayers says f group c)) (slice_get layout group) false

-- whether a replica of the group read this for an ask
abbrev pub is_read : (ReplicaId → Content → Bool) → ℕ → ℕ → ℕ → Stated → Bool
is_read says f group ask x = nat_lt x.index (size_of_group f) && says (replica group x.index) (reading_said ask x.value)

-- whether 2f + 1 replicas are named, rising, and each read what is named
abbrev pub are_read : (ReplicaId → Content → Bool) → ℕ → ℕ → ℕ → List Stated → Bool
are_read says f group ask xs = length xs == quorum_of f && (rises (λ a b. nat_lt a.index b.index) xs && list_all (is_read says f group ask) xs)

-- whether this support is there, in a group of this layout
abbrev pub is_there : (ReplicaId → Content → Bool) → List ℕ → ℕ → Support → Bool
is_there says layout group Always = true
is_there says layout group (SaidBy sayer c) = enough_say says layout sayer c
is_there says layout group (ReadBy ask xs) = are_read says (slice_index layout group) group ask xs

-- whether an event is supported in a group of this layout
unfoldable pub supported_by : (ReplicaId → Content → Bool) → List ℕ → ℕ → Event → Bool
supported_by says layout group x = is_there says layout group (support_of group x)

-- whether the kept statements support an event
unfoldable pub supports : Evidence → Event → Bool
supports e x = supported_by (is_kept e) e.layout e.group x

-- the replicas of a group that pass a test, rising
abbrev pub replicas_by : List ℕ → ℕ → (ℕ → Bool) → List ReplicaId
replicas_by layout group test = map (replica group) (filter test (range_with_len 0 (option_map_or size_of_group (slice_get layout group) 0)))

-- whether the reading that an event names of this replica is kept
abbrev is_reader : Evidence → ℕ → List Stated → ℕ → Bool
is_reader e ask xs index = list_any (λ x. x.index == index && is_kept e (replica e.group index) (reading_said ask x.value)) xs

-- the senders whose kept statements are counted for an event, rising
abbrev pub vouchers_by : Evidence → Support → List ReplicaId
vouchers_by e Always = []
vouchers_by e (SaidBy sayer c) = replicas_by e.layout sayer (λ i. is_kept e (replica sayer i) c)
vouchers_by e (ReadBy ask xs) = replicas_by e.layout e.group (is_reader e ask xs)

-- the senders that are counted for an event
unfoldable pub vouchers : Evidence → Event → List ReplicaId
vouchers e x = vouchers_by e (support_of e.group x)
