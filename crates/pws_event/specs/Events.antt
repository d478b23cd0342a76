-- The text of an event, its digest, and the chain of digests; this project's own, over SHA-256
-- (FIPS 180-4, section 6.2).
use Rattle.std.specs.Prelude.{ℕ, List, [], ◌∷◌, ◌++◌, length, replicate}
use Rattle.std.specs.List.{fold, flat_map}
use Rattle.sha2.specs.Sha256.{sha256}
use Rattle.pws_base.specs.Texts.{u32_text, u64_text, sized_text}
use Rattle.pws_event.specs.Requests.{RequestFields, IsRequest}
use Rattle.pws_event.specs.Answers.{ReplyFields, AbortFields, IsReply, IsAbort}
use Rattle.pws_event.specs.Readings.{ClockFields, RandomFields, IsClock, IsRandom}
use Rattle.pws_event.specs.declared.readings.Reading.{Reading}
use Rattle.pws_event.specs.declared.readings.Share.{Share}
use Rattle.pws_event.specs.declared.events.Event.{Event}
use Rattle.pws_event.specs.declared.events.Event.TheVariants as event

-- kind 1, the caller's group, the number, the low number, and the body after its length
abbrev pub request_text : RequestFields → List ℕ
request_text r = (1 ∷ []) ++ (r.caller ∷ []) ++ u32_text r.number ++ u32_text r.low ++ sized_text r.body

-- kind 2, the called group, the number, and the body after its length
abbrev pub reply_text : ReplyFields → List ℕ
reply_text r = (2 ∷ []) ++ (r.called ∷ []) ++ u32_text r.number ++ sized_text r.body

-- kind 3, the called group, and the number
abbrev pub abort_text : AbortFields → List ℕ
abort_text a = (3 ∷ []) ++ (a.called ∷ []) ++ u32_text a.number

-- a reading: the index, and the milliseconds in eight bytes
abbrev pub reading_text : Reading → List ℕ
reading_text r = (r.index ∷ []) ++ u64_text r.ms

-- kind 4, the ask, how many readings there are, and the readings
abbrev pub clock_text : ClockFields → List ℕ
clock_text c = (4 ∷ []) ++ u32_text c.ask ++ (length c.readings ∷ []) ++ flat_map reading_text c.readings

-- a share: the index, and its 32 bytes
abbrev pub share_text : Share → List ℕ
share_text s = (s.index ∷ []) ++ s.bytes

-- kind 5, the ask, how many shares there are, and the shares
abbrev pub random_text : RandomFields → List ℕ
random_text r = (5 ∷ []) ++ u32_text r.ask ++ (length r.shares ∷ []) ++ flat_map share_text r.shares

-- the bytes that spell an event; those of Null are its kind, 0, alone
abbrev pub event_text : Event → List ℕ
event_text event.Null = 0 ∷ []
event_text (event.Request r) = request_text r
event_text (event.Reply r) = reply_text r
event_text (event.Abort a) = abort_text a
event_text (event.Clock c) = clock_text c
event_text (event.Random r) = random_text r

-- the fields of an event are in range
abbrev pub IsEvent : Event → Type 0
IsEvent event.Null = Unit {0}
IsEvent (event.Request r) = IsRequest r
IsEvent (event.Reply r) = IsReply r
IsEvent (event.Abort a) = IsAbort a
IsEvent (event.Clock c) = IsClock c
IsEvent (event.Random r) = IsRandom r

-- the digest of an event
abbrev pub digest_of : Event → List ℕ
digest_of e = sha256 (event_text e)

-- the chain after the places with these digests: 32 zero bytes before the first, and after each the digest of the
-- chain before it and the place's own digest, joined
abbrev pub chain_of : List (List ℕ) → List ℕ
chain_of digests = fold (λ chain digest. sha256 (chain ++ digest)) (replicate 32 0) digests
