-- What replicas say, as plain data: the fields of each statement and their ranges; this project's own.
use Rattle.std.specs.Prelude.{◌≡◌, ℕ, ◌<◌, ◌≤◌, ◌^◌, List, length}
use Rattle.pws_event.specs.declared.events.Event.{Event}
use Rattle.pws_event.specs.Events.{IsEvent}
use Rattle.pws_msg.specs.Rows.{IsDigest}
use Rattle.pws_msg.specs.declared.readings.ReadingValue.{ReadingValue}
use Rattle.pws_msg.specs.declared.readings.ReadingValue.TheVariants as value

-- a time in milliseconds, or a share of 32 bytes
abbrev pub IsReadingValue : ReadingValue → Type 0
IsReadingValue (value.Time ms) = ms < 2 ^ 64
IsReadingValue (value.Share share) = IsDigest share

-- the number of a request, its low number, and its body
pub record OwnRequestFields : Type 0 where
  pub number : ℕ
  pub low : ℕ
  pub body : List ℕ

pub record IsOwnRequest (r : OwnRequestFields) : Type 0 where
  pub number_from : 1 ≤ r.number
  pub number_to : r.number ≤ 1000000
  pub low_from : 1 ≤ r.low
  pub low_to : r.low ≤ 1000000
  pub body : length r.body ≤ 32768

-- the group that called, the number of the call, and the digest of the reply's body
pub record ReplyNoteFields : Type 0 where
  pub caller : ℕ
  pub number : ℕ
  pub digest : List ℕ

pub record IsReplyNote (r : ReplyNoteFields) : Type 0 where
  pub caller : r.caller ≤ 15
  pub number_from : 1 ≤ r.number
  pub number_to : r.number ≤ 1000000
  pub digest : IsDigest r.digest

-- the group that was called, and the number of the call
pub record CallNameFields : Type 0 where
  pub called : ℕ
  pub number : ℕ

pub record IsCallName (n : CallNameFields) : Type 0 where
  pub called : n.called ≤ 15
  pub number_from : 1 ≤ n.number
  pub number_to : n.number ≤ 1000000

-- the ask that is answered, and what the replica gives
pub record OwnReadingFields : Type 0 where
  pub ask : ℕ
  pub value : ReadingValue

pub record IsOwnReading (r : OwnReadingFields) : Type 0 where
  pub ask_from : 1 ≤ r.ask
  pub ask_to : r.ask ≤ 1000000
  pub value : IsReadingValue r.value

-- a view, a place, and the event that is to stand there
pub record ProposalFields : Type 0 where
  pub view : ℕ
  pub place : ℕ
  pub event : Event

pub record IsProposal (p : ProposalFields) : Type 0 where
  pub view : p.view ≤ 1000000
  pub place_from : 1 ≤ p.place
  pub place_to : p.place ≤ 1000000
  pub event : IsEvent p.event

-- a view, a place, and the digest of an event
pub record PlaceVoteFields : Type 0 where
  pub view : ℕ
  pub place : ℕ
  pub digest : List ℕ

pub record IsPlaceVote (v : PlaceVoteFields) : Type 0 where
  pub view : v.view ≤ 1000000
  pub place_from : 1 ≤ v.place
  pub place_to : v.place ≤ 1000000
  pub digest : IsDigest v.digest

-- a place, and the digest that stands for all up to it
pub record PlaceDigestFields : Type 0 where
  pub place : ℕ
  pub digest : List ℕ

pub record IsPlaceDigest (d : PlaceDigestFields) : Type 0 where
  pub place_from : 1 ≤ d.place
  pub place_to : d.place ≤ 1000000
  pub digest : IsDigest d.digest

-- the view, the sender's index and the content's digest of a view change
pub record ChangeNameFields : Type 0 where
  pub view : ℕ
  pub index : ℕ
  pub digest : List ℕ

pub record IsChangeName (n : ChangeNameFields) : Type 0 where
  pub view : n.view ≤ 1000000
  pub index : n.index ≤ 9
  pub digest : IsDigest n.digest

-- a place
pub record WantedPlaceFields : Type 0 where
  pub place : ℕ

pub record IsWantedPlace (w : WantedPlaceFields) : Type 0 where
  pub place_from : 1 ≤ w.place
  pub place_to : w.place ≤ 1000000

-- a place, and its event
pub record DecidedEventFields : Type 0 where
  pub place : ℕ
  pub event : Event

pub record IsDecidedEvent (d : DecidedEventFields) : Type 0 where
  pub place_from : 1 ≤ d.place
  pub place_to : d.place ≤ 1000000
  pub event : IsEvent d.event
