-- How a list of events is stored; this project's own.
use Rattle.std.specs.Prelude.{◌≡◌, ℕ, ◌+◌, ◌≤◌, ◌^◌, List, length, map, take, slice_get, Option, Some, None, IfSome}
use Rattle.pws_event.specs.declared.lists.Slot.{Slot}
use Rattle.pws_event.specs.Events.{chain_of, digest_of}
use Rattle.pws_event.specs.Lists.{PlacedEvent, kept_bytes, digests_of, at_place, chain_at}

-- the place that a slot stands for
abbrev pub place_of : Slot → PlacedEvent
place_of s = record { digest = s.digest; event = s.event }

abbrev pub places_of : List Slot → List PlacedEvent
places_of slots = map place_of slots

-- each event has its digest, and the chains and the count of bytes are those of the places
pub record IsKept (slots : List Slot) (bytes : ℕ) : Type 0 where
  pub few : length slots ≤ 1000000
  pub sum : bytes ≡ kept_bytes (places_of slots)
  pub small : bytes ≤ 2 ^ 30
  pub digests : (i : ℕ) (s : Slot) → slice_get slots i ≡ Some s → IfSome s.event (λ e. s.digest ≡ digest_of e)
  pub chains : (i : ℕ) (s : Slot) → slice_get slots i ≡ Some s → s.chain ≡ chain_of (take (i + 1) (digests_of (places_of slots)))

-- what stands at a place
abbrev pub IsSlotAt : List PlacedEvent → ℕ → Option Slot → Type 0
IsSlotAt places place None = at_place places place ≡ None
IsSlotAt places place (Some s) = (at_place places place ≡ Some (place_of s)) × (chain_at places place ≡ Some s.chain) × IfSome s.event (λ e. s.digest ≡ digest_of e)
