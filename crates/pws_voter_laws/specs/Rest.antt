-- That a reaction ends: how much a voter has left to do before it rests, as a number that each action but the last
-- lowers; this project's own.
use Rattle.std.specs.Prelude.{◌≡◌, ◌<◌, ℕ, ◌+◌, ◌-◌, ◌*◌, max, Bool, false, nat_lt, is_some, if◌then◌else◌, List, [], ◌∷◌, Option, Some, None}
use Rattle.std.specs.Option.{option_map_or}
use Rattle.std.specs.FinMap.{get}
use Rattle.std.specs.FinSet as set
use Rattle.pws_base.specs.Limits.{max_number}
use Rattle.pws_event.specs.Counters.{Counters}
use Rattle.pws_msg.specs.declared.changes.Choice.{Choice}
use Rattle.pws_votes.specs.declared.kinds.VoteKind.TheVariants as kind
use Rattle.pws_votes.specs.Votes.{key, has_vote}
use Rattle.pws_protocol.specs.States.{State, Slot, members, window}
use Rattle.pws_protocol.specs.Gathered.{ack_at, possible_choice}
use Rattle.pws_protocol.specs.Actions.{Action, next_action}
use Rattle.pws_protocol.specs.Doing.{Reaction}
use Rattle.pws_protocol.specs.Reactions.{Input, Reacts, react, begun, settled_state, is_last, then_did}
use Rattle.pws_protocol.specs.Fits.{Fits, IsInput}
use Rattle.pws_protocol.specs.Laws.{Goes}

-- the sum of numbers over a list
abbrev pub total : {X : Type 0} → (X → ℕ) → List X → ℕ
total f [] = 0
total f (x ∷ xs) = f x + total f xs

-- 1 where something is missing
abbrev pub missing : Bool → ℕ
missing is_there = if is_there then 0 else 1

-- how far a slot is from being committed
abbrev pub slot_left : Option Slot → ℕ
slot_left None = 0
slot_left (Some t) = missing t.is_prepared + missing t.is_committed

-- what is left to do at a place: to propose for it, to accept what is pending, to prepare and commit
abbrev pub place_left : State → ℕ → ℕ
place_left s p = (if nat_lt (max s.floor s.last) p then 3 else 0) + (if is_some (get s.pending p) then 4 else 0) + slot_left (get s.slots p)

-- that of the window's places
unfoldable pub places_left : State → ℕ
places_left s = total (place_left s) (window s.low)

-- how many changes the voter may yet acknowledge
unfoldable pub acks_left : State → ℕ
acks_left s = total (λ j. missing (is_some (ack_at s s.me.index j))) (members s)

-- 1 where the voter's vote for a checkpoint at the last place executed is missing
unfoldable pub vote_left : State → ℕ
vote_left s = missing (has_vote s.book (key kind.Checkpoint s.done s.me.index))

-- 1 where a digest isn't asked for
abbrev pub unasked : State → List ℕ → ℕ
unasked s digest = missing (set.contains s.needed digest)

-- how many texts may yet be asked for: of the possible choice, and of the slot at the next place
unfoldable pub texts_left : State → ℕ
texts_left s =
    option_map_or (λ (c : Choice). total (unasked s) c.chosen) (possible_choice s) 0
    + option_map_or (λ (t : Slot). unasked s t.digest) (get s.slots (s.done + 1)) 0

-- what is left to do in the view; each weighs more than what an action that lowers it can raise behind it: 9 for each of
-- 32 places, a vote, 33 texts
unfoldable pub left_in_view : State → ℕ
left_in_view s =
    20000 * (s.done - s.low) + 20000 * missing s.active + 20000 * acks_left s + 68 * places_left s + 34 * vote_left s + texts_left s

-- what is left to do, the later views included
unfoldable pub left : State → ℕ
left s = 1000000 * (max_number - s.view) + left_in_view s

-- more than the most of it
abbrev pub most_left : ℕ
most_left = 1000001000000

-- each action but the last of a call leaves less
abbrev pub ActionsLeaveLess : Type 0
ActionsLeaveLess =
    (asked : Counters) (r : Reaction) (a : Action)
    → Fits r.state → next_action r.state asked ≡ Some a → is_last a ≡ false → left (then_did r a).state < left r.state

-- so of the actions of one call only so many aren't the last
abbrev pub ActionsAreFew : Type 0
ActionsAreFew =
    (s : State) (asked : Counters) (input : Input) (n : ℕ)
    → Fits s → IsInput s input → Goes asked n (begun (settled_state s asked) asked input).reaction → n < most_left

-- and the function of the reaction gives what the relation has
abbrev pub ReactionsRest : Type 0
ReactionsRest = (s : State) (asked : Counters) (input : Input) → Fits s → IsInput s input → Reacts s asked input (react s asked input)
