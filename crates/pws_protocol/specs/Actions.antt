-- The actions of a voter, and which is the first that is enabled; after Castro and Liskov (2002), with rules of this
-- project's own.
--
-- The actions in their order, and the word of each that tells whether it is enabled, or for what:
--   Join `next_join`, Refuse `can_refuse`, Impatience `can_impatience`, Ack `next_ack` (`can_ack`),
--   NeedChosen `next_need_chosen`, NeedText `next_need_text`, Offer `next_offer` (`next_in_group` has these seven),
--   Enter `next_enter`, Propose `next_propose` (`open_events`), Accept `next_accept` (`can_accept`),
--   Prepare `next_prepare` (`can_prepare`), Execute `next_execute`, Adopt `next_adopt`, Commit `next_commit` (`can_commit`),
--   Checkpoint `can_checkpoint`, Stable `next_stable` (`can_stable`; `next_in_any` has these nine).
use Rattle.std.specs.Prelude.{ℕ, ◌+◌, ◌*◌, ◌^◌, ◌%◌, ◌==◌, ◌&&◌, not, min, max, Bool, false, nat_lt, nat_le, is_some, if◌then◌else◌, List, length, find, Option, Some, None}
use Rattle.std.specs.List.{fold, filter_map, list_any, list_all}
use Rattle.std.specs.Option.{option_map, option_map_or, option_or, option_and_then}
use Rattle.std.specs.FinMap.{get, len}
use Rattle.pws_base.specs.Counts.{count_below}
use Rattle.pws_base.specs.Limits.{max_number, checkpoint_distance, place_window}
use Rattle.pws_base.specs.Places.{is_in_window}
use Rattle.pws_base.specs.Shapes.{size_of_group, quorum_of, weak_of}
use Rattle.pws_event.specs.declared.events.Event.{Event}
use Rattle.pws_event.specs.Events.{digest_of}
use Rattle.pws_event.specs.Counters.{Counters}
use Rattle.pws_msg.specs.declared.changes.Choice.{Choice}
use Rattle.pws_msg.specs.declared.changes.NewView.{NewView}
use Rattle.pws_change.specs.Agreements.{agrees_by}
use Rattle.pws_change.specs.Sets.{is_full, row_at}
use Rattle.pws_votes.specs.declared.kinds.VoteKind.TheVariants as kind
use Rattle.pws_votes.specs.Votes.{key, has_vote, matching_of}
use Rattle.pws_protocol.specs.Alike.{is_for_same, same_event}
use Rattle.pws_protocol.specs.Support.{supports}
use Rattle.pws_protocol.specs.Candidates.{candidates}
use Rattle.pws_protocol.specs.States.{State, Slot, HeldChange, members, is_primary, is_alone, window, text_of, is_held, is_wanted}
use Rattle.pws_protocol.specs.Gathered.{ack_at, possible_choice, all_had}

-- the sixteen actions, each with what was found for it
pub data Action : Type 0 where
  Join : (view : ℕ) → Action  -- follow f + 1 others into a later view
  Refuse : Action  -- leave the view: the new view doesn't agree with its changes
  Impatience : Action  -- leave the view: nothing was executed for too long
  Ack : (index : ℕ) → Action  -- acknowledge a change
  NeedChosen : (digest : List ℕ) → Action  -- ask for a text that the possible choice names
  NeedText : (digest : List ℕ) → Action  -- ask for the text to be executed next
  Offer : Choice → Action  -- start the view, as its primary
  Enter : NewView → Action  -- enter the view, as a backup
  Propose : Event → Action  -- propose an event for the next place, as the primary
  Accept : (place : ℕ) → Action  -- accept what is pending
  Prepare : (place : ℕ) → Action  -- mark a slot as prepared
  Execute : Event → Action  -- execute the next place
  Adopt : Event → Action  -- execute the next place, as f + 1 others say that they did
  Commit : (place : ℕ) → Action  -- mark a slot as committed
  Checkpoint : Action  -- vote for a checkpoint
  Stable : (place : ℕ) → Action  -- raise the low mark

-- the view of another replica's change, where it is later than the voter's
abbrev later_view : State → ℕ → Option ℕ
later_view s j =
    if j == s.me.index
    then None
    else option_and_then (λ c. if nat_lt s.view c.change.view then Some c.change.view else None) (get s.heard j)

-- all these views
unfoldable pub later_views : State → List ℕ
later_views s = filter_map (later_view s) (members s)

-- the lesser of two views
abbrev pub lesser_view : Option ℕ → ℕ → Option ℕ
lesser_view None w = Some w
lesser_view (Some v) w = Some (min v w)

-- 1: the least of them, where there are at least f + 1
unfoldable pub next_join : State → Option ℕ
next_join s = if nat_le (weak_of s.me.f) (length (later_views s)) then fold lesser_view None (later_views s) else None

-- whether all changes that a new view names are had, and it agrees with them
abbrev is_agreed : State → NewView → Bool
is_agreed s v = option_map_or (agrees_by s.me.f v) (all_had s v.named) false

-- whether all changes that a new view names are had, and it doesn't agree with them
abbrev is_refuted : State → NewView → Bool
is_refuted s v = option_map_or (λ changes. not (agrees_by s.me.f v changes)) (all_had s v.named) false

-- 2: all changes of the new view are had and it doesn't agree with them, while on the way; there is a later view
unfoldable pub can_refuse : State → Bool
can_refuse s = not s.active && (nat_lt s.view max_number && option_map_or (is_refuted s) s.new_view false)

-- 3: nothing was executed for 8 ticks, or twice as many for each move since, up to the sixth; there is a later view
unfoldable pub can_impatience : State → Bool
can_impatience s = nat_le (8 * 2 ^ min s.moves 6) s.waited && nat_lt s.view max_number

-- whether a change is for the view
abbrev is_for_view : State → HeldChange → Bool
is_for_view s c = c.change.view == s.view

-- whether the change of a replica can be acknowledged: it is another's, for the view, and isn't acknowledged yet
unfoldable pub can_ack : State → ℕ → Bool
can_ack s j = not (j == s.me.index) && (option_map_or (is_for_view s) (get s.heard j) false && not (is_some (ack_at s s.me.index j)))

-- 4: the least index of such a replica, while on the way
unfoldable pub next_ack : State → Option ℕ
next_ack s = if s.active then None else find (can_ack s) (members s)

-- 5: a digest of the possible choice whose event is wanted, the least place first
unfoldable pub next_need_chosen : State → Option (List ℕ)
next_need_chosen s = option_and_then (λ c. find (is_wanted s) c.chosen) (possible_choice s)

-- the digest of a slot, where it is committed
abbrev committed_digest : Slot → Option (List ℕ)
committed_digest t = if t.is_committed then Some t.digest else None

-- the digest that is committed at the place after the last one executed
unfoldable pub next_digest : State → Option (List ℕ)
next_digest s = option_and_then committed_digest (get s.slots (s.done + 1))

-- 6: that digest, where its event is wanted
unfoldable pub next_need_text : State → Option (List ℕ)
next_need_text s = option_and_then (λ d. if is_wanted s d then Some d else None) (next_digest s)

-- 7: the possible choice, where all its events are held
unfoldable pub next_offer : State → Option Choice
next_offer s = option_and_then (λ c. if list_all (is_held s) c.chosen then Some c else None) (possible_choice s)

-- 8: the new view, where all its changes are had and it agrees with them, while on the way
unfoldable pub next_enter : State → Option NewView
next_enter s = if s.active then None else option_and_then (λ v. if is_agreed s v then Some v else None) s.new_view

-- the place after all that are accepted and all that the view started with
abbrev pub next_place : State → ℕ
next_place s = max s.floor s.last + 1

-- whether that place may be proposed for: as the primary, in the window, with room in its row of Q
abbrev can_propose : State → Bool
can_propose s =
    s.active && (is_primary s && (is_in_window s.low (next_place s) && (nat_le (next_place s) max_number && nat_lt (len (row_at s.pre_prepared (next_place s))) 16)))

-- the event of the slot at a place above the last one executed, as far as it is held
abbrev open_event : State → ℕ → Option Event
open_event s p = if nat_lt s.done p then option_and_then (λ t. text_of s t.digest) (get s.slots p) else None

-- all these events, by rising place
unfoldable pub open_events : State → List Event
open_events s = filter_map (open_event s) (window s.low)

-- 9: the first candidate for whose request, call or ask none of them is
unfoldable pub next_propose : State → Counters → Option Event
next_propose s asked =
    if can_propose s
    then find (λ e. not (list_any (is_for_same e) (open_events s))) (candidates s.evidence asked)
    else None

-- whether what is pending at a place can be accepted: it is supported, and the row of Q has room
unfoldable pub can_accept : State → ℕ → Bool
can_accept s p = option_map_or (λ e. supports s.evidence e && not (is_full s.pre_prepared p (digest_of e))) (get s.pending p) false

-- 10: the least such place, while active
unfoldable pub next_accept : State → Option ℕ
next_accept s = if s.active then find (can_accept s) (window s.low) else None

-- whether a slot can be prepared: it isn't, and 2f PREPAREs match
abbrev slot_can_prepare : State → ℕ → Slot → Bool
slot_can_prepare s p t = not t.is_prepared && nat_le (2 * s.me.f) (matching_of s.book kind.Prepare p t.digest)

-- whether there is such a slot at a place
unfoldable pub can_prepare : State → ℕ → Bool
can_prepare s p = option_map_or (slot_can_prepare s p) (get s.slots p) false

-- 11: the least place of such a slot, while active
unfoldable pub next_prepare : State → Option ℕ
next_prepare s = if s.active then find (can_prepare s) (window s.low) else None

-- 12: the event of the next place, where it is committed and held
unfoldable pub next_execute : State → Option Event
next_execute s = option_and_then (text_of s) (next_digest s)

-- whether a replica says that this event stands at the next place
abbrev says_done : State → Event → ℕ → Bool
says_done s e j = option_map_or (same_event e) (get s.dones j) false

-- whether f + 1 replicas do
abbrev is_adoptable : State → Event → Bool
is_adoptable s e = nat_le (weak_of s.me.f) (count_below (size_of_group s.me.f) (says_done s e))

-- 13: such an event; a group of one adopts nothing
unfoldable pub next_adopt : State → Option Event
next_adopt s = if is_alone s then None else find (is_adoptable s) (filter_map (λ j. get s.dones j) (members s))

-- whether a slot can be committed: it is prepared, isn't committed, and 2f + 1 COMMITs match
abbrev slot_can_commit : State → ℕ → Slot → Bool
slot_can_commit s p t = t.is_prepared && (not t.is_committed && nat_le (quorum_of s.me.f) (matching_of s.book kind.Commit p t.digest))

-- whether there is such a slot at a place
unfoldable pub can_commit : State → ℕ → Bool
can_commit s p = option_map_or (slot_can_commit s p) (get s.slots p) false

-- 14: the least place of such a slot, while active
unfoldable pub next_commit : State → Option ℕ
next_commit s = if s.active then find (can_commit s) (window s.low) else None

-- 15: the last place executed is a multiple of 16 above the low mark, without the voter's vote
unfoldable pub can_checkpoint : State → Bool
can_checkpoint s = s.done % checkpoint_distance == 0 && (nat_lt s.low s.done && not (has_vote s.book (key kind.Checkpoint s.done s.me.index)))

-- whether 2f + 1 CHECKPOINTs match a chain at a place
abbrev is_matched : State → ℕ → List ℕ → Bool
is_matched s p digest = nat_le (quorum_of s.me.f) (matching_of s.book kind.Checkpoint p digest)

-- whether a place above the low mark, up to the last one executed, has a chain that they match
unfoldable pub can_stable : State → ℕ → Bool
can_stable s p = nat_lt s.low p && (nat_le p s.done && option_map_or (is_matched s p) (get s.chains p) false)

-- that place, where it has
abbrev pub if_stable : State → ℕ → Option ℕ
if_stable s p = if can_stable s p then Some p else None

-- 16: the greatest such place: above the low mark at most two are multiples of 16
unfoldable pub next_stable : State → Option ℕ
next_stable s = option_or (if_stable s (s.low + place_window)) (if_stable s (s.low + checkpoint_distance))

-- an action without a parameter
abbrev pub when : Bool → Action → Option Action
when enabled a = if enabled then Some a else None

-- the first enabled of the first seven, which a group of one never does
unfoldable pub next_in_group : State → Option Action
next_in_group s =
    option_or (option_map Join (next_join s))
    (option_or (when (can_refuse s) Refuse)
    (option_or (when (can_impatience s) Impatience)
    (option_or (option_map Ack (next_ack s))
    (option_or (option_map NeedChosen (next_need_chosen s))
    (option_or (option_map NeedText (next_need_text s))
    (option_map Offer (next_offer s)))))))

-- the first enabled of the others
unfoldable pub next_in_any : State → Counters → Option Action
next_in_any s asked =
    option_or (option_map Enter (next_enter s))
    (option_or (option_map Propose (next_propose s asked))
    (option_or (option_map Accept (next_accept s))
    (option_or (option_map Prepare (next_prepare s))
    (option_or (option_map Execute (next_execute s))
    (option_or (option_map Adopt (next_adopt s))
    (option_or (option_map Commit (next_commit s))
    (option_or (when (can_checkpoint s) Checkpoint)
    (option_map Stable (next_stable s)))))))))

-- the first enabled action
unfoldable pub next_action : State → Counters → Option Action
next_action s asked = option_or (if is_alone s then None else next_in_group s) (next_in_any s asked)
