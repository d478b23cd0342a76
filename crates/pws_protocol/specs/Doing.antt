-- What each action does; after Castro and Liskov (2002), with rules of this project's own.
use Rattle.std.specs.Prelude.{ℕ, ◌+◌, ◌%◌, ◌==◌, ◌&&◌, ◌++◌, not, max, Bool, true, false, nat_le, if◌then◌else◌, List, [], ◌∷◌, map, filter, Option, Some, None}
use Rattle.std.specs.List.{fold}
use Rattle.std.specs.Option.{option_map_or}
use Rattle.std.specs.Ordering.{nat_cmp}
use Rattle.std.specs.Str.{bytes_eq}
use Rattle.std.specs.FinMap.{FinMap, empty, get, insert, remove, retain_keys, entries}
use Rattle.std.specs.FinSet as set
use Rattle.sha2.specs.Sha256.{sha256}
use Rattle.pws_base.specs.Limits.{checkpoint_distance}
use Rattle.pws_base.specs.Places.{is_in_window}
use Rattle.pws_event.specs.declared.events.Event.{Event}
use Rattle.pws_event.specs.Events.{digest_of}
use Rattle.pws_msg.specs.declared.changes.Checkpoint.{Checkpoint}
use Rattle.pws_msg.specs.declared.changes.Choice.{Choice}
use Rattle.pws_msg.specs.declared.changes.NewView.{NewView}
use Rattle.pws_msg.specs.declared.changes.ViewChange.{ViewChange}
use Rattle.pws_msg.specs.declared.contents.Content.{Content}
use Rattle.pws_msg.specs.declared.contents.Content.TheVariants as content
use Rattle.pws_msg.specs.Contents.{content_digest_of}
use Rattle.pws_change.specs.Agreements.{name_of}
use Rattle.pws_change.specs.Choices.{last_of, null_digest}
use Rattle.pws_change.specs.Sets.{Prepared, PrePrepared, p_rows, q_rows, is_full, with_prepared, with_pre_prepared, trimmed}
use Rattle.pws_votes.specs.declared.kinds.VoteKind.{VoteKind}
use Rattle.pws_votes.specs.declared.kinds.VoteKind.TheVariants as kind
use Rattle.pws_votes.specs.Votes.{key, after_vote, without_view, raised_to}
use Rattle.pws_protocol.specs.Keys.{replica}
use Rattle.pws_protocol.specs.States.{State, Slot, HeldChange, Relayed, is_alone, window, new_slot}
use Rattle.pws_protocol.specs.Gathered.{acks_of, counted}
use Rattle.pws_protocol.specs.Hearing.{Out}
use Rattle.pws_protocol.specs.Hearing as out
use Rattle.pws_protocol.specs.Actions.{Action, next_place}
use Rattle.pws_protocol.specs.Actions as act

-- the state after an action, and what is put out
pub record Reaction : Type 0 where
  pub state : State
  pub outs : List Out

-- nothing changes, and nothing goes out
abbrev pub still : State → Reaction
still s = record { state = s; outs = [] }

-- statements to the whole group, in order; a group of one sends nothing to itself
abbrev pub said_all : State → List Out → Reaction
said_all s outs = record { state = s; outs = if is_alone s then [] else outs }

-- one statement to the whole group
abbrev pub said : State → Content → Reaction
said s c = said_all s (out.Send c [] ∷ [])

-- what is done with a value that is there
abbrev pub on : {A : Type 0} → State → Option A → (A → Reaction) → Reaction
on s None f = still s
on s (Some x) f = f x

-- the voter's own vote
unfoldable pub voted : State → VoteKind → ℕ → List ℕ → State
voted s k p digest = record s { book = after_vote s.book (key k p s.me.index) digest }

-- a digest is accepted at a place: its slot, the highest place, and what was pending there
unfoldable pub accepted : State → ℕ → List ℕ → State
accepted s p digest = record s {
  last = max s.last p;
  pending = remove s.pending p;
  slots = insert s.slots p (new_slot digest);
}

-- an event's text is held; Null's always is
unfoldable pub with_text : State → Event → State
with_text s e = if bytes_eq (digest_of e) null_digest then s else record s { texts = insert s.texts (digest_of e) e }

-- a prepared slot is noted in P, with the view that is left
abbrev pub note_p : ℕ → ℕ → Option Slot → Prepared → Prepared
note_p view p None m = m
note_p view p (Some t) m = if t.is_prepared then with_prepared m p t.digest view else m

-- a slot is noted in Q, with the view that is left, where its row isn't full
abbrev pub note_q : ℕ → ℕ → Option Slot → PrePrepared → PrePrepared
note_q view p None m = m
note_q view p (Some t) m = if is_full m p t.digest then m else with_pre_prepared m p t.digest view

-- P with the slots at these places
unfoldable pub noted_p : ℕ → FinMap nat_cmp Slot → List ℕ → Prepared → Prepared
noted_p view slots places m = fold (λ x p. note_p view p (get slots p) x) m places

-- Q with the slots at these places
unfoldable pub noted_q : ℕ → FinMap nat_cmp Slot → List ℕ → PrePrepared → PrePrepared
noted_q view slots places m = fold (λ x p. note_q view p (get slots p) x) m places

-- Move: all slots are noted
unfoldable pub noted : State → State
noted s = record s {
  prepared = noted_p s.view s.slots (window s.low) s.prepared;
  pre_prepared = noted_q s.view s.slots (window s.low) s.pre_prepared;
}

-- what belongs to the view is dropped, votes for checkpoints aside
unfoldable pub left_view : State → ℕ → State
left_view s w = record s {
  view = w;
  active = false;
  last = 0;
  waited = 0;
  moves = s.moves + 1;
  pending = empty;
  slots = empty;
  book = without_view s.book;
  acks = empty;
  new_view = None;
  relayed = empty;
}

-- the chains as checkpoints, by rising place
abbrev checkpoints_of : FinMap nat_cmp (List ℕ) → List Checkpoint
checkpoints_of m = map (λ x. record { place = x.0; digest = x.1 }) (entries m)

-- what the voter reports as it moves: its low mark, its chains, P and Q
unfoldable pub own_change : State → ViewChange
own_change s = record {
  view = s.view;
  low = s.low;
  checkpoints = checkpoints_of s.chains;
  prepared = p_rows s.prepared;
  pre_prepared = q_rows s.pre_prepared;
}

-- the voter's own change is heard
unfoldable pub with_change : State → ViewChange → State
with_change s c = record s { heard = insert s.heard s.me.index (record { digest = content_digest_of (content.ViewChange c); change = c; tags = [] }) }

-- it is made, heard and said
unfoldable pub reported : State → Reaction
reported s = said (with_change s (own_change s)) (content.ViewChange (own_change s))

-- 1 to 3: the move into a view
unfoldable pub did_move : State → ℕ → Reaction
did_move s w = reported (left_view (noted s) w)

-- an acknowledgment is held
abbrev with_ack : State → ℕ → List ℕ → State
with_ack s j digest = record s { acks = insert s.acks s.me.index (insert (acks_of s s.me.index) j digest) }

-- ACK of a change
abbrev pub ack_change : State → ℕ → HeldChange → Reaction
ack_change s j c = said (with_ack s j c.digest) (content.Ack (record { view = s.view; index = j; digest = c.digest }))

-- 4: the change of this replica is acknowledged
unfoldable pub did_ack : State → ℕ → Reaction
did_ack s j = on s (get s.heard j) (ack_change s j)

-- 5, 6: NEED
unfoldable pub did_need : State → List ℕ → Reaction
did_need s digest = said (record s { needed = set.insert s.needed digest }) (content.Need digest)

-- Enter: the chosen digests with their places
abbrev pub placed_from : ℕ → List (List ℕ) → List (ℕ × List ℕ)
placed_from p [] = []
placed_from p (d ∷ ds) = (p, d) ∷ placed_from (p + 1) ds

-- whether one can be accepted: its place is in the window, and its row of Q has room
abbrev pub can_take : State → ℕ × List ℕ → Bool
can_take s x = is_in_window s.low x.0 && not (is_full s.pre_prepared x.0 x.1)

-- those that are accepted
unfoldable pub taken : State → Choice → List (ℕ × List ℕ)
taken s c = filter (can_take s) (placed_from (c.place + 1) c.chosen)

-- their slots; a voter on the way has no others, and nothing pending
abbrev pub slots_of : List (ℕ × List ℕ) → FinMap nat_cmp Slot
slots_of [] = empty
slots_of (x ∷ xs) = insert (slots_of xs) x.0 (new_slot x.1)

-- the highest of their places, or 0
abbrev pub highest_of : List (ℕ × List ℕ) → ℕ
highest_of [] = 0
highest_of (x ∷ xs) = max x.0 (highest_of xs)

-- the voter takes part in the view: its floor, and what it accepts of the choice
unfoldable pub entered : State → Choice → State
entered s c = record s {
  active = true;
  floor = last_of c;
  last = highest_of (taken s c);
  slots = slots_of (taken s c);
}

-- the NEW_VIEW of this choice
abbrev pub offer_of : State → Choice → NewView
offer_of s c = record { view = s.view; named = map name_of (counted s); choice = c }

-- the indices of those that count but the own one, rising
abbrev others_counted : State → List ℕ
others_counted s = filter (λ j. not (j == s.me.index)) (map (λ h. h.index) (counted s))

-- the heard change of a replica is held as one that was passed on
abbrev relay_in : State → FinMap nat_cmp Relayed → ℕ → FinMap nat_cmp Relayed
relay_in s m j = option_map_or (λ c. insert m j (record { digest = c.digest; change = c.change; tags = c.tags; is_verified = true })) (get s.heard j) m

-- it is held, and the changes of the others as passed on and verified
unfoldable pub with_offer : State → Choice → State
with_offer s c = record s { new_view = Some (offer_of s c); relayed = fold (relay_in s) empty (others_counted s) }

-- RELAY, with the change as a voucher of its sender
abbrev pub relay_out : State → ℕ × Relayed → Out
relay_out s x =
    out.Send (content.Relay (record { view = s.view; index = x.0; digest = x.1.digest }))
    (record { sender = replica s.me.group x.0; content = content.ViewChange x.1.change; tags = x.1.tags } ∷ [])

-- a NEW_VIEW
abbrev pub new_view_out : NewView → Out
new_view_out v = out.Send (content.NewView v) []

-- what starts the view: the NEW_VIEW that is held, and the relays, rising
unfoldable pub start_outs : State → List Out
start_outs s = option_map_or (λ v. new_view_out v ∷ []) s.new_view [] ++ map (relay_out s) (entries s.relayed)

-- 7: the primary starts the view, and enters it
unfoldable pub did_offer : State → Choice → Reaction
did_offer s c = said_all (entered (with_offer s c) c) (start_outs (with_offer s c))

-- a vote for a digest that is accepted
abbrev pub vote_for : State → ℕ × List ℕ → State
vote_for s x = voted s kind.Prepare x.0 x.1

-- the vote goes out
abbrev pub prepare_out : ℕ → ℕ × List ℕ → Out
prepare_out view x = out.Send (content.Prepare (record { view = view; place = x.0; digest = x.1 })) []

-- 8: a backup enters the view, and votes for each digest that it accepts, rising
unfoldable pub did_enter : State → NewView → Reaction
did_enter s v = said_all (fold vote_for (entered s v.choice) (taken s v.choice)) (map (prepare_out s.view) (taken s v.choice))

-- 9: the event is accepted at the next place, and proposed
unfoldable pub did_propose : State → Event → Reaction
did_propose s e =
    said (with_text (accepted s (next_place s) (digest_of e)) e)
    (content.PrePrepare (record { view = s.view; place = next_place s; event = e }))

-- an event is accepted at a place, and voted for
abbrev pub accept_event : State → ℕ → Event → Reaction
accept_event s p e =
    said (voted (with_text (accepted s p (digest_of e)) e) kind.Prepare p (digest_of e))
    (content.Prepare (record { view = s.view; place = p; digest = digest_of e }))

-- 10: what is pending at this place is accepted
unfoldable pub did_accept : State → ℕ → Reaction
did_accept s p = on s (get s.pending p) (accept_event s p)

-- a slot is put at a place
unfoldable pub with_slot : State → ℕ → Slot → State
with_slot s p t = record s { slots = insert s.slots p t }

-- a slot is prepared, and voted for
abbrev pub prepare_slot : State → ℕ → Slot → Reaction
prepare_slot s p t =
    said (voted (with_slot s p (record t { is_prepared = true })) kind.Commit p t.digest)
    (content.Commit (record { view = s.view; place = p; digest = t.digest }))

-- 11: the slot at this place is prepared
unfoldable pub did_prepare : State → ℕ → Reaction
did_prepare s p = on s (get s.slots p) (prepare_slot s p)

-- the chain with one event more
abbrev pub next_chain : State → Event → List ℕ
next_chain s e = sha256 (s.chain ++ digest_of e)

-- the place, the chain and the patience go on by an event
unfoldable pub executed : State → Event → State
executed s e = record s {
  done = s.done + 1;
  waited = 0;
  moves = 0;
  chain = next_chain s e;
  chains = if (s.done + 1) % checkpoint_distance == 0 then insert s.chains (s.done + 1) (next_chain s e) else s.chains;
  dones = empty;
}

-- 12, 13: the event stands at the next place, and goes out to be executed
unfoldable pub did_execute : State → Event → Reaction
did_execute s e = record { state = executed s e; outs = out.Execute (s.done + 1) e ∷ [] }

-- a slot is committed, without a word to others
abbrev pub commit_slot : State → ℕ → Slot → Reaction
commit_slot s p t = still (with_slot s p (record t { is_committed = true }))

-- 14: the slot at this place is committed
unfoldable pub did_commit : State → ℕ → Reaction
did_commit s p = on s (get s.slots p) (commit_slot s p)

-- 15: the vote for the chain
unfoldable pub did_checkpoint : State → Reaction
did_checkpoint s = said (voted s kind.Checkpoint s.done s.chain) (content.Checkpoint (record { place = s.done; digest = s.chain }))

-- 16: all below the low mark is dropped, and what stands at it, its chain digest aside
unfoldable pub did_stable : State → ℕ → Reaction
did_stable s p = still (record s {
  low = p;
  chains = retain_keys s.chains (nat_le p);
  pending = trimmed p s.pending;
  slots = trimmed p s.slots;
  book = raised_to p s.book;
  prepared = trimmed p s.prepared;
  pre_prepared = trimmed p s.pre_prepared;
})

-- what an action does, by its number in the table
unfoldable pub did : State → Action → Reaction
did s (act.Join w) = did_move s w
did s act.Refuse = did_move s (s.view + 1)
did s act.Impatience = did_move s (s.view + 1)
did s (act.Ack j) = did_ack s j
did s (act.NeedChosen digest) = did_need s digest
did s (act.NeedText digest) = did_need s digest
did s (act.Offer c) = did_offer s c
did s (act.Enter v) = did_enter s v
did s (act.Propose e) = did_propose s e
did s (act.Accept p) = did_accept s p
did s (act.Prepare p) = did_prepare s p
did s (act.Execute e) = did_execute s e
did s (act.Adopt e) = did_execute s e
did s (act.Commit p) = did_commit s p
did s act.Checkpoint = did_checkpoint s
did s (act.Stable p) = did_stable s p
