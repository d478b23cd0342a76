-- Few texts are asked for between two ticks.
use Rattle.std.proofs.Common.{◌≡◌, ℕ, zero, suc, ◌+◌, ◌%◌, ◌≤◌, ◌<◌, ◌==◌, ◌&&◌, not, is_some, nat_lt, Bool, true, false, cond, if◌then◌else◌, List, [], ◌∷◌, Option, Some, None, refl, sym, subst, arith}
use Rattle.std.specs.Prelude.{slice_get, ◌||◌}
use Rattle.std.specs.List.{fold, find}
use Rattle.std.specs.Option.{option_map_or, unwrap_or}
use Rattle.std.specs.FinMap.{get, insert, contains_key}
use Rattle.std.specs.FinSet as set
use Rattle.std.specs.Str.{bytes_eq}
use Rattle.std.specs.Ordering.{nat_cmp}
use Rattle.std.specs.Cmp.Lexicographic.{slice_cmp}
use Rattle.std.proofs.lemmas.Bool.{and_parts, ltb-true}
use Rattle.std.proofs.lemmas.Cmp.{nat_list_cmp_total}
use Rattle.pws_base.specs.declared.shapes.ReplicaId.{ReplicaId}
use Rattle.pws_base.specs.Limits.{checkpoint_distance}
use Rattle.pws_base.specs.Places.{is_in_window}
use Rattle.pws_event.specs.declared.events.Event.{Event}
use Rattle.pws_event.specs.Events.{digest_of}
use Rattle.pws_event.specs.Counters.{Counters}
use Rattle.pws_msg.specs.Contents.{content_digest_of}
use Rattle.pws_msg.specs.Statements.{ChangeNameFields}
use Rattle.pws_msg.specs.declared.changes.Choice.{Choice}
use Rattle.pws_msg.specs.declared.changes.ViewChange.{ViewChange}
use Rattle.pws_msg.specs.declared.contents.Content.{Content}
use Rattle.pws_msg.specs.declared.contents.Content.TheVariants as content
use Rattle.pws_change.specs.Choices.{null_digest}
use Rattle.pws_votes.specs.declared.kinds.Vote.{Vote}
use Rattle.pws_votes.specs.declared.kinds.Vote.TheVariants as vote
use Rattle.pws_votes.specs.declared.kinds.VoteKind.TheVariants as kind
use Rattle.pws_votes.specs.Votes.{Key, key, answer_to, after_vote}
use Rattle.pws_protocol.specs.Evidence.{note}
use Rattle.pws_protocol.specs.States.{State, HeldChange, primary, is_held, is_wanted, text_of, most_needed}
use Rattle.pws_protocol.specs.Gathered.{ack_at, acks_of, possible_choice, slots_name, choice_names}
use Rattle.pws_protocol.specs.Hearing.{Vouched, SaidFields, Answered, voted_as, by_row, unkept, and_then, keep, keep_evidence, keep_proposal, keep_in_book, keep_prepare, keep_commit, keep_checkpoint, fits_proposal, fits_change, keep_change, fits_ack, keep_ack, fits_new_view, keep_new_view, fits_relay, keep_relayed, keep_voucher, keep_relay, keep_done, keep_text, give, keep_vouched, are_heard, heard}
use Rattle.pws_protocol.specs.Actions.{Action, next_action, next_digest, next_need_chosen, next_need_text, next_place}
use Rattle.pws_protocol.specs.Actions as act
use Rattle.pws_protocol.specs.Doing.{Reaction, on, did, did_move, did_ack, did_need, did_offer, did_enter, did_propose, did_accept, did_prepare, did_execute, did_commit, did_checkpoint, did_stable, reported, with_change, left_view, noted, ack_change, entered, taken, with_offer, accepted, with_text, accept_event, voted, with_slot, prepare_slot, commit_slot, executed}
use Rattle.pws_protocol.specs.Ticks.{ticked, tick}
use Rattle.pws_protocol.specs.Reactions.{Input, Said, Tick, Resume, settled_state, tidied, after_packet, begun, then_did, is_last, turn, more_unless, acts, turns, react}
use Rattle.pws_voter_laws.specs.Enabled.{IsEnabled}
use Rattle.pws_voter_laws.proofs.Choosing.{done_is_enabled}
use Rattle.pws_voter_laws.proofs.Found.{found, guarded, same, then_is}
use Rattle.pws_voter_laws.proofs.Updates.{votes_are}
use Rattle.pws_holding.specs.Asked.{AsksForFew, StartAsksForFew, TurnsAskForFew, InputsAskForFew, ReactionsAskForFew}

none_few : set.len (set.empty {R = slice_cmp nat_cmp}) ≤ 1024
none_few = omega (arith, set.len-empty (slice_cmp nat_cmp))

pub start_asks_for_few : StartAsksForFew
start_asks_for_few me layout = none_few

-- one more
grown : (b : Bool) (n : ℕ) → n < 1024 → cond b n (n + 1) ≤ 1024
grown true n h = omega arith
grown false n h = omega arith

room_for : (s : State) (d : List ℕ) → is_wanted s d ≡ true → set.len s.needed < 1024
room_for s d h =
    let a = and_parts (not (is_held s d)) _ h in
    let b = and_parts (not (set.contains s.needed d)) _ a.1 in
    ltb-true (set.len s.needed) most_needed b.1

need_few : (s : State) (d : List ℕ) → is_wanted s d ≡ true → AsksForFew (did_need s d).state
unfolding did_need
need_few s d h = subst (λ n. n ≤ 1024) (sym (set.len-insert nat_list_cmp_total s.needed d)) (grown (set.contains s.needed d) (set.len s.needed) (room_for s d h))

chosen_wanted : (s : State) (d : List ℕ) → next_need_chosen s ≡ Some d → is_wanted s d ≡ true
unfolding next_need_chosen
chosen_wanted s d h = let t = then_is (λ (c : Choice). find (is_wanted s) c.chosen) (possible_choice s) d h in (found (is_wanted s) t.0.chosen d t.2).1

text_wanted : (s : State) (d : List ℕ) → next_need_text s ≡ Some d → is_wanted s d ≡ true
unfolding next_need_text
text_wanted s d h =
    let t = then_is (λ (d : List ℕ). if is_wanted s d then Some d else None) (next_digest s) d h in
    let g = guarded (is_wanted s t.0) (Some t.0) d t.2 in
    subst (λ x. is_wanted s x ≡ true) (same t.0 d g.1) g.0

-- each action
on_few : {A : Type 0} (s : State) (o : Option A) (f : A → Reaction) → AsksForFew s → ((x : A) → AsksForFew (f x).state) → AsksForFew (on s o f).state
on_few s None f h more = h
on_few s (Some x) f h more = more x

text_few : (s : State) (e : Event) → AsksForFew s → AsksForFew (with_text s e)
unfolding with_text
text_few s e h = by (bytes_eq (digest_of e) null_digest)
  where
    by : (b : Bool) → AsksForFew (if b then s else record s { texts = insert s.texts (digest_of e) e })
    by true = h
    by false = h

action_few : (s : State) (asked : Counters) (a : Action) → AsksForFew s → IsEnabled s asked a → AsksForFew (did s a).state
unfolding did did_move reported with_change left_view noted did_ack did_offer entered with_offer did_enter did_propose accepted did_accept voted did_prepare with_slot did_execute executed did_commit did_checkpoint did_stable
action_few s asked (act.Join w) h e = h
action_few s asked act.Refuse h e = h
action_few s asked act.Impatience h e = h
action_few s asked (act.Ack j) h e = on_few s (get s.heard j) (ack_change s j) h (λ c. h)
action_few s asked (act.NeedChosen d) h e = need_few s d (chosen_wanted s d e.1)
action_few s asked (act.NeedText d) h e = need_few s d (text_wanted s d e.1)
action_few s asked (act.Offer c) h e = h
action_few s asked (act.Enter v) h e = subst AsksForFew (sym (votes_are (entered s v.choice) (taken s v.choice))) h
action_few s asked (act.Propose x) h e = text_few (accepted s (next_place s) (digest_of x)) x h
action_few s asked (act.Accept p) h e = on_few s (get s.pending p) (accept_event s p) h (λ x. text_few (accepted s p (digest_of x)) x h)
action_few s asked (act.Prepare p) h e = on_few s (get s.slots p) (prepare_slot s p) h (λ t. h)
action_few s asked (act.Execute x) h e = h
action_few s asked (act.Adopt x) h e = h
action_few s asked (act.Commit p) h e = on_few s (get s.slots p) (commit_slot s p) h (λ t. h)
action_few s asked act.Checkpoint h e = h
action_few s asked (act.Stable p) h e = h

pub turns_ask_for_few : TurnsAskForFew
unfolding then_did tidied
turns_ask_for_few asked r a h e = action_few r.state asked a h (done_is_enabled r.state asked a e)

-- a packet
module _ (s : State) (h : AsksForFew s) where
  row_few : (t : State) (fits free : Bool) → AsksForFew t → AsksForFew (by_row fits free s t).state
  row_few t true true g = g
  row_few t true false g = h
  row_few t false free g = h

  vote_few : (v : Vote) (t : State) → AsksForFew t → AsksForFew (voted_as v s t).state
  vote_few vote.Kept t g = g
  vote_few vote.Outside t g = h
  vote_few vote.Already t g = h

  book_few : (b : Bool) (k : Key) (d : List ℕ) → AsksForFew (if b then keep_in_book s k d else unkept s vote.Outside).state
  book_few true k d = vote_few (answer_to s.book k) (record s { book = after_vote s.book k d }) h
  book_few false k d = h

  evidence_few : (asked : Counters) (r : ReplicaId) (c : Content) (body : List ℕ) → AsksForFew (keep_evidence s asked r c body).state
  unfolding keep_evidence
  evidence_few asked r c body = vote_few (note s.evidence asked r c body).answer (record s { evidence = (note s.evidence asked r c body).evidence }) h

  relayed_few : (x : ChangeNameFields) (v : Vouched) (c : ViewChange) → AsksForFew (keep_relayed s x v c).state
  unfolding keep_relayed
  relayed_few x v c =
      row_few (record s { relayed = insert s.relayed x.index (record { digest = x.digest; change = c; tags = v.voucher.tags; is_verified = v.is_verified }) }) (fits_relay s x v.voucher c) (not (contains_key s.relayed x.index)) h

  voucher_few : (x : ChangeNameFields) (v : Vouched) (c : Content) → AsksForFew (keep_voucher s x v c).state
  voucher_few x v (content.ViewChange c) = relayed_few x v c
  voucher_few x v _ = h

  relay_few : (x : ChangeNameFields) (o : Option Vouched) → AsksForFew (keep_relay s x o).state
  relay_few x None = h
  relay_few x (Some v) = voucher_few x v v.voucher.content

  give_few : (o : Option Event) → AsksForFew (give s o).state
  give_few None = h
  give_few (Some x) = h

  content_few : (asked : Counters) (x : SaidFields) (c : Content) → AsksForFew (keep s asked x c).state
  unfolding keep keep_proposal keep_prepare keep_commit keep_checkpoint keep_change keep_ack keep_new_view keep_done keep_text
  content_few asked x (content.Request r) = evidence_few asked x.sender (content.Request r) (unwrap_or x.body [])
  content_few asked x (content.Reply r) = evidence_few asked x.sender (content.Reply r) (unwrap_or x.body [])
  content_few asked x (content.Part r) = h
  content_few asked x (content.Expired n) = evidence_few asked x.sender (content.Expired n) []
  content_few asked x (content.Reading r) = evidence_few asked x.sender (content.Reading r) []
  content_few asked x (content.PrePrepare p) = row_few (record s { pending = insert s.pending p.place p.event }) (fits_proposal s x.sender.index p) (not (contains_key s.pending p.place) && not (contains_key s.slots p.place)) h
  content_few asked x (content.Prepare v) = book_few (v.view == s.view && not (x.sender.index == primary s)) (key kind.Prepare v.place x.sender.index) v.digest
  content_few asked x (content.Commit v) = book_few (v.view == s.view) (key kind.Commit v.place x.sender.index) v.digest
  content_few asked x (content.Checkpoint d) = book_few (d.place % checkpoint_distance == 0) (key kind.Checkpoint d.place x.sender.index) d.digest
  content_few asked x (content.ViewChange c) =
      row_few (record s { heard = insert s.heard x.sender.index (record { digest = content_digest_of (content.ViewChange c); change = c; tags = x.tags }) }) (fits_change s c)
      (option_map_or (λ (h : HeldChange). nat_lt h.change.view c.view) (get s.heard x.sender.index) true) h
  content_few asked x (content.Ack n) =
      row_few (record s { acks = insert s.acks x.sender.index (insert (acks_of s x.sender.index) n.index n.digest) }) (fits_ack s x.sender.index n) (not (is_some (ack_at s x.sender.index n.index))) h
  content_few asked x (content.NewView v) = row_few (record s { new_view = Some v }) (fits_new_view s x.sender.index v) (not (is_some s.new_view)) h
  content_few asked x (content.Relay n) = relay_few n (slice_get x.vouchers 0)
  content_few asked x (content.Fetch w) = h
  content_few asked x (content.Done d) = row_few (record s { dones = insert s.dones x.sender.index d.event }) (d.place == s.done + 1 && is_in_window s.low d.place) (not (contains_key s.dones x.sender.index)) h
  content_few asked x (content.Need digest) = give_few (text_of s digest)
  content_few asked x (content.Give e) =
      row_few (record s { texts = insert s.texts (digest_of e) e }) (slots_name s (digest_of e) || choice_names (possible_choice s) (digest_of e)) (not (is_held s (digest_of e))) h

vouchers_few : (asked : Counters) (body : List ℕ) (hs : List Vouched) (a : Answered) → AsksForFew a.state → AsksForFew (fold (keep_vouched asked body) a hs).state
vouchers_few asked body [] a h = h
vouchers_few asked body (v ∷ vs) a h = vouchers_few asked body vs (keep_vouched asked body a v) (by v.is_verified)
  where
    by : (b : Bool) → AsksForFew (if b then and_then a (keep_evidence a.state asked v.voucher.sender v.voucher.content body) else a).state
    by true = evidence_few a.state h asked v.voucher.sender v.voucher.content body
    by false = h

packet_few : (s : State) (asked : Counters) (x : SaidFields) → AsksForFew s → AsksForFew (heard s asked x).state
unfolding heard
packet_few s asked x h = by (are_heard x.content)
  where
    by : (b : Bool) → AsksForFew (if b then fold (keep_vouched asked (unwrap_or x.body [])) (keep s asked x x.content) x.vouchers else keep s asked x x.content).state
    by true = vouchers_few asked (unwrap_or x.body []) x.vouchers (keep s asked x x.content) (content_few s h asked x x.content)
    by false = content_few s h asked x x.content

after_few : (a : Answered) → AsksForFew a.state → AsksForFew (after_packet a).reaction.state
unfolding tidied
after_few a h = by a.is_kept
  where
    by : (b : Bool) → AsksForFew (if b then tidied a.state else a.state)
    by true = h
    by false = h

tick_few : (s : State) (asked : Counters) (own : List Content) → AsksForFew (tick s asked own).state
unfolding tick ticked
tick_few s asked own = none_few

begun_few : (s : State) (asked : Counters) (input : Input) → AsksForFew s → AsksForFew (begun s asked input).reaction.state
begun_few s asked (Said x) h = after_few (heard s asked x) (packet_few s asked x h)
begun_few s asked (Tick own) h = tick_few s asked own
begun_few s asked Resume h = h

settled_few : (s : State) (asked : Counters) → AsksForFew s → AsksForFew (settled_state s asked)
unfolding settled_state
settled_few s asked h = h

pub inputs_ask_for_few : InputsAskForFew
inputs_ask_for_few s asked input h = begun_few (settled_state s asked) asked input (settled_few s asked h)

-- the actions of a call
module _ (asked : Counters) where
  by_last : (n : ℕ) (r : Reaction) (a : Action) (b : Bool) → AsksForFew (then_did r a).state → ((t : Reaction) → AsksForFew t.state → AsksForFew (acts n asked t).state) → AsksForFew (more_unless b (then_did r a) (λ t. acts n asked t)).state
  by_last n r a true h more = h
  by_last n r a false h more = more (then_did r a) h

  by_turn : (n : ℕ) (r : Reaction) (o : Option Action) → next_action r.state asked ≡ o → AsksForFew r.state → ((t : Reaction) → AsksForFew t.state → AsksForFew (acts n asked t).state) → AsksForFew (turn o r (λ t. acts n asked t)).state
  by_turn n r None e h more = h
  by_turn n r (Some a) e h more = by_last n r a (is_last a) (turns_ask_for_few asked r a h e) more

  acts_few : (n : ℕ) (r : Reaction) → AsksForFew r.state → AsksForFew (acts n asked r).state
  unfolding acts
  acts_few zero r h = h
  acts_few (suc n) r h = by_turn n r (next_action r.state asked) refl h (λ t g. acts_few n t g)

  followed_few : (n : ℕ) (b : Bool) (r : Reaction) → AsksForFew r.state → AsksForFew (if b then acts n asked r else r).state
  followed_few n true r h = acts_few n r h
  followed_few n false r h = h

pub reactions_ask_for_few : ReactionsAskForFew
unfolding react
reactions_ask_for_few s asked input h =
    let b = begun (settled_state s asked) asked input in
    followed_few asked turns b.goes_on b.reaction (inputs_ask_for_few s asked input h)
