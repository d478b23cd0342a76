-- Who a voter is stays as it is.
use Rattle.std.proofs.Common.{ℕ, zero, suc, ◌+◌, ◌%◌, ◌==◌, ◌&&◌, not, is_some, nat_lt, Bool, true, false, if◌then◌else◌, List, [], ◌∷◌, Option, Some, None, refl, sym, ◌∙◌, subst}
use Rattle.std.specs.Prelude.{slice_get, ◌||◌}
use Rattle.std.specs.List.{fold}
use Rattle.std.specs.Option.{option_map_or, unwrap_or}
use Rattle.std.specs.FinMap.{get, insert, contains_key}
use Rattle.std.specs.Str.{bytes_eq}
use Rattle.pws_base.specs.declared.shapes.ReplicaId.{ReplicaId}
use Rattle.pws_base.specs.Limits.{checkpoint_distance}
use Rattle.pws_base.specs.Places.{is_in_window}
use Rattle.pws_event.specs.declared.events.Event.{Event}
use Rattle.pws_event.specs.Events.{digest_of}
use Rattle.pws_event.specs.Counters.{Counters}
use Rattle.pws_msg.specs.Contents.{content_digest_of}
use Rattle.pws_msg.specs.Statements.{ChangeNameFields}
use Rattle.pws_msg.specs.declared.changes.ViewChange.{ViewChange}
use Rattle.pws_msg.specs.declared.contents.Content.{Content}
use Rattle.pws_msg.specs.declared.contents.Content.TheVariants as content
use Rattle.pws_change.specs.Choices.{null_digest}
use Rattle.pws_votes.specs.declared.kinds.Vote.{Vote}
use Rattle.pws_votes.specs.declared.kinds.Vote.TheVariants as vote
use Rattle.pws_votes.specs.declared.kinds.VoteKind.TheVariants as kind
use Rattle.pws_votes.specs.Votes.{Key, key, answer_to, after_vote}
use Rattle.pws_protocol.specs.Evidence.{settled, note}
use Rattle.pws_protocol.specs.States.{State, HeldChange, own_id, primary, is_held, text_of}
use Rattle.pws_protocol.specs.Gathered.{acks_of, ack_at, possible_choice, slots_name, choice_names}
use Rattle.pws_protocol.specs.Hearing.{Vouched, SaidFields, Answered, voted_as, by_row, unkept, and_then, keep, keep_evidence, keep_proposal, keep_in_book, keep_prepare, keep_commit, keep_checkpoint, fits_proposal, fits_change, keep_change, fits_ack, keep_ack, fits_new_view, keep_new_view, fits_relay, keep_relayed, keep_voucher, keep_relay, keep_done, keep_text, give, keep_vouched, are_heard, heard}
use Rattle.pws_protocol.specs.Actions.{Action, next_action, next_place}
use Rattle.pws_protocol.specs.Actions as act
use Rattle.pws_protocol.specs.Doing.{Reaction, on, did, did_move, did_ack, did_need, did_offer, did_enter, did_propose, did_accept, did_prepare, did_execute, did_commit, did_checkpoint, did_stable, reported, with_change, left_view, noted, ack_change, entered, taken, with_offer, accepted, with_text, accept_event, voted, with_slot, prepare_slot, commit_slot, executed}
use Rattle.pws_protocol.specs.Ticks.{with_own, ticked, tick}
use Rattle.pws_protocol.specs.Reactions.{Input, Said, Tick, Resume, settled_state, tidied, after_packet, begun, then_did, is_last, turn, more_unless, acts, turns, react}
use Rattle.pws_voter_laws.specs.Staying.{IsSameVoter, ActionsLeaveTheVoter, ReactionsLeaveTheVoter}
use Rattle.pws_voter_laws.proofs.Evidencing.{note_goes}
use Rattle.pws_voter_laws.proofs.Updates.{votes_are}

on_same : {A : Type 0} (s : State) (o : Option A) (f : A → Reaction) → ((x : A) → IsSameVoter s (f x).state) → IsSameVoter s (on s o f).state
on_same s None f h = (refl, refl, refl)
on_same s (Some x) f h = h x

text_same : (s : State) (e : Event) → IsSameVoter s (with_text s e)
unfolding with_text
text_same s e = by (bytes_eq (digest_of e) null_digest)
  where
    by : (b : Bool) → IsSameVoter s (if b then s else record s { texts = insert s.texts (digest_of e) e })
    by true = (refl, refl, refl)
    by false = (refl, refl, refl)

pub actions_leave_the_voter : ActionsLeaveTheVoter
unfolding did did_move reported with_change left_view noted did_ack did_need did_offer entered with_offer did_enter did_propose accepted did_accept voted did_prepare with_slot did_execute executed did_commit did_checkpoint did_stable
actions_leave_the_voter s (act.Join w) = (refl, refl, refl)
actions_leave_the_voter s act.Refuse = (refl, refl, refl)
actions_leave_the_voter s act.Impatience = (refl, refl, refl)
actions_leave_the_voter s (act.Ack j) = on_same s (get s.heard j) (ack_change s j) (λ c. (refl, refl, refl))
actions_leave_the_voter s (act.NeedChosen d) = (refl, refl, refl)
actions_leave_the_voter s (act.NeedText d) = (refl, refl, refl)
actions_leave_the_voter s (act.Offer c) = (refl, refl, refl)
actions_leave_the_voter s (act.Enter v) = subst (IsSameVoter s) (sym (votes_are (entered s v.choice) (taken s v.choice))) (refl, refl, refl)
actions_leave_the_voter s (act.Propose e) = text_same (accepted s (next_place s) (digest_of e)) e
actions_leave_the_voter s (act.Accept p) = on_same s (get s.pending p) (accept_event s p) (λ e. text_same (accepted s p (digest_of e)) e)
actions_leave_the_voter s (act.Prepare p) = on_same s (get s.slots p) (prepare_slot s p) (λ t. (refl, refl, refl))
actions_leave_the_voter s (act.Execute e) = (refl, refl, refl)
actions_leave_the_voter s (act.Adopt e) = (refl, refl, refl)
actions_leave_the_voter s (act.Commit p) = on_same s (get s.slots p) (commit_slot s p) (λ t. (refl, refl, refl))
actions_leave_the_voter s act.Checkpoint = (refl, refl, refl)
actions_leave_the_voter s (act.Stable p) = (refl, refl, refl)

-- from a state on
then_same : (s t u : State) → IsSameVoter s t → IsSameVoter t u → IsSameVoter s u
then_same s t u a b = (b.0 ∙ a.0, b.1 ∙ a.1, b.2 ∙ a.2)

-- a packet
module _ (s : State) where
  row_same : (t : State) (fits free : Bool) → IsSameVoter s t → IsSameVoter s (by_row fits free s t).state
  row_same t true true h = h
  row_same t true false h = (refl, refl, refl)
  row_same t false free h = (refl, refl, refl)

  vote_same : (v : Vote) (t : State) → IsSameVoter s t → IsSameVoter s (voted_as v s t).state
  vote_same vote.Kept t h = h
  vote_same vote.Outside t h = (refl, refl, refl)
  vote_same vote.Already t h = (refl, refl, refl)

  book_same : (b : Bool) (k : Key) (d : List ℕ) → IsSameVoter s (if b then keep_in_book s k d else unkept s vote.Outside).state
  book_same true k d = vote_same (answer_to s.book k) (record s { book = after_vote s.book k d }) (refl, refl, refl)
  book_same false k d = (refl, refl, refl)

  evidence_same : (asked : Counters) (r : ReplicaId) (c : Content) (body : List ℕ) → IsSameVoter s (keep_evidence s asked r c body).state
  unfolding keep_evidence
  evidence_same asked r c body =
      let g = note_goes s.evidence asked r c body in
      vote_same (note s.evidence asked r c body).answer (record s { evidence = (note s.evidence asked r c body).evidence }) (refl, g.0, g.1)

  relayed_same : (x : ChangeNameFields) (h : Vouched) (c : ViewChange) → IsSameVoter s (keep_relayed s x h c).state
  unfolding keep_relayed
  relayed_same x h c =
      row_same (record s { relayed = insert s.relayed x.index (record { digest = x.digest; change = c; tags = h.voucher.tags; is_verified = h.is_verified }) }) (fits_relay s x h.voucher c) (not (contains_key s.relayed x.index)) (refl, refl, refl)

  voucher_same : (x : ChangeNameFields) (h : Vouched) (c : Content) → IsSameVoter s (keep_voucher s x h c).state
  voucher_same x h (content.ViewChange c) = relayed_same x h c
  voucher_same x h _ = (refl, refl, refl)

  relay_same : (x : ChangeNameFields) (o : Option Vouched) → IsSameVoter s (keep_relay s x o).state
  relay_same x None = (refl, refl, refl)
  relay_same x (Some h) = voucher_same x h h.voucher.content

  give_same : (o : Option Event) → IsSameVoter s (give s o).state
  give_same None = (refl, refl, refl)
  give_same (Some x) = (refl, refl, refl)

  content_same : (asked : Counters) (x : SaidFields) (c : Content) → IsSameVoter s (keep s asked x c).state
  unfolding keep keep_proposal keep_prepare keep_commit keep_checkpoint keep_change keep_ack keep_new_view keep_done keep_text
  content_same asked x (content.Request r) = evidence_same asked x.sender (content.Request r) (unwrap_or x.body [])
  content_same asked x (content.Reply r) = evidence_same asked x.sender (content.Reply r) (unwrap_or x.body [])
  content_same asked x (content.Part r) = (refl, refl, refl)
  content_same asked x (content.Expired n) = evidence_same asked x.sender (content.Expired n) []
  content_same asked x (content.Reading r) = evidence_same asked x.sender (content.Reading r) []
  content_same asked x (content.PrePrepare p) = row_same (record s { pending = insert s.pending p.place p.event }) (fits_proposal s x.sender.index p) (not (contains_key s.pending p.place) && not (contains_key s.slots p.place)) (refl, refl, refl)
  content_same asked x (content.Prepare v) = book_same (v.view == s.view && not (x.sender.index == primary s)) (key kind.Prepare v.place x.sender.index) v.digest
  content_same asked x (content.Commit v) = book_same (v.view == s.view) (key kind.Commit v.place x.sender.index) v.digest
  content_same asked x (content.Checkpoint d) = book_same (d.place % checkpoint_distance == 0) (key kind.Checkpoint d.place x.sender.index) d.digest
  content_same asked x (content.ViewChange c) =
      row_same (record s { heard = insert s.heard x.sender.index (record { digest = content_digest_of (content.ViewChange c); change = c; tags = x.tags }) }) (fits_change s c)
      (option_map_or (λ (h : HeldChange). nat_lt h.change.view c.view) (get s.heard x.sender.index) true) (refl, refl, refl)
  content_same asked x (content.Ack n) =
      row_same (record s { acks = insert s.acks x.sender.index (insert (acks_of s x.sender.index) n.index n.digest) }) (fits_ack s x.sender.index n) (not (is_some (ack_at s x.sender.index n.index))) (refl, refl, refl)
  content_same asked x (content.NewView v) = row_same (record s { new_view = Some v }) (fits_new_view s x.sender.index v) (not (is_some s.new_view)) (refl, refl, refl)
  content_same asked x (content.Relay n) = relay_same n (slice_get x.vouchers 0)
  content_same asked x (content.Fetch w) = (refl, refl, refl)
  content_same asked x (content.Done d) = row_same (record s { dones = insert s.dones x.sender.index d.event }) (d.place == s.done + 1 && is_in_window s.low d.place) (not (contains_key s.dones x.sender.index)) (refl, refl, refl)
  content_same asked x (content.Need digest) = give_same (text_of s digest)
  content_same asked x (content.Give e) =
      row_same (record s { texts = insert s.texts (digest_of e) e }) (slots_name s (digest_of e) || choice_names (possible_choice s) (digest_of e)) (not (is_held s (digest_of e))) (refl, refl, refl)

vouchers_same : (s : State) (asked : Counters) (body : List ℕ) (hs : List Vouched) (a : Answered) → IsSameVoter s a.state → IsSameVoter s (fold (keep_vouched asked body) a hs).state
vouchers_same s asked body [] a h = h
vouchers_same s asked body (v ∷ vs) a h = vouchers_same s asked body vs (keep_vouched asked body a v) (by v.is_verified)
  where
    by : (b : Bool) → IsSameVoter s (if b then and_then a (keep_evidence a.state asked v.voucher.sender v.voucher.content body) else a).state
    by true = then_same s a.state (keep_evidence a.state asked v.voucher.sender v.voucher.content body).state h (evidence_same a.state asked v.voucher.sender v.voucher.content body)
    by false = h

packet_same : (s : State) (asked : Counters) (x : SaidFields) → IsSameVoter s (heard s asked x).state
unfolding heard
packet_same s asked x = by (are_heard x.content)
  where
    by : (b : Bool) → IsSameVoter s (if b then fold (keep_vouched asked (unwrap_or x.body [])) (keep s asked x x.content) x.vouchers else keep s asked x x.content).state
    by true = vouchers_same s asked (unwrap_or x.body []) x.vouchers (keep s asked x x.content) (content_same s asked x x.content)
    by false = content_same s asked x x.content

after_same : (s : State) (a : Answered) → IsSameVoter s a.state → IsSameVoter s (after_packet a).reaction.state
unfolding tidied
after_same s a h = by a.is_kept
  where
    by : (b : Bool) → IsSameVoter s (if b then tidied a.state else a.state)
    by true = h
    by false = h

-- a tick
own_same : (asked : Counters) (cs : List Content) (s t : State) → IsSameVoter s t → IsSameVoter s (fold (with_own asked) t cs)
own_same asked [] s t h = h
own_same asked (c ∷ cs) s t h = let g = note_goes t.evidence asked (own_id t) c [] in own_same asked cs s (with_own asked t c) (h.0, g.0 ∙ h.1, g.1 ∙ h.2)

tick_same : (s : State) (asked : Counters) (own : List Content) → IsSameVoter s (tick s asked own).state
unfolding tick ticked
tick_same s asked own = own_same asked own s s (refl, refl, refl)

begun_same : (s : State) (asked : Counters) (input : Input) → IsSameVoter s (begun s asked input).reaction.state
begun_same s asked (Said x) = after_same s (heard s asked x) (packet_same s asked x)
begun_same s asked (Tick own) = tick_same s asked own
begun_same s asked Resume = (refl, refl, refl)

settled_same : (s : State) (asked : Counters) → IsSameVoter s (settled_state s asked)
unfolding settled_state settled
settled_same s asked = (refl, refl, refl)

-- the actions of a call
module _ (asked : Counters) (s : State) where
  then_did_same : (r : Reaction) (a : Action) → IsSameVoter s r.state → IsSameVoter s (then_did r a).state
  unfolding then_did tidied
  then_did_same r a h = then_same s r.state (did r.state a).state h (actions_leave_the_voter r.state a)

  by_last : (n : ℕ) (r : Reaction) (a : Action) (b : Bool) → IsSameVoter s r.state → ((t : Reaction) → IsSameVoter s t.state → IsSameVoter s (acts n asked t).state) → IsSameVoter s (more_unless b (then_did r a) (λ t. acts n asked t)).state
  by_last n r a true h more = then_did_same r a h
  by_last n r a false h more = more (then_did r a) (then_did_same r a h)

  by_turn : (n : ℕ) (r : Reaction) (o : Option Action) → IsSameVoter s r.state → ((t : Reaction) → IsSameVoter s t.state → IsSameVoter s (acts n asked t).state) → IsSameVoter s (turn o r (λ t. acts n asked t)).state
  by_turn n r None h more = h
  by_turn n r (Some a) h more = by_last n r a (is_last a) h more

  acts_same : (n : ℕ) (r : Reaction) → IsSameVoter s r.state → IsSameVoter s (acts n asked r).state
  unfolding acts
  acts_same zero r h = h
  acts_same (suc n) r h = by_turn n r (next_action r.state asked) h (λ t g. acts_same n t g)

  followed_same : (n : ℕ) (b : Bool) (r : Reaction) → IsSameVoter s r.state → IsSameVoter s (if b then acts n asked r else r).state
  followed_same n true r h = acts_same n r h
  followed_same n false r h = h

pub reactions_leave_the_voter : ReactionsLeaveTheVoter
unfolding react
reactions_leave_the_voter s asked input =
    let b = begun (settled_state s asked) asked input in
    followed_same asked s turns b.goes_on b.reaction (then_same s (settled_state s asked) b.reaction.state (settled_same s asked) (begun_same (settled_state s asked) asked input))
