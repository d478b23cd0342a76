-- What each action does, by the state that it leaves and what goes out: a voter with others in its group.
use Rattle.std.proofs.Common.{◌≡◌, ℕ, ◌+◌, Bool, true, false, cond, List, [], ◌∷◌, map, Some, refl, ◌∙◌, ap}
use Rattle.std.specs.List.{fold}
use Rattle.std.specs.Str.{bytes_eq}
use Rattle.std.specs.Ordering.{nat_cmp}
use Rattle.std.specs.Cmp.Lexicographic.{slice_cmp}
use Rattle.std.specs.FinMap.{FinMap, get, insert}
use Rattle.std.specs.FinSet as set
use Rattle.pws_event.specs.declared.events.Event.{Event}
use Rattle.pws_event.specs.Events.{digest_of}
use Rattle.pws_msg.specs.declared.changes.Choice.{Choice}
use Rattle.pws_msg.specs.declared.changes.NewView.{NewView}
use Rattle.pws_msg.specs.declared.contents.Content.{Content}
use Rattle.pws_msg.specs.declared.contents.Content.TheVariants as content
use Rattle.pws_change.specs.Choices.{null_digest}
use Rattle.pws_votes.specs.declared.kinds.VoteKind.TheVariants as kind
use Rattle.pws_votes.specs.Votes.{Book, key, after_vote}
use Rattle.pws_protocol.specs.States.{State, Slot, HeldChange, is_alone}
use Rattle.pws_protocol.specs.Gathered.{acks_of}
use Rattle.pws_protocol.specs.Hearing.{Out}
use Rattle.pws_protocol.specs.Hearing as out
use Rattle.pws_protocol.specs.Actions.{Action, next_place}
use Rattle.pws_protocol.specs.Actions as act
use Rattle.pws_protocol.specs.Doing.{Reaction, on, said_all, voted, accepted, with_text, noted, left_view, own_change, with_change, reported, did_move, ack_change, did_ack, did_need, taken, entered, with_offer, start_outs, did_offer, vote_for, prepare_out, did_enter, did_propose, accept_event, did_accept, with_slot, prepare_slot, did_prepare, executed, did_execute, commit_slot, did_commit, did_checkpoint, did_stable, did}

-- a state and what goes out, one statement
abbrev pub loud : State → List Out → Reaction
loud s outs = record { state = s; outs = outs }

abbrev pub one : Content → List Out
one c = out.Send c [] ∷ []

-- all of it goes out
said_is : (t : State) (outs : List Out) → is_alone t ≡ false → said_all t outs ≡ loud t outs
said_is t outs h = ap (λ b. loud t (cond b [] outs)) h

-- texts with one more, unless it is Null's
abbrev pub texts_with : FinMap (slice_cmp nat_cmp) Event → Event → FinMap (slice_cmp nat_cmp) Event
texts_with texts e = cond (bytes_eq (digest_of e) null_digest) texts (insert texts (digest_of e) e)

pub text_is : (s : State) (e : Event) → with_text s e ≡ record s { texts = texts_with s.texts e }
unfolding with_text
text_is s e = go (bytes_eq (digest_of e) null_digest)
  where
    go : (b : Bool) → cond b s (record s { texts = insert s.texts (digest_of e) e }) ≡ record s { texts = cond b s.texts (insert s.texts (digest_of e) e) }
    go true = refl
    go false = refl

-- a book with a vote for each digest of a list
abbrev pub books : ℕ → Book → List (ℕ × List ℕ) → Book
books me b xs = fold (λ b x. after_vote b (key kind.Prepare x.0 me) x.1) b xs

votes_are : (s : State) (xs : List (ℕ × List ℕ)) → fold vote_for s xs ≡ record s { book = books s.me.index s.book xs }
unfolding voted
votes_are s [] = refl
votes_are s (x ∷ xs) = votes_are (vote_for s x) xs

-- the states that actions leave
abbrev pub moved_to : State → ℕ → State
moved_to s w = with_change (left_view (noted s) w) (own_change (left_view (noted s) w))

abbrev pub acked : State → ℕ → List ℕ → State
acked s j digest = record s { acks = insert s.acks s.me.index (insert (acks_of s s.me.index) j digest) }

abbrev pub offered : State → Choice → State
offered s c = entered (with_offer s c) c

abbrev pub entered_by : State → NewView → State
entered_by s v = record (entered s v.choice) { book = books s.me.index s.book (taken s v.choice) }

abbrev pub proposed : State → Event → State
proposed s e = record (accepted s (next_place s) (digest_of e)) { texts = texts_with s.texts e }

abbrev pub accepting : State → ℕ → Event → State
accepting s p e = voted (record (accepted s p (digest_of e)) { texts = texts_with s.texts e }) kind.Prepare p (digest_of e)

abbrev pub preparing : State → ℕ → Slot → State
preparing s p t = voted (with_slot s p (record t { is_prepared = true })) kind.Commit p t.digest

abbrev pub lowered : State → ℕ → State
lowered s p = (did_stable s p).state

module _ (s : State) (others : is_alone s ≡ false) where
  pub move_is : (w : ℕ) → did_move s w ≡ loud (moved_to s w) (one (content.ViewChange (own_change (left_view (noted s) w))))
  unfolding did_move reported with_change left_view noted
  move_is w = said_is (moved_to s w) _ others

  pub ack_is : (j : ℕ) (x : HeldChange) → get s.heard j ≡ Some x → did s (act.Ack j) ≡ loud (acked s j x.digest) (one (content.Ack (record { view = s.view; index = j; digest = x.digest })))
  unfolding did did_ack
  ack_is j x h = ap (λ o. on s o (ack_change s j)) h ∙ said_is (acked s j x.digest) _ others

  pub need_is : (digest : List ℕ) → did_need s digest ≡ loud (record s { needed = set.insert s.needed digest }) (one (content.Need digest))
  unfolding did_need
  need_is digest = said_is (record s { needed = set.insert s.needed digest }) _ others

  pub offer_is : (c : Choice) → did s (act.Offer c) ≡ loud (offered s c) (start_outs (with_offer s c))
  unfolding did did_offer entered with_offer
  offer_is c = said_is (offered s c) _ others

  pub enter_is : (v : NewView) → did s (act.Enter v) ≡ loud (entered_by s v) (map (prepare_out s.view) (taken s v.choice))
  unfolding did did_enter entered
  enter_is v =
      ap (λ t. said_all t (map (prepare_out s.view) (taken s v.choice))) (votes_are (entered s v.choice) (taken s v.choice))
      ∙ said_is (entered_by s v) _ others

  pub propose_is : (e : Event) → did s (act.Propose e) ≡ loud (proposed s e) (one (content.PrePrepare (record { view = s.view; place = next_place s; event = e })))
  unfolding did did_propose accepted
  propose_is e =
      ap (λ t. said_all t (one (content.PrePrepare (record { view = s.view; place = next_place s; event = e })))) (text_is (accepted s (next_place s) (digest_of e)) e)
      ∙ said_is (proposed s e) _ others

  pub accept_is : (p : ℕ) (e : Event) → get s.pending p ≡ Some e → did s (act.Accept p) ≡ loud (accepting s p e) (one (content.Prepare (record { view = s.view; place = p; digest = digest_of e })))
  unfolding did did_accept accepted voted
  accept_is p e h =
      ap (λ o. on s o (accept_event s p)) h
      ∙ ap (λ t. said_all (voted t kind.Prepare p (digest_of e)) (one (content.Prepare (record { view = s.view; place = p; digest = digest_of e })))) (text_is (accepted s p (digest_of e)) e)
      ∙ said_is (accepting s p e) _ others

  pub prepare_is : (p : ℕ) (t : Slot) → get s.slots p ≡ Some t → did s (act.Prepare p) ≡ loud (preparing s p t) (one (content.Commit (record { view = s.view; place = p; digest = t.digest })))
  unfolding did did_prepare with_slot voted
  prepare_is p t h = ap (λ o. on s o (prepare_slot s p)) h ∙ said_is (preparing s p t) _ others

  pub checkpoint_is : did s act.Checkpoint ≡ loud (voted s kind.Checkpoint s.done s.chain) (one (content.Checkpoint (record { place = s.done; digest = s.chain })))
  unfolding did did_checkpoint voted
  checkpoint_is = said_is (voted s kind.Checkpoint s.done s.chain) _ others

pub execute_is : (s : State) (e : Event) → did_execute s e ≡ loud (executed s e) (out.Execute (s.done + 1) e ∷ [])
unfolding did_execute
execute_is s e = refl

pub commit_is : (s : State) (p : ℕ) (t : Slot) → get s.slots p ≡ Some t → did s (act.Commit p) ≡ loud (with_slot s p (record t { is_committed = true })) []
unfolding did did_commit
commit_is s p t h = ap (λ o. on s o (commit_slot s p)) h

pub stable_is : (s : State) (p : ℕ) → did s (act.Stable p) ≡ loud (lowered s p) []
unfolding did did_stable
stable_is s p = refl
