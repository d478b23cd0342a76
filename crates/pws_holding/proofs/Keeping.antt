-- The texts that are held are named: at the start, and after each reaction.
use Rattle.std.proofs.Common.{◌≡◌, ℕ, zero, suc, ◌+◌, ◌%◌, ◌==◌, ◌&&◌, not, is_some, nat_lt, Bool, true, false, if◌then◌else◌, List, [], ◌∷◌, Option, Some, None, refl, sym, ◌∙◌, subst}
use Rattle.std.specs.Prelude.{slice_get, ◌||◌}
use Rattle.std.specs.List.{fold}
use Rattle.std.specs.Option.{option_map_or, unwrap_or}
use Rattle.std.specs.FinMap.{get, insert, contains_key, get-empty}
use Rattle.std.specs.Ordering.{nat_cmp}
use Rattle.std.specs.Cmp.Lexicographic.{slice_cmp}
use Rattle.std.proofs.lemmas.Bool.{false≢true}
use Rattle.pws_base.proofs.Maps.{retain_cases}
use Rattle.pws_base.specs.declared.shapes.ReplicaId.{ReplicaId}
use Rattle.pws_base.specs.Limits.{checkpoint_distance}
use Rattle.pws_base.specs.Places.{is_in_window}
use Rattle.pws_event.specs.declared.events.Event.{Event}
use Rattle.pws_event.specs.Events.{digest_of}
use Rattle.pws_event.specs.Counters.{Counters}
use Rattle.pws_msg.specs.Contents.{content_digest_of}
use Rattle.pws_msg.specs.Statements.{ChangeNameFields}
use Rattle.pws_msg.specs.declared.changes.ViewChange.{ViewChange}
use Rattle.pws_msg.specs.declared.contents.Content.{Content}
use Rattle.pws_msg.specs.declared.contents.Content.TheVariants as content
use Rattle.pws_votes.specs.declared.kinds.Vote.{Vote}
use Rattle.pws_votes.specs.declared.kinds.Vote.TheVariants as vote
use Rattle.pws_votes.specs.declared.kinds.VoteKind.TheVariants as kind
use Rattle.pws_votes.specs.Votes.{Key, key, answer_to, after_vote}
use Rattle.pws_protocol.specs.Evidence.{Evidence, note}
use Rattle.pws_protocol.specs.States.{State, HeldChange, own_id, primary, is_held, text_of}
use Rattle.pws_protocol.specs.Gathered.{ack_at, acks_of, acks_for, counted, possible_choice, slots_name, rows_name, choice_names}
use Rattle.pws_protocol.specs.Hearing.{Vouched, SaidFields, Answered, voted_as, by_row, unkept, and_then, keep, keep_evidence, keep_proposal, keep_in_book, keep_prepare, keep_commit, keep_checkpoint, fits_proposal, fits_change, keep_change, fits_ack, keep_ack, fits_new_view, keep_new_view, fits_relay, keep_relayed, keep_voucher, keep_relay, keep_done, keep_text, give, keep_vouched, are_heard, heard}
use Rattle.pws_protocol.specs.Actions.{Action, next_action}
use Rattle.pws_protocol.specs.Doing.{Reaction, did}
use Rattle.pws_protocol.specs.Ticks.{with_own, ticked, tick}
use Rattle.pws_protocol.specs.Reactions.{Input, Said, Tick, Resume, is_named, settled_state, tidied, after_packet, begun, then_did, is_last, turn, more_unless, acts, turns, react}
use Rattle.pws_voter_laws.proofs.Fields.{exact_digests}
use Rattle.pws_voter_laws.proofs.Found.{nothing}
use Rattle.pws_holding.specs.Tidy.{IsTidy, StartIsTidy, TurnsAreTidy, InputsKeepTidy, ReactionsKeepTidy}

pub start_is_tidy : StartIsTidy
start_is_tidy me layout d e h = absurd (nothing e (sym (get-empty (slice_cmp nat_cmp) d) ∙ h))

-- what is named stays so without the other texts
pub tidied_is_tidy : (s : State) → IsTidy (tidied s)
unfolding tidied slots_name rows_name possible_choice counted acks_for ack_at
tidied_is_tidy s d e h = (retain_cases exact_digests s.texts (is_named s (possible_choice s)) d e h).0

pub turns_are_tidy : TurnsAreTidy
unfolding then_did
turns_are_tidy r a = tidied_is_tidy (did r.state a).state

-- it stays where the evidence alone changes, and what a tick changes
pub with_evidence : (s : State) (e : Evidence) → IsTidy s → IsTidy (record s { evidence = e })
unfolding slots_name rows_name possible_choice counted acks_for ack_at
with_evidence s e h = h

settled_is_tidy : (s : State) (asked : Counters) → IsTidy s → IsTidy (settled_state s asked)
unfolding settled_state slots_name rows_name possible_choice counted acks_for ack_at
settled_is_tidy s asked h = h

ticked_is_tidy : (s : State) (asked : Counters) → IsTidy s → IsTidy (ticked s asked)
unfolding ticked slots_name rows_name possible_choice counted acks_for ack_at
ticked_is_tidy s asked h = h

own_is_tidy : (asked : Counters) (cs : List Content) (s : State) → IsTidy s → IsTidy (fold (with_own asked) s cs)
own_is_tidy asked [] s h = h
own_is_tidy asked (c ∷ cs) s h = own_is_tidy asked cs (with_own asked s c) (with_evidence s (note s.evidence asked (own_id s) c []).evidence h)

tick_is_tidy : (s : State) (asked : Counters) (own : List Content) → IsTidy s → IsTidy (tick s asked own).state
unfolding tick
tick_is_tidy s asked own h = ticked_is_tidy (fold (with_own asked) s own) asked (own_is_tidy asked own s h)

-- a packet of which nothing is kept changes nothing
abbrev Leaves : State → Answered → Type 0
Leaves s a = a.is_kept ≡ false → a.state ≡ s

module _ (s : State) where
  row_leaves : (t : State) (fits free : Bool) → Leaves s (by_row fits free s t)
  row_leaves t true true h = absurd (false≢true (sym h))
  row_leaves t true false h = refl
  row_leaves t false free h = refl

  vote_leaves : (v : Vote) (t : State) → Leaves s (voted_as v s t)
  vote_leaves vote.Kept t h = absurd (false≢true (sym h))
  vote_leaves vote.Outside t h = refl
  vote_leaves vote.Already t h = refl

  book_leaves : (b : Bool) (k : Key) (d : List ℕ) → Leaves s (if b then keep_in_book s k d else unkept s vote.Outside)
  book_leaves true k d = vote_leaves (answer_to s.book k) (record s { book = after_vote s.book k d })
  book_leaves false k d = λ h. refl

  evidence_leaves : (asked : Counters) (r : ReplicaId) (c : Content) (body : List ℕ) → Leaves s (keep_evidence s asked r c body)
  unfolding keep_evidence
  evidence_leaves asked r c body = vote_leaves (note s.evidence asked r c body).answer (record s { evidence = (note s.evidence asked r c body).evidence })

  relayed_leaves : (x : ChangeNameFields) (h : Vouched) (c : ViewChange) → Leaves s (keep_relayed s x h c)
  unfolding keep_relayed
  relayed_leaves x h c = row_leaves _ (fits_relay s x h.voucher c) (not (contains_key s.relayed x.index))

  voucher_leaves : (x : ChangeNameFields) (h : Vouched) (c : Content) → Leaves s (keep_voucher s x h c)
  voucher_leaves x h (content.ViewChange c) = relayed_leaves x h c
  voucher_leaves x h _ = λ k. refl

  relay_leaves : (x : ChangeNameFields) (o : Option Vouched) → Leaves s (keep_relay s x o)
  relay_leaves x None = λ k. refl
  relay_leaves x (Some h) = voucher_leaves x h h.voucher.content

  give_leaves : (o : Option Event) → Leaves s (give s o)
  give_leaves None h = refl
  give_leaves (Some x) h = refl

  content_leaves : (asked : Counters) (x : SaidFields) (c : Content) → Leaves s (keep s asked x c)
  unfolding keep keep_proposal keep_prepare keep_commit keep_checkpoint keep_change keep_ack keep_new_view keep_done keep_text
  content_leaves asked x (content.Request r) = evidence_leaves asked x.sender (content.Request r) (unwrap_or x.body [])
  content_leaves asked x (content.Reply r) = evidence_leaves asked x.sender (content.Reply r) (unwrap_or x.body [])
  content_leaves asked x (content.Part r) = λ h. refl
  content_leaves asked x (content.Expired n) = evidence_leaves asked x.sender (content.Expired n) []
  content_leaves asked x (content.Reading r) = evidence_leaves asked x.sender (content.Reading r) []
  content_leaves asked x (content.PrePrepare p) = row_leaves (record s { pending = insert s.pending p.place p.event }) (fits_proposal s x.sender.index p) (not (contains_key s.pending p.place) && not (contains_key s.slots p.place))
  content_leaves asked x (content.Prepare v) = book_leaves (v.view == s.view && not (x.sender.index == primary s)) (key kind.Prepare v.place x.sender.index) v.digest
  content_leaves asked x (content.Commit v) = book_leaves (v.view == s.view) (key kind.Commit v.place x.sender.index) v.digest
  content_leaves asked x (content.Checkpoint d) = book_leaves (d.place % checkpoint_distance == 0) (key kind.Checkpoint d.place x.sender.index) d.digest
  content_leaves asked x (content.ViewChange c) =
      row_leaves (record s { heard = insert s.heard x.sender.index (record { digest = content_digest_of (content.ViewChange c); change = c; tags = x.tags }) }) (fits_change s c)
      (option_map_or (λ (h : HeldChange). nat_lt h.change.view c.view) (get s.heard x.sender.index) true)
  content_leaves asked x (content.Ack n) =
      row_leaves (record s { acks = insert s.acks x.sender.index (insert (acks_of s x.sender.index) n.index n.digest) }) (fits_ack s x.sender.index n) (not (is_some (ack_at s x.sender.index n.index)))
  content_leaves asked x (content.NewView v) = row_leaves (record s { new_view = Some v }) (fits_new_view s x.sender.index v) (not (is_some s.new_view))
  content_leaves asked x (content.Relay n) = relay_leaves n (slice_get x.vouchers 0)
  content_leaves asked x (content.Fetch w) = λ h. refl
  content_leaves asked x (content.Done d) = row_leaves (record s { dones = insert s.dones x.sender.index d.event }) (d.place == s.done + 1 && is_in_window s.low d.place) (not (contains_key s.dones x.sender.index))
  content_leaves asked x (content.Need digest) = give_leaves (text_of s digest)
  content_leaves asked x (content.Give e) =
      row_leaves (record s { texts = insert s.texts (digest_of e) e }) (slots_name s (digest_of e) || choice_names (possible_choice s) (digest_of e)) (not (is_held s (digest_of e)))

none_of : (a b : Bool) → (a || b) ≡ false → (a ≡ false) × (b ≡ false)
none_of true b h = absurd (false≢true (sym h))
none_of false b h = (refl, h)

then_leaves : (s : State) (a b : Answered) → Leaves s a → Leaves a.state b → Leaves s (and_then a b)
then_leaves s a b h k n = let o = none_of a.is_kept b.is_kept n in k o.1 ∙ h o.0

vouchers_leave : (s : State) (asked : Counters) (body : List ℕ) (hs : List Vouched) (a : Answered) → Leaves s a → Leaves s (fold (keep_vouched asked body) a hs)
vouchers_leave s asked body [] a h = h
vouchers_leave s asked body (v ∷ vs) a h = vouchers_leave s asked body vs (keep_vouched asked body a v) (by v.is_verified)
  where
    by : (b : Bool) → Leaves s (if b then and_then a (keep_evidence a.state asked v.voucher.sender v.voucher.content body) else a)
    by true = then_leaves s a (keep_evidence a.state asked v.voucher.sender v.voucher.content body) h (evidence_leaves a.state asked v.voucher.sender v.voucher.content body)
    by false = h

packet_leaves : (s : State) (asked : Counters) (x : SaidFields) → Leaves s (heard s asked x)
unfolding heard
packet_leaves s asked x = by (are_heard x.content)
  where
    by : (b : Bool) → Leaves s (if b then fold (keep_vouched asked (unwrap_or x.body [])) (keep s asked x x.content) x.vouchers else keep s asked x x.content)
    by true = vouchers_leave s asked (unwrap_or x.body []) x.vouchers (keep s asked x x.content) (content_leaves s asked x x.content)
    by false = content_leaves s asked x x.content

after_is_tidy : (s : State) (a : Answered) → Leaves s a → IsTidy s → IsTidy (after_packet a).reaction.state
after_is_tidy s a l h = by a.is_kept refl
  where
    by : (b : Bool) → a.is_kept ≡ b → IsTidy (if b then tidied a.state else a.state)
    by true e = tidied_is_tidy a.state
    by false e = subst IsTidy (sym (l e)) h

begun_is_tidy : (s : State) (asked : Counters) (input : Input) → IsTidy s → IsTidy (begun s asked input).reaction.state
begun_is_tidy s asked (Said x) h = after_is_tidy s (heard s asked x) (packet_leaves s asked x) h
begun_is_tidy s asked (Tick own) h = tick_is_tidy s asked own h
begun_is_tidy s asked Resume h = h

pub inputs_keep_tidy : InputsKeepTidy
inputs_keep_tidy s asked input h = begun_is_tidy (settled_state s asked) asked input (settled_is_tidy s asked h)

-- the actions of a call
module _ (asked : Counters) where
  by_last : (n : ℕ) (r : Reaction) (a : Action) (b : Bool) → ((t : Reaction) → IsTidy t.state → IsTidy (acts n asked t).state) → IsTidy (more_unless b (then_did r a) (λ t. acts n asked t)).state
  by_last n r a true more = turns_are_tidy r a
  by_last n r a false more = more (then_did r a) (turns_are_tidy r a)

  by_turn : (n : ℕ) (r : Reaction) (o : Option Action) → IsTidy r.state → ((t : Reaction) → IsTidy t.state → IsTidy (acts n asked t).state) → IsTidy (turn o r (λ t. acts n asked t)).state
  by_turn n r None h more = h
  by_turn n r (Some a) h more = by_last n r a (is_last a) more

  acts_are_tidy : (n : ℕ) (r : Reaction) → IsTidy r.state → IsTidy (acts n asked r).state
  unfolding acts
  acts_are_tidy zero r h = h
  acts_are_tidy (suc n) r h = by_turn n r (next_action r.state asked) h (λ t g. acts_are_tidy n t g)

  followed_is_tidy : (n : ℕ) (b : Bool) (r : Reaction) → IsTidy r.state → IsTidy (if b then acts n asked r else r).state
  followed_is_tidy n true r h = acts_are_tidy n r h
  followed_is_tidy n false r h = h

pub reactions_keep_tidy : ReactionsKeepTidy
unfolding react
reactions_keep_tidy s asked input h =
    let b = begun (settled_state s asked) asked input in
    followed_is_tidy asked turns b.goes_on b.reaction (inputs_keep_tidy s asked input h)
