-- What hearing and ticks leave as it is; so what a whole reaction executes, and that evidence fits on.
use Rattle.std.proofs.Common.{◌≡◌, ℕ, suc, ◌+◌, ◌%◌, ◌++◌, ◌==◌, ◌&&◌, not, is_some, nat_lt, Bool, true, false, if◌then◌else◌, List, [], ◌∷◌, Option, Some, None, refl, ◌∙◌, arith}
use Rattle.std.specs.List.{All, fold, flat_map}
use Rattle.std.specs.Prelude.{slice_get, ◌||◌}
use Rattle.std.specs.Option.{option_map_or, unwrap_or}
use Rattle.std.specs.FinMap.{get, entries, insert, contains_key}
use Rattle.pws_base.specs.declared.shapes.ReplicaId.{ReplicaId}
use Rattle.pws_base.specs.Limits.{max_number, checkpoint_distance}
use Rattle.pws_base.specs.Places.{is_in_window}
use Rattle.pws_event.specs.declared.events.Event.{Event}
use Rattle.pws_event.specs.Counters.{Counters}
use Rattle.pws_event.specs.Events.{digest_of}
use Rattle.pws_msg.specs.Contents.{IsContent, content_digest_of}
use Rattle.pws_msg.specs.declared.changes.NewView.{NewView}
use Rattle.pws_msg.specs.declared.changes.ViewChange.{ViewChange}
use Rattle.pws_msg.specs.declared.contents.Content.{Content}
use Rattle.pws_msg.specs.declared.contents.Content.TheVariants as content
use Rattle.pws_msg.specs.Statements.{ChangeNameFields, DecidedEventFields, ProposalFields}
use Rattle.pws_votes.specs.declared.kinds.Vote.TheVariants as vote
use Rattle.pws_votes.specs.declared.kinds.VoteKind.TheVariants as kind
use Rattle.pws_votes.specs.Votes.{Key, key, answer_to, after_vote}
use Rattle.pws_protocol.specs.Evidence.{note}
use Rattle.pws_protocol.specs.States.{State, Slot, HeldChange, own_id, primary, is_held, is_alone, is_primary, window, text_of}
use Rattle.pws_protocol.specs.Gathered.{acks_of, ack_at, slots_name, choice_names, possible_choice}
use Rattle.pws_protocol.specs.Hearing.{Out, Vouched, SaidFields, Answered, unkept, by_row, fits_proposal, fits_change, fits_ack, fits_new_view, fits_relay, keep_in_book, keep, keep_evidence, keep_proposal, keep_prepare, keep_commit, keep_checkpoint, keep_change, keep_ack, keep_new_view, keep_relayed, keep_voucher, keep_relay, keep_done, keep_text, give, and_then, keep_vouched, are_heard, heard}
use Rattle.pws_protocol.specs.Hearing as out
use Rattle.pws_protocol.specs.Doing.{Reaction, start_outs, prepare_out}
use Rattle.pws_protocol.specs.Ticks.{with_own, ticked, if_there, again, change_again, acks_again, each_slot, proposal_again, as_primary, as_backup, in_view_again, commit_again, checkpoint_again, checkpoints_again, fetch_again, repeats, tick}
use Rattle.pws_protocol.specs.Reactions.{Input, Said, Tick, Resume, after_packet, begun, settled_state, tidied, react, turns}
use Rattle.pws_protocol.specs.Fits.{IsInput}
use Rattle.pws_protocol.specs.Laws.{EvidenceStaysFit, ExecutesInOrder}
use Rattle.pws_protocol.proofs.Calm.{Calm, answer, at, stays, same, row_calm, vote_calm, if_calm, quiet_both, quiet_flat, quiet_if}
use Rattle.pws_protocol.specs.Executed.{executed_in}
use Rattle.pws_protocol.proofs.Executing.{start_quiet, Advanced, follows_advance}
use Rattle.pws_protocol.proofs.Noting.{after_noting, after_settling}

evidence_calm : (s : State) (asked : Counters) (sender : ReplicaId) (c : Content) (body : List ℕ) → Calm (IsContent c) s (answer (keep_evidence s asked sender c body))
unfolding keep_evidence
evidence_calm s asked sender c body =
    let n = note s.evidence asked sender c body in
    vote_calm s (record s { evidence = n.evidence }) n.answer (record { done = refl; chain = refl; nothing = refl; evidence = λ p f. after_noting s.evidence asked sender c body p f })

module _ {P : Type 0} (s : State) where
  -- a row, a vote, and what is kept of neither
  row_of : (t : State) (fits free : Bool) → t.done ≡ s.done → t.chain ≡ s.chain → t.evidence ≡ s.evidence → Calm P s (answer (by_row fits free s t))
  row_of t fits free d c e = row_calm s t fits free (same s t [] d c e refl)

  none_calm : Calm P s (answer (unkept s vote.Outside))
  none_calm = stays s (out.Unkept vote.Outside ∷ []) refl

  book_calm : (k : Key) (digest : List ℕ) → Calm P s (answer (keep_in_book s k digest))
  book_calm k digest = vote_calm s (record s { book = after_vote s.book k digest }) (answer_to s.book k) (same s (record s { book = after_vote s.book k digest }) [] refl refl refl refl)

  book_if : (b : Bool) (k : Key) (digest : List ℕ) → Calm P s (answer (if b then keep_in_book s k digest else unkept s vote.Outside))
  book_if b k digest = if_calm s b (keep_in_book s k digest) (unkept s vote.Outside) (book_calm k digest) none_calm

  proposal_calm : (i : ℕ) (x : ProposalFields) → Calm P s (answer (keep_proposal s i x))
  unfolding keep_proposal
  proposal_calm i x =
      row_of (record s { pending = insert s.pending x.place x.event }) (fits_proposal s i x) (not (contains_key s.pending x.place) && not (contains_key s.slots x.place)) refl refl refl

  change_calm : (i : ℕ) (c : ViewChange) (tags : List (List ℕ)) → Calm P s (answer (keep_change s i c tags))
  unfolding keep_change
  change_calm i c tags =
      row_of (record s { heard = insert s.heard i (record { digest = content_digest_of (content.ViewChange c); change = c; tags = tags }) }) (fits_change s c)
      (option_map_or (λ h. nat_lt h.change.view c.view) (get s.heard i) true) refl refl refl

  acked_calm : (i : ℕ) (x : ChangeNameFields) → Calm P s (answer (keep_ack s i x))
  unfolding keep_ack
  acked_calm i x = row_of (record s { acks = insert s.acks i (insert (acks_of s i) x.index x.digest) }) (fits_ack s i x) (not (is_some (ack_at s i x.index))) refl refl refl

  new_view_calm : (i : ℕ) (x : NewView) → Calm P s (answer (keep_new_view s i x))
  unfolding keep_new_view
  new_view_calm i x = row_of (record s { new_view = Some x }) (fits_new_view s i x) (not (is_some s.new_view)) refl refl refl

  relayed_calm : (n : ChangeNameFields) (h : Vouched) (c : ViewChange) → Calm P s (answer (keep_relayed s n h c))
  unfolding keep_relayed
  relayed_calm n h c =
      row_of (record s { relayed = insert s.relayed n.index (record { digest = n.digest; change = c; tags = h.voucher.tags; is_verified = h.is_verified }) }) (fits_relay s n h.voucher c)
      (not (contains_key s.relayed n.index)) refl refl refl

  relay_calm : (n : ChangeNameFields) (h : Vouched) (c : Content) → Calm P s (answer (keep_voucher s n h c))
  relay_calm n h (content.ViewChange c) = relayed_calm n h c
  relay_calm n h _ = none_calm

  passed_calm : (n : ChangeNameFields) (o : Option Vouched) → Calm P s (answer (keep_relay s n o))
  passed_calm n None = none_calm
  passed_calm n (Some h) = relay_calm n h h.voucher.content

  done_calm : (i : ℕ) (x : DecidedEventFields) → Calm P s (answer (keep_done s i x))
  unfolding keep_done
  done_calm i x = row_of (record s { dones = insert s.dones i x.event }) (x.place == s.done + 1 && is_in_window s.low x.place) (not (contains_key s.dones i)) refl refl refl

  text_calm : (x : Event) → Calm P s (answer (keep_text s x))
  unfolding keep_text
  text_calm x =
      row_of (record s { texts = insert s.texts (digest_of x) x }) (slots_name s (digest_of x) || choice_names (possible_choice s) (digest_of x)) (not (is_held s (digest_of x))) refl refl refl

  give_calm : (o : Option Event) → Calm P s (answer (give s o))
  give_calm None = none_calm
  give_calm (Some e) = stays s (out.Send (content.Give e) [] ∷ []) refl

-- each row
keep_calm : (s : State) (asked : Counters) (x : SaidFields) (c : Content) → Calm (IsContent c) s (answer (keep s asked x c))
unfolding keep keep_prepare keep_commit keep_checkpoint
keep_calm s asked x (content.Request r) = evidence_calm s asked x.sender (content.Request r) (unwrap_or x.body [])
keep_calm s asked x (content.Reply r) = evidence_calm s asked x.sender (content.Reply r) (unwrap_or x.body [])
keep_calm s asked x (content.Part r) = none_calm s
keep_calm s asked x (content.Expired n) = evidence_calm s asked x.sender (content.Expired n) []
keep_calm s asked x (content.Reading r) = evidence_calm s asked x.sender (content.Reading r) []
keep_calm s asked x (content.PrePrepare p) = proposal_calm s x.sender.index p
keep_calm s asked x (content.Prepare v) = book_if s (v.view == s.view && not (x.sender.index == primary s)) (key kind.Prepare v.place x.sender.index) v.digest
keep_calm s asked x (content.Commit v) = book_if s (v.view == s.view) (key kind.Commit v.place x.sender.index) v.digest
keep_calm s asked x (content.Checkpoint d) = book_if s (d.place % checkpoint_distance == 0) (key kind.Checkpoint d.place x.sender.index) d.digest
keep_calm s asked x (content.ViewChange c) = change_calm s x.sender.index c x.tags
keep_calm s asked x (content.Ack n) = acked_calm s x.sender.index n
keep_calm s asked x (content.NewView v) = new_view_calm s x.sender.index v
keep_calm s asked x (content.Relay n) = passed_calm s n (slice_get x.vouchers 0)
keep_calm s asked x (content.Fetch w) = none_calm s
keep_calm s asked x (content.Done d) = done_calm s x.sender.index d
keep_calm s asked x (content.Need digest) = give_calm s (text_of s digest)
keep_calm s asked x (content.Give e) = text_calm s e

-- one thing after another
after_calm : {P Q : Type 0} (s : State) (a b : Answered) → Calm P s (answer a) → Calm Q a.state (answer b) → (P → Q) → Calm P s (answer (and_then a b))
after_calm s a b c d i = record {
  done = d.done ∙ c.done;
  chain = d.chain ∙ c.chain;
  nothing = quiet_both a.outs b.outs c.nothing d.nothing;
  evidence = λ p f. d.evidence (i p) (c.evidence p f);
}

-- a whole packet, whose content and vouchers are in range
IsInRange : SaidFields → Type 0
IsInRange x = IsContent x.content × All (λ h. IsContent h.voucher.content) x.vouchers

vouched_calm : {P : Type 0} (s : State) (asked : Counters) (body : List ℕ) (a : Answered) (h : Vouched) → (P → IsContent h.voucher.content) → Calm P s (answer a) → Calm P s (answer (keep_vouched asked body a h))
vouched_calm s asked body a h i c =
    if_calm s h.is_verified (and_then a (keep_evidence a.state asked h.voucher.sender h.voucher.content body)) a
    (after_calm s a (keep_evidence a.state asked h.voucher.sender h.voucher.content body) c (evidence_calm a.state asked h.voucher.sender h.voucher.content body) i) c

vouchers_calm : {P : Type 0} (s : State) (asked : Counters) (body : List ℕ) (a : Answered) (hs : List Vouched) → (P → All (λ h. IsContent h.voucher.content) hs) → Calm P s (answer a)
    → Calm P s (answer (fold (keep_vouched asked body) a hs))
vouchers_calm s asked body a [] i c = c
vouchers_calm s asked body a (h ∷ hs) i c =
    vouchers_calm s asked body (keep_vouched asked body a h) hs (λ p k d l. i p (suc k) d (omega (arith, l))) (vouched_calm s asked body a h (λ p. i p 0 h (omega arith)) c)

heard_calm : (s : State) (asked : Counters) (x : SaidFields) → Calm (IsInRange x) s (answer (heard s asked x))
unfolding heard IsInRange
heard_calm s asked x =
    let c : Calm (IsInRange x) s (answer (keep s asked x x.content)) = weaker (λ p. p.0) (keep_calm s asked x x.content) in
    if_calm s (are_heard x.content) (fold (keep_vouched asked (unwrap_or x.body [])) (keep s asked x x.content) x.vouchers) (keep s asked x x.content)
    (vouchers_calm s asked (unwrap_or x.body []) (keep s asked x x.content) x.vouchers (λ p. p.1) c) c
  where
    weaker : {P Q : Type 0} {r : Reaction} → (P → Q) → Calm Q s r → Calm P s r
    weaker f c = record { done = c.done; chain = c.chain; nothing = c.nothing; evidence = λ p e. c.evidence (f p) e }

-- a tick
own_calm : {P : Type 0} (s t : State) (asked : Counters) (cs : List Content) → (P → All IsContent cs) → Calm P s (at t []) → Calm P s (at (fold (with_own asked) t cs) [])
own_calm s t asked [] i c = c
own_calm s t asked (x ∷ xs) i c =
    own_calm s (with_own asked t x) asked xs (λ p k d l. i p (suc k) d (omega (arith, l)))
    (record { done = c.done; chain = c.chain; nothing = refl; evidence = λ p f. after_noting t.evidence asked (own_id t) x [] (i p 0 x (omega arith)) (c.evidence p f) })

if_there_quiet : {A : Type 0} (o : Option A) (f : A → List Out) → ((x : A) → executed_in (f x) ≡ []) → executed_in (if_there o f) ≡ []
if_there_quiet None f h = refl
if_there_quiet (Some x) f h = h x

slots_quiet : (s : State) (f : ℕ → Slot → List Out) → ((p : ℕ) (t : Slot) → executed_in (f p t) ≡ []) → executed_in (each_slot s f) ≡ []
slots_quiet s f h = quiet_flat (λ p. if_there (get s.slots p) (f p)) (window s.low) (λ p. if_there_quiet (get s.slots p) (f p) (h p))

proposal_quiet : (s : State) (p : ℕ) (t : Slot) → executed_in (proposal_again s p t) ≡ []
proposal_quiet s p t =
    let f : Event → List Out = λ e. again (content.PrePrepare (record { view = s.view; place = p; event = e })) in
    quiet_if (nat_lt s.floor p) (if_there (text_of s t.digest) f) [] (if_there_quiet (text_of s t.digest) f (λ e. refl)) refl

primary_quiet : (s : State) → executed_in (as_primary s) ≡ []
primary_quiet s = quiet_both (if s.view == 0 then [] else start_outs s) (each_slot s (proposal_again s)) (quiet_if (s.view == 0) [] (start_outs s) refl (start_quiet s)) (slots_quiet s (proposal_again s) (proposal_quiet s))

view_quiet : (s : State) → executed_in (in_view_again s) ≡ []
view_quiet s = quiet_if s.active (if is_primary s then as_primary s else as_backup s) [] (quiet_if (is_primary s) (as_primary s) (as_backup s) (primary_quiet s) (slots_quiet s (λ p t. prepare_out s.view (p, t.digest) ∷ []) (λ p t. refl))) refl

commit_quiet : (s : State) (p : ℕ) (t : Slot) → executed_in (commit_again s p t) ≡ []
commit_quiet s p t = quiet_if t.is_prepared (again (content.Commit (record { view = s.view; place = p; digest = t.digest }))) [] refl refl

checkpoints_quiet : (s : State) → executed_in (checkpoints_again s) ≡ []
checkpoints_quiet s =
    quiet_both (if s.low == 0 then [] else if_there (get s.chains s.low) (checkpoint_again s.low)) (flat_map (λ p. if_there (get s.book.votes (key kind.Checkpoint p s.me.index)) (checkpoint_again p)) (window s.low))
    (quiet_if (s.low == 0) [] (if_there (get s.chains s.low) (checkpoint_again s.low)) refl (if_there_quiet (get s.chains s.low) (checkpoint_again s.low) (λ d. refl)))
    (quiet_flat (λ p. if_there (get s.book.votes (key kind.Checkpoint p s.me.index)) (checkpoint_again p)) (window s.low) (λ p. if_there_quiet (get s.book.votes (key kind.Checkpoint p s.me.index)) (checkpoint_again p) (λ d. refl)))

change_quiet : (s : State) → executed_in (change_again s) ≡ []
change_quiet s =
    let f : HeldChange → List Out = λ c. again (content.ViewChange c.change) in
    quiet_if (s.view == 0) [] (if_there (get s.heard s.me.index) f) refl (if_there_quiet (get s.heard s.me.index) f (λ h. refl))

repeats_quiet : (s : State) → executed_in (repeats s) ≡ []
unfolding repeats
repeats_quiet s =
    let a = change_again s in
    let b = acks_again s in
    let c = in_view_again s in
    let d = each_slot s (commit_again s) in
    let e = checkpoints_again s in
    let f = fetch_again s in
    quiet_both a (b ++ (c ++ (d ++ (e ++ f)))) (change_quiet s)
    (quiet_both b (c ++ (d ++ (e ++ f))) (quiet_flat (λ (x : ℕ × List ℕ). again (content.Ack (record { view = s.view; index = x.0; digest = x.1 }))) (entries (acks_of s s.me.index)) (λ x. refl))
    (quiet_both c (d ++ (e ++ f)) (view_quiet s)
    (quiet_both d (e ++ f) (slots_quiet s (commit_again s) (commit_quiet s))
    (quiet_both e f (checkpoints_quiet s) (quiet_if (nat_lt s.done max_number) (again (content.Fetch (record { place = s.done + 1 }))) [] refl refl)))))

tick_calm : (s : State) (asked : Counters) (own : List Content) → Calm (All IsContent own) s (tick s asked own)
unfolding tick ticked
tick_calm s asked own =
    let t = fold (with_own asked) s own in
    let u = ticked t asked in
    let c : Calm (All IsContent own) s (at t []) = own_calm s s asked own (λ p. p) (stays s [] refl) in
    record {
      done = c.done;
      chain = c.chain;
      nothing = quiet_if (is_alone u) [] (repeats u) refl (repeats_quiet u);
      evidence = c.evidence;
    }

-- the settled state
settled_calm : {P : Type 0} (s : State) (asked : Counters) (r : Reaction) → Calm P (settled_state s asked) r → Calm P s r
unfolding settled_state
settled_calm s asked r c = record { done = c.done; chain = c.chain; nothing = c.nothing; evidence = λ p f. c.evidence p (after_settling s.evidence asked f) }

-- what an input brings before any action
IsGiven : Input → Type 0
IsGiven (Said x) = IsInRange x
IsGiven (Tick own) = All IsContent own
IsGiven Resume = Unit {0}

packet_calm : {P : Type 0} (s : State) (a : Answered) → Calm P s (answer a) → Calm P s (after_packet a).reaction
unfolding tidied
packet_calm {P} s a c = by_kept a.is_kept
  where
    by_kept : (b : Bool) → Calm P s (at (if b then tidied a.state else a.state) a.outs)
    by_kept true = record { done = c.done; chain = c.chain; nothing = c.nothing; evidence = c.evidence }
    by_kept false = record { done = c.done; chain = c.chain; nothing = c.nothing; evidence = c.evidence }

begun_calm : (s : State) (asked : Counters) (input : Input) → Calm (IsGiven input) s (begun s asked input).reaction
unfolding IsGiven
begun_calm s asked (Said x) = packet_calm s (heard s asked x) (heard_calm s asked x)
begun_calm s asked (Tick own) = tick_calm s asked own
begun_calm s asked Resume = stays s [] refl

-- nothing is executed before the actions
pub begun_executes_nothing : (s : State) (asked : Counters) (input : Input) → executed_in (begun s asked input).reaction.outs ≡ []
begun_executes_nothing s asked input = (begun_calm s asked input).nothing

reaction_advances : (s : State) (asked : Counters) (input : Input) → Advanced (IsGiven input) s (react s asked input)
unfolding react
reaction_advances s asked input =
    let b = begun (settled_state s asked) asked input in
    follows_advance asked s turns b.goes_on b.reaction (settled_calm s asked b.reaction (begun_calm (settled_state s asked) asked input))

pub executes_in_order : ExecutesInOrder
executes_in_order s asked input = (reaction_advances s asked input).executes

given_in : (s : State) (input : Input) → IsInput s input → IsGiven input
unfolding IsGiven IsInRange
given_in s (Said x) h = (h.content, λ k d l. (h.vouchers k d l).content)
given_in s (Tick own) h = h
given_in s Resume h = tt

pub evidence_stays_fit : EvidenceStaysFit
evidence_stays_fit s asked input h f = (reaction_advances s asked input).evidence (given_in s input h) f
