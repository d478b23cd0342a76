-- What the actions make of a state, as one update of its fields.
use Rattle.std.proofs.Common.{◌≡◌, inl, inr, ℕ, ◌≤◌, Bool, true, false, if◌then◌else◌, max, List, [], ◌∷◌, Some, Contains, refl, sym, ◌∙◌, ap, subst, arith}
use Rattle.std.specs.List.{fold}
use Rattle.std.specs.Ordering.{nat_cmp}
use Rattle.std.specs.Str.{bytes_eq}
use Rattle.std.specs.Cmp.Lexicographic.{slice_cmp}
use Rattle.std.specs.FinMap.{FinMap, get, insert, remove}
use Rattle.pws_base.proofs.Maps.{put_cases}
use Rattle.pws_base.proofs.Members.{here, there}
use Rattle.pws_event.specs.declared.events.Event.{Event}
use Rattle.pws_event.specs.Events.{digest_of}
use Rattle.pws_msg.specs.Rows.{IsDigest}
use Rattle.pws_change.specs.Choices.{null_digest}
use Rattle.pws_votes.specs.declared.kinds.Vote.{Vote}
use Rattle.pws_votes.specs.declared.kinds.Vote.TheVariants.{Kept, Outside, Already}
use Rattle.pws_votes.specs.declared.kinds.VoteKind.TheVariants as kind
use Rattle.pws_votes.specs.Votes.{Book, Key, key, number_of, has_vote, can_vote, answer_to, after_answer, after_vote}
use Rattle.pws_votes.proofs.VoteLemmas.{keys_are_ordered}
use Rattle.pws_protocol.specs.States.{State, Slot, HeldChange, new_slot}
use Rattle.pws_protocol.specs.Actions as act
use Rattle.pws_protocol.specs.Actions.{next_place}
use Rattle.pws_voter_laws.proofs.Parts.{AreVotes, AreOwn}
use Rattle.pws_protocol.specs.Doing.{on, did, did_ack, did_accept, did_prepare, did_commit, did_propose, ack_change, accept_event, prepare_slot, commit_slot, accepted, with_text, voted, with_slot, vote_for}

-- the texts with an event's, if it isn't Null
abbrev pub texts_with : FinMap (slice_cmp nat_cmp) Event → Event → FinMap (slice_cmp nat_cmp) Event
texts_with m e = if bytes_eq (digest_of e) null_digest then m else insert m (digest_of e) e

pub with_text_is : (s : State) (e : Event) → with_text s e ≡ record s { texts = texts_with s.texts e }
unfolding with_text
with_text_is s e = by (bytes_eq (digest_of e) null_digest)
  where
    by : (b : Bool) → (if b then s else record s { texts = insert s.texts (digest_of e) e }) ≡ record s { texts = if b then s.texts else insert s.texts (digest_of e) e }
    by true = refl
    by false = refl

-- a vote leaves the size of the group and the low mark
pub vote_leaves : (b : Book) (k : Key) (d : List ℕ) → ((after_vote b k d).f ≡ b.f) × ((after_vote b k d).low ≡ b.low)
vote_leaves b k d = by (answer_to b k)
  where
    by : (v : Vote) → ((after_answer v b k d).f ≡ b.f) × ((after_answer v b k d).low ≡ b.low)
    by Kept = (refl, refl)
    by Outside = (refl, refl)
    by Already = (refl, refl)

-- with a vote the votes of a book are what they are to be
pub vote_keeps : (b : Book) (k : Key) (d : List ℕ) → k.place ≤ 1000000 → IsDigest d → AreVotes b → AreVotes (after_vote b k d)
vote_keeps b k d few long a = by (can_vote b k) (has_vote b k) refl
  where
    by : (c h : Bool) → can_vote b k ≡ c → AreVotes (after_answer (if c then (if h then Already else Kept) else Outside) b k d)
    by true true e = a
    by true false e = λ q x p. elim (put_cases keys_are_ordered.total keys_are_ordered.exact b.votes k q d x p) [
      | inl y ↦ (subst (λ q. can_vote b q ≡ true) (sym y.0) e, subst (λ (q : Key). q.place ≤ 1000000) (sym y.0) few, subst IsDigest y.1 long)
      | inr y ↦ a q x y
    ]
    by false h e = a

-- with a vote the own votes for checkpoints are for the own chains, if that vote is
pub vote_own : (me : ℕ) (chains : FinMap nat_cmp (List ℕ)) (b : Book) (k : Key) (d : List ℕ) → ((p : ℕ) → key kind.Checkpoint p me ≡ k → get chains p ≡ Some d) → AreOwn me chains b → AreOwn me chains (after_vote b k d)
vote_own me chains b k d own a = by (answer_to b k)
  where
    by : (v : Vote) → AreOwn me chains (after_answer v b k d)
    by Kept = λ p x h. elim (put_cases keys_are_ordered.total keys_are_ordered.exact b.votes k (key kind.Checkpoint p me) d x h) [
      | inl y ↦ subst (λ z. get chains p ≡ Some z) y.1 (own p y.0)
      | inr y ↦ a p x y
    ]
    by Outside = a
    by Already = a

not_checkpoint : (p q me : ℕ) → key kind.Checkpoint p me ≡ key kind.Prepare q me → ⊥
not_checkpoint p q me h = let n : 2 ≡ 0 = ap (λ (k : Key). number_of k.kind) h in absurd (omega (arith, n))

-- the book with a vote for each of these digests
abbrev pub book_with : ℕ → Book → List (ℕ × List ℕ) → Book
book_with me b [] = b
book_with me b (x ∷ xs) = book_with me (after_vote b (key kind.Prepare x.0 me) x.1) xs

pub votes_are : (s : State) (xs : List (ℕ × List ℕ)) → fold vote_for s xs ≡ record s { book = book_with s.me.index s.book xs }
unfolding voted
votes_are s [] = refl
votes_are s (x ∷ xs) = votes_are (vote_for s x) xs

pub votes_keep : (me : ℕ) (b : Book) (xs : List (ℕ × List ℕ)) → ((x : ℕ × List ℕ) → Contains xs x → (x.0 ≤ 1000000) × IsDigest x.1) → AreVotes b → AreVotes (book_with me b xs)
votes_keep me b [] each a = a
votes_keep me b (x ∷ xs) each a =
    let e = each x (here x xs) in
    votes_keep me (after_vote b (key kind.Prepare x.0 me) x.1) xs (λ y c. each y (there x y xs c)) (vote_keeps b (key kind.Prepare x.0 me) x.1 e.0 e.1 a)

pub votes_own : (me : ℕ) (chains : FinMap nat_cmp (List ℕ)) (b : Book) (xs : List (ℕ × List ℕ)) → AreOwn me chains b → AreOwn me chains (book_with me b xs)
votes_own me chains b [] a = a
votes_own me chains b (x ∷ xs) a =
    votes_own me chains (after_vote b (key kind.Prepare x.0 me) x.1) xs (vote_own me chains b (key kind.Prepare x.0 me) x.1 (λ p e. absurd (not_checkpoint p x.0 me e)) a)

pub votes_leave : (me : ℕ) (b : Book) (xs : List (ℕ × List ℕ)) → ((book_with me b xs).f ≡ b.f) × ((book_with me b xs).low ≡ b.low)
votes_leave me b [] = (refl, refl)
votes_leave me b (x ∷ xs) =
    let v = vote_leaves b (key kind.Prepare x.0 me) x.1 in
    let r = votes_leave me (after_vote b (key kind.Prepare x.0 me) x.1) xs in
    (r.0 ∙ v.0, r.1 ∙ v.1)

-- an event accepted at a place, with its text
abbrev pub accepted_with : State → ℕ → Event → State
accepted_with s p e = record s {
  last = max s.last p;
  pending = remove s.pending p;
  slots = insert s.slots p (new_slot (digest_of e));
  texts = texts_with s.texts e;
}

pub propose_is : (s : State) (e : Event) → (did s (act.Propose e)).state ≡ accepted_with s (next_place s) e
unfolding did did_propose accepted
propose_is s e = with_text_is (accepted s (next_place s) (digest_of e)) e

pub accept_is : (s : State) (p : ℕ) (e : Event) → get s.pending p ≡ Some e
    → (did s (act.Accept p)).state ≡ record (accepted_with s p e) { book = after_vote s.book (key kind.Prepare p s.me.index) (digest_of e) }
unfolding did did_accept accepted voted
accept_is s p e h =
    ap (λ o. (on s o (accept_event s p)).state) h
    ∙ ap (λ (t : State). record t { book = after_vote t.book (key kind.Prepare p t.me.index) (digest_of e) }) (with_text_is (accepted s p (digest_of e)) e)

pub prepare_is : (s : State) (p : ℕ) (t : Slot) → get s.slots p ≡ Some t
    → (did s (act.Prepare p)).state ≡ record s { slots = insert s.slots p (record t { is_prepared = true }); book = after_vote s.book (key kind.Commit p s.me.index) t.digest }
unfolding did did_prepare voted with_slot
prepare_is s p t h = ap (λ o. (on s o (prepare_slot s p)).state) h

pub commit_is : (s : State) (p : ℕ) (t : Slot) → get s.slots p ≡ Some t
    → (did s (act.Commit p)).state ≡ record s { slots = insert s.slots p (record t { is_committed = true }) }
unfolding did did_commit with_slot
commit_is s p t h = ap (λ o. (on s o (commit_slot s p)).state) h

pub ack_is : (s : State) (j : ℕ) (c : HeldChange) → get s.heard j ≡ Some c → (did s (act.Ack j)).state ≡ (ack_change s j c).state
unfolding did did_ack
ack_is s j c h = ap (λ o. (on s o (ack_change s j)).state) h
