-- What the evidence and the book of votes answer is what is kept.
use Rattle.std.proofs.Common.{◌≡◌, ◌⊎◌, inl, inr, ℕ, Bool, true, false, cond, List, Option, Some, None, ◌&&◌, is_some, refl, sym, ◌∙◌, ap}
use Rattle.pws_base.specs.declared.shapes.ReplicaId.{ReplicaId}
use Rattle.pws_event.specs.Counters.{Counters}
use Rattle.pws_msg.specs.declared.contents.Content.{Content}
use Rattle.pws_votes.specs.declared.kinds.Vote.{Vote}
use Rattle.pws_votes.specs.declared.kinds.Vote.TheVariants.{Kept, Outside, Already}
use Rattle.pws_votes.specs.Votes.{Key, answer_to, after_answer, after_vote}
use Rattle.pws_protocol.specs.declared.keys.Matter.{Matter}
use Rattle.pws_protocol.specs.declared.keys.StatementKey.{StatementKey}
use Rattle.pws_protocol.specs.declared.keys.BodyKey.{BodyKey}
use Rattle.pws_protocol.specs.Keys.{statement_key}
use Rattle.pws_protocol.specs.Evidence.{Evidence, Noted, noted, matter_of, is_inside, first_of, same_statement, new_body, with_body, with_statement, note_after, note_about, note}
use Rattle.pws_protocol.specs.States.{State}
use Rattle.pws_protocol.specs.Hearing.{Answered, voted_as, keep_evidence, keep_in_book}
use Rattle.pws_voter.specs.Shown.{answered_as}

by_answer : (a : Vote) (s : State) (k : Key) (d : List ℕ) → voted_as a s (record s { book = after_answer a s.book k d }) ≡ answered_as a (record s { book = after_answer a s.book k d })
by_answer Kept s k d = refl
by_answer Outside s k d = refl
by_answer Already s k d = refl

pub voted_is : (s : State) (k : Key) (d : List ℕ) → keep_in_book s k d ≡ answered_as (answer_to s.book k) (record s { book = after_vote s.book k d })
voted_is s k d = by_answer (answer_to s.book k) s k d

-- what isn't kept changes nothing
abbrev Stays : Evidence → Noted → Type 0
Stays e x = (x.answer ≡ Kept) ⊎ (x.evidence ≡ e)

again_stays : (b : Bool) (e : Evidence) (new : Option BodyKey) (body : List ℕ) → Stays e (cond b (noted (with_body e new body) Kept) (noted e Already))
again_stays true e new body = inl refl
again_stays false e new body = inr refl

after_stays : (first : Option Content) (e : Evidence) (k : StatementKey) (c : Content) (new : Option BodyKey) (body : List ℕ) → Stays e (note_after first e k c new body)
unfolding note_after
after_stays None e k c new body = inl refl
after_stays (Some first) e k c new body = again_stays (same_statement first c && is_some new) e new body

inside_stays : (b : Bool) (e : Evidence) (x : Noted) → Stays e x → Stays e (cond b x (noted e Outside))
inside_stays true e x h = h
inside_stays false e x h = inr refl

about_stays : (m : Option Matter) (e : Evidence) (asked : Counters) (sender : ReplicaId) (c : Content) (body : List ℕ) → Stays e (note_about m e asked sender c body)
about_stays None e asked sender c body = inr refl
about_stays (Some m) e asked sender c body = inside_stays (is_inside e asked m) e _ (after_stays (first_of e sender m) e (statement_key sender m) c (new_body e sender c body) body)

note_stays : (e : Evidence) (asked : Counters) (sender : ReplicaId) (c : Content) (body : List ℕ) → Stays e (note e asked sender c body)
unfolding note
note_stays e asked sender c body = about_stays (matter_of e.group sender c) e asked sender c body

same_state : (a : Vote) (s t : State) → t ≡ s → voted_as a s t ≡ answered_as a t
same_state Kept s t p = refl
same_state Outside s t p = ap (answered_as Outside) (sym p)
same_state Already s t p = ap (answered_as Already) (sym p)

answered : (s : State) (x : Noted) → Stays s.evidence x → voted_as x.answer s (record s { evidence = x.evidence }) ≡ answered_as x.answer (record s { evidence = x.evidence })
answered s x (inl k) = ap (λ a. voted_as a s (record s { evidence = x.evidence })) k ∙ sym (ap (λ a. answered_as a (record s { evidence = x.evidence })) k)
answered s x (inr e) = same_state x.answer s (record s { evidence = x.evidence }) (ap (λ (y : Evidence). record s { evidence = y }) e)

pub noted_is : (s : State) (asked : Counters) (sender : ReplicaId) (c : Content) (body : List ℕ) → keep_evidence s asked sender c body ≡ answered_as (note s.evidence asked sender c body).answer (record s { evidence = (note s.evidence asked sender c body).evidence })
unfolding keep_evidence
noted_is s asked sender c body = answered s (note s.evidence asked sender c body) (note_stays s.evidence asked sender c body)
