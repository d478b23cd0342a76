-- What stays as it is while nothing is executed: the place and the chain; and evidence fits on.
use Rattle.std.proofs.Common.{◌≡◌, ℕ, ◌++◌, Bool, true, false, if◌then◌else◌, List, [], ◌∷◌, Option, Some, None, refl, sym, ◌∙◌, ap, subst}
use Rattle.std.specs.List.{fold, flat_map}
use Rattle.std.specs.Prelude.{map}
use Rattle.std.specs.Str.{bytes_eq}
use Rattle.std.specs.FinMap.{insert}
use Rattle.pws_event.specs.declared.events.Event.{Event}
use Rattle.pws_event.specs.Events.{digest_of}
use Rattle.pws_change.specs.Choices.{null_digest}
use Rattle.pws_votes.specs.declared.kinds.Vote.{Vote}
use Rattle.pws_votes.specs.declared.kinds.Vote.TheVariants as vote
use Rattle.pws_protocol.specs.States.{State, is_alone}
use Rattle.pws_protocol.specs.Hearing.{Out, Answered, voted_as, by_row}
use Rattle.pws_protocol.specs.Hearing as out
use Rattle.pws_protocol.specs.Doing.{Reaction, on, said_all, voted, with_text, vote_for}
use Rattle.pws_protocol.specs.Executed.{executed_in}
use Rattle.pws_protocol.specs.Fits.{FitsEvidence}

pub record Calm (P : Type 0) (s : State) (r : Reaction) : Type 0 where
  pub done : r.state.done ≡ s.done
  pub chain : r.state.chain ≡ s.chain
  pub nothing : executed_in r.outs ≡ []
  pub evidence : P → FitsEvidence s.evidence → FitsEvidence r.state.evidence

abbrev pub answer : Answered → Reaction
answer a = record { state = a.state; outs = a.outs }

abbrev pub at : State → List Out → Reaction
at t os = record { state = t; outs = os }

-- what is executed by two lists is what is executed by each
pub executed_both : (xs ys : List Out) → executed_in (xs ++ ys) ≡ executed_in xs ++ executed_in ys
executed_both [] ys = refl
executed_both (out.Send c v ∷ xs) ys = executed_both xs ys
executed_both (out.Execute p e ∷ xs) ys = ap (λ zs. record { place = p; event = e } ∷ zs) (executed_both xs ys)
executed_both (out.Unkept w ∷ xs) ys = executed_both xs ys

pub quiet_both : (xs ys : List Out) → executed_in xs ≡ [] → executed_in ys ≡ [] → executed_in (xs ++ ys) ≡ []
quiet_both xs ys h k = executed_both xs ys ∙ ap (λ zs. zs ++ executed_in ys) h ∙ k

pub quiet_map : {X : Type 0} (f : X → Out) (xs : List X) → ((x : X) → executed_in (f x ∷ []) ≡ []) → executed_in (map f xs) ≡ []
quiet_map f [] h = refl
quiet_map f (x ∷ xs) h = quiet_both (f x ∷ []) (map f xs) (h x) (quiet_map f xs h)

pub quiet_flat : {X : Type 0} (f : X → List Out) (xs : List X) → ((x : X) → executed_in (f x) ≡ []) → executed_in (flat_map f xs) ≡ []
quiet_flat f [] h = refl
quiet_flat f (x ∷ xs) h = quiet_both (f x) (flat_map f xs) (h x) (quiet_flat f xs h)

pub quiet_if : (b : Bool) (xs ys : List Out) → executed_in xs ≡ [] → executed_in ys ≡ [] → executed_in (if b then xs else ys) ≡ []
quiet_if true xs ys h k = h
quiet_if false xs ys h k = k

module _ {P : Type 0} where
  -- the same state, with what is said
  pub stays : (s : State) (os : List Out) → executed_in os ≡ [] → Calm P s (at s os)
  stays s os h = record { done = refl; chain = refl; nothing = h; evidence = λ p f. f }

  -- another state in which these fields are the same
  pub same : (s t : State) (os : List Out) → t.done ≡ s.done → t.chain ≡ s.chain → t.evidence ≡ s.evidence → executed_in os ≡ [] → Calm P s (at t os)
  same s t os d c e h = record { done = d; chain = c; nothing = h; evidence = λ p f. subst (λ x. FitsEvidence x) (sym e) f }

  pub said_calm : (s t : State) (os : List Out) → t.done ≡ s.done → t.chain ≡ s.chain → t.evidence ≡ s.evidence → executed_in os ≡ [] → Calm P s (said_all t os)
  said_calm s t os d c e h = same s t (if is_alone t then [] else os) d c e (quiet_if (is_alone t) [] os refl h)

  pub on_calm : {A : Type 0} (s : State) (o : Option A) (f : A → Reaction) → ((x : A) → Calm P s (f x)) → Calm P s (on s o f)
  on_calm s None f h = stays s [] refl
  on_calm s (Some x) f h = h x

  pub row_calm : (s t : State) (fits free : Bool) → Calm P s (at t []) → Calm P s (answer (by_row fits free s t))
  row_calm s t true true c = c
  row_calm s t true false c = stays s (out.Unkept vote.Already ∷ []) refl
  row_calm s t false free c = stays s (out.Unkept vote.Outside ∷ []) refl

  pub vote_calm : (s t : State) (w : Vote) → Calm P s (at t []) → Calm P s (answer (voted_as w s t))
  vote_calm s t vote.Kept c = c
  vote_calm s t vote.Outside c = stays s (out.Unkept vote.Outside ∷ []) refl
  vote_calm s t vote.Already c = stays s (out.Unkept vote.Already ∷ []) refl

  pub if_calm : (s : State) (b : Bool) (a c : Answered) → Calm P s (answer a) → Calm P s (answer c) → Calm P s (answer (if b then a else c))
  if_calm s true a c h k = h
  if_calm s false a c h k = k

-- what a state keeps of another
pub record Same (s t : State) : Type 0 where
  pub done : t.done ≡ s.done
  pub chain : t.chain ≡ s.chain
  pub evidence : t.evidence ≡ s.evidence

pub text_same : (s : State) (e : Event) → Same s (with_text s e)
unfolding with_text
text_same s e = by_null (bytes_eq (digest_of e) null_digest)
  where
    by_null : (b : Bool) → Same s (if b then s else record s { texts = insert s.texts (digest_of e) e })
    by_null true = record { done = refl; chain = refl; evidence = refl }
    by_null false = record { done = refl; chain = refl; evidence = refl }

pub votes_same : (s t : State) (xs : List (ℕ × List ℕ)) → Same s t → Same s (fold vote_for t xs)
unfolding voted
votes_same s t [] h = h
votes_same s t (x ∷ xs) h = votes_same s (vote_for t x) xs (record { done = h.done; chain = h.chain; evidence = h.evidence })
