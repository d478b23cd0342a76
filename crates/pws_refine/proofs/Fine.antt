-- From one state to another nothing changes of the core, and all stands on which a voter's actions rest.
use Rattle.std.proofs.Common.{◌≡◌, ℕ, Bool, true, false, cond, List, [], ◌∷◌, ◌++◌, Option, Some, None, refl, ◌∙◌, ap}
use Rattle.std.specs.List.{cons_option}
use Rattle.std.specs.Ordering.{nat_cmp}
use Rattle.std.specs.Cmp.Lexicographic.{slice_cmp}
use Rattle.std.specs.FinMap.{FinMap}
use Rattle.std.specs.FinSet.{FinSet}
use Rattle.pws_event.specs.declared.events.Event.{Event}
use Rattle.pws_msg.specs.declared.changes.NewView.{NewView}
use Rattle.pws_votes.specs.declared.kinds.Vote.{Vote}
use Rattle.pws_votes.specs.declared.kinds.Vote.TheVariants as vote
use Rattle.pws_votes.specs.Votes.{Book}
use Rattle.pws_safety.specs.Statement.{Statement}
use Rattle.pws_safety.specs.Statements.{Sent}
use Rattle.pws_protocol.specs.States.{State, HeldChange, Relayed}
use Rattle.pws_protocol.specs.Hearing.{Out, Answered, unkept, voted_as, by_row, and_then}
use Rattle.pws_refine.specs.Cores.{core_of, statement_in, statements_in}
use Rattle.pws_refine.specs.Contexts.{Context, IsOf}
use Rattle.pws_refine.specs.Links.{Links}
use Rattle.pws_refine.specs.Ready.{IsReady}

pub record Fine (c : Context) (sent : Sent) (s t : State) : Type 0 where
  pub links : Links c sent t
  pub is_of : IsOf c t
  pub ready : IsReady t
  pub core : (said : List Statement) → core_of t said ≡ core_of s said

pub then_fine : (c : Context) (sent : Sent) (s t u : State) → Fine c sent s t → Fine c sent t u → Fine c sent s u
then_fine c sent s t u a b = record { links = b.links; is_of = b.is_of; ready = b.ready; core = λ said. b.core said ∙ a.core said }

-- the fields on which being ready doesn't rest
pub record Rest : Type 0 where
  pub waited : ℕ
  pub pending : FinMap nat_cmp Event
  pub book : Book
  pub texts : FinMap (slice_cmp nat_cmp) Event
  pub needed : FinSet (slice_cmp nat_cmp)
  pub heard : FinMap nat_cmp HeldChange
  pub acks : FinMap nat_cmp (FinMap nat_cmp (List ℕ))
  pub new_view : Option NewView
  pub relayed : FinMap nat_cmp Relayed
  pub dones : FinMap nat_cmp Event

abbrev pub rest_of : State → Rest
rest_of s = record { waited = s.waited; pending = s.pending; book = s.book; texts = s.texts; needed = s.needed; heard = s.heard; acks = s.acks; new_view = s.new_view; relayed = s.relayed; dones = s.dones }

abbrev pub altered : State → Rest → State
altered s o = record s { waited = o.waited; pending = o.pending; book = o.book; texts = o.texts; needed = o.needed; heard = o.heard; acks = o.acks; new_view = o.new_view; relayed = o.relayed; dones = o.dones }

altered_ready : (s : State) (o : Rest) → IsReady s → IsReady (altered s o)
altered_ready s o r = record { low = r.low; done = r.done; chains = r.chains; slots = r.slots; committed = r.committed; prepared = r.prepared; pre_prepared = r.pre_prepared; evidence = r.evidence }

altered_core : (s : State) (o : Rest) (said : List Statement) → cond s.active o.new_view None ≡ cond s.active s.new_view None → core_of (altered s o) said ≡ core_of s said
altered_core s o said e = ap (λ v. record (core_of s said) { new_view = v }) e

module _ (c : Context) (sent : Sent) (s : State) (is : IsOf c s) (ready : IsReady s) where
  -- other fields, and a new view that doesn't count
  pub other_view : (o : Rest) → cond s.active o.new_view None ≡ cond s.active s.new_view None → o.book.f ≡ s.book.f → Links c sent (altered s o) → Fine c sent s (altered s o)
  other_view o v b l = record {
    links = l;
    is_of = record { me = is.me; book = b ∙ is.book; group = is.group; layout = is.layout };
    ready = altered_ready s o ready;
    core = λ said. altered_core s o said v;
  }

  pub other : (o : Rest) → o.new_view ≡ s.new_view → o.book.f ≡ s.book.f → Links c sent (altered s o) → Fine c sent s (altered s o)
  other o v b l = other_view o (ap (λ w. cond s.active w None) v) b l

  pub same : Links c sent s → Fine c sent s s
  same l = other (rest_of s) refl refl l

says_by : (o : Option Statement) (xs ys : List Statement) → cons_option o (xs ++ ys) ≡ cons_option o xs ++ ys
says_by None xs ys = refl
says_by (Some x) xs ys = refl

pub says_append : (xs ys : List Out) → statements_in (xs ++ ys) ≡ statements_in xs ++ statements_in ys
says_append [] ys = refl
says_append (x ∷ xs) ys = ap (λ zs. cons_option (statement_in x) zs) (says_append xs ys) ∙ says_by (statement_in x) (statements_in xs) (statements_in ys)

-- what is heard leaves all fine, and says nothing
abbrev pub Quiet : Context → Sent → State → Answered → Type 0
Quiet c sent s a = Fine c sent s a.state × (statements_in a.outs ≡ [])

module _ (c : Context) (sent : Sent) (s : State) (f : Fine c sent s s) where
  pub none_quiet : (why : Vote) → Quiet c sent s (unkept s why)
  none_quiet why = (f, refl)

  pub row_quiet : (t : State) (fits free : Bool) → (fits ≡ true → free ≡ true → Fine c sent s t) → Quiet c sent s (by_row fits free s t)
  row_quiet t true true h = (h refl refl, refl)
  row_quiet t true false h = none_quiet vote.Already
  row_quiet t false free h = none_quiet vote.Outside

  pub vote_quiet : (t : State) (w : Vote) → Fine c sent s t → Quiet c sent s (voted_as w s t)
  vote_quiet t vote.Kept h = (h, refl)
  vote_quiet t vote.Outside h = none_quiet vote.Outside
  vote_quiet t vote.Already h = none_quiet vote.Already

  pub if_quiet : (b : Bool) (a : Answered) → (b ≡ true → Quiet c sent s a) → Quiet c sent s (cond b a (unkept s vote.Outside))
  if_quiet true a h = h refl
  if_quiet false a h = none_quiet vote.Outside

pub then_quiet : (c : Context) (sent : Sent) (s : State) (a b : Answered) → Quiet c sent s a → Quiet c sent a.state b → Quiet c sent s (and_then a b)
then_quiet c sent s a b x y = (then_fine c sent s a.state b.state x.0 y.0, says_append a.outs b.outs ∙ (ap (λ xs. xs ++ statements_in b.outs) x.1 ∙ y.1))
