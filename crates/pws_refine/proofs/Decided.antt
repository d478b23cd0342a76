-- What is executed is decided.
use Rattle.std.proofs.Common.{◌≡◌, inl, inr, ℕ, ◌+◌, ◌≤◌, ◌==◌, Bool, true, false, List, [], ◌∷◌, Some, Contains, refl, sym, ap, subst}
use Rattle.std.specs.Option.{option_map, option_map_or}
use Rattle.std.specs.Str.{bytes_eq}
use Rattle.std.specs.Cmp.Lexicographic.{pointwise}
use Rattle.std.specs.FinMap.{get}
use Rattle.std.proofs.lemmas.Bool.{false≢true, and_parts, eqb-true, leb-true}
use Rattle.pws_base.specs.Counts.{count_below}
use Rattle.pws_base.specs.Shapes.{size_of_group, weak_of}
use Rattle.pws_base.proofs.Members.{nowhere, first_or_rest}
use Rattle.pws_event.specs.declared.readings.Reading.{Reading}
use Rattle.pws_event.specs.declared.readings.Share.{Share}
use Rattle.pws_event.specs.Answers.{ReplyFields, AbortFields}
use Rattle.pws_event.specs.Readings.{ClockFields, RandomFields}
use Rattle.pws_event.specs.Requests.{RequestFields}
use Rattle.pws_event.specs.declared.events.Event.{Event}
use Rattle.pws_event.specs.declared.events.Event.TheVariants as event
use Rattle.pws_event.specs.Events.{digest_of}
use Rattle.pws_event.specs.Counters.{Counters}
use Rattle.pws_msg.specs.declared.contents.Content.TheVariants as content
use Rattle.pws_safety.specs.Statement.{Statement}
use Rattle.pws_safety.specs.Statements.{Sent, IsSettled, IsCorrect}
use Rattle.pws_safety.specs.Voters.{Core}
use Rattle.pws_safety.specs.Kept.{GroupKeeps}
use Rattle.pws_safety.specs.Runs.{IsTrusted}
use Rattle.pws_safety.proofs.Group.{committed_is_settled}
use Rattle.pws_safety.proofs.Agreed.{settled_as_more_is_sent}
use Rattle.pws_protocol.specs.Keys.{replica}
use Rattle.pws_protocol.specs.States.{State}
use Rattle.pws_protocol.specs.Alike.{same_reading, same_share, is_null, is_request, is_reply, is_abort, is_clock, is_random, same_event}
use Rattle.pws_protocol.specs.Actions.{Action, next_execute, next_adopt}
use Rattle.pws_protocol.specs.Actions as act
use Rattle.pws_protocol.specs.Doing.{did_execute, did}
use Rattle.pws_protocol.specs.Executed.{Placed, executed_in}
use Rattle.pws_protocol.proofs.Executing.{executes_nothing}
use Rattle.pws_refine.specs.Cores.{slot_of, core_of}
use Rattle.pws_refine.specs.Contexts.{Context, IsLawful, IsOf}
use Rattle.pws_refine.specs.Links.{Links}
use Rattle.pws_refine.specs.Laws.{IsDecided}
use Rattle.pws_refine.proofs.Enabled.{Enabled}
use Rattle.pws_refine.proofs.Enabled as on
use Rattle.pws_refine.proofs.Finding.{passing}
use Rattle.pws_refine.proofs.Places.{size_is, same_bytes}
use Rattle.pws_refine.proofs.Repeated.{text_is}
use Rattle.pws_refine.proofs.Tests.{execute_tells, adopt_enough}

-- the test of two events tells whether they are one
all_same : {X : Type 0} (same : X → X → Bool) → ((a b : X) → same a b ≡ true → a ≡ b) → (xs ys : List X) → pointwise same xs ys ≡ true → xs ≡ ys
all_same same is [] [] h = refl
all_same same is [] (y ∷ ys) h = absurd (false≢true h)
all_same same is (x ∷ xs) [] h = absurd (false≢true h)
all_same same is (x ∷ xs) (y ∷ ys) h =
    let p = and_parts (same x y) (pointwise same xs ys) h in
    let first : x ≡ y = is x y p.0 in
    let rest : xs ≡ ys = all_same same is xs ys p.1 in
    λ i. first i ∷ rest i

reading_is : (a b : Reading) → same_reading a b ≡ true → a ≡ b
reading_is a b h =
    let p = and_parts (a.index == b.index) (a.ms == b.ms) h in
    let index : a.index ≡ b.index = eqb-true a.index b.index p.0 in
    let ms : a.ms ≡ b.ms = eqb-true a.ms b.ms p.1 in
    λ i. record { index = index i; ms = ms i }

share_is : (a b : Share) → same_share a b ≡ true → a ≡ b
share_is a b h =
    let p = and_parts (a.index == b.index) (bytes_eq a.bytes b.bytes) h in
    let index : a.index ≡ b.index = eqb-true a.index b.index p.0 in
    let bytes : a.bytes ≡ b.bytes = same_bytes a.bytes b.bytes p.1 in
    λ i. record { index = index i; bytes = bytes i }

null_is : (b : Event) → is_null b ≡ true → event.Null ≡ b
null_is event.Null h = refl
null_is _ h = absurd (false≢true h)

request_is : (a : RequestFields) (b : Event) → is_request a b ≡ true → event.Request a ≡ b
request_is a (event.Request b) h =
    let p = and_parts (a.caller == b.caller) _ h in
    let q = and_parts (a.number == b.number) _ p.1 in
    let r = and_parts (a.low == b.low) (bytes_eq a.body b.body) q.1 in
    let caller : a.caller ≡ b.caller = eqb-true a.caller b.caller p.0 in
    let number : a.number ≡ b.number = eqb-true a.number b.number q.0 in
    let low : a.low ≡ b.low = eqb-true a.low b.low r.0 in
    let body : a.body ≡ b.body = same_bytes a.body b.body r.1 in
    λ i. event.Request (record { caller = caller i; number = number i; low = low i; body = body i })
request_is a _ h = absurd (false≢true h)

reply_is : (a : ReplyFields) (b : Event) → is_reply a b ≡ true → event.Reply a ≡ b
reply_is a (event.Reply b) h =
    let p = and_parts (a.called == b.called) _ h in
    let q = and_parts (a.number == b.number) (bytes_eq a.body b.body) p.1 in
    let called : a.called ≡ b.called = eqb-true a.called b.called p.0 in
    let number : a.number ≡ b.number = eqb-true a.number b.number q.0 in
    let body : a.body ≡ b.body = same_bytes a.body b.body q.1 in
    λ i. event.Reply (record { called = called i; number = number i; body = body i })
reply_is a _ h = absurd (false≢true h)

abort_is : (a : AbortFields) (b : Event) → is_abort a b ≡ true → event.Abort a ≡ b
abort_is a (event.Abort b) h =
    let p = and_parts (a.called == b.called) (a.number == b.number) h in
    let called : a.called ≡ b.called = eqb-true a.called b.called p.0 in
    let number : a.number ≡ b.number = eqb-true a.number b.number p.1 in
    λ i. event.Abort (record { called = called i; number = number i })
abort_is a _ h = absurd (false≢true h)

clock_is : (a : ClockFields) (b : Event) → is_clock a b ≡ true → event.Clock a ≡ b
clock_is a (event.Clock b) h =
    let p = and_parts (a.ask == b.ask) (pointwise same_reading a.readings b.readings) h in
    let ask : a.ask ≡ b.ask = eqb-true a.ask b.ask p.0 in
    let readings : a.readings ≡ b.readings = all_same same_reading reading_is a.readings b.readings p.1 in
    λ i. event.Clock (record { ask = ask i; readings = readings i })
clock_is a _ h = absurd (false≢true h)

random_is : (a : RandomFields) (b : Event) → is_random a b ≡ true → event.Random a ≡ b
random_is a (event.Random b) h =
    let p = and_parts (a.ask == b.ask) (pointwise same_share a.shares b.shares) h in
    let ask : a.ask ≡ b.ask = eqb-true a.ask b.ask p.0 in
    let shares : a.shares ≡ b.shares = all_same same_share share_is a.shares b.shares p.1 in
    λ i. event.Random (record { ask = ask i; shares = shares i })
random_is a _ h = absurd (false≢true h)

event_is : (a b : Event) → same_event a b ≡ true → a ≡ b
unfolding same_event
event_is event.Null b h = null_is b h
event_is (event.Request a) b h = request_is a b h
event_is (event.Reply a) b h = reply_is a b h
event_is (event.Abort a) b h = abort_is a b h
event_is (event.Clock a) b h = clock_is a b h
event_is (event.Random a) b h = random_is a b h

-- what is decided stays so as more is sent
pub decided_more : (c : Context) (before after : Sent) (place : ℕ) (e : Event) → ((k : ℕ) (x : Statement) → Contains before (k, x) → Contains after (k, x)) → IsDecided c before place e → IsDecided c after place e
decided_more c before after place e grow (inl x) = inl (x.0, settled_as_more_is_sent c.group before after x.0 place (digest_of e) grow x.1)
decided_more c before after place e grow (inr x) = inr x

module _ (c : Context) (cores : ℕ → Core) (sent : Sent) (s : State) (said : List Statement) (trusted : IsTrusted c.group) (keeps : GroupKeeps c.group cores sent) (correct : IsCorrect c.group c.me.index) (at : cores c.me.index ≡ core_of s said)
    (law : IsLawful c) (is : IsOf c s) (l : Links c sent s) where
  execute_decided : (e : Event) → next_execute s ≡ Some e → IsDecided c sent (s.done + 1) e
  execute_decided e h =
      let x = execute_tells s e h in
      let digest = text_is s x.0.digest e l.texts x.3 in
      let slot = subst (λ (z : Core). z.slot (s.done + 1) ≡ Some (slot_of x.0)) (sym at) (ap (option_map slot_of) x.1) in
      inl (
        (cores c.me.index).view,
        subst (IsSettled c.group sent (cores c.me.index).view (s.done + 1)) (sym digest) (committed_is_settled c.group cores sent c.me.index (s.done + 1) (slot_of x.0) trusted.sound keeps correct slot x.2),
      )

  done_said : (e : Event) (k : ℕ) → option_map_or (same_event e) (get s.dones k) false ≡ true → c.speaks (replica c.me.group k) (content.Done (record { place = s.done + 1; event = e })) ≡ true
  done_said e k t =
      let x = passing (same_event e) (get s.dones k) t in
      subst (λ y. c.speaks (replica c.me.group k) (content.Done (record { place = s.done + 1; event = y })) ≡ true) (sym (event_is e x.0 x.2)) (l.dones k x.0 x.1).0

  adopt_decided : (e : Event) → next_adopt s ≡ Some e → IsDecided c sent (s.done + 1) e
  adopt_decided e h =
      let test : ℕ → Bool = λ k. option_map_or (same_event e) (get s.dones k) false in
      let many : weak_of s.me.f ≤ count_below (size_of_group s.me.f) test = leb-true (weak_of s.me.f) (count_below (size_of_group s.me.f) test) (adopt_enough s e h) in
      inr (test, subst (λ f. weak_of f ≤ count_below (size_of_group f) test) (size_is c s law is) many, λ k b t. done_said e k t)

  abbrev AllDecided : List Placed → Type 0
  AllDecided xs = (x : Placed) → Contains xs x → IsDecided c sent x.place x.event

  nothing_executed : (xs : List Placed) → xs ≡ [] → AllDecided xs
  nothing_executed xs e x m = absurd (nowhere x (subst (λ ys. Contains ys x) e m))

  one_executed : (e : Event) → IsDecided c sent (s.done + 1) e → AllDecided (executed_in (did_execute s e).outs)
  unfolding did_execute
  one_executed e d x m =
      elim (first_or_rest (record { place = s.done + 1; event = e }) x [] m) [
        | inl y ↦ subst (λ (z : Placed). IsDecided c sent z.place z.event) y d
        | inr y ↦ absurd (nowhere x y)
      ]

  -- what an enabled action executes is decided
  pub did_decided : (asked : Counters) (a : Action) → Enabled s asked a → AllDecided (executed_in (did s a).outs)
  unfolding did
  did_decided asked a (on.execute e h) = one_executed e (execute_decided e h)
  did_decided asked a (on.adopt e h) = one_executed e (adopt_decided e h)
  did_decided asked a (on.join w e) = nothing_executed _ (executes_nothing s (act.Join w) refl)
  did_decided asked a (on.refuse e) = nothing_executed _ (executes_nothing s act.Refuse refl)
  did_decided asked a (on.impatience e) = nothing_executed _ (executes_nothing s act.Impatience refl)
  did_decided asked a (on.ack j e) = nothing_executed _ (executes_nothing s (act.Ack j) refl)
  did_decided asked a (on.need_chosen d) = nothing_executed _ (executes_nothing s (act.NeedChosen d) refl)
  did_decided asked a (on.need_text d) = nothing_executed _ (executes_nothing s (act.NeedText d) refl)
  did_decided asked a (on.offer v e) = nothing_executed _ (executes_nothing s (act.Offer v) refl)
  did_decided asked a (on.enter v e) = nothing_executed _ (executes_nothing s (act.Enter v) refl)
  did_decided asked a (on.propose e k) = nothing_executed _ (executes_nothing s (act.Propose e) refl)
  did_decided asked a (on.accept p e) = nothing_executed _ (executes_nothing s (act.Accept p) refl)
  did_decided asked a (on.prepare p e) = nothing_executed _ (executes_nothing s (act.Prepare p) refl)
  did_decided asked a (on.commit p e) = nothing_executed _ (executes_nothing s (act.Commit p) refl)
  did_decided asked a (on.checkpoint e) = nothing_executed _ (executes_nothing s act.Checkpoint refl)
  did_decided asked a (on.stable p e) = nothing_executed _ (executes_nothing s (act.Stable p) refl)
