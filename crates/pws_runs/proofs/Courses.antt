-- Each step is a course of phases.
use Rattle.std.proofs.Common.{◌≡◌, ℕ, zero, suc, List, [], ◌∷◌, Option, Some, None, Result, Ok, Err, refl, ap}
use Rattle.pws_event.specs.declared.events.Event.{Event}
use Rattle.pws_msg.specs.declared.contents.Content.{Content}
use Rattle.pws_msg.specs.declared.contents.Content.TheVariants as content
use Rattle.pws_protocol.specs.Reactions as heard
use Rattle.pws_runs.specs.declared.errors.OpenError.{OpenError}
use Rattle.pws_runs.specs.declared.errors.Ignored.TheVariants as ignored
use Rattle.pws_runs.specs.Opening.{Checked, opens}
use Rattle.pws_runs.specs.ReplicaStates.{ReplicaState, Input, Bytes, Opened, Tick, PassedOver, Run, Serve}
use Rattle.pws_runs.specs.Steps.{Execution, put, started, voted, pushed, reaction, execution_in, after_execution, turns, most_turns, opened_by, if_opened, tick_of, tick_sent, handled, run_from, step_with, said_of}
use Rattle.pws_runs.specs.Courses.{opened_ok, opened_of, unopened_error, unopened_of, IsGiven, said, ticks_on, resumes, Phase, starts, ignores, fetches, parts, ticks, votes, executes, Course, rests, goes}

one : (serve : Serve) (given : Input) (a b : Run) → Phase serve given a b → Course serve given a b
one serve given a b p = goes a b b p (rests b)

turn_course : (serve : Serve) (given : Input) (r : Run) (i : heard.Input) (more : Run → Run) → IsGiven serve given r i → ((q : Run) → Course serve given q (more q)) → (o : Option Execution) → execution_in (reaction serve r i).outs ≡ o
    → Course serve given r (after_execution o (voted serve r i) (λ x. more (pushed serve (voted serve r i) x)))
turn_course serve given r i more g h None e = one serve given r (voted serve r i) (votes r i g e)
turn_course serve given r i more g h (Some x) e = goes r (pushed serve (voted serve r i) x) (more (pushed serve (voted serve r i) x)) (executes r i x g e) (h (pushed serve (voted serve r i) x))

turns_course : (serve : Serve) (given : Input) (n : ℕ) (r : Run) (i : heard.Input) → IsGiven serve given r i → Course serve given r (turns serve n r i)
unfolding turns
turns_course serve given zero r i g = rests r
turns_course serve given (suc n) r i g = turn_course serve given r i (λ q. turns serve n q heard.Resume) g (λ q. turns_course serve given n q heard.Resume (resumes q)) (execution_in (reaction serve r i).outs) refl

opened_course : (serve : Serve) (given : Input) (r : Run) (c : Checked) (x : Content) → opened_of given r.state ≡ Some c → c.packet.content ≡ x → Course serve given r (opened_by serve r c x)
opened_course serve given r c (content.Fetch w) g e = one serve given r _ (fetches r c w g e)
opened_course serve given r c (content.Part x) g e = one serve given r _ (parts r c x g e)
opened_course serve given r c _ g e = turns_course serve given most_turns r (heard.Said (said_of c)) (said r c g)

if_course : (serve : Serve) (given : Input) (r : Run) (o : Result Checked OpenError) → opened_of given r.state ≡ opened_ok o → unopened_of given r.state ≡ unopened_error o → Course serve given r (if_opened serve r o)
if_course serve given r (Err e) g h = one serve given r _ (ignores r e h)
if_course serve given r (Ok c) g h = opened_course serve given r c c.packet.content g refl

handled_course : (serve : Serve) (r : Run) (i : Input) → Course serve i r (handled serve r i)
handled_course serve r (Bytes bytes) = if_course serve (Bytes bytes) r (opens r.state.keys r.state.me bytes) refl refl
handled_course serve r (Opened c) = opened_course serve (Opened c) r c c.packet.content refl refl
handled_course serve r (Tick ms random) =
    goes r (tick_sent r (tick_of serve r ms random)) (handled serve r (Tick ms random)) (ticks r ms random refl)
    (turns_course serve (Tick ms random) most_turns (tick_sent r (tick_of serve r ms random)) (heard.Tick (tick_of serve r ms random).own) (ticks_on r ms random refl))

pub step_course : (serve : Serve) (effects : List Event) (s : ReplicaState) (i : Input) → Course serve i (run_from s effects) (step_with serve effects s i)
unfolding step_with
step_course serve effects s i =
    goes (run_from s effects) (started serve (run_from s effects)) (step_with serve effects s i) (starts (run_from s effects))
    (handled_course serve (started serve (run_from s effects)) i)

-- ---- what isn't opened

some_is : (x y : OpenError) → Some x ≡ Some y → x ≡ y
some_is x y h = cc

none_some : {A : Type 0} (x : OpenError) → ◌≡◌ {A = Option OpenError} None (Some x) → A
none_some x h = absurd (cc)

unopened_by : (serve : Serve) (r : Run) (o : Result Checked OpenError) (why : OpenError) → unopened_error o ≡ Some why → if_opened serve r o ≡ put r (PassedOver (ignored.Unopened why) ∷ [])
unopened_by serve r (Err e) why h = ap (λ (x : OpenError). put r (PassedOver (ignored.Unopened x) ∷ [])) (some_is e why h)
unopened_by serve r (Ok c) why h = none_some why h

unopened : (serve : Serve) (r : Run) (i : Input) (why : OpenError) → unopened_of i r.state ≡ Some why → handled serve r i ≡ put r (PassedOver (ignored.Unopened why) ∷ [])
unopened serve r (Bytes bytes) why h = unopened_by serve r (opens r.state.keys r.state.me bytes) why h
unopened serve r (Opened c) why h = none_some why h
unopened serve r (Tick ms random) why h = none_some why h

pub step_unopened : (serve : Serve) (effects : List Event) (s : ReplicaState) (i : Input) (why : OpenError) → unopened_of i (started serve (run_from s effects)).state ≡ Some why
    → step_with serve effects s i ≡ put (started serve (run_from s effects)) (PassedOver (ignored.Unopened why) ∷ [])
unfolding step_with
step_unopened serve effects s i why h = unopened serve (started serve (run_from s effects)) i why h
