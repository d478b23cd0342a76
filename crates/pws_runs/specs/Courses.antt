-- A replica's step as a relation: phases, one after the other. What holds through each phase holds through a step.
use Rattle.std.specs.Prelude.{◌≡◌, ℕ, List, [], ◌∷◌, slice_get, Option, Some, None, Result, Ok, Err}
use Rattle.pws_msg.specs.Statements.{ReplyNoteFields, WantedPlaceFields}
use Rattle.pws_msg.specs.declared.contents.Content.TheVariants as content
use Rattle.pws_protocol.specs.Reactions as heard
use Rattle.pws_runs.specs.declared.errors.OpenError.{OpenError}
use Rattle.pws_runs.specs.declared.errors.Ignored.TheVariants as ignored
use Rattle.pws_runs.specs.Opening.{Checked, opens}
use Rattle.pws_runs.specs.ReplicaStates.{ReplicaState, Input, Bytes, Opened, Tick, PassedOver, Run, Serve, call_key}
use Rattle.pws_runs.specs.Steps.{Execution, put, started, said_of, fetched, parted, tick_of, tick_sent, reaction, execution_in, voted, pushed}

-- the packet of an input, where it is opened
abbrev pub opened_ok : Result Checked OpenError → Option Checked
opened_ok (Ok c) = Some c
opened_ok (Err e) = None

-- the packet that an input opens at a replica, if any
abbrev pub opened_of : Input → ReplicaState → Option Checked
opened_of (Bytes bytes) s = opened_ok (opens s.keys s.me bytes)
opened_of (Opened c) s = Some c
opened_of (Tick ms random) s = None

-- why the bytes of an input aren't opened, if they aren't
abbrev pub unopened_error : Result Checked OpenError → Option OpenError
unopened_error (Ok c) = None
unopened_error (Err e) = Some e

-- the same of an input; a packet that was opened, and a tick, have no such reason
abbrev pub unopened_of : Input → ReplicaState → Option OpenError
unopened_of (Bytes bytes) s = unopened_error (opens s.keys s.me bytes)
unopened_of (Opened c) s = None
unopened_of (Tick ms random) s = None

-- what the voter may be given in a step: the packet that was opened; after a tick's own sends that tick; the word to go on
pub data IsGiven (serve : Serve) (given : Input) : Run → heard.Input → Type 0 where
  said : (r : Run) (c : Checked) → opened_of given r.state ≡ Some c → IsGiven serve given r (heard.Said (said_of c))
  ticks_on :
      (r : Run) (ms : ℕ) (random : List ℕ) → given ≡ Tick ms random
      → IsGiven serve given (tick_sent r (tick_of serve r ms random)) (heard.Tick (tick_of serve r ms random).own)
  resumes : (r : Run) → IsGiven serve given r heard.Resume

-- one phase of a step
pub data Phase (serve : Serve) (given : Input) : Run → Run → Type 0 where
  -- the service is started, if it wasn't
  starts : (r : Run) → Phase serve given r (started serve r)
  -- bytes aren't opened
  ignores :
      (r : Run) (e : OpenError) → unopened_of given r.state ≡ Some e
      → Phase serve given r (put r (PassedOver (ignored.Unopened e) ∷ []))
  -- a FETCH is answered
  fetches :
      (r : Run) (c : Checked) (w : WantedPlaceFields) → opened_of given r.state ≡ Some c
      → c.packet.content ≡ content.Fetch w → Phase serve given r (put r (fetched r.state c.packet.sender.index w.place))
  -- a PART is heard
  parts :
      (r : Run) (c : Checked) (x : ReplyNoteFields) → opened_of given r.state ≡ Some c
      → c.packet.content ≡ content.Part x
      → Phase serve given r (parted serve r c.packet.sender.index (call_key x.caller x.number) x.digest (slice_get c.packet.vouchers 0))
  -- a tick's own sends
  ticks :
      (r : Run) (ms : ℕ) (random : List ℕ) → given ≡ Tick ms random
      → Phase serve given r (tick_sent r (tick_of serve r ms random))
  -- a call of the voter that executes nothing
  votes :
      (r : Run) (i : heard.Input) → IsGiven serve given r i → execution_in (reaction serve r i).outs ≡ None
      → Phase serve given r (voted serve r i)
  -- a call of the voter that ends with an execution; the event is pushed
  executes :
      (r : Run) (i : heard.Input) (x : Execution) → IsGiven serve given r i
      → execution_in (reaction serve r i).outs ≡ Some x → Phase serve given r (pushed serve (voted serve r i) x)

-- phases in turn
pub data Course (serve : Serve) (given : Input) : Run → Run → Type 0 where
  rests : (r : Run) → Course serve given r r
  goes : (a b c : Run) → Phase serve given a b → Course serve given b c → Course serve given a c
