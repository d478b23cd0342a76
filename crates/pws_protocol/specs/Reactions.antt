-- A voter's reaction to an input, as a function and as a relation.
use Rattle.std.specs.Prelude.{◌≡◌, ℕ, ◌||◌, ◌++◌, Bool, true, false, if◌then◌else◌, List, Option, Some, None, zero, suc}
use Rattle.std.specs.FinMap.{retain_keys}
use Rattle.pws_event.specs.Counters.{Counters}
use Rattle.pws_msg.specs.declared.changes.Choice.{Choice}
use Rattle.pws_msg.specs.declared.contents.Content.{Content}
use Rattle.pws_protocol.specs.Evidence.{settled}
use Rattle.pws_protocol.specs.States.{State}
use Rattle.pws_protocol.specs.Gathered.{possible_choice, slots_name, rows_name, choice_names}
use Rattle.pws_protocol.specs.Hearing.{SaidFields, Answered, heard}
use Rattle.pws_protocol.specs.Actions.{Action, next_action}
use Rattle.pws_protocol.specs.Actions as act
use Rattle.pws_protocol.specs.Doing.{Reaction, still, did}
use Rattle.pws_protocol.specs.Ticks.{tick}

-- what a voter is given: a packet of another replica; a tick, with its own EXPIRED and READING; the word to go on after an
-- event was executed
pub data Input : Type 0 where
  Said : SaidFields → Input
  Tick : (own : List Content) → Input
  Resume : Input

-- the evidence is settled first
unfoldable pub settled_state : State → Counters → State
settled_state s asked = record s { evidence = settled s.evidence asked }

-- the texts that a slot, a row of Q or the possible choice names are held on, and no others
abbrev pub is_named : State → Option Choice → List ℕ → Bool
is_named s choice digest = slots_name s digest || (rows_name s digest || choice_names choice digest)

-- the state without the other texts
unfoldable pub tidied : State → State
tidied s = record s { texts = retain_keys s.texts (is_named s (possible_choice s)) }

-- what an input brings before any action, and whether actions follow
pub record Begun : Type 0 where
  pub reaction : Reaction
  pub goes_on : Bool

-- after a packet they do only where something of it was kept
abbrev pub after_packet : Answered → Begun
after_packet a = record { reaction = record { state = if a.is_kept then tidied a.state else a.state; outs = a.outs }; goes_on = a.is_kept }

-- what a packet, a tick, the word to go on bring
abbrev pub begun : State → Counters → Input → Begun
begun s asked (Said x) = after_packet (heard s asked x)
begun s asked (Tick own) = record { reaction = tick s asked own; goes_on = true }
begun s asked Resume = record { reaction = still s; goes_on = true }

-- one action after what was put out before
unfoldable pub then_did : Reaction → Action → Reaction
then_did r a = record { state = tidied (did r.state a).state; outs = r.outs ++ (did r.state a).outs }

-- after these the call ends, so that the event can be carried out before anything else
abbrev pub is_last : Action → Bool
is_last (act.Execute e) = true
is_last (act.Adopt e) = true
is_last _ = false

-- as a relation: the first enabled action is done, again and again, until none is enabled or an event was executed
pub data Acts (asked : Counters) : Reaction → Reaction → Type 0 where
  rests : (r : Reaction) → next_action r.state asked ≡ None → Acts asked r r
  ends : (r : Reaction) (a : Action) → next_action r.state asked ≡ Some a → is_last a ≡ true → Acts asked r (then_did r a)
  goes : (r u : Reaction) (a : Action) → next_action r.state asked ≡ Some a → is_last a ≡ false → Acts asked (then_did r a) u → Acts asked r u

-- the actions follow, or don't
abbrev pub Follows : Counters → Bool → Reaction → Reaction → Type 0
Follows asked true r u = Acts asked r u
Follows asked false r u = r ≡ u

-- this is a reaction to the input
abbrev pub Reacts : State → Counters → Input → Reaction → Type 0
Reacts s asked input r =
    Follows asked (begun (settled_state s asked) asked input).goes_on (begun (settled_state s asked) asked input).reaction r

-- as a function: the same, with so many actions at most
abbrev pub more_unless : Bool → Reaction → (Reaction → Reaction) → Reaction
more_unless true r more = r
more_unless false r more = more r

-- one turn: what is enabled is done, and then more
abbrev pub turn : Option Action → Reaction → (Reaction → Reaction) → Reaction
turn None r more = r
turn (Some a) r more = more_unless (is_last a) (then_did r a) more

-- so many actions at most
unfoldable pub acts : ℕ → Counters → Reaction → Reaction
acts zero asked r = r
acts (suc n) asked r = turn (next_action r.state asked) r (λ t. acts n asked t)

-- more than enough for every reaction
abbrev pub turns : ℕ
turns = 2199023255552

-- the actions follow, or don't
abbrev pub followed : Counters → Begun → Reaction
followed asked b = if b.goes_on then acts turns asked b.reaction else b.reaction

-- a voter's reaction: its state after an input, and what it puts out, in order
unfoldable pub react : State → Counters → Input → Reaction
react s asked input = followed asked (begun (settled_state s asked) asked input)
