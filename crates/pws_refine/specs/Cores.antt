-- A voter as the safety argument sees it: the part of its state on which agreement rests, and what its outputs say; this
-- project's own.
use Rattle.std.specs.Prelude.{if◌then◌else◌, List, Option, None}
use Rattle.std.specs.List.{filter_map}
use Rattle.std.specs.Option.{option_map}
use Rattle.std.specs.FinMap.{get}
use Rattle.pws_change.specs.Sets.{p_rows, q_rows}
use Rattle.pws_safety.specs.Contents.{statement_of}
use Rattle.pws_safety.specs.Statement.{Statement}
use Rattle.pws_safety.specs.Voters.{Core}
use Rattle.pws_safety.specs.Voters as safe
use Rattle.pws_protocol.specs.States.{State, Slot}
use Rattle.pws_protocol.specs.Hearing.{Out, Send}

-- a slot as it is seen there
abbrev pub slot_of : Slot → safe.Slot
slot_of t = record { digest = t.digest; prepared = t.is_prepared; committed = t.is_committed }

-- the core of a state of which these statements were said: a NEW_VIEW that is held counts from when the view was entered
-- by it
abbrev pub core_of : State → List Statement → Core
core_of s said = record {
  view = s.view;
  active = s.active;
  low = s.low;
  floor = s.floor;
  last = s.last;
  slot = λ place. option_map slot_of (get s.slots place);
  prepared = p_rows s.prepared;
  pre_prepared = q_rows s.pre_prepared;
  new_view = if s.active then s.new_view else None;
  said = said;
}

-- the statement that an output makes, if agreement rests on it
abbrev pub statement_in : Out → Option Statement
statement_in (Send c vouchers) = statement_of c
statement_in _ = None

-- all of these, in order
abbrev pub statements_in : List Out → List Statement
statements_in outs = filter_map statement_in outs
