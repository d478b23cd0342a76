-- What refuses a text, told by the reader, from how runs begin documents and where they are placed in them.
use Rattle.pws_mark.specs.Outcome.{StopsTell, EndsTell}
use Rattle.pws_mark.specs.ReaderLaws.{RunsBegin, RunsArePlaced}
use Rattle.pws_mark.proofs.OutcomeDeclared.{instructions_stand}
use Rattle.pws_mark.proofs.OutcomeGiven.{doctypes_stand}
use Rattle.pws_mark.proofs.OutcomeKnown.{runs_are_known, heads_begin, marks_open}
use Rattle.pws_mark.proofs.OutcomeStops.{stops_told}
use Rattle.pws_mark.proofs.OutcomeTells.{ends_told}

pub ends_tell : RunsBegin → RunsArePlaced → EndsTell
ends_tell begin are_placed = ends_told begin are_placed marks_open heads_begin

pub stops_tell : RunsBegin → RunsArePlaced → StopsTell
stops_tell begin are_placed = stops_told begin are_placed marks_open heads_begin (doctypes_stand begin are_placed runs_are_known) (instructions_stand begin are_placed runs_are_known)
