-- What the contents of packets say, as far as agreement goes; this project's own.
use Rattle.std.specs.Prelude.{Option, Some, None}
use Rattle.pws_event.specs.Events.{digest_of}
use Rattle.pws_msg.specs.declared.contents.Content.{Content}
use Rattle.pws_msg.specs.declared.contents.Content.TheVariants as content
use Rattle.pws_safety.specs.Statement.{Statement, PrePrepare, Prepare, Commit, Ack}
use Rattle.pws_safety.specs.Statement as say

-- the statement that a content makes, if agreement rests on it: an event counts by its digest
abbrev pub statement_of : Content → Option Statement
statement_of (content.PrePrepare p) = Some (PrePrepare p.view p.place (digest_of p.event))
statement_of (content.Prepare v) = Some (Prepare v.view v.place v.digest)
statement_of (content.Commit v) = Some (Commit v.view v.place v.digest)
statement_of (content.ViewChange c) = Some (say.ViewChange c)
statement_of (content.Ack n) = Some (Ack n.view n.index n.digest)
statement_of (content.NewView v) = Some (say.NewView v)
statement_of _ = None
