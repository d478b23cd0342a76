use Rattle.pws_script.specs.Lines.{lines_of}
use Rattle.pws_look.proofs.Reports.{begun, one_more, ended}
use Rattle.pws_look.proofs.lines.look_at_lines.Goals as goal

pub loop-line-preserved : goal.loop-line-preserved
loop-line-preserved c =
    one_more c.args.kind (lines_of c.args.input.now) c.loop-line.lines (record { bytes = c.in-Some.line.bytes.now; ended = c.in-Some.line.ended }) c.next.new.self c.loop-line.report c.add.new.self c.in_ok-answer.answer
    c.loop-line.invariant c.in-Some.ensures.next c.in_ok-answer.ensures c.in_ok-add.ensures

pub returns : goal.returns
returns c = ended c.args.kind c.args.input.now c.loop-line.lines c.loop-line.report c.loop-line.invariant c.in_default.ensures.next
