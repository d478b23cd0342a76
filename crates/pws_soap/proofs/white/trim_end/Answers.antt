use Rattle.pws_soap.proofs.Cuts.{cut_behind}
use Rattle.pws_soap.proofs.white.trim_end.Goals as goal

pub range-requires-clause-end_boundary : goal.range-requires-clause-end_boundary
range-requires-clause-end_boundary c = rw (c.white_behind.ensures, c.as_bytes.ensures.value) (cut_behind c.args.text.now)
