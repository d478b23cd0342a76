use Rattle.pws_soap.proofs.Cuts.{cut_before}
use Rattle.pws_soap.proofs.white.trim_start.Goals as goal

pub range_from-requires : goal.range_from-requires
range_from-requires c = rw (c.white_before.ensures, c.as_bytes.ensures.value) (cut_before c.args.text.now c.utf8.text)
