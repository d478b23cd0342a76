-- A character that shows nothing to be refused.
use Rattle.std.proofs.Common.{refl, Option, Some, None, []}
use Rattle.pws_mark.specs.Least.{lowered}
use Rattle.pws_mark.specs.Scanning.{Notes}
use Rattle.pws_mark.specs.declared.errors.MarkError.{MarkError}
use Rattle.pws_mark.specs.declared.modes.Mode.{Mode}

pub quiet : (m : Option Mode) (least : Option MarkError) → Notes m least [] least
unfolding lowered
quiet None least = refl
quiet (Some m) least = refl
