use Rattle.pws_refine.proofs.AloneVoters.{start_stands_alone, alone_executes_supported, alone_as_more_is_said}
use Rattle.pws_refine.proofs.laws.alone_executes_supported.Goals as goal

pub returns : goal.returns
returns c = record { start = start_stands_alone; supported = alone_executes_supported; more = alone_as_more_is_said }
