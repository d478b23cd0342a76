use Rattle.std.proofs.Common.{◌∙◌}
use Rattle.pws_auth.proofs.Blocks.{block_of_key-short}
use Rattle.pws_auth.proofs.codes.block_of_key.Goals as goal

pub returns-then-key-le64 : goal.returns-then-key-le64
returns-then-key-le64 c = c.put_front.ensures ∙ block_of_key-short c.args.key.now c.if-key-le64.true
