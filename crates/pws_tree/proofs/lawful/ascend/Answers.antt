use Rattle.std.proofs.Common.{◌∙◌, sym}
use Rattle.pws_tree.proofs.Attributes.{few_ascend}
use Rattle.pws_tree.proofs.lawful.ascend.Goals as goal

pub returns : goal.returns
returns c = sym (c.loop-rest.invariant ∙ few_ascend _ c.in_default.len_below)
