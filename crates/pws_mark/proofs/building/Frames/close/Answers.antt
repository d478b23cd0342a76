use Rattle.std.proofs.Common.{[], sym, ◌∙◌}
use Rattle.pws_mark.proofs.Built.{close_lawful, closed_whole, closed_more}
use Rattle.pws_mark.proofs.building.Frames.close.Goals as goal

pub into_element-element-requires : goal.into_element-element-requires
into_element-element-requires c = close_lawful _ _ _ c.in-Some.ensures.items c.requires

pub returns-then-is_empty : goal.returns-then-is_empty
returns-then-is_empty c = closed_whole c.args.self.now.frames.items c.pop.new.self.items [] c.in-Some.frame c.into_element-element.result _ c.in-Some.ensures.items c.pop.new.self.ok.0 (sym c.is_empty.ensures ∙ c.if-is_empty.true) c.into_element-element.ensures

pub returns : goal.returns
returns c = closed_more c.args.self.now.frames.items c.pop.new.self.items c.add.new.self.frames.items c.in-Some.frame c.into_element-element.result c.in-Some.ensures.items c.into_element-element.ensures c.in_ok-add.ensures
