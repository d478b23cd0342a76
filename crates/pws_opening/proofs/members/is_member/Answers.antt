use Rattle.std.proofs.Common.{◌∙◌, sym}
use Rattle.pws_opening.proofs.Seals.{member_tested}
use Rattle.pws_opening.proofs.members.is_member.Goals as goal

pub returns-then-has : goal.returns-then-has
returns-then-has c = member_tested c.args.layout.now c.args.keys.now c.args.me c.seals_for_all.result c.requires (sym c.has.ensures.value ∙ c.if-has.true) c.seals_for_all.ensures
