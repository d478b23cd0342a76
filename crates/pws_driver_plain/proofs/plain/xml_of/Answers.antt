use Rattle.std.proofs.Common.{◌∙◌}
use Rattle.pws_driver_plain.proofs.XmlTexts.{nothing_is}
use Rattle.pws_driver_plain.proofs.plain.xml_of.Goals as goal

pub returns-in-Err : goal.returns-in-Err
returns-in-Err c = c.new.ensures ∙ nothing_is c.args.bytes.now c.in-Err.ensures.cases.0
