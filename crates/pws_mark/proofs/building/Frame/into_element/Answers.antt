use Rattle.pws_mark.proofs.Built.{can_make, made_is}
use Rattle.pws_mark.proofs.building.Frame.into_element.Goals as goal

pub of_parts-requires : goal.of_parts-requires
of_parts-requires c = can_make c.args.self _ _ c.into_vec.ensures c.into_vec-2.ensures c.requires

pub returns : goal.returns
returns c = made_is c.args.self _ _ _ c.into_vec.ensures c.into_vec-2.ensures c.requires c.of_parts.ensures.made c.of_parts.ensures.lawful
