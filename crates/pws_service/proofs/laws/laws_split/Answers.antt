use Rattle.pws_service.proofs.Splits.{calls_split, replies_split, asks_split}
use Rattle.pws_service.proofs.laws.laws_split.Goals as goal

pub returns : goal.returns
returns c me layout es before acts more = (calls_split me layout es before acts more, (replies_split es before acts more, asks_split es before acts more))
