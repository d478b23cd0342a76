use Rattle.pws_mark.proofs.Counted.{places_count}
use Rattle.pws_mark.proofs.reader_laws.places_count.Goals as goal

pub returns : goal.returns
returns c = places_count
