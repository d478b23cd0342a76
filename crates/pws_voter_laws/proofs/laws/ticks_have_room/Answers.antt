use Rattle.pws_voter_laws.proofs.Rooms as lemma
use Rattle.pws_voter_laws.proofs.laws.ticks_have_room.Goals as goal

pub returns : goal.returns
returns c = lemma.ticks_have_room
