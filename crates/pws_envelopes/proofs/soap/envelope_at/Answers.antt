use Rattle.pws_envelopes.proofs.TextsRead.{read_one}
use Rattle.pws_envelopes.proofs.soap.envelope_at.Goals as goal

pub returns-in-Ok : goal.returns-in-Ok
returns-in-Ok c = read_one c.reading_gives_the_tree.ensures c.args.text.now c.in-Ok.envelope c.in-Ok.ensures
