use Rattle.pws_soap.proofs.Made.{around_lawful}
use Rattle.pws_soap.proofs.envelopes.Envelope.around.Goals as goal

pub of_lawful-requires : goal.of_lawful-requires
of_lawful-requires c = rw (c.new.ensures.items, c.in_ok-body.ensures.items) (around_lawful c.args.element c.depth-levels.ensures.lawful c.requires)
