use Rattle.pws_event.proofs.Answered.{random_lawful}
use Rattle.pws_event.proofs.parsing.read_random.Goals as goal

pub new-requires : goal.new-requires
new-requires c = random_lawful c.in_ok-ask.ask c.in_ok-count.count c.read_count.new.fields (c.in_ok-shares.shares, c.read_shares.new.fields) c.in_ok-ask.ensures.range.0 c.in_ok-ask.ensures.range.1 c.in_ok-count.ensures.count c.in_ok-shares.ensures.read
