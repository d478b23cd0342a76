use Rattle.pws_event.proofs.Answered.{clock_lawful}
use Rattle.pws_event.proofs.parsing.read_clock.Goals as goal

pub new-requires : goal.new-requires
new-requires c = clock_lawful c.in_ok-ask.ask c.in_ok-count.count c.read_count.new.fields (c.in_ok-readings.readings, c.read_readings.new.fields) c.in_ok-ask.ensures.range.0 c.in_ok-ask.ensures.range.1 c.in_ok-count.ensures.count c.in_ok-readings.ensures.read c.in_ok-readings.ensures.times
