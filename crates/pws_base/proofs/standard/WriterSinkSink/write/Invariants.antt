use Rattle.std.proofs.Common.{◌≡◌}
use Rattle.std.specs.Io.KnownBytes.{Keeps}
use Rattle.pws_base.proofs.standard.WriterSinkSink.write.Given as goal

abbrev pub invariant-loop : goal.invariant-loop
invariant-loop g l =
    record {
      faults : l.self.faults ≡ l.initial.self.faults;
      known : Keeps (g.W.Write.contents l.initial.self.writer) (g.W.Write.contents l.self.writer);
    }
