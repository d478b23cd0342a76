use Rattle.std.proofs.Common.{◌≡◌, ◌≤◌}
use Rattle.pws_base.specs.Counts.{count_below}
use Rattle.pws_base.specs.Sound.{is_compromised}
use Rattle.pws_base.proofs.replicas.count_compromised.Given as goal

abbrev pub invariant-loop-index : goal.invariant-loop-index
invariant-loop-index l =
    record {
      counted : l.count ≡ count_below l.index (is_compromised l.compromised l.group);
      few : l.count ≤ l.index;
    }
