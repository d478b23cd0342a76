use Rattle.std.proofs.Common.{◌≡◌, ◌+◌, drop, not}
use Rattle.std.specs.Prelude.{◌==◌, IsTrue}
use Rattle.std.specs.List.{prefix_len}
use Rattle.pws_mark.specs.Bindings.{has_colon}
use Rattle.pws_mark.proofs.names.colon_place.Given as goal

abbrev pub invariant-loop-place : goal.invariant-loop-place
invariant-loop-place l =
    record {
      before : prefix_len (λ c. not (c == 58)) l.name ≡ l.place + prefix_len (λ c. not (c == 58)) (drop l.place l.name);
      behind : IsTrue (has_colon (drop l.place l.name));
    }
