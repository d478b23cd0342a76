use Rattle.std.proofs.Common.{◌≡◌, ◌≤◌, ◌==◌, ◌&&◌, not, false}
use Rattle.std.specs.Option.{option_map_or}
use Rattle.std.specs.Str.{bytes_eq}
use Rattle.pws_base.specs.Counts.{count_below}
use Rattle.pws_protocol.specs.Gathered.{ack_at}
use Rattle.pws_voter.proofs.states.State.acks_for.Given as goal

abbrev pub invariant-loop-from : goal.invariant-loop-from
invariant-loop-from g l =
    record {
      counted : l.count ≡ count_below l.from (λ i. (not (i == l.one) && not (i == l.other)) && option_map_or (λ d. bytes_eq d l.digest) (ack_at l.self i l.about) false);
      few : l.count ≤ l.from;
    }
