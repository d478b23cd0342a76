use Rattle.std.proofs.Common.{◌≡◌, ℕ, ◌<◌, ◌≤◌}
use Rattle.pws_msg.specs.declared.changes.Choice.{Choice}
use Rattle.pws_change.specs.Choices.{IsChosenAt, last_of, chosen_at}
use Rattle.pws_change.proofs.choices.choose_from.Given as goal

abbrev pub invariant-loop-place : goal.invariant-loop-place
invariant-loop-place l =
    let c : Choice = record { place = l.start.place; digest = l.start.digest; chosen = l.chosen } in
    record {
      last : last_of c ≡ l.place;
      each : (p : ℕ) → c.place < p → p ≤ last_of c → IsChosenAt l.shape l.changes p (chosen_at c p);
    }
