use Rattle.std.proofs.Common.{◌≡◌, max, take}
use Rattle.std.specs.List.{fold}
use Rattle.pws_change.proofs.choices.highest_in.Given as goal

abbrev pub invariant-loop-r : goal.invariant-loop-r
invariant-loop-r l = l.highest ≡ fold (λ p r. max p r.place) l.place (take l.r-index l.rows)
