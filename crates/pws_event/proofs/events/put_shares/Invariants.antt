use Rattle.std.proofs.Common.{◌≡◌, ◌++◌, take}
use Rattle.std.specs.List.{flat_map}
use Rattle.pws_event.specs.Events.{share_text}
use Rattle.pws_event.proofs.events.put_shares.Given as goal

abbrev pub invariant-loop-share : goal.invariant-loop-share
invariant-loop-share l = l.text ≡ l.initial.text ++ flat_map share_text (take l.share-index l.shares)
