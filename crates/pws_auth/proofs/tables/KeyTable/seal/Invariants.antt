use Rattle.std.proofs.Common.{◌≡◌, map}
use Rattle.std.specs.List.{range_with_len}
use Rattle.pws_auth.specs.Keys.{tag_for}
use Rattle.pws_auth.proofs.tables.KeyTable.seal.Given as goal

abbrev pub invariant-loop-index : goal.invariant-loop-index
invariant-loop-index l = l.tags ≡ map (λ index. tag_for l.self l.sender l.content (record { group = l.group; index = index })) (range_with_len 0 l.index)
