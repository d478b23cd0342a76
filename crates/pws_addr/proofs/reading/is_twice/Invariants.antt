use Rattle.std.proofs.Common.{◌≡◌, ◌+◌, drop, filter, length, cond}
use Rattle.pws_addr.specs.Reading.{is_block}
use Rattle.pws_addr.proofs.reading.is_twice.Given as goal

abbrev pub invariant-loop-block : goal.invariant-loop-block
invariant-loop-block l =
    length (filter (is_block l.header) l.headers) ≡ cond l.seen 1 0 + length (filter (is_block l.header) (drop l.block-index l.headers))
