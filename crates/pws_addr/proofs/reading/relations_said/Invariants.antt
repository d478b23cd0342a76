use Rattle.std.proofs.Common.{◌≡◌, ◌++◌, drop, filter}
use Rattle.std.specs.List.{filter_map}
use Rattle.pws_addr.specs.Reading.{is_block, relation_said}
use Rattle.pws_addr.specs.declared.headers.Header.TheVariants as header
use Rattle.pws_addr.proofs.reading.relations_said.Given as goal

abbrev pub invariant-loop-block : goal.invariant-loop-block
invariant-loop-block l =
    filter_map relation_said (filter (is_block header.RelatesTo) l.headers) ≡ l.relations ++ filter_map relation_said (filter (is_block header.RelatesTo) (drop l.block-index l.headers))
