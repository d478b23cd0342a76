use Rattle.std.proofs.Common.{◌<◌, length, slice_index_or, arith, bit_xor}
use Rattle.std.proofs.lemmas.List.{get_or_default}
use Rattle.std.proofs.lemmas.List.Edits.{map_over_more}
use Rattle.pws_auth.proofs.codes.xor_each.Goals as goal

pub loop-byte-preserved : goal.loop-byte-preserved
loop-byte-preserved c =
    let items = c.loop-byte.byte-items in
    let i = c.loop-byte.byte-index in
    let within : i < length items = omega arith in
    let x = slice_index_or items i 0 in
    map_over_more (λ b. bit_xor b c.args.pad) c.args.block.now items i x (omega arith) c.loop-byte.invariant
    (get_or_default items i 0 x within)
