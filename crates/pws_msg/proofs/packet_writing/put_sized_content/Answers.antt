use Rattle.std.proofs.Common.{◌≡◌, ◌≤◌, ◌∙◌, length, ap, arith}
use Rattle.pws_msg.specs.Contents.{content_text}
use Rattle.pws_msg.proofs.Lengths.{content_small}
use Rattle.pws_msg.proofs.packet_writing.put_sized_content.Goals as goal

pub put_sized-requires : goal.put_sized-requires
put_sized-requires c =
    let small : length (content_text c.args.content.now) ≤ 32791 = content_small c.args.content.now c.is_lawful.ensures in
    let same : length c.as_slice.result.now ≡ length (content_text c.args.content.now) = ap length (c.as_slice.ensures.value ∙ c.in_ok-bytes.ensures.value) in
    omega (arith, small, same)
