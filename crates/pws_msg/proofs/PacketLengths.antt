-- How long a packet is at most.
use Rattle.std.proofs.Common.{◌≡◌, ℕ, ◌+◌, ◌*◌, ◌<◌, ◌≤◌, List, [], ◌∷◌, ◌++◌, length, get_or, Option, Some, None, IfSome, option_to_list, refl, sym, ◌∙◌, ap, arith, length-append, All}
use Rattle.std.specs.List.{flat_map}
use Rattle.pws_base.specs.Texts.{u32_text, sized_text}
use Rattle.pws_msg.specs.Rows.{IsDigest, digest_text}
use Rattle.pws_msg.specs.StatementTexts.{counted_text}
use Rattle.pws_msg.specs.Contents.{IsContent, kind_of, content_text}
use Rattle.pws_msg.specs.Rules.{rule_of}
use Rattle.pws_msg.specs.Packets.{VoucherFields, PacketFields, IsTags, IsVoucher, IsVoucherOf, IsAttachment, IsPacket, sender_text, tags_text, voucher_text, body_text, packet_text}
use Rattle.pws_msg.specs.declared.kinds.Kind.TheVariants as kind
use Rattle.pws_msg.specs.declared.contents.Content.{Content}
use Rattle.pws_msg.specs.declared.contents.Content.TheVariants as content
use Rattle.pws_msg.proofs.Streams.{length-u32_text}
use Rattle.pws_msg.proofs.Lengths.{length-rows, content_small}

-- a REPLY is shorter than other contents
reply_small : (c : Content) → kind_of c ≡ kind.Reply → IsContent c → length (content_text c) ≤ 38
reply_small (content.Request r) k h = absurd (cc)
reply_small (content.Reply r) k h = simp (length-append, length-u32_text) (omega (arith, h.digest))
reply_small (content.Part r) k h = absurd (cc)
reply_small (content.Expired n) k h = absurd (cc)
reply_small (content.Reading r) k h = absurd (cc)
reply_small (content.PrePrepare p) k h = absurd (cc)
reply_small (content.Prepare v) k h = absurd (cc)
reply_small (content.Commit v) k h = absurd (cc)
reply_small (content.Checkpoint d) k h = absurd (cc)
reply_small (content.ViewChange c) k h = absurd (cc)
reply_small (content.Ack n) k h = absurd (cc)
reply_small (content.NewView v) k h = absurd (cc)
reply_small (content.Relay n) k h = absurd (cc)
reply_small (content.Fetch w) k h = absurd (cc)
reply_small (content.Done d) k h = absurd (cc)
reply_small (content.Need x) k h = absurd (cc)
reply_small (content.Give e) k h = absurd (cc)

tags_small : (tags : List (List ℕ)) → IsTags tags → length (tags_text tags) ≤ 321
tags_small tags h =
    let rows : length (flat_map digest_text tags) ≤ 32 * length tags = length-rows digest_text 32 tags (λ i d l. let k = h.each i d l in omega (arith, k)) in
    omega (arith, rows, h.few)

sized_length : (xs : List ℕ) → length (sized_text xs) ≡ 4 + length xs
sized_length xs = length-append (u32_text (length xs)) xs ∙ ap (λ n. n + length xs) (length-u32_text (length xs))

voucher_small : (v : VoucherFields) → IsVoucher v → length (voucher_text v) ≤ 33118
voucher_small v h = omega (arith, length-append (sender_text v.sender ++ sized_text (content_text v.content)) (tags_text v.tags), length-append (sender_text v.sender) (sized_text (content_text v.content)), sized_length (content_text v.content), content_small v.content h.content, tags_small v.tags h.tags)

reply_voucher_small : (v : VoucherFields) → IsVoucherOf kind.Reply v → length (voucher_text v) ≤ 365
reply_voucher_small v h = omega (arith, length-append (sender_text v.sender ++ sized_text (content_text v.content)) (tags_text v.tags), length-append (sender_text v.sender) (sized_text (content_text v.content)), sized_length (content_text v.content), reply_small v.content h.same h.voucher.content, tags_small v.tags h.voucher.tags)

body_small : (bodies : ℕ) (body : Option (List ℕ)) → length (option_to_list body) ≡ bodies → IfSome body (λ b. length b ≤ 32768) → length (body_text body) ≤ 1 + 32772 * bodies
body_small bodies None n h = omega (arith, n)
body_small bodies (Some b) n h = omega (arith, n, h, sized_length b)

-- vouchers that are each so long
vouchers_small : (n : ℕ) (vs : List VoucherFields) → All (λ v. length (voucher_text v) ≤ n) vs → length (counted_text voucher_text vs) ≤ 1 + n * length vs
vouchers_small n vs h = let rows : length (flat_map voucher_text vs) ≤ n * length vs = length-rows voucher_text n vs h in omega (arith, rows)

-- a content with what is attached to it
attached_small : (c : Content) (body : Option (List ℕ)) (vs : List VoucherFields) → IsContent c → IsAttachment (rule_of c) body vs → length (content_text c) + length (body_text body) + length (counted_text voucher_text vs) ≤ 97000
attached_small (content.Request r) body vs h a = let long : length (counted_text voucher_text vs) ≤ 1 + 33118 * length vs = vouchers_small 33118 vs (λ i d l. voucher_small (get_or vs i d) ((a.kinds i d l).voucher)) in omega (arith, content_small (content.Request r) h, body_small 0 body a.bodies a.short, long, a.most)
attached_small (content.Reply r) body vs h a = let long : length (counted_text voucher_text vs) ≤ 1 + 365 * length vs = vouchers_small 365 vs (λ i d l. reply_voucher_small (get_or vs i d) (a.kinds i d l)) in omega (arith, content_small (content.Reply r) h, body_small 1 body a.bodies a.short, long, a.most)
attached_small (content.Part r) body vs h a = let long : length (counted_text voucher_text vs) ≤ 1 + 365 * length vs = vouchers_small 365 vs (λ i d l. reply_voucher_small (get_or vs i d) (a.kinds i d l)) in omega (arith, content_small (content.Part r) h, body_small 0 body a.bodies a.short, long, a.most)
attached_small (content.Expired n) body vs h a = let long : length (counted_text voucher_text vs) ≤ 1 + 33118 * length vs = vouchers_small 33118 vs (λ i d l. voucher_small (get_or vs i d) ((a.kinds i d l).voucher)) in omega (arith, content_small (content.Expired n) h, body_small 0 body a.bodies a.short, long, a.most)
attached_small (content.Reading r) body vs h a = let long : length (counted_text voucher_text vs) ≤ 1 + 33118 * length vs = vouchers_small 33118 vs (λ i d l. voucher_small (get_or vs i d) ((a.kinds i d l).voucher)) in omega (arith, content_small (content.Reading r) h, body_small 0 body a.bodies a.short, long, a.most)
attached_small (content.PrePrepare p) body vs h a = let long : length (counted_text voucher_text vs) ≤ 1 + 33118 * length vs = vouchers_small 33118 vs (λ i d l. voucher_small (get_or vs i d) ((a.kinds i d l).voucher)) in omega (arith, content_small (content.PrePrepare p) h, body_small 0 body a.bodies a.short, long, a.most)
attached_small (content.Prepare v) body vs h a = let long : length (counted_text voucher_text vs) ≤ 1 + 33118 * length vs = vouchers_small 33118 vs (λ i d l. voucher_small (get_or vs i d) ((a.kinds i d l).voucher)) in omega (arith, content_small (content.Prepare v) h, body_small 0 body a.bodies a.short, long, a.most)
attached_small (content.Commit v) body vs h a = let long : length (counted_text voucher_text vs) ≤ 1 + 33118 * length vs = vouchers_small 33118 vs (λ i d l. voucher_small (get_or vs i d) ((a.kinds i d l).voucher)) in omega (arith, content_small (content.Commit v) h, body_small 0 body a.bodies a.short, long, a.most)
attached_small (content.Checkpoint d) body vs h a = let long : length (counted_text voucher_text vs) ≤ 1 + 33118 * length vs = vouchers_small 33118 vs (λ i d l. voucher_small (get_or vs i d) ((a.kinds i d l).voucher)) in omega (arith, content_small (content.Checkpoint d) h, body_small 0 body a.bodies a.short, long, a.most)
attached_small (content.ViewChange c) body vs h a = let long : length (counted_text voucher_text vs) ≤ 1 + 33118 * length vs = vouchers_small 33118 vs (λ i d l. voucher_small (get_or vs i d) ((a.kinds i d l).voucher)) in omega (arith, content_small (content.ViewChange c) h, body_small 0 body a.bodies a.short, long, a.most)
attached_small (content.Ack n) body vs h a = let long : length (counted_text voucher_text vs) ≤ 1 + 33118 * length vs = vouchers_small 33118 vs (λ i d l. voucher_small (get_or vs i d) ((a.kinds i d l).voucher)) in omega (arith, content_small (content.Ack n) h, body_small 0 body a.bodies a.short, long, a.most)
attached_small (content.NewView v) body vs h a = let long : length (counted_text voucher_text vs) ≤ 1 + 33118 * length vs = vouchers_small 33118 vs (λ i d l. voucher_small (get_or vs i d) ((a.kinds i d l).voucher)) in omega (arith, content_small (content.NewView v) h, body_small 0 body a.bodies a.short, long, a.most)
attached_small (content.Relay n) body vs h a = let long : length (counted_text voucher_text vs) ≤ 1 + 33118 * length vs = vouchers_small 33118 vs (λ i d l. voucher_small (get_or vs i d) ((a.kinds i d l).voucher)) in omega (arith, content_small (content.Relay n) h, body_small 0 body a.bodies a.short, long, a.most)
attached_small (content.Fetch w) body vs h a = let long : length (counted_text voucher_text vs) ≤ 1 + 33118 * length vs = vouchers_small 33118 vs (λ i d l. voucher_small (get_or vs i d) ((a.kinds i d l).voucher)) in omega (arith, content_small (content.Fetch w) h, body_small 0 body a.bodies a.short, long, a.most)
attached_small (content.Done d) body vs h a = let long : length (counted_text voucher_text vs) ≤ 1 + 33118 * length vs = vouchers_small 33118 vs (λ i d l. voucher_small (get_or vs i d) ((a.kinds i d l).voucher)) in omega (arith, content_small (content.Done d) h, body_small 0 body a.bodies a.short, long, a.most)
attached_small (content.Need x) body vs h a = let long : length (counted_text voucher_text vs) ≤ 1 + 33118 * length vs = vouchers_small 33118 vs (λ i d l. voucher_small (get_or vs i d) ((a.kinds i d l).voucher)) in omega (arith, content_small (content.Need x) h, body_small 0 body a.bodies a.short, long, a.most)
attached_small (content.Give e) body vs h a = let long : length (counted_text voucher_text vs) ≤ 1 + 33118 * length vs = vouchers_small 33118 vs (λ i d l. voucher_small (get_or vs i d) ((a.kinds i d l).voucher)) in omega (arith, content_small (content.Give e) h, body_small 0 body a.bodies a.short, long, a.most)

pub packet_small : (p : PacketFields) → IsPacket p → length (packet_text p) ≤ 98304
packet_small p h =
    let head : List ℕ = 80 ∷ 87 ∷ 83 ∷ 1 ∷ p.sender.group ∷ p.sender.index ∷ p.receiver ∷ [] in
    let sized = sized_text (content_text p.content) in
    let all = attached_small p.content p.body p.vouchers h.content h.attached in
    omega (arith, all, tags_small p.tags h.tags, sized_length (content_text p.content), length-append (head ++ sized ++ tags_text p.tags ++ body_text p.body) (counted_text voucher_text p.vouchers), length-append (head ++ sized ++ tags_text p.tags) (body_text p.body), length-append (head ++ sized) (tags_text p.tags), length-append head sized)
