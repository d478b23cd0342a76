-- Packets whose parts needn't be lawful.
use Rattle.std.proofs.Common.{◌≡◌, ℕ, suc, List, [], ◌∷◌, ◌++◌, length, map, refl, sym, ◌∙◌, ap}
use Rattle.std.specs.List.{flat_map}
use Rattle.pws_base.specs.Texts.{sized_text}
use Rattle.pws_msg.specs.Laws.{LawfulIsRaw}
use Rattle.pws_msg.specs.Contents.{content_text}
use Rattle.pws_msg.specs.StatementTexts.{counted_text}
use Rattle.pws_msg.specs.Packets.{VoucherFields, PacketFields, magic, sender_text, tags_text, body_text, voucher_text}
use Rattle.pws_msg.specs.RawPackets.{raw_voucher_of, raw_voucher_text}
use Rattle.pws_msg.specs.RawPackets.{raw_voucher_of, raw_voucher_text}

vouchers_text : (vs : List VoucherFields) → flat_map raw_voucher_text (map raw_voucher_of vs) ≡ flat_map voucher_text vs
vouchers_text [] = refl
vouchers_text (v ∷ vs) = ap (λ (ys : List ℕ). voucher_text v ++ ys) (vouchers_text vs)

vouchers_count : (vs : List VoucherFields) → length (map raw_voucher_of vs) ≡ length vs
vouchers_count [] = refl
vouchers_count (v ∷ vs) = ap suc (vouchers_count vs)

counted : (vs : List VoucherFields) → counted_text raw_voucher_text (map raw_voucher_of vs) ≡ counted_text voucher_text vs
counted vs = ap (λ n. (n ∷ []) ++ flat_map raw_voucher_text (map raw_voucher_of vs)) (vouchers_count vs) ∙ ap (λ (ys : List ℕ). (length vs ∷ []) ++ ys) (vouchers_text vs)

pub lawful_is_raw : LawfulIsRaw
lawful_is_raw p = ap (λ (ys : List ℕ). magic ++ (1 ∷ []) ++ sender_text p.sender ++ (p.receiver ∷ []) ++ sized_text (content_text p.content) ++ tags_text p.tags ++ body_text p.body ++ ys) (counted p.vouchers)
