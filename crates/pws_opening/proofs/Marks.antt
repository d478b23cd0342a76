-- Marks beside vouchers.
use Rattle.std.proofs.Common.{◌≡◌, refl, ap, arith, ℕ, zero, suc, Bool, false, List, [], ◌∷◌, length, map, slice_get}
use Rattle.std.specs.Option.{option_map_or, unwrap_or}
use Rattle.pws_msg.specs.Packets.{VoucherFields}
use Rattle.pws_protocol.specs.Hearing.{Vouched}
use Rattle.pws_opening.specs.Marked.{marked}

-- marks that were made of the vouchers themselves
pub marked_map : (test : VoucherFields → Bool) (vs : List VoucherFields) → marked vs (map test vs) ≡ map (λ v. record { voucher = v; is_verified = test v }) vs
marked_map test [] = refl
marked_map test (v ∷ vs) = ap (λ rest. record { voucher = v; is_verified = test v } ∷ rest) (marked_map test vs)

-- a mark, looked up among the marks or beside its voucher
pub marked_at : (vs : List VoucherFields) (ms : List Bool) (i : ℕ) → length ms ≡ length vs → unwrap_or (slice_get ms i) false ≡ option_map_or (λ (v : Vouched). v.is_verified) (slice_get (marked vs ms) i) false
marked_at [] [] i h = refl
marked_at [] (m ∷ ms) i h = absurd (omega (arith, h))
marked_at (v ∷ vs) [] i h = absurd (omega (arith, h))
marked_at (v ∷ vs) (m ∷ ms) zero h = refl
marked_at (v ∷ vs) (m ∷ ms) (suc i) h = marked_at vs ms i (omega (arith, h))
