-- For proofs alone. A packet's vouchers, kept beside whether they verified.
use Rattle.std.specs.Prelude.{Bool, List, [], ◌∷◌}
use Rattle.pws_msg.specs.Packets.{VoucherFields}
use Rattle.pws_protocol.specs.Hearing.{Vouched}

-- each voucher with its mark
abbrev pub marked : List VoucherFields → List Bool → List Vouched
marked [] marks = []
marked (v ∷ vs) [] = []
marked (v ∷ vs) (m ∷ ms) = record { voucher = v; is_verified = m } ∷ marked vs ms
