-- What is attached to a packet, with the ranges of its parts.
use Rattle.std.proofs.Common.{◌≡◌, ℕ, ◌+◌, ◌<◌, ◌≤◌, List, length, take, get_or, subst, Option, All}
use Rattle.std.proofs.lemmas.List.{take_all}
use Rattle.std.proofs.lemmas.List.Elements.{All-more}
use Rattle.pws_msg.specs.declared.rules.AttachmentRule.{AttachmentRule}
use Rattle.pws_msg.specs.Packets.{VoucherFields, IsVoucher, IsVoucherOf, IsAttachment, Fits}

pub attached : (rule : AttachmentRule) (body : Option (List ℕ)) (vouchers : List VoucherFields) → Fits rule body vouchers → All IsVoucher vouchers → IsAttachment rule body vouchers
attached rule body vouchers h k = record {
  bodies = h.bodies;
  short = h.short;
  least = h.least;
  most = h.most;
  kinds = λ i d l. record { voucher = k i d l; same = h.kinds i d l };
}

-- one item more of a list that is gone through
pub all_more : {A : Type 0} (P : A → Type 0) (xs : List A) (i : ℕ) (x : A) → i < length xs → x ≡ get_or xs i x → P x → All P (take i xs) → All P (take (i + 1) xs)
all_more P xs i x l e p h = All-more P xs i x l h (subst P e p)

-- all of it
pub all_gone : {A : Type 0} (P : A → Type 0) (xs : List A) (n : ℕ) → length xs ≤ n → All P (take n xs) → All P xs
all_gone P xs n l h = subst (All P) (take_all n xs l) h
