-- Characters, one more.
use Rattle.std.proofs.Common.{◌≡◌, ℕ, ◌+◌, ◌<◌, List, [], ◌∷◌, ◌++◌, length, take, get_or, ap, sym, ◌∙◌, append-nil}
use Rattle.std.proofs.lemmas.List.{take_more}
use Rattle.std.proofs.lemmas.Str.{encodes-append}
use lib.Utf8.{encode, encodes}

pub encoded_more : (xs : List ℕ) (i c : ℕ) (bytes after : List ℕ) → i < length xs → c ≡ get_or xs i c → bytes ≡ encodes (take i xs) → after ≡ bytes ++ encode c → after ≡ encodes (take (i + 1) xs)
encoded_more xs i c bytes after within here now grown =
    grown ∙ (ap (λ z. z ++ encode c) now ∙ sym (ap encodes (take_more xs i c within) ∙ (encodes-append (take i xs) (get_or xs i c ∷ []) ∙ ap (λ z. encodes (take i xs) ++ z) (append-nil (encode (get_or xs i c)) ∙ ap encode (sym here)))))
