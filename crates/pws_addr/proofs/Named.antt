-- The names of groups, calls and replies, and the actions, are texts that a header can say.
use Rattle.std.proofs.Common.{◌≡◌, ℕ, ◌+◌, ◌≤◌, true, false, nat_le, cond, List, [], ◌∷◌, reverse, refl, ap, ◌∙◌, arith}
use Rattle.std.specs.List.{prefix_len}
use Rattle.std.specs.Str.{bytes_eq}
use Rattle.std.proofs.lemmas.Bool.{and_parts, and_from, leb-true}
use Rattle.std.proofs.lemmas.Bool.Decides.{nat_tests}
use Rattle.std.proofs.lemmas.List.{reverse-append}
use Rattle.std.proofs.lemmas.Slice.Eq.{bytes_eq-Decides}
use Rattle.pws_mark.specs.Tokens.{is_white}
use Rattle.pws_soap.specs.White.{trim}
use Rattle.pws_addr.specs.Envelopes.{call_action, fault_action}
use Rattle.pws_addr.specs.Identifiers.{group_word, call_word, reply_word, group_address, call_id, reply_id}
use Rattle.pws_addr.specs.Laws.{is_sayable}
use Rattle.pws_addr.specs.Replies.{reply_action}
use Rattle.pws_addr.proofs.Printable.{is_printable, are_printable, join_printable, group_printable, call_printable, reply_printable}
use Rattle.pws_addr.proofs.Trimmed.{nothing_gone}

-- no white space stands before or behind a text of printable characters
high_dark : (c : ℕ) → 33 ≤ c → is_white c ≡ false
high_dark c h = grind (arith, nat_tests, h)

printable_dark : (c : ℕ) → is_printable c ≡ true → is_white c ≡ false
printable_dark c h = high_dark c (leb-true 33 c (and_parts (nat_le 33 c) (nat_le c 126) h).0)

none_before : (xs : List ℕ) → are_printable xs ≡ true → prefix_len is_white xs ≡ 0
none_before [] h = refl
none_before (x ∷ xs) h = ap (λ b. cond b (1 + prefix_len is_white xs) 0) (printable_dark x (and_parts (is_printable x) (are_printable xs) h).0)

turned_printable : (xs : List ℕ) → are_printable xs ≡ true → are_printable (reverse xs) ≡ true
turned_printable [] h = refl
turned_printable (x ∷ xs) h =
    let parts = and_parts (is_printable x) (are_printable xs) h in
    ap are_printable (reverse-append (x ∷ []) xs) ∙ join_printable (reverse xs) (x ∷ []) (turned_printable xs parts.1) (and_from (is_printable x) true parts.0 refl)

printable_sayable : (x : ℕ) (xs : List ℕ) → are_printable (x ∷ xs) ≡ true → is_sayable (x ∷ xs) ≡ true
printable_sayable x xs h =
    ap (λ t. bytes_eq t (x ∷ xs)) (nothing_gone (x ∷ xs) (none_before (x ∷ xs) h) (none_before (reverse (x ∷ xs)) (turned_printable (x ∷ xs) h)))
    ∙ (bytes_eq-Decides (x ∷ xs) (x ∷ xs)).1 refl

pub group_sayable : (g : ℕ) → is_sayable (group_address g) ≡ true
unfolding group_word
group_sayable g = printable_sayable 117 _ (group_printable g)

pub call_sayable : (a b c : ℕ) → is_sayable (call_id a b c) ≡ true
unfolding call_word
call_sayable a b c = printable_sayable 117 _ (call_printable a b c)

pub reply_sayable : (a b c : ℕ) → is_sayable (reply_id a b c) ≡ true
unfolding reply_word
reply_sayable a b c = printable_sayable 117 _ (reply_printable a b c)

pub call_action_sayable : is_sayable call_action ≡ true
unfolding call_action trim
call_action_sayable = refl

pub reply_action_sayable : is_sayable reply_action ≡ true
unfolding reply_action trim
reply_action_sayable = refl

pub fault_action_sayable : is_sayable fault_action ≡ true
unfolding fault_action trim
fault_action_sayable = refl
