-- The header blocks for this node alone count.
use Rattle.std.proofs.Common.{◌≡◌, Bool, true, false, ◌&&◌, cond, List, [], ◌∷◌, length, filter, find, refl, ap, sym, ◌∙◌}
use Rattle.std.specs.Prelude.{Option, Some, None, unwrap_or, option_and_then, if◌then◌else◌, nat_lt, Ok, Err}
use Rattle.std.specs.List.{list_any, filter_map}
use Rattle.pws_tree.specs.Trees.{Tree}
use Rattle.pws_soap.specs.Blocks.{is_for_node}
use Rattle.pws_soap.specs.Names.{addressing_space, is_named}
use Rattle.pws_addr.specs.Headers.{anonymous, header_local}
use Rattle.pws_addr.specs.Laws.{OursCount}
use Rattle.pws_addr.specs.Reading.{is_block, said, relation_said, first_said, all_said, single_headers, all_headers, is_twice, is_invalid, valid, required, single, addressing_of}
use Rattle.pws_addr.specs.declared.headers.Header.{Header}
use Rattle.pws_addr.specs.declared.headers.Header.TheVariants as header
use Rattle.pws_addr.specs.declared.headers.Addressing.{Addressing}
use Rattle.pws_addr.specs.declared.reading.AddrError.TheVariants as addr_error
use Rattle.pws_addr.proofs.Again.{head_of, is_any, find_is, any_is, and_is, is_silent, parts_same}

-- two lists of header blocks that have the same blocks of each header
abbrev pub AreAlike : List Tree → List Tree → Type 0
AreAlike hs ks = (h : Header) → filter (is_block h) hs ≡ filter (is_block h) ks

find_same : (p q : Header → Bool) → ((h : Header) → p h ≡ q h) → (xs : List Header) → find p xs ≡ find q xs
find_same p q e [] = refl
find_same p q e (x ∷ xs) = ap (λ b. cond b (Some x) (find p xs)) (e x) ∙ ap (λ o. cond (q x) (Some x) o) (find_same p q e xs)

twice_same : (hs ks : List Tree) → AreAlike hs ks → (h : Header) → is_twice hs h ≡ is_twice ks h
twice_same hs ks e h = ap (λ xs. nat_lt 1 (length xs)) (e h)

invalid_same : (hs ks : List Tree) → AreAlike hs ks → (h : Header) → is_invalid hs h ≡ is_invalid ks h
invalid_same hs ks e h = and_is (is_block h) (is_silent h) hs ∙ (ap (list_any (is_silent h)) (e h) ∙ sym (and_is (is_block h) (is_silent h) ks))

first_same : (hs ks : List Tree) → AreAlike hs ks → (h : Header) → first_said h hs ≡ first_said h ks
first_same hs ks e h = ap (option_and_then (said h)) (find_is (is_block h) hs ∙ (ap head_of (e h) ∙ sym (find_is (is_block h) ks)))

action_same : (hs ks : List Tree) → AreAlike hs ks → list_any (is_block header.Action) hs ≡ list_any (is_block header.Action) ks
action_same hs ks e = any_is (is_block header.Action) hs ∙ (ap is_any (e header.Action) ∙ sym (any_is (is_block header.Action) ks))

said_same : (hs ks : List Tree) → AreAlike hs ks → all_said hs ≡ all_said ks
said_same hs ks e =
    parts_same (all_said hs) (all_said ks) (ap (λ o. unwrap_or o anonymous) (first_same hs ks e header.To)) (ap (λ o. unwrap_or o []) (first_same hs ks e header.Action))
    (first_same hs ks e header.MessageId) (ap (filter_map relation_said) (e header.RelatesTo)) (first_same hs ks e header.ReplyTo) (first_same hs ks e header.From)
    (first_same hs ks e header.FaultTo)

valid_same : (hs ks : List Tree) → AreAlike hs ks → (o : Option Header) → valid hs o ≡ valid ks o
valid_same hs ks e None = ap (λ (a : Addressing). Ok a) (said_same hs ks e)
valid_same hs ks e (Some h) = refl

required_same : (hs ks : List Tree) → AreAlike hs ks → required hs ≡ required ks
required_same hs ks e =
    ap (λ b. if b then valid hs (find (is_invalid hs) all_headers) else Err addr_error.Required) (action_same hs ks e)
    ∙ (ap (λ o. if list_any (is_block header.Action) ks then valid hs o else Err addr_error.Required) (find_same (is_invalid hs) (is_invalid ks) (invalid_same hs ks e) all_headers)
    ∙ ap (λ r. if list_any (is_block header.Action) ks then r else Err addr_error.Required) (valid_same hs ks e (find (is_invalid ks) all_headers)))

single_same : (hs ks : List Tree) → AreAlike hs ks → (o : Option Header) → single hs o ≡ single ks o
single_same hs ks e None = required_same hs ks e
single_same hs ks e (Some h) = refl

same_addressing : (hs ks : List Tree) → AreAlike hs ks → addressing_of hs ≡ addressing_of ks
unfolding addressing_of
same_addressing hs ks e = ap (single hs) (find_same (is_twice hs) (is_twice ks) (twice_same hs ks e) single_headers) ∙ single_same hs ks e (find (is_twice ks) single_headers)

-- a header block of a header is for this node
kept_step : (n : Bool) (p : Tree → Bool) (t : Tree) (fs : List Tree) → (n ≡ false → p t ≡ false) → filter p (cond n (t ∷ fs) fs) ≡ cond (p t) (t ∷ filter p fs) (filter p fs)
kept_step true p t fs e = refl
kept_step false p t fs e = ap (λ b. cond b (t ∷ filter p fs) (filter p fs)) (sym (e refl))

not_ours : (h : Header) (t : Tree) → is_for_node t ≡ false → is_block h t ≡ false
not_ours h t off = ap (λ b. b && is_named addressing_space (header_local h) t.name) off

ours_alike : (hs : List Tree) → AreAlike (filter is_for_node hs) hs
ours_alike [] h = refl
ours_alike (t ∷ hs) h =
    kept_step (is_for_node t) (is_block h) t (filter is_for_node hs) (not_ours h t) ∙ ap (λ xs. cond (is_block h t) (t ∷ xs) xs) (ours_alike hs h)

pub ours_count : OursCount
ours_count hs = same_addressing (filter is_for_node hs) hs (ours_alike hs)
