-- What was read is read again from the blocks that are put for it.
use Rattle.std.proofs.Common.{◌≡◌, ℕ, Bool, true, false, not, ◌&&◌, ◌||◌, cond, List, [], ◌∷◌, ◌++◌, map, filter, find, refl, ap, sym, ◌∙◌, subst}
use Rattle.std.specs.Prelude.{Option, Some, None, is_some, unwrap_or, option_and_then, Result, Ok, Err, if◌then◌else◌}
use Rattle.std.specs.List.{list_any, list_all, filter_map, cons_option}
use Rattle.std.specs.Option.{option_to_list, option_map}
use Rattle.std.specs.Str.{bytes_eq}
use Rattle.std.proofs.lemmas.Bool.{and_parts, and_from}
use Rattle.std.proofs.lemmas.List.Folds.{list_all-append}
use Rattle.std.proofs.lemmas.Slice.Eq.{bytes_eq-Decides}
use Rattle.pws_tree.specs.Trees.{Tree, Nodes}
use Rattle.pws_soap.specs.White.{trim}
use Rattle.pws_addr.specs.Blocks.{holds_address}
use Rattle.pws_addr.specs.Headers.{anonymous, header_name}
use Rattle.pws_addr.specs.Laws.{is_sayable, texts_of, ReadIsSayable, ReadIsReadAgain}
use Rattle.pws_addr.specs.Reading.{is_block, is_address, some_text, only_text, only_of, text_said, address_said, said, kind_said, relation_said, first_said, all_said, single_headers, all_headers, is_twice, is_invalid, valid, single, addressing_of}
use Rattle.pws_soap.specs.Envelopes.{elements}
use Rattle.pws_addr.specs.declared.headers.Header.{Header}
use Rattle.pws_addr.specs.declared.headers.Header.TheVariants as header
use Rattle.pws_addr.specs.declared.headers.Relation.{Relation}
use Rattle.pws_addr.specs.declared.headers.Addressing.{Addressing}
use Rattle.pws_addr.specs.declared.reading.AddrError.{AddrError}
use Rattle.pws_addr.specs.declared.reading.AddrError.TheVariants as addr_error
use Rattle.pws_addr.proofs.Again.{head_of, is_any, find_is, any_is, and_is, is_silent, put_is_read}
use Rattle.pws_addr.proofs.Trimmed.{trim_trim}

-- a text that a header can say, where there is one
abbrev can_say : Option (List ℕ) → Bool
can_say o = list_all is_sayable (option_to_list o)

one_sayable : (c : ℕ) (cs : List ℕ) → trim (c ∷ cs) ≡ c ∷ cs → is_sayable (c ∷ cs) ≡ true
one_sayable c cs e = ap (λ t. bytes_eq t (c ∷ cs)) e ∙ (bytes_eq-Decides (c ∷ cs) (c ∷ cs)).1 refl

some_can : (t : List ℕ) → trim t ≡ t → can_say (some_text t) ≡ true
some_can [] e = refl
some_can (c ∷ cs) e = and_from (is_sayable (c ∷ cs)) true (one_sayable c cs e) refl

only_can : (o : Option (List ℕ)) → can_say (option_and_then (λ t. some_text (trim t)) o) ≡ true
only_can None = refl
only_can (Some t) = some_can (trim t) (trim_trim t)

text_can : (children : Nodes) → can_say (text_said children) ≡ true
text_can children = only_can (only_text children)

address_can : (o : Option Tree) → can_say (option_and_then (λ t. text_said t.children) o) ≡ true
address_can None = refl
address_can (Some t) = text_can t.children

either_can : (b : Bool) (children : Nodes) → can_say (if b then address_said children else text_said children) ≡ true
either_can true children = address_can (only_of (filter is_address (elements children)))
either_can false children = text_can children

said_can : (h : Header) (t : Tree) → can_say (said h t) ≡ true
said_can h t = either_can (holds_address h) t.children

found_can : (h : Header) (o : Option Tree) → can_say (option_and_then (said h) o) ≡ true
found_can h None = refl
found_can h (Some t) = said_can h t

first_can : (h : Header) (hs : List Tree) → can_say (first_said h hs) ≡ true
first_can h hs = found_can h (find (is_block h) hs)

-- what is said of relations can be said
related_can : (o : Option (List ℕ)) (kind : List ℕ) (rs : List Relation) → can_say o ≡ true → list_all is_sayable (map (λ (r : Relation). r.id) rs) ≡ true → list_all is_sayable (map (λ (r : Relation). r.id) (cons_option (option_map (λ id. record { kind = kind; id = id }) o) rs)) ≡ true
related_can None kind rs one all = all
related_can (Some t) kind rs one all = and_from (is_sayable t) (list_all is_sayable (map (λ (r : Relation). r.id) rs)) (and_parts (is_sayable t) true one).0 all

relations_can : (ts : List Tree) → list_all is_sayable (map (λ (r : Relation). r.id) (filter_map relation_said ts)) ≡ true
relations_can [] = refl
relations_can (t ∷ ts) = related_can (said header.RelatesTo t) (kind_said t.attrs) (filter_map relation_said ts) (said_can header.RelatesTo t) (relations_can ts)

pub anonymous_can : is_sayable anonymous ≡ true
unfolding anonymous trim
anonymous_can = refl

pub or_anonymous : (p : List ℕ → Bool) (o : Option (List ℕ)) → p anonymous ≡ true → list_all p (option_to_list o) ≡ true → p (unwrap_or o anonymous) ≡ true
or_anonymous p None e h = e
or_anonymous p (Some t) e h = (and_parts (p t) true h).0

-- where there is an Action, and none says nothing, the first says a text
or_nothing : (o : Option (List ℕ)) → can_say o ≡ true → is_some o ≡ true → is_sayable (unwrap_or o []) ≡ true
or_nothing None h some = absurd (let i : ◌≡◌ {A = Bool} false true = some in cc)
or_nothing (Some t) h some = (and_parts (is_sayable t) true h).0

first_speaks : (h : Header) (ts : List Tree) → is_any ts ≡ true → list_any (is_silent h) ts ≡ false → is_some (option_and_then (said h) (head_of ts)) ≡ true
first_speaks h [] some loud = absurd (let i : ◌≡◌ {A = Bool} false true = some in cc)
first_speaks h (t ∷ ts) some loud = heard (is_some (said h t)) (list_any (is_silent h) ts) loud
  where
    heard : (b c : Bool) → (not b || c) ≡ false → b ≡ true
    heard true c e = refl
    heard false c e = absurd (let i : ◌≡◌ {A = Bool} true false = e in cc)

action_speaks : (hs : List Tree) → list_any (is_block header.Action) hs ≡ true → is_invalid hs header.Action ≡ false → is_some (first_said header.Action hs) ≡ true
action_speaks hs some loud =
    ap (λ o. is_some (option_and_then (said header.Action) o)) (find_is (is_block header.Action) hs)
    ∙ first_speaks header.Action (filter (is_block header.Action) hs) (sym (any_is (is_block header.Action) hs) ∙ some)
    (sym (and_is (is_block header.Action) (is_silent header.Action) hs) ∙ loud)

-- what none of the headers is, Action isn't
passed : (b : Bool) (h : Header) (o : Option Header) → cond b (Some h) o ≡ None → (b ≡ false) × (o ≡ None)
passed true h o e = absurd (let i : ◌≡◌ {A = Option Header} (Some h) None = e in cc)
passed false h o e = (refl, e)

none_action : (p : Header → Bool) → find p all_headers ≡ None → p header.Action ≡ false
none_action p e =
    let a = (passed (p header.To) header.To _ e).1 in
    let b = (passed (p header.From) header.From _ a).1 in
    let c = (passed (p header.ReplyTo) header.ReplyTo _ b).1 in
    let d = (passed (p header.FaultTo) header.FaultTo _ c).1 in
    (passed (p header.Action) header.Action _ d).0

-- the texts of what was read can be said
pub joined : (p : List ℕ → Bool) (xs ys : List (List ℕ)) → list_all p xs ≡ true → list_all p ys ≡ true → list_all p (xs ++ ys) ≡ true
joined p xs ys one two = list_all-append p xs ys ∙ and_from (list_all p xs) (list_all p ys) one two

all_can : (hs : List Tree) → is_some (first_said header.Action hs) ≡ true → list_all is_sayable (texts_of (all_said hs)) ≡ true
all_can hs some =
    let a : Addressing = all_said hs in
    let first : List (List ℕ) = a.to ∷ a.action ∷ [] in
    let ids : List (List ℕ) = option_to_list a.message_id in
    let rels : List (List ℕ) = map (λ (r : Relation). r.id) a.relates_to in
    let reps : List (List ℕ) = option_to_list a.reply_to in
    let from : List (List ℕ) = option_to_list a.from in
    let faults : List (List ℕ) = option_to_list a.fault_to in
    let two : list_all is_sayable first ≡ true =
    and_from (is_sayable a.to) (is_sayable a.action && true) (or_anonymous is_sayable (first_said header.To hs) anonymous_can (first_can header.To hs))
    (and_from (is_sayable a.action) true (or_nothing (first_said header.Action hs) (first_can header.Action hs) some) refl) in
    joined is_sayable (first ++ ids ++ rels ++ reps ++ from) faults
    (joined is_sayable (first ++ ids ++ rels ++ reps) from
    (joined is_sayable (first ++ ids ++ rels) reps
    (joined is_sayable (first ++ ids) rels
    (joined is_sayable first ids two (first_can header.MessageId hs))
    (relations_can (filter (is_block header.RelatesTo) hs)))
    (first_can header.ReplyTo hs))
    (first_can header.From hs))
    (first_can header.FaultTo hs)

-- what was read can be said
valid_can : (hs : List Tree) (a : Addressing) (o : Option Header) → find (is_invalid hs) all_headers ≡ o → list_any (is_block header.Action) hs ≡ true → valid hs o ≡ Ok a → list_all is_sayable (texts_of a) ≡ true
valid_can hs a None none some e =
    let same : all_said hs ≡ a = let i : ◌≡◌ {A = Result Addressing AddrError} (Ok (all_said hs)) (Ok a) = e in cc in
    subst (λ (x : Addressing). list_all is_sayable (texts_of x) ≡ true) same (all_can hs (action_speaks hs some (none_action (is_invalid hs) none)))
valid_can hs a (Some h) none some e = absurd (let i : ◌≡◌ {A = Result Addressing AddrError} (Err (addr_error.Invalid (header_name h))) (Ok a) = e in cc)

required_can : (hs : List Tree) (a : Addressing) (b : Bool) → list_any (is_block header.Action) hs ≡ b → (if b then valid hs (find (is_invalid hs) all_headers) else Err addr_error.Required) ≡ Ok a → list_all is_sayable (texts_of a) ≡ true
required_can hs a true some e = valid_can hs a (find (is_invalid hs) all_headers) refl some e
required_can hs a false some e = absurd (let i : ◌≡◌ {A = Result Addressing AddrError} (Err addr_error.Required) (Ok a) = e in cc)

single_can : (hs : List Tree) (a : Addressing) (o : Option Header) → single hs o ≡ Ok a → list_all is_sayable (texts_of a) ≡ true
single_can hs a None e = required_can hs a (list_any (is_block header.Action) hs) refl e
single_can hs a (Some h) e = absurd (let i : ◌≡◌ {A = Result Addressing AddrError} (Err (addr_error.Cardinality (header_name h))) (Ok a) = e in cc)

pub read_is_sayable : ReadIsSayable
unfolding addressing_of
read_is_sayable hs a e = single_can hs a (find (is_twice hs) single_headers) e

pub read_is_read_again : ReadIsReadAgain
read_is_read_again hs a e = put_is_read [] a refl (read_is_sayable hs a e)
