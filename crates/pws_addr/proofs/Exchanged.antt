-- What one driver writes the other reads.
use Rattle.std.proofs.Common.{◌≡◌, ℕ, Bool, true, false, not, ◌&&◌, cond, List, [], ◌∷◌, ◌++◌, map, find, refl, ap, ◌∙◌}
use Rattle.std.specs.Prelude.{Option, Some, None, unwrap_or, Ok, if◌then◌else◌}
use Rattle.std.specs.List.{list_all}
use Rattle.std.specs.Option.{option_to_list}
use Rattle.std.specs.Str.{bytes_eq}
use Rattle.std.proofs.lemmas.Bool.{and_parts, and_from}
use Rattle.std.proofs.lemmas.List.Folds.{list_all-append}
use Rattle.pws_tree.specs.Names.{envelope_space}
use Rattle.pws_tree.specs.Trees.{Tree}
use Rattle.pws_soap.specs.Blocks.{attribute_of, is_addressing_header, is_well_marked, is_truth, must_be_understood, is_for_node, is_not_understood}
use Rattle.pws_soap.specs.Envelopes.{Enveloped, envelope_of, root_of, understood, not_understood}
use Rattle.pws_soap.specs.Laws.{RootsAreRead}
use Rattle.pws_soap.specs.Names.{addressing_space, addressing_words, must_understand_word}
use Rattle.pws_addr.specs.Blocks.{plain_block, relationship, relation_block, blocks_of}
use Rattle.pws_addr.specs.Envelopes.{addressed, call_action, call_addressing, fault_action}
use Rattle.pws_addr.specs.Headers.{anonymous, reply_relation, header_local, header_name}
use Rattle.pws_addr.specs.Identifiers.{group_address, call_id, reply_id}
use Rattle.pws_addr.specs.Laws.{is_sayable, texts_of, texts_taken, SaysItself, AddressedAreRead, CallsAreRead, RepliesAreRead, FaultsAreRead, AnswersAreRead}
use Rattle.pws_addr.specs.Reading.{addressing_of}
use Rattle.pws_addr.specs.Replies.{reply_action, in_reply}
use Rattle.pws_addr.specs.declared.headers.Header.{Header}
use Rattle.pws_addr.specs.declared.headers.Header.TheVariants as header
use Rattle.pws_addr.specs.declared.headers.Relation.{Relation}
use Rattle.pws_addr.specs.declared.headers.Addressing.{Addressing}
use Rattle.pws_addr.proofs.Again.{AreSayable, split, texts_parted, put_is_read}
use Rattle.pws_addr.proofs.Named.{group_sayable, call_sayable, reply_sayable, call_action_sayable, reply_action_sayable, fault_action_sayable}
use Rattle.pws_addr.proofs.Sayable.{anonymous_can, or_anonymous, joined, read_is_sayable}

-- ---- the envelope

-- the blocks of an addressing have no mark, and are addressing headers
abbrev pub is_plain : Tree → Bool
is_plain t = is_well_marked t && not (is_not_understood t)

header_addressing : (h : Header) → is_addressing_header (header_name h) ≡ true
unfolding addressing_space addressing_words header_local
header_addressing header.To = refl
header_addressing header.From = refl
header_addressing header.ReplyTo = refl
header_addressing header.FaultTo = refl
header_addressing header.Action = refl
header_addressing header.MessageId = refl
header_addressing header.RelatesTo = refl

-- an attribute that is no mark marks nothing
no_mark : (b : Bool) (kind : List ℕ) → attribute_of must_understand_word (if b then [] else relationship kind ∷ []) ≡ None
unfolding envelope_space
no_mark true kind = refl
no_mark false kind = refl

known : (a b c : Bool) → c ≡ true → not (a && (b && not c)) ≡ true
known true true true e = refl
known true true false e = absurd (let i : ◌≡◌ {A = Bool} false true = e in cc)
known true false c e = refl
known false b c e = refl

plain_plain : (h : Header) (t : List ℕ) → is_plain (plain_block h t) ≡ true
plain_plain h t = and_from (is_well_marked (plain_block h t)) (not (is_not_understood (plain_block h t))) refl (known (is_for_node (plain_block h t)) (must_be_understood (plain_block h t)) (is_addressing_header (header_name h)) (header_addressing h))

relation_plain : (r : Relation) → is_plain (relation_block r) ≡ true
relation_plain r =
    and_from (is_well_marked (relation_block r)) (not (is_not_understood (relation_block r))) (ap is_truth (no_mark (bytes_eq r.kind reply_relation) r.kind))
    (known (is_for_node (relation_block r)) (must_be_understood (relation_block r)) (is_addressing_header (header_name header.RelatesTo)) (header_addressing header.RelatesTo))

each_plain : {A : Type 0} (f : A → Tree) → ((x : A) → is_plain (f x) ≡ true) → (xs : List A) → list_all is_plain (map f xs) ≡ true
each_plain f h [] = refl
each_plain f h (x ∷ xs) = and_from (is_plain (f x)) (list_all is_plain (map f xs)) (h x) (each_plain f h xs)

both_plain : (xs ys : List Tree) → list_all is_plain xs ≡ true → list_all is_plain ys ≡ true → list_all is_plain (xs ++ ys) ≡ true
both_plain xs ys hx hy = list_all-append is_plain xs ys ∙ and_from (list_all is_plain xs) (list_all is_plain ys) hx hy

some_plain : (h : Header) (o : Option (List ℕ)) → list_all is_plain (map (plain_block h) (option_to_list o)) ≡ true
some_plain h o = each_plain (plain_block h) (plain_plain h) (option_to_list o)

pub blocks_plain : (a : Addressing) → list_all is_plain (blocks_of a) ≡ true
blocks_plain a =
    let first : List Tree = plain_block header.To a.to ∷ plain_block header.Action a.action ∷ [] in
    let ids : List Tree = map (plain_block header.MessageId) (option_to_list a.message_id) in
    let relations : List Tree = map relation_block a.relates_to in
    let replies : List Tree = map (plain_block header.ReplyTo) (option_to_list a.reply_to) in
    let from : List Tree = map (plain_block header.From) (option_to_list a.from) in
    let faults : List Tree = map (plain_block header.FaultTo) (option_to_list a.fault_to) in
    let two : list_all is_plain first ≡ true =
    and_from (is_plain (plain_block header.To a.to)) (is_plain (plain_block header.Action a.action) && true) (plain_plain header.To a.to)
    (and_from (is_plain (plain_block header.Action a.action)) true (plain_plain header.Action a.action) refl) in
    both_plain (first ++ ids ++ relations ++ replies ++ from) faults
    (both_plain (first ++ ids ++ relations ++ replies) from
    (both_plain (first ++ ids ++ relations) replies
    (both_plain (first ++ ids) relations
    (both_plain first ids two (some_plain header.MessageId a.message_id))
    (each_plain relation_block relation_plain a.relates_to))
    (some_plain header.ReplyTo a.reply_to))
    (some_plain header.From a.from))
    (some_plain header.FaultTo a.fault_to)

-- so the envelope is in order, and none is refused
pub all_marked : (ts : List Tree) → list_all is_plain ts ≡ true → list_all is_well_marked ts ≡ true
all_marked [] h = refl
all_marked (t ∷ ts) h =
    let parts = and_parts (is_plain t) (list_all is_plain ts) h in
    and_from (is_well_marked t) (list_all is_well_marked ts) (and_parts (is_well_marked t) (not (is_not_understood t)) parts.0).0 (all_marked ts parts.1)

passed : (b : Bool) (t : Tree) (o : Option Tree) → not b ≡ true → o ≡ None → cond b (Some t) o ≡ None
passed true t o h e = absurd (let i : ◌≡◌ {A = Bool} false true = h in cc)
passed false t o h e = e

pub none_refused : (ts : List Tree) → list_all is_plain ts ≡ true → find is_not_understood ts ≡ None
none_refused [] h = refl
none_refused (t ∷ ts) h =
    let parts = and_parts (is_plain t) (list_all is_plain ts) h in
    passed (is_not_understood t) t (find is_not_understood ts) (and_parts (is_well_marked t) (not (is_not_understood t)) parts.0).1 (none_refused ts parts.1)

read_where : RootsAreRead → (e : Enveloped) → list_all is_well_marked e.headers ≡ true → find is_not_understood e.headers ≡ None → envelope_of (root_of e) ≡ Ok e
read_where law e marked none = law e ∙ (ap (λ b. understood (if b then Some e else None)) marked ∙ ap (not_understood e) none)

pub addressed_are_read : RootsAreRead → AddressedAreRead
addressed_are_read law a t = read_where law (addressed a t) (all_marked (blocks_of a) (blocks_plain a)) (none_refused (blocks_of a) (blocks_plain a))

-- ---- the addressing

pub calls_are_read : CallsAreRead
calls_are_read me called number =
    put_is_read [] (call_addressing me called number) refl
    (and_from (is_sayable (group_address called)) _ (group_sayable called)
    (and_from (is_sayable call_action) _ call_action_sayable
    (and_from (is_sayable (call_id me called number)) _ (call_sayable me called number) (and_from (is_sayable (group_address me)) true (group_sayable me) refl))))

-- an answer that relates to this identifier, and goes to this address
abbrev pub answer : List ℕ → List ℕ → Option (List ℕ) → Option (List ℕ) → Addressing
answer action mine id to = record {
  to = unwrap_or to anonymous;
  action = action;
  message_id = Some mine;
  relates_to = map in_reply (option_to_list id);
  reply_to = None;
  from = None;
  fault_to = None;
}

ids_of : (id : Option (List ℕ)) → map (λ (r : Relation). r.id) (map in_reply (option_to_list id)) ≡ option_to_list id
ids_of None = refl
ids_of (Some t) = refl

pub answer_texts : (p : List ℕ → Bool) (action mine : List ℕ) (id to : Option (List ℕ)) → p anonymous ≡ true → p action ≡ true → p mine ≡ true → list_all p (option_to_list id) ≡ true → list_all p (option_to_list to) ≡ true → list_all p (texts_of (answer action mine id to)) ≡ true
answer_texts p action mine id to he ha hm hi ht =
    let none : List (List ℕ) = [] in
    let first : List (List ℕ) = unwrap_or to anonymous ∷ action ∷ mine ∷ [] in
    let three : list_all p first ≡ true = and_from (p (unwrap_or to anonymous)) _ (or_anonymous p to he ht) (and_from (p action) _ ha (and_from (p mine) true hm refl)) in
    let rels : List (List ℕ) = map (λ (r : Relation). r.id) (map in_reply (option_to_list id)) in
    let ids : list_all p rels ≡ true = ap (list_all p) (ids_of id) ∙ hi in
    joined p (first ++ rels ++ none ++ none) none (joined p (first ++ rels ++ none) none (joined p (first ++ rels) none (joined p first rels three ids) refl) refl) refl

answer_read : (action mine : List ℕ) (id to : Option (List ℕ)) → is_sayable action ≡ true → is_sayable mine ≡ true → list_all is_sayable (option_to_list id ++ option_to_list to) ≡ true → SaysItself (answer action mine id to)
answer_read action mine id to ha hm h =
    let parts = split is_sayable (option_to_list id) (option_to_list to) h in
    put_is_read [] (answer action mine id to) refl (answer_texts is_sayable action mine id to anonymous_can ha hm parts.0 parts.1)

pub replies_are_read : RepliesAreRead
replies_are_read me caller number None h = answer_read reply_action (reply_id me caller number) None None reply_action_sayable (reply_sayable me caller number) refl
replies_are_read me caller number (Some a) h = answer_read reply_action (reply_id me caller number) a.message_id a.reply_to reply_action_sayable (reply_sayable me caller number) h

pub faults_are_read : FaultsAreRead
faults_are_read me caller number None h = answer_read fault_action (reply_id me caller number) None None fault_action_sayable (reply_sayable me caller number) refl
faults_are_read me caller number (Some a) h = answer_read fault_action (reply_id me caller number) a.message_id a.reply_to fault_action_sayable (reply_sayable me caller number) h

-- what was read is sayable, and so is what is taken from it
taken_sayable : (hs : List Tree) (a : Addressing) → addressing_of hs ≡ Ok a → list_all is_sayable (texts_taken (Some a)) ≡ true
taken_sayable hs a e =
    let ok : AreSayable a = texts_parted is_sayable a (read_is_sayable hs a e) in
    joined is_sayable (option_to_list a.message_id) (option_to_list a.reply_to) ok.ids ok.replies

pub answers_are_read : AnswersAreRead
answers_are_read me caller number hs a e = (
  replies_are_read me caller number (Some a) (taken_sayable hs a e),
  faults_are_read me caller number (Some a) (taken_sayable hs a e),
)
