-- What is put into an envelope is what is read there.
use Rattle.std.proofs.Common.{◌≡◌, eqb, ℕ, Bool, true, false, not, ◌&&◌, ◌||◌, cond, List, [], ◌∷◌, ◌++◌, map, length, filter, find, refl, ap, sym, ◌∙◌, append-nil}
use Rattle.std.specs.Prelude.{codes, Option, Some, None, is_some, unwrap_or, option_and_then, Ok, Err, if◌then◌else◌, nat_lt}
use Rattle.std.specs.List.{list_any, list_all, filter_map, cons_option}
use Rattle.std.specs.Option.{option_to_list, option_map}
use Rattle.std.specs.Str.{bytes_eq}
use Rattle.std.proofs.lemmas.Bool.{and_parts, and_from, or_from, both_ways, not-true, or_left, or_right, false_from_ne_true, eqb-true}
use Rattle.std.proofs.lemmas.List.Folds.{list_all-append}
use Rattle.std.proofs.lemmas.List.Elements.{filter-append}
use Rattle.pws_tree.specs.Names.{envelope_space}
use Rattle.pws_tree.specs.Trees.{Tree, NoNode}
use Rattle.pws_tree.specs.declared.texts.Attr.{Attr}
use Rattle.pws_soap.specs.Blocks.{is_for_node, is_addressing_header, has_own_role, attribute_of}
use Rattle.pws_soap.specs.Envelopes.{element_then}
use Rattle.pws_soap.specs.Faults.{text_nodes}
use Rattle.pws_soap.specs.Names.{addressing_space, addressing_words, role_word}
use Rattle.pws_soap.specs.White.{trim}
use Rattle.pws_addr.specs.Blocks.{address_word, relationship_word, holds_address, address_tree, block_of, plain_block, relationship, kind_attrs, relation_block, blocks_of}
use Rattle.pws_addr.specs.Headers.{anonymous, reply_relation, header_local}
use Rattle.pws_addr.specs.Laws.{is_other, is_sayable, texts_of, PutIsRead}
use Rattle.pws_addr.specs.Reading.{is_block, some_text, text_said, address_said, said, kind_said, relation_said, first_said, all_said, single_headers, all_headers, is_twice, is_invalid, valid, single, addressing_of}
use Rattle.pws_addr.specs.declared.headers.Header.{Header}
use Rattle.pws_addr.specs.declared.headers.Header.TheVariants as header
use Rattle.pws_addr.specs.declared.headers.Relation.{Relation}
use Rattle.pws_addr.specs.declared.headers.Addressing.{Addressing}
use Rattle.pws_addr.specs.declared.reading.AddrError.TheVariants as addr_error

-- what is found and whether there is any, by the list of all that pass
abbrev pub head_of : List Tree → Option Tree
head_of [] = None
head_of (x ∷ xs) = Some x

abbrev pub is_any : List Tree → Bool
is_any [] = false
is_any (x ∷ xs) = true

find_step : (b : Bool) (x : Tree) (f : Option Tree) (fs : List Tree) → f ≡ head_of fs → cond b (Some x) f ≡ head_of (cond b (x ∷ fs) fs)
find_step true x f fs e = refl
find_step false x f fs e = e

pub find_is : (p : Tree → Bool) (xs : List Tree) → find p xs ≡ head_of (filter p xs)
find_is p [] = refl
find_is p (x ∷ xs) = find_step (p x) x (find p xs) (filter p xs) (find_is p xs)

any_step : (b a : Bool) (x : Tree) (fs : List Tree) → a ≡ is_any fs → (b || a) ≡ is_any (cond b (x ∷ fs) fs)
any_step true a x fs e = refl
any_step false a x fs e = e

pub any_is : (p : Tree → Bool) (xs : List Tree) → list_any p xs ≡ is_any (filter p xs)
any_is p [] = refl
any_is p (x ∷ xs) = any_step (p x) (list_any p xs) x (filter p xs) (any_is p xs)

and_step : (q : Tree → Bool) (b a : Bool) (x : Tree) (fs : List Tree) → a ≡ list_any q fs → ((b && q x) || a) ≡ list_any q (cond b (x ∷ fs) fs)
and_step q true a x fs e = ap (λ z. q x || z) e
and_step q false a x fs e = e

pub and_is : (p q : Tree → Bool) (xs : List Tree) → list_any (λ x. p x && q x) xs ≡ list_any q (filter p xs)
and_is p q [] = refl
and_is p q (x ∷ xs) = and_step q (p x) (list_any (λ y. p y && q y) xs) x (filter p xs) (and_is p q xs)

join_at : (p : Tree → Bool) (xs ys fx fy : List Tree) → filter p xs ≡ fx → filter p ys ≡ fy → filter p (xs ++ ys) ≡ fx ++ fy
join_at p xs ys fx fy ex ey = filter-append p xs ys ∙ (ap (λ z. z ++ filter p ys) ex ∙ ap (λ z. fx ++ z) ey)

-- other header blocks are no addressing headers
word_in : (h : Header) (l : List ℕ) → bytes_eq l (header_local h) ≡ true → list_any (bytes_eq l) addressing_words ≡ true
unfolding header_local addressing_words
word_in header.To l e = or_left (bytes_eq l (codes "To")) _ e
word_in header.From l e = or_right (bytes_eq l (codes "To")) _ (or_left (bytes_eq l (codes "From")) _ e)
word_in header.ReplyTo l e = or_right (bytes_eq l (codes "To")) _ (or_right (bytes_eq l (codes "From")) _ (or_left (bytes_eq l (codes "ReplyTo")) _ e))
word_in header.FaultTo l e = or_right (bytes_eq l (codes "To")) _ (or_right (bytes_eq l (codes "From")) _ (or_right (bytes_eq l (codes "ReplyTo")) _ (or_left (bytes_eq l (codes "FaultTo")) _ e)))
word_in header.Action l e = or_right (bytes_eq l (codes "To")) _ (or_right (bytes_eq l (codes "From")) _ (or_right (bytes_eq l (codes "ReplyTo")) _ (or_right (bytes_eq l (codes "FaultTo")) _ (or_left (bytes_eq l (codes "Action")) _ e))))
word_in header.MessageId l e = or_right (bytes_eq l (codes "To")) _ (or_right (bytes_eq l (codes "From")) _ (or_right (bytes_eq l (codes "ReplyTo")) _ (or_right (bytes_eq l (codes "FaultTo")) _ (or_right (bytes_eq l (codes "Action")) _ (or_left (bytes_eq l (codes "MessageID")) _ e)))))
word_in header.RelatesTo l e = or_right (bytes_eq l (codes "To")) _ (or_right (bytes_eq l (codes "From")) _ (or_right (bytes_eq l (codes "ReplyTo")) _ (or_right (bytes_eq l (codes "FaultTo")) _ (or_right (bytes_eq l (codes "Action")) _ (or_right (bytes_eq l (codes "MessageID")) _ (or_left (bytes_eq l (codes "RelatesTo")) _ e))))))

other_no : (h : Header) (t : Tree) → is_other t ≡ true → is_block h t ≡ false
other_no h t other = false_from_ne_true (is_block h t) (λ yes.
    let parts = and_parts (is_for_node t) (bytes_eq t.name.space addressing_space && bytes_eq t.name.local (header_local h)) yes in
    let named = and_parts (bytes_eq t.name.space addressing_space) (bytes_eq t.name.local (header_local h)) parts.1 in
    both_ways (is_for_node t && is_addressing_header t.name) (not-true (is_for_node t && is_addressing_header t.name) other)
    (and_from (is_for_node t) (is_addressing_header t.name) parts.0
    (and_from (bytes_eq t.name.space addressing_space) (list_any (bytes_eq t.name.local) addressing_words) named.0 (word_in h t.name.local named.1))))

none_step : (b : Bool) (x : Tree) (fs : List Tree) → b ≡ false → fs ≡ [] → cond b (x ∷ fs) fs ≡ []
none_step true x fs off e = absurd (let i : ◌≡◌ {A = Bool} true false = off in cc)
none_step false x fs off e = e

others_none : (h : Header) (ts : List Tree) → list_all is_other ts ≡ true → filter (is_block h) ts ≡ []
others_none h [] all = refl
others_none h (t ∷ ts) all =
    let parts = and_parts (is_other t) (list_all is_other ts) all in
    none_step (is_block h t) t (filter (is_block h) ts) (other_no h t parts.0) (others_none h ts parts.1)

-- the header that a block is
abbrev pub same : Header → Header → Bool
same h k = bytes_eq (header_local k) (header_local h)

-- an attribute that isn't a role leaves a block for this node
no_role : (b : Bool) (kind : List ℕ) → attribute_of role_word (if b then [] else relationship kind ∷ []) ≡ None
unfolding envelope_space
no_role true kind = refl
no_role false kind = refl

space_same : bytes_eq addressing_space addressing_space ≡ true
unfolding addressing_space
space_same = refl

pub plain_is : (h k : Header) (t : List ℕ) → is_block h (plain_block k t) ≡ same h k
unfolding addressing_space
plain_is h k t = refl

relation_is : (h : Header) (r : Relation) → is_block h (relation_block r) ≡ same h header.RelatesTo
unfolding addressing_space
relation_is h r = ap (λ o. has_own_role o && (bytes_eq addressing_space addressing_space && same h header.RelatesTo)) (no_role (bytes_eq r.kind reply_relation) r.kind)

abbrev pub keep : Bool → List Tree → List Tree
keep true xs = xs
keep false xs = []

keep_nil : (b : Bool) → [] ≡ keep b []
keep_nil true = refl
keep_nil false = refl

keep_one : (b : Bool) (x : Tree) → cond b (x ∷ []) [] ≡ keep b (x ∷ [])
keep_one true x = refl
keep_one false x = refl

keep_two : (b c : Bool) (x y : Tree) → cond b (x ∷ cond c (y ∷ []) []) (cond c (y ∷ []) []) ≡ keep b (x ∷ []) ++ keep c (y ∷ [])
keep_two true true x y = refl
keep_two true false x y = refl
keep_two false true x y = refl
keep_two false false x y = refl

keep_step : (b c : Bool) (x : Tree) (fs xs : List Tree) → c ≡ b → fs ≡ keep b xs → cond c (x ∷ fs) fs ≡ keep b (x ∷ xs)
keep_step true true x fs xs e h = ap (λ z. x ∷ z) h
keep_step false false x fs xs e h = h
keep_step true false x fs xs e h = absurd (let i : ◌≡◌ {A = Bool} false true = e in cc)
keep_step false true x fs xs e h = absurd (let i : ◌≡◌ {A = Bool} true false = e in cc)

abbrev pub maybe : Header → Option (List ℕ) → List Tree
maybe k o = map (plain_block k) (option_to_list o)

maybe_at : (h k : Header) (o : Option (List ℕ)) → filter (is_block h) (maybe k o) ≡ keep (same h k) (maybe k o)
unfolding addressing_space
maybe_at h k None = keep_nil (same h k)
maybe_at h k (Some t) = keep_one (same h k) (plain_block k t)

relations_at : (h : Header) (rs : List Relation) → filter (is_block h) (map relation_block rs) ≡ keep (same h header.RelatesTo) (map relation_block rs)
relations_at h [] = keep_nil (same h header.RelatesTo)
relations_at h (r ∷ rs) = keep_step (same h header.RelatesTo) (is_block h (relation_block r)) (relation_block r) (filter (is_block h) (map relation_block rs)) (map relation_block rs) (relation_is h r) (relations_at h rs)

first_at : (h : Header) (t u : List ℕ) → filter (is_block h) (plain_block header.To t ∷ plain_block header.Action u ∷ []) ≡ keep (same h header.To) (plain_block header.To t ∷ []) ++ keep (same h header.Action) (plain_block header.Action u ∷ [])
unfolding addressing_space
first_at h t u = keep_two (same h header.To) (same h header.Action) (plain_block header.To t) (plain_block header.Action u)

abbrev pub kept : Header → Addressing → List Tree
kept h a =
    keep (same h header.To) (plain_block header.To a.to ∷ []) ++ keep (same h header.Action) (plain_block header.Action a.action ∷ [])
    ++ keep (same h header.MessageId) (maybe header.MessageId a.message_id)
    ++ keep (same h header.RelatesTo) (map relation_block a.relates_to)
    ++ keep (same h header.ReplyTo) (maybe header.ReplyTo a.reply_to)
    ++ keep (same h header.From) (maybe header.From a.from)
    ++ keep (same h header.FaultTo) (maybe header.FaultTo a.fault_to)

blocks_at : (h : Header) (a : Addressing) → filter (is_block h) (blocks_of a) ≡ kept h a
blocks_at h a =
    let first : List Tree = plain_block header.To a.to ∷ plain_block header.Action a.action ∷ [] in
    let ids : List Tree = maybe header.MessageId a.message_id in
    let rels : List Tree = map relation_block a.relates_to in
    let reps : List Tree = maybe header.ReplyTo a.reply_to in
    let from : List Tree = maybe header.From a.from in
    let faults : List Tree = maybe header.FaultTo a.fault_to in
    let k1 : List Tree = keep (same h header.To) (plain_block header.To a.to ∷ []) ++ keep (same h header.Action) (plain_block header.Action a.action ∷ []) in
    let k2 : List Tree = k1 ++ keep (same h header.MessageId) ids in
    let k3 : List Tree = k2 ++ keep (same h header.RelatesTo) rels in
    let k4 : List Tree = k3 ++ keep (same h header.ReplyTo) reps in
    let k5 : List Tree = k4 ++ keep (same h header.From) from in
    join_at (is_block h) (first ++ ids ++ rels ++ reps ++ from) faults k5 (keep (same h header.FaultTo) faults)
    (join_at (is_block h) (first ++ ids ++ rels ++ reps) from k4 (keep (same h header.From) from)
    (join_at (is_block h) (first ++ ids ++ rels) reps k3 (keep (same h header.ReplyTo) reps)
    (join_at (is_block h) (first ++ ids) rels k2 (keep (same h header.RelatesTo) rels)
    (join_at (is_block h) first ids k1 (keep (same h header.MessageId) ids) (first_at h a.to a.action) (maybe_at h header.MessageId a.message_id))
    (relations_at h a.relates_to))
    (maybe_at h header.ReplyTo a.reply_to))
    (maybe_at h header.From a.from))
    (maybe_at h header.FaultTo a.fault_to)

abbrev pub ours : Header → Addressing → List Tree
ours header.To a = plain_block header.To a.to ∷ []
ours header.Action a = plain_block header.Action a.action ∷ []
ours header.MessageId a = maybe header.MessageId a.message_id
ours header.RelatesTo a = map relation_block a.relates_to
ours header.ReplyTo a = maybe header.ReplyTo a.reply_to
ours header.From a = maybe header.From a.from
ours header.FaultTo a = maybe header.FaultTo a.fault_to

kept_is : (h : Header) (a : Addressing) → kept h a ≡ ours h a
unfolding header_local
kept_is header.To a = refl
kept_is header.Action a = refl
kept_is header.MessageId a = simp append-nil
kept_is header.RelatesTo a = simp append-nil
kept_is header.ReplyTo a = simp append-nil
kept_is header.From a = simp append-nil
kept_is header.FaultTo a = refl

pub all_at : (h : Header) (headers : List Tree) (a : Addressing) → list_all is_other headers ≡ true → filter (is_block h) (headers ++ blocks_of a) ≡ ours h a
all_at h headers a others = join_at (is_block h) headers (blocks_of a) [] (ours h a) (others_none h headers others) (blocks_at h a ∙ kept_is h a)

bytes_same : (xs ys : List ℕ) → bytes_eq xs ys ≡ true → xs ≡ ys
bytes_same [] [] e = refl
bytes_same [] (y ∷ ys) e = absurd (let i : ◌≡◌ {A = Bool} false true = e in cc)
bytes_same (x ∷ xs) [] e = absurd (let i : ◌≡◌ {A = Bool} false true = e in cc)
bytes_same (x ∷ xs) (y ∷ ys) e =
    let parts = and_parts (eqb x y) (bytes_eq xs ys) e in
    ap (λ z. z ∷ xs) (eqb-true x y parts.0) ∙ ap (λ z. y ∷ z) (bytes_same xs ys parts.1)

pub parts_same : (a b : Addressing) → a.to ≡ b.to → a.action ≡ b.action → a.message_id ≡ b.message_id → a.relates_to ≡ b.relates_to → a.reply_to ≡ b.reply_to → a.from ≡ b.from → a.fault_to ≡ b.fault_to → a ≡ b
parts_same a b e1 e2 e3 e4 e5 e6 e7 =
    ap (λ x. record a { to = x }) e1
    ∙ (ap (λ x. record a { to = b.to; action = x }) e2
    ∙ (ap (λ x. record a { to = b.to; action = b.action; message_id = x }) e3
    ∙ (ap (λ x. record a { to = b.to; action = b.action; message_id = b.message_id; relates_to = x }) e4
    ∙ (ap (λ x. record a { to = b.to; action = b.action; message_id = b.message_id; relates_to = b.relates_to; reply_to = x }) e5
    ∙ (ap (λ x. record a { to = b.to; action = b.action; message_id = b.message_id; relates_to = b.relates_to; reply_to = b.reply_to; from = x }) e6
    ∙ ap (λ x. record b { fault_to = x }) e7)))))

-- what a block says
sayable_parts : (t : List ℕ) → is_sayable t ≡ true → (bytes_eq t [] ≡ false) × (trim t ≡ t)
sayable_parts t h =
    let parts = and_parts (not (bytes_eq t [])) (bytes_eq (trim t) t) h in
    (not-true (bytes_eq t []) parts.0, bytes_same (trim t) t parts.1)

nodes_say : (t : List ℕ) → is_sayable t ≡ true → text_said (text_nodes t) ≡ Some t
nodes_say [] h = absurd (let parts = sayable_parts [] h in let i : ◌≡◌ {A = Bool} true false = parts.0 in cc)
nodes_say (c ∷ cs) h = ap some_text (sayable_parts (c ∷ cs) h).1

address_says : (t : List ℕ) → is_sayable t ≡ true → address_said (element_then (address_tree t) NoNode) ≡ Some t
unfolding addressing_space address_word
address_says t h = nodes_say t h

said_either : (b : Bool) (t : List ℕ) → is_sayable t ≡ true → (if b then address_said (if b then element_then (address_tree t) NoNode else text_nodes t) else text_said (if b then element_then (address_tree t) NoNode else text_nodes t)) ≡ Some t
said_either true t h = address_says t h
said_either false t h = nodes_say t h

block_says : (h : Header) (attrs : List Attr) (t : List ℕ) → is_sayable t ≡ true → said h (block_of h attrs t) ≡ Some t
block_says h attrs t ok = said_either (holds_address h) t ok

kind_either : (b : Bool) (kind : List ℕ) → bytes_eq kind reply_relation ≡ b → kind_said (if b then [] else relationship kind ∷ []) ≡ kind
unfolding relationship_word
kind_either true kind e = sym (bytes_same kind reply_relation e)
kind_either false kind e = refl

relation_says : (r : Relation) → is_sayable r.id ≡ true → relation_said (relation_block r) ≡ Some r
relation_says r ok =
    ap (λ o. option_map (λ id. record { kind = kind_said (kind_attrs r.kind); id = id }) o) (block_says header.RelatesTo (kind_attrs r.kind) r.id ok)
    ∙ ap (λ k. Some (record { kind = k; id = r.id })) (kind_either (bytes_eq r.kind reply_relation) r.kind refl)

relations_say : (rs : List Relation) → list_all is_sayable (map (λ (r : Relation). r.id) rs) ≡ true → filter_map relation_said (map relation_block rs) ≡ rs
relations_say [] all = refl
relations_say (r ∷ rs) all =
    let parts = and_parts (is_sayable r.id) (list_all is_sayable (map (λ (q : Relation). q.id) rs)) all in
    ap (λ o. cons_option o (filter_map relation_said (map relation_block rs))) (relation_says r parts.0) ∙ ap (λ z. r ∷ z) (relations_say rs parts.1)

-- each of them says something
abbrev pub is_silent : Header → Tree → Bool
is_silent h block = not (is_some (said h block))

speaks : (h : Header) (t : Tree) (text : List ℕ) → said h t ≡ Some text → is_silent h t ≡ false
speaks h t text e = ap (λ o. not (is_some o)) e

one_speaks : (h : Header) (t : List ℕ) → is_sayable t ≡ true → list_any (is_silent h) (plain_block h t ∷ []) ≡ false
one_speaks h t ok = or_from (is_silent h (plain_block h t)) false (speaks h (plain_block h t) t (block_says h [] t ok)) refl

maybe_speaks : (h : Header) (o : Option (List ℕ)) → list_all is_sayable (option_to_list o) ≡ true → list_any (is_silent h) (maybe h o) ≡ false
maybe_speaks h None all = refl
maybe_speaks h (Some t) all = one_speaks h t (and_parts (is_sayable t) true all).0

relations_speak : (rs : List Relation) → list_all is_sayable (map (λ (r : Relation). r.id) rs) ≡ true → list_any (is_silent header.RelatesTo) (map relation_block rs) ≡ false
relations_speak [] all = refl
relations_speak (r ∷ rs) all =
    let parts = and_parts (is_sayable r.id) (list_all is_sayable (map (λ (q : Relation). q.id) rs)) all in
    or_from (is_silent header.RelatesTo (relation_block r)) (list_any (is_silent header.RelatesTo) (map relation_block rs))
    (speaks header.RelatesTo (relation_block r) r.id (block_says header.RelatesTo (kind_attrs r.kind) r.id parts.0)) (relations_speak rs parts.1)

-- the texts of an addressing pass a test, header by header
pub record HasTexts (p : List ℕ → Bool) (a : Addressing) : Type 0 where
  pub to : p a.to ≡ true
  pub action : p a.action ≡ true
  pub ids : list_all p (option_to_list a.message_id) ≡ true
  pub relations : list_all p (map (λ (r : Relation). r.id) a.relates_to) ≡ true
  pub replies : list_all p (option_to_list a.reply_to) ≡ true
  pub from : list_all p (option_to_list a.from) ≡ true
  pub faults : list_all p (option_to_list a.fault_to) ≡ true

abbrev pub AreSayable : Addressing → Type 0
AreSayable a = HasTexts is_sayable a

pub split : (p : List ℕ → Bool) (xs ys : List (List ℕ)) → list_all p (xs ++ ys) ≡ true → (list_all p xs ≡ true) × (list_all p ys ≡ true)
split p xs ys all = and_parts (list_all p xs) (list_all p ys) (sym (list_all-append p xs ys) ∙ all)

pub texts_parted : (p : List ℕ → Bool) (a : Addressing) → list_all p (texts_of a) ≡ true → HasTexts p a
texts_parted p a all =
    let first : List (List ℕ) = a.to ∷ a.action ∷ [] in
    let ids : List (List ℕ) = option_to_list a.message_id in
    let rels : List (List ℕ) = map (λ (r : Relation). r.id) a.relates_to in
    let reps : List (List ℕ) = option_to_list a.reply_to in
    let from : List (List ℕ) = option_to_list a.from in
    let faults : List (List ℕ) = option_to_list a.fault_to in
    let s5 = split p (first ++ ids ++ rels ++ reps ++ from) faults all in
    let s4 = split p (first ++ ids ++ rels ++ reps) from s5.0 in
    let s3 = split p (first ++ ids ++ rels) reps s4.0 in
    let s2 = split p (first ++ ids) rels s3.0 in
    let s1 = split p first ids s2.0 in
    let head = and_parts (p a.to) (p a.action && true) s1.0 in
    record {
      to = head.0;
      action = (and_parts (p a.action) true head.1).0;
      ids = s1.1;
      relations = s2.1;
      replies = s3.1;
      from = s4.1;
      faults = s5.1;
    }

ours_speak : (h : Header) (a : Addressing) → AreSayable a → list_any (is_silent h) (ours h a) ≡ false
ours_speak header.To a ok = one_speaks header.To a.to ok.to
ours_speak header.Action a ok = one_speaks header.Action a.action ok.action
ours_speak header.MessageId a ok = maybe_speaks header.MessageId a.message_id ok.ids
ours_speak header.RelatesTo a ok = relations_speak a.relates_to ok.relations
ours_speak header.ReplyTo a ok = maybe_speaks header.ReplyTo a.reply_to ok.replies
ours_speak header.From a ok = maybe_speaks header.From a.from ok.from
ours_speak header.FaultTo a ok = maybe_speaks header.FaultTo a.fault_to ok.faults

-- no header stands twice or says nothing
few_maybe : (k : Header) (o : Option (List ℕ)) → nat_lt 1 (length (maybe k o)) ≡ false
few_maybe k None = refl
few_maybe k (Some t) = refl

twice_at : (h : Header) (headers : List Tree) (a : Addressing) → list_all is_other headers ≡ true → nat_lt 1 (length (ours h a)) ≡ false → is_twice (headers ++ blocks_of a) h ≡ false
twice_at h headers a others few = ap (λ z. nat_lt 1 (length z)) (all_at h headers a others) ∙ few

invalid_at : (h : Header) (headers : List Tree) (a : Addressing) → list_all is_other headers ≡ true → AreSayable a → is_invalid (headers ++ blocks_of a) h ≡ false
invalid_at h headers a others ok =
    and_is (is_block h) (is_silent h) (headers ++ blocks_of a) ∙ (ap (list_any (is_silent h)) (all_at h headers a others) ∙ ours_speak h a ok)

pass : (b : Bool) (h : Header) (o : Option Header) → b ≡ false → o ≡ None → cond b (Some h) o ≡ None
pass true h o off e = absurd (let i : ◌≡◌ {A = Bool} true false = off in cc)
pass false h o off e = e

none_twice : (headers : List Tree) (a : Addressing) → list_all is_other headers ≡ true → find (is_twice (headers ++ blocks_of a)) single_headers ≡ None
none_twice headers a others =
    pass _ header.To _ (twice_at header.To headers a others refl)
    (pass _ header.From _ (twice_at header.From headers a others (few_maybe header.From a.from))
    (pass _ header.ReplyTo _ (twice_at header.ReplyTo headers a others (few_maybe header.ReplyTo a.reply_to))
    (pass _ header.FaultTo _ (twice_at header.FaultTo headers a others (few_maybe header.FaultTo a.fault_to))
    (pass _ header.Action _ (twice_at header.Action headers a others refl)
    (pass _ header.MessageId None (twice_at header.MessageId headers a others (few_maybe header.MessageId a.message_id)) refl)))))

none_invalid : (headers : List Tree) (a : Addressing) → list_all is_other headers ≡ true → AreSayable a → find (is_invalid (headers ++ blocks_of a)) all_headers ≡ None
none_invalid headers a others ok =
    pass _ header.To _ (invalid_at header.To headers a others ok)
    (pass _ header.From _ (invalid_at header.From headers a others ok)
    (pass _ header.ReplyTo _ (invalid_at header.ReplyTo headers a others ok)
    (pass _ header.FaultTo _ (invalid_at header.FaultTo headers a others ok)
    (pass _ header.Action _ (invalid_at header.Action headers a others ok)
    (pass _ header.MessageId _ (invalid_at header.MessageId headers a others ok)
    (pass _ header.RelatesTo None (invalid_at header.RelatesTo headers a others ok) refl))))))

some_action : (headers : List Tree) (a : Addressing) → list_all is_other headers ≡ true → list_any (is_block header.Action) (headers ++ blocks_of a) ≡ true
some_action headers a others = any_is (is_block header.Action) (headers ++ blocks_of a) ∙ ap is_any (all_at header.Action headers a others)

-- what is said is the addressing
first_is : (h : Header) (headers : List Tree) (a : Addressing) → list_all is_other headers ≡ true → first_said h (headers ++ blocks_of a) ≡ option_and_then (said h) (head_of (ours h a))
first_is h headers a others = ap (option_and_then (said h)) (find_is (is_block h) (headers ++ blocks_of a) ∙ ap head_of (all_at h headers a others))

maybe_said : (h : Header) (o : Option (List ℕ)) → list_all is_sayable (option_to_list o) ≡ true → option_and_then (said h) (head_of (maybe h o)) ≡ o
maybe_said h None all = refl
maybe_said h (Some t) all = block_says h [] t (and_parts (is_sayable t) true all).0

all_is : (headers : List Tree) (a : Addressing) → list_all is_other headers ≡ true → AreSayable a → all_said (headers ++ blocks_of a) ≡ a
all_is headers a others ok =
    let to : unwrap_or (first_said header.To (headers ++ blocks_of a)) anonymous ≡ a.to =
    ap (λ o. unwrap_or o anonymous) (first_is header.To headers a others ∙ block_says header.To [] a.to ok.to) in
    let action : unwrap_or (first_said header.Action (headers ++ blocks_of a)) [] ≡ a.action =
    ap (λ o. unwrap_or o []) (first_is header.Action headers a others ∙ block_says header.Action [] a.action ok.action) in
    let ids : first_said header.MessageId (headers ++ blocks_of a) ≡ a.message_id = first_is header.MessageId headers a others ∙ maybe_said header.MessageId a.message_id ok.ids in
    let relations : filter_map relation_said (filter (is_block header.RelatesTo) (headers ++ blocks_of a)) ≡ a.relates_to =
    ap (filter_map relation_said) (all_at header.RelatesTo headers a others) ∙ relations_say a.relates_to ok.relations in
    let replies : first_said header.ReplyTo (headers ++ blocks_of a) ≡ a.reply_to = first_is header.ReplyTo headers a others ∙ maybe_said header.ReplyTo a.reply_to ok.replies in
    let from : first_said header.From (headers ++ blocks_of a) ≡ a.from = first_is header.From headers a others ∙ maybe_said header.From a.from ok.from in
    let faults : first_said header.FaultTo (headers ++ blocks_of a) ≡ a.fault_to = first_is header.FaultTo headers a others ∙ maybe_said header.FaultTo a.fault_to ok.faults in
    parts_same (all_said (headers ++ blocks_of a)) a to action ids relations replies from faults

required_is : (b : Bool) (o : Option Header) (all : List Tree) → b ≡ true → o ≡ None → (if b then valid all o else Err addr_error.Required) ≡ Ok (all_said all)
required_is true o all yes_b e = ap (valid all) e
required_is false o all yes_b e = absurd (let i : ◌≡◌ {A = Bool} false true = yes_b in cc)

pub put_is_read : PutIsRead
unfolding addressing_of
put_is_read headers a others all =
    let ok : AreSayable a = texts_parted is_sayable a all in
    ap (single (headers ++ blocks_of a)) (none_twice headers a others)
    ∙ (required_is (list_any (is_block header.Action) (headers ++ blocks_of a)) (find (is_invalid (headers ++ blocks_of a)) all_headers) (headers ++ blocks_of a) (some_action headers a others) (none_invalid headers a others ok)
    ∙ ap (λ (x : Addressing). Ok x) (all_is headers a others ok))
