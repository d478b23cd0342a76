-- The texts of calls, replies and faults are read as the envelopes whose texts they are.
use Rattle.std.proofs.Common.{◌≡◌, ℕ, ◌≤◌, Bool, true, false, not, ◌&&◌, nat_le, List, [], ◌∷◌, ◌++◌, length, map, refl, subst, arith, IsTrue}
use Rattle.std.specs.Prelude.{Option, Some, None, if◌then◌else◌}
use Rattle.std.specs.List.{list_all}
use Rattle.std.specs.Option.{option_to_list}
use Rattle.std.specs.Str.{bytes_eq}
use Rattle.std.proofs.lemmas.Bool.{and_parts, and_from, leb-true, le-leb}
use Rattle.pws_tree.specs.Characters.{is_xml_text}
use Rattle.pws_tree.specs.Lawful.{is_lawful, is_lawful_tag, are_lawful, has_qualified, levels, tree_depth}
use Rattle.pws_tree.specs.Names.{is_lawful_attr, ascend}
use Rattle.pws_tree.specs.Trees.{Tree, NoNode}
use Rattle.pws_soap.specs.Envelopes.{Enveloped, element_then}
use Rattle.pws_soap.specs.Faults.{fault_tree, envelope_around}
use Rattle.pws_soap.specs.Laws.{RootsAreLawful, FaultsAreLawful}
use Rattle.pws_soap.specs.Made.{has_few_levels, is_lawful_body}
use Rattle.pws_soap.specs.Reading.{IsReadAs, NothingElseIsRead}
use Rattle.pws_addr.specs.Blocks.{plain_block, relationship, kind_attrs, relation_block, blocks_of}
use Rattle.pws_addr.specs.Causes.{fault_of}
use Rattle.pws_addr.specs.Envelopes.{addressed, envelope_text, fits, call_action, call_addressing, call_local, call_text, message_tree, reply_addressing, reply_envelope_text, reply_local, reply_text, fault_action, fault_addressing, fault_envelope_text, fault_text, bare_fault_text}
use Rattle.pws_addr.specs.Headers.{anonymous, reply_relation}
use Rattle.pws_addr.specs.Identifiers.{group_address, call_id, reply_id}
use Rattle.pws_addr.specs.Laws.{texts_of, texts_taken}
use Rattle.pws_addr.specs.Replies.{reply_action, in_reply}
use Rattle.pws_addr.specs.Texts.{all_texts_of, fault_envelope, reply_envelope, AddressedTextsAreRead, CallTextsAreRead, FaultTextsAreRead, ReplyTextsAreRead, BareFaultTextsAreRead}
use Rattle.pws_addr.specs.declared.causes.Cause.{Cause}
use Rattle.pws_addr.specs.declared.causes.Cause.TheVariants as cause
use Rattle.pws_addr.specs.declared.headers.Addressing.{Addressing}
use Rattle.pws_addr.specs.declared.headers.Header.{Header}
use Rattle.pws_addr.specs.declared.headers.Header.TheVariants as header
use Rattle.pws_addr.specs.declared.headers.Relation.{Relation}
use Rattle.pws_addr.proofs.Again.{HasTexts, split, texts_parted}
use Rattle.pws_addr.proofs.Exchanged.{all_marked, none_refused, blocks_plain, answer, answer_texts}
use Rattle.pws_addr.proofs.Faults.{fault_lawful}
use Rattle.pws_addr.proofs.Fitting.{unaddressed_short, bare_faults_fit}
use Rattle.pws_addr.proofs.Lawful.{block_lawful, relationships_lawful, blocks_low}
use Rattle.pws_addr.proofs.Messages.{call_named, reply_named, message_lawful, message_low}
use Rattle.pws_addr.proofs.Printable.{printable_xml, group_xml, call_xml, reply_xml}
use Rattle.pws_addr.proofs.Sayable.{joined}

-- ---- the root is lawful

attrs_lawful : (b : Bool) (kind : List ℕ) → is_xml_text kind ≡ true → list_all is_lawful_attr (if b then [] else relationship kind ∷ []) ≡ true
attrs_lawful true kind h = refl
attrs_lawful false kind h = relationships_lawful kind h

attrs_sorted : (b : Bool) (kind : List ℕ) → ascend (if b then [] else relationship kind ∷ []) ≡ true
attrs_sorted true kind = refl
attrs_sorted false kind = refl

relations_lawful : (rs : List Relation) → list_all is_xml_text (map (λ (r : Relation). r.id) rs) ≡ true → list_all is_xml_text (map (λ (r : Relation). r.kind) rs) ≡ true → list_all is_lawful (map relation_block rs) ≡ true
relations_lawful [] ids kinds = refl
relations_lawful (r ∷ rs) ids kinds =
    let id = and_parts (is_xml_text r.id) (list_all is_xml_text (map (λ (q : Relation). q.id) rs)) ids in
    let kind = and_parts (is_xml_text r.kind) (list_all is_xml_text (map (λ (q : Relation). q.kind) rs)) kinds in
    and_from (is_lawful (relation_block r)) (list_all is_lawful (map relation_block rs))
    (block_lawful header.RelatesTo (kind_attrs r.kind) r.id (attrs_lawful (bytes_eq r.kind reply_relation) r.kind kind.0) (attrs_sorted (bytes_eq r.kind reply_relation) r.kind) id.0)
    (relations_lawful rs id.1 kind.1)

some_lawful : (h : Header) (o : Option (List ℕ)) → list_all is_xml_text (option_to_list o) ≡ true → list_all is_lawful (map (plain_block h) (option_to_list o)) ≡ true
some_lawful h None all = refl
some_lawful h (Some t) all = and_from (is_lawful (plain_block h t)) true (block_lawful h [] t refl refl (and_parts (is_xml_text t) true all).0) refl

both_lawful : (xs ys : List Tree) → list_all is_lawful xs ≡ true → list_all is_lawful ys ≡ true → list_all is_lawful (xs ++ ys) ≡ true
both_lawful [] ys hx hy = hy
both_lawful (x ∷ xs) ys hx hy =
    let parts = and_parts (is_lawful x) (list_all is_lawful xs) hx in
    and_from (is_lawful x) (list_all is_lawful (xs ++ ys)) parts.0 (both_lawful xs ys parts.1 hy)

blocks_lawful : (a : Addressing) → list_all is_xml_text (all_texts_of a) ≡ true → list_all is_lawful (blocks_of a) ≡ true
blocks_lawful a all =
    let apart = split is_xml_text (texts_of a) (map (λ (r : Relation). r.kind) a.relates_to) all in
    let xml : HasTexts is_xml_text a = texts_parted is_xml_text a apart.0 in
    let first : List Tree = plain_block header.To a.to ∷ plain_block header.Action a.action ∷ [] in
    let ids : List Tree = map (plain_block header.MessageId) (option_to_list a.message_id) in
    let relations : List Tree = map relation_block a.relates_to in
    let replies : List Tree = map (plain_block header.ReplyTo) (option_to_list a.reply_to) in
    let from : List Tree = map (plain_block header.From) (option_to_list a.from) in
    let faults : List Tree = map (plain_block header.FaultTo) (option_to_list a.fault_to) in
    let two : list_all is_lawful first ≡ true =
    and_from (is_lawful (plain_block header.To a.to)) _ (block_lawful header.To [] a.to refl refl xml.to)
    (and_from (is_lawful (plain_block header.Action a.action)) true (block_lawful header.Action [] a.action refl refl xml.action) refl) in
    both_lawful (first ++ ids ++ relations ++ replies ++ from) faults
    (both_lawful (first ++ ids ++ relations ++ replies) from
    (both_lawful (first ++ ids ++ relations) replies
    (both_lawful (first ++ ids) relations
    (both_lawful first ids two (some_lawful header.MessageId a.message_id xml.ids))
    (relations_lawful a.relates_to xml.relations apart.1))
    (some_lawful header.ReplyTo a.reply_to xml.replies))
    (some_lawful header.From a.from xml.from))
    (some_lawful header.FaultTo a.fault_to xml.faults)

one_lawful : (t : Tree) → IsTrue (is_lawful t) → IsTrue (has_few_levels t) → IsTrue (is_lawful_body (element_then t NoNode))
one_lawful t lawful low =
    let sound : (is_lawful_tag t.name t.attrs t.children && are_lawful t.children) ≡ true = (and_parts (is_lawful_tag t.name t.attrs t.children && are_lawful t.children) (nat_le (tree_depth t) 64) lawful).0 in
    let few : tree_depth t ≤ 62 = leb-true (tree_depth t) 62 low in
    and_from (are_lawful (element_then t NoNode)) _ (and_from (is_lawful_tag t.name t.attrs t.children && are_lawful t.children) true sound refl)
    (and_from (not (has_qualified (element_then t NoNode))) (nat_le (levels (element_then t NoNode)) 62) refl (le-leb (levels (element_then t NoNode)) 62 (omega (arith, few))))

-- ---- the texts

pub addressed_texts_are_read : RootsAreLawful → NothingElseIsRead → AddressedTextsAreRead
addressed_texts_are_read roots law a t xml lawful low short =
    law (addressed a t) (roots (addressed a t) (blocks_lawful a xml) (blocks_low a) (one_lawful t lawful low)) (leb-true (length (envelope_text a t)) 32768 short)
    (all_marked (blocks_of a) (blocks_plain a)) (none_refused (blocks_of a) (blocks_plain a))

anonymous_xml : is_xml_text anonymous ≡ true
unfolding anonymous
anonymous_xml = printable_xml _ refl

relation_xml : is_xml_text reply_relation ≡ true
unfolding reply_relation
relation_xml = printable_xml _ refl

call_action_xml : is_xml_text call_action ≡ true
unfolding call_action
call_action_xml = printable_xml _ refl

reply_action_xml : is_xml_text reply_action ≡ true
unfolding reply_action
reply_action_xml = printable_xml _ refl

fault_action_xml : is_xml_text fault_action ≡ true
unfolding fault_action
fault_action_xml = printable_xml _ refl

-- a call
call_texts_xml : (me called number : ℕ) → list_all is_xml_text (all_texts_of (call_addressing me called number)) ≡ true
call_texts_xml me called number =
    and_from (is_xml_text (group_address called)) _ (group_xml called)
    (and_from (is_xml_text call_action) _ call_action_xml
    (and_from (is_xml_text (call_id me called number)) _ (call_xml me called number) (and_from (is_xml_text (group_address me)) true (group_xml me) refl)))

record IsChosen (b : Bool) (x y : List ℕ) : Type 0 where
  pub chosen : b ≡ true
  pub same : x ≡ y

some_is : (b : Bool) (x y : List ℕ) → (if b then Some x else None) ≡ Some y → IsChosen b x y
some_is true x y e = record { chosen = refl; same = cc }
some_is false x y e = absurd (let i : ◌≡◌ {A = Option (List ℕ)} None (Some y) = e in cc)

pub call_texts_are_read : RootsAreLawful → NothingElseIsRead → CallTextsAreRead
unfolding call_text
call_texts_are_read roots law me called number text body xml e =
    let a : Addressing = call_addressing me called number in
    let t : Tree = message_tree call_local text in
    let h = some_is (fits (envelope_text a t)) (envelope_text a t) body e in
    subst (λ (x : List ℕ). IsReadAs x (addressed a t)) h.same (addressed_texts_are_read roots law a t (call_texts_xml me called number) (message_lawful call_local text call_named xml) (message_low call_local text) h.chosen)

-- an answer
kinds_of : (id : Option (List ℕ)) → list_all is_xml_text (map (λ (r : Relation). r.kind) (map in_reply (option_to_list id))) ≡ true
kinds_of None = refl
kinds_of (Some t) = and_from (is_xml_text reply_relation) true relation_xml refl

answer_xml : (action mine : List ℕ) (id to : Option (List ℕ)) → is_xml_text action ≡ true → is_xml_text mine ≡ true → list_all is_xml_text (option_to_list id ++ option_to_list to) ≡ true → list_all is_xml_text (all_texts_of (answer action mine id to)) ≡ true
answer_xml action mine id to ha hm h =
    let parts = split is_xml_text (option_to_list id) (option_to_list to) h in
    joined is_xml_text (texts_of (answer action mine id to)) (map (λ (r : Relation). r.kind) (map in_reply (option_to_list id))) (answer_texts is_xml_text action mine id to anonymous_xml ha hm parts.0 parts.1) (kinds_of id)

reply_xml_texts : (me caller number : ℕ) (request : Option Addressing) → list_all is_xml_text (texts_taken request) ≡ true → list_all is_xml_text (all_texts_of (reply_addressing me caller number request)) ≡ true
reply_xml_texts me caller number None h = answer_xml reply_action (reply_id me caller number) None None reply_action_xml (reply_xml me caller number) refl
reply_xml_texts me caller number (Some a) h = answer_xml reply_action (reply_id me caller number) a.message_id a.reply_to reply_action_xml (reply_xml me caller number) h

fault_xml_texts : (me caller number : ℕ) (request : Option Addressing) → list_all is_xml_text (texts_taken request) ≡ true → list_all is_xml_text (all_texts_of (fault_addressing me caller number request)) ≡ true
fault_xml_texts me caller number None h = answer_xml fault_action (reply_id me caller number) None None fault_action_xml (reply_xml me caller number) refl
fault_xml_texts me caller number (Some a) h = answer_xml fault_action (reply_id me caller number) a.message_id a.reply_to fault_action_xml (reply_xml me caller number) h

either_read : (b : Bool) (x y : List ℕ) (d e : Enveloped) → (b ≡ true → IsReadAs x d) → IsReadAs y e → IsReadAs (if b then x else y) (if b then d else e)
either_read true x y d e hx hy = hx refl
either_read false x y d e hx hy = hy

-- a fault round which whatever addressing stands
fault_read : RootsAreLawful → FaultsAreLawful → NothingElseIsRead → (a : Addressing) (c : Cause) → list_all is_xml_text (all_texts_of a) ≡ true → fits (envelope_text a (fault_tree (fault_of c))) ≡ true → IsReadAs (envelope_text a (fault_tree (fault_of c))) (addressed a (fault_tree (fault_of c)))
fault_read roots faults law a c xml short =
    let t : Tree = fault_tree (fault_of c) in
    let both = and_parts (is_lawful t) (has_few_levels t) (faults (fault_of c) (fault_lawful c)) in
    addressed_texts_are_read roots law a t xml both.0 both.1 short

unaddressed_read : RootsAreLawful → FaultsAreLawful → NothingElseIsRead → (me caller number : ℕ) (c : Cause) → IsReadAs (fault_envelope_text me caller number None c) (addressed (fault_addressing me caller number None) (fault_tree (fault_of c)))
unaddressed_read roots faults law me caller number c =
    fault_read roots faults law (fault_addressing me caller number None) c (fault_xml_texts me caller number None refl) (le-leb (length (fault_envelope_text me caller number None c)) 32768 (unaddressed_short me caller number c))

pub fault_texts_are_read : RootsAreLawful → FaultsAreLawful → NothingElseIsRead → FaultTextsAreRead
unfolding fault_text
fault_texts_are_read roots faults law me caller number request c xml =
    let whole : IsReadAs (fault_text me caller number request c) (fault_envelope me caller number request c) =
    either_read (fits (fault_envelope_text me caller number request c)) (fault_envelope_text me caller number request c) (fault_envelope_text me caller number None c)
    (addressed (fault_addressing me caller number request) (fault_tree (fault_of c))) (addressed (fault_addressing me caller number None) (fault_tree (fault_of c)))
    (fault_read roots faults law (fault_addressing me caller number request) c (fault_xml_texts me caller number request xml)) (unaddressed_read roots faults law me caller number c) in
    whole

pub reply_texts_are_read : RootsAreLawful → FaultsAreLawful → NothingElseIsRead → ReplyTextsAreRead
unfolding reply_text
reply_texts_are_read roots faults law me caller number request text taken xml =
    let t : Tree = message_tree reply_local text in
    let whole : IsReadAs (reply_text me caller number request text) (reply_envelope me caller number request text) =
    either_read (fits (reply_envelope_text me caller number request text)) (reply_envelope_text me caller number request text) (fault_envelope_text me caller number None cause.ReplyTooLong)
    (addressed (reply_addressing me caller number request) t) (addressed (fault_addressing me caller number None) (fault_tree (fault_of cause.ReplyTooLong)))
    (addressed_texts_are_read roots law (reply_addressing me caller number request) t (reply_xml_texts me caller number request taken) (message_lawful reply_local text reply_named xml) (message_low reply_local text))
    (unaddressed_read roots faults law me caller number cause.ReplyTooLong) in
    whole

pub bare_fault_texts_are_read : RootsAreLawful → FaultsAreLawful → NothingElseIsRead → BareFaultTextsAreRead
unfolding bare_fault_text
bare_fault_texts_are_read roots faults law c =
    let t : Tree = fault_tree (fault_of c) in
    let both = and_parts (is_lawful t) (has_few_levels t) (faults (fault_of c) (fault_lawful c)) in
    law (envelope_around t) (roots (envelope_around t) refl refl (one_lawful t both.0 both.1)) (bare_faults_fit c) refl refl
