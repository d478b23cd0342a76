-- What is read from a lawful tree.
use Rattle.std.proofs.Common.{◌≡◌, ℕ, ◌+◌, ◌≤◌, Bool, true, false, not, ◌&&◌, List, [], ◌∷◌, Option, Some, None, refl, ap, sym, ◌∙◌, subst, arith, IsTrue}
use Rattle.std.specs.Prelude.{if◌then◌else◌, Result, Err}
use Rattle.std.specs.List.{list_all}
use Rattle.std.specs.Str.{bytes_eq}
use Rattle.std.specs.Cmp.Lexicographic.{bytes_decides}
use Rattle.pws_tree.specs.Names.{is_lawful_name, is_lawful_attr, ascend, is_value, envelope_space}
use Rattle.pws_tree.specs.Lawful.{is_lawful, is_lawful_tag, are_lawful, fits_name, levels, has_qualified, is_one_qualified, is_lawful_text, starts_with_text}
use Rattle.pws_tree.specs.Trees.{Tree, Nodes, NoNode, TextThen, ElementThen, QualifiedThen}
use Rattle.pws_tree.specs.declared.texts.Name.{Name}
use Rattle.pws_soap.specs.Names.{is_soap_name, soap_name, envelope_word, header_word, body_word}
use Rattle.pws_soap.specs.Blocks.{is_well_marked}
use Rattle.pws_soap.specs.Envelopes.{Enveloped, Parts, elements, are_texts_white, parts_of, blocks_then, blocks_of, in_order, understood, envelope_of, Answers, root_of}
use Rattle.pws_soap.specs.declared.errors.SoapError.{SoapError}
use Rattle.pws_soap.specs.declared.errors.SoapError.TheVariants as soap_error
use Rattle.pws_soap.proofs.Joined.{first_true, second_true, both_true, chosen}
use Rattle.pws_soap.proofs.Lawful.{is_sound, sound_of, few_of, IsKept, AreKept, IsPlain, body_plain, root_kept}

pub elements_kept : (n : ℕ) (ns : Nodes) → are_lawful ns ≡ true → levels ns ≤ n + 1 → AreKept n (elements ns)
elements_kept n NoNode h few = tt
elements_kept n (TextThen t rest) h few =
    elements_kept n rest (second_true (not (starts_with_text rest)) (are_lawful rest) (second_true (is_lawful_text t) (not (starts_with_text rest) && are_lawful rest) h)) few
elements_kept n (QualifiedThen m rest) h few = elements_kept n rest (second_true (is_lawful_name m) (are_lawful rest) h) few
elements_kept n (ElementThen m attrs inner rest) h few = (
  record { sound = first_true (is_lawful_tag m attrs inner && are_lawful inner) (are_lawful rest) h; few = omega (arith, few) },
  elements_kept n rest (second_true (is_lawful_tag m attrs inner && are_lawful inner) (are_lawful rest) h) (omega (arith, few)),
)

-- an element that isn't a Value has no qualified name
no_qualified : (name : Name) (children : Nodes) → is_value name ≡ false → fits_name name children ≡ true → has_qualified children ≡ false
no_qualified name children other fits = flip (has_qualified children) (sym (ap (λ b. if b then is_one_qualified children else not (has_qualified children)) other) ∙ fits)
  where
    flip : (b : Bool) → not b ≡ true → b ≡ false
    flip true h = cc
    flip false h = refl

same_names : (local : List ℕ) (name : Name) → is_soap_name local name ≡ true → name ≡ soap_name local
same_names local name h =
    let space : name.space ≡ envelope_space = (bytes_decides name.space envelope_space).0 (first_true (bytes_eq name.space envelope_space) (bytes_eq name.local local) h) in
    let here : name.local ≡ local = (bytes_decides name.local local).0 (second_true (bytes_eq name.space envelope_space) (bytes_eq name.local local) h) in
    λ i. record { space = space i; local = here i }

tag_fits : (t : Tree) → is_sound t ≡ true → fits_name t.name t.children ≡ true
tag_fits t h =
    let tag = first_true (is_lawful_tag t.name t.attrs t.children) (are_lawful t.children) h in
    let a = second_true (is_lawful_name t.name) (list_all is_lawful_attr t.attrs && (ascend t.attrs && fits_name t.name t.children)) tag in
    let b = second_true (list_all is_lawful_attr t.attrs) (ascend t.attrs && fits_name t.name t.children) a in
    second_true (ascend t.attrs) (fits_name t.name t.children) b

body_kept : (n : ℕ) (b : Tree) → IsKept n b → is_soap_name body_word b.name ≡ true → IsPlain n b.children
body_kept n b kept named =
    let other : is_value b.name ≡ false = ap is_value (same_names body_word b.name named) ∙ body_plain.1 in
    record {
      lawful = second_true (is_lawful_tag b.name b.attrs b.children) (are_lawful b.children) kept.sound;
      plain = no_qualified b.name b.children other (tag_fits b kept.sound);
      few = kept.few;
    }

pub record ArePartsKept (n : ℕ) (p : Parts) : Type 0 where
  pub header : are_lawful p.header ≡ true
  pub few : levels p.header ≤ n
  pub body : IsPlain n p.body

along : (n : ℕ) (p q : Parts) → p ≡ q → ArePartsKept n p → ArePartsKept n q
along n p q e h = let P : Parts → Type 0 = ArePartsKept n in subst P e h

pub parts_kept : (n : ℕ) (es : List Tree) (p : Parts) → AreKept n es → parts_of es ≡ Some p → ArePartsKept n p
parts_kept n [] p h e = let f : ◌≡◌ {A = Option Parts} None (Some p) = e in cc
parts_kept n (b ∷ []) p h e =
    let c = chosen (is_soap_name body_word b.name) (let q : Parts = record { header = NoNode; body = b.children } in q) p e in
    along n _ p c.is (record { header = refl; few = omega arith; body = body_kept n b h.0 c.asked })
parts_kept n (h ∷ b ∷ []) p kept e =
    let c = chosen (is_soap_name header_word h.name && is_soap_name body_word b.name) (let q : Parts = record { header = h.children; body = b.children } in q) p e in
    along n _ p c.is
    (record {
      header = second_true (is_lawful_tag h.name h.attrs h.children) (are_lawful h.children) kept.0.sound;
      few = kept.0.few;
      body = body_kept n b kept.1.0 (second_true (is_soap_name header_word h.name) (is_soap_name body_word b.name) c.asked);
    })
parts_kept n (a ∷ b ∷ c ∷ more) p h e = let f : ◌≡◌ {A = Option Parts} None (Some p) = e in cc

pub record AreBlocksKept (e : Enveloped) : Type 0 where
  pub headers : AreKept 61 e.headers
  pub body : IsPlain 62 e.body

blocks_along : (d e : Enveloped) → d ≡ e → AreBlocksKept d → AreBlocksKept e
blocks_along d e i h = let P : Enveloped → Type 0 = AreBlocksKept in subst P i h

blocks_kept : (p : Parts) (e : Enveloped) → ArePartsKept 62 p → blocks_then p ≡ Some e → AreBlocksKept e
blocks_kept p e kept h =
    let c = chosen (are_texts_white p.header && list_all is_well_marked (elements p.header)) (let d : Enveloped = record { headers = elements p.header; body = p.body } in d) e h in
    blocks_along _ e c.is (record { headers = elements_kept 61 p.header kept.header kept.few; body = kept.body })

by_parts : (es : List Tree) (found : Option Parts) (e : Enveloped) → parts_of es ≡ found → AreKept 62 es → blocks_of found ≡ Some e → AreBlocksKept e
by_parts es None e at kept h = let f : ◌≡◌ {A = Option Enveloped} None (Some e) = h in cc
by_parts es (Some p) e at kept h = blocks_kept p e (parts_kept 62 es p kept at) h

by_white : (white : Bool) (inner : Option Enveloped) (e : Enveloped) → (if white then inner else None) ≡ Some e → inner ≡ Some e
by_white true inner e h = h
by_white false inner e h = let f : ◌≡◌ {A = Option Enveloped} None (Some e) = h in cc

-- what stands in a lawful tree fits into an envelope
pub read_lawful : (t : Tree) (e : Enveloped) → IsTrue (is_lawful t) → in_order t.children ≡ Some e → IsTrue (is_lawful (root_of e))
read_lawful t e lawful h =
    let kept : AreKept 62 (elements t.children) = elements_kept 62 t.children (second_true (is_lawful_tag t.name t.attrs t.children) (are_lawful t.children) (sound_of t lawful)) (few_of t lawful) in
    let found = by_parts (elements t.children) (parts_of (elements t.children)) e refl kept (by_white (are_texts_white t.children) (blocks_of (parts_of (elements t.children))) e h) in
    root_kept e found.headers found.body

-- header blocks that are in order
pub blocks_found : (p : Parts) (headers : List Tree) → are_texts_white p.header ≡ true → headers ≡ elements p.header → list_all is_well_marked headers ≡ true → Some (let e : Enveloped = record { headers = headers; body = p.body } in e) ≡ blocks_then p
blocks_found p headers white at marks =
    let marked : list_all is_well_marked (elements p.header) ≡ true = ap (list_all is_well_marked) (sym at) ∙ marks in
    let both : (are_texts_white p.header && list_all is_well_marked (elements p.header)) ≡ true = both_true (are_texts_white p.header) (list_all is_well_marked (elements p.header)) white marked in
    ap (λ hs. Some (let e : Enveloped = record { headers = hs; body = p.body } in e)) at
    ∙ sym (ap (λ b. if b then Some (let e : Enveloped = record { headers = elements p.header; body = p.body } in e) else None) both)

-- a root of another name
pub other_name : (t : Tree) → bytes_eq t.name.local envelope_word ≡ false → envelope_of t ≡ Err soap_error.NotEnvelope
unfolding envelope_of
other_name t h = ap (λ b. if not b then Err soap_error.NotEnvelope else if not (bytes_eq t.name.space envelope_space) then Err soap_error.Version else understood (in_order t.children)) h

pub other_space : (t : Tree) → bytes_eq t.name.local envelope_word ≡ true → bytes_eq t.name.space envelope_space ≡ false → envelope_of t ≡ Err soap_error.Version
unfolding envelope_of
other_space t h g =
    ap (λ b. if not b then Err soap_error.NotEnvelope else if not (bytes_eq t.name.space envelope_space) then Err soap_error.Version else understood (in_order t.children)) h
    ∙ ap (λ b. if not b then Err soap_error.Version else understood (in_order t.children)) g

own_name : (t : Tree) → bytes_eq t.name.local envelope_word ≡ true → bytes_eq t.name.space envelope_space ≡ true → envelope_of t ≡ understood (in_order t.children)
unfolding envelope_of
own_name t h g =
    ap (λ b. if not b then Err soap_error.NotEnvelope else if not (bytes_eq t.name.space envelope_space) then Err soap_error.Version else understood (in_order t.children)) h
    ∙ ap (λ b. if not b then Err soap_error.Version else understood (in_order t.children)) g

pub answers_on : (t : Tree) (answer : Result Enveloped SoapError) → bytes_eq t.name.local envelope_word ≡ true → bytes_eq t.name.space envelope_space ≡ true → Answers (understood (in_order t.children)) answer → Answers (envelope_of t) answer
answers_on t answer h g a = let P : Result Enveloped SoapError → Type 0 = λ wanted. Answers wanted answer in subst P (sym (own_name t h g)) a
