-- The root of an envelope is read as that envelope.
use Rattle.std.proofs.Common.{◌≡◌, Bool, true, false, not, ◌&&◌, List, [], ◌∷◌, Option, Some, None, refl, ap, sym, ◌∙◌}
use Rattle.std.specs.Prelude.{if◌then◌else◌, Result, Ok, Err, option_map}
use Rattle.std.specs.List.{list_all, find}
use Rattle.std.specs.Str.{bytes_eq}
use Rattle.pws_tree.specs.Names.{envelope_space}
use Rattle.pws_tree.specs.Trees.{Tree, Nodes, NoNode}
use Rattle.pws_soap.specs.Names.{envelope_word, header_word, body_word}
use Rattle.pws_soap.specs.Blocks.{is_well_marked, is_not_understood}
use Rattle.pws_soap.specs.Envelopes.{Enveloped, Parts, soap_tree, element_then, nodes_of_trees, header_then, elements, are_texts_white, parts_of, blocks_then, blocks_of, in_order, root_of, envelope_of, understood, not_understood}
use Rattle.pws_soap.specs.Laws.{RootsAreRead, EnvelopesReadBack, RootsTellApart}
use Rattle.pws_soap.specs.declared.errors.SoapError.{SoapError}
use Rattle.pws_soap.specs.declared.errors.SoapError.TheVariants as soap_error
use Rattle.pws_soap.proofs.Joined.{second_true, chosen}

pub elements_back : (ts : List Tree) → elements (nodes_of_trees ts) ≡ ts
elements_back [] = refl
elements_back (t ∷ ts) = ap (λ z. t ∷ z) (elements_back ts)

pub texts_white : (ts : List Tree) → are_texts_white (nodes_of_trees ts) ≡ true
texts_white [] = refl
texts_white (t ∷ ts) = texts_white ts

abbrev pub marked : Enveloped → Option Enveloped
marked e = if list_all is_well_marked e.headers then Some e else None

-- the parts of a root
abbrev pub root_parts : Enveloped → Parts
root_parts e = record { header = nodes_of_trees e.headers; body = e.body }

pub parts_back : (headers : List Tree) (body : Nodes) → parts_of (elements (header_then headers (element_then (soap_tree body_word body) NoNode))) ≡ Some (record { header = nodes_of_trees headers; body = body })
unfolding envelope_space header_word body_word
parts_back [] body = refl
parts_back (t ∷ ts) body = refl

white_root : (headers : List Tree) (body : Nodes) → are_texts_white (header_then headers (element_then (soap_tree body_word body) NoNode)) ≡ true
white_root [] body = refl
white_root (t ∷ ts) body = refl

blocks_back : (e : Enveloped) → blocks_then (root_parts e) ≡ marked e
blocks_back e =
    ap (λ w. if w && list_all is_well_marked (elements (nodes_of_trees e.headers)) then Some (let d : Enveloped = record { headers = elements (nodes_of_trees e.headers); body = e.body } in d) else None) (texts_white e.headers)
    ∙ ap (λ hs. if list_all is_well_marked hs then Some (let d : Enveloped = record { headers = hs; body = e.body } in d) else None) (elements_back e.headers)

order_back : (e : Enveloped) → in_order (root_of e).children ≡ marked e
order_back e =
    ap (λ w. if w then blocks_of (parts_of (elements (root_of e).children)) else None) (white_root e.headers e.body)
    ∙ (ap blocks_of (parts_back e.headers e.body) ∙ blocks_back e)

pub root_read : RootsAreRead
unfolding envelope_of envelope_space envelope_word
root_read e = ap understood (order_back e)

-- an envelope that was read is marked, and none of its header blocks is refused
record WasRead (t : Tree) (e : Enveloped) : Type 0 where
  order : in_order t.children ≡ Some e
  found : find is_not_understood e.headers ≡ None

abbrev or_ok : Enveloped → Result Enveloped SoapError → Enveloped
or_ok d (Ok e) = e
or_ok d (Err x) = d

by_find : (d e : Enveloped) (found : Option Tree) → find is_not_understood d.headers ≡ found → not_understood d found ≡ Ok e → (d ≡ e) × (find is_not_understood d.headers ≡ None)
by_find d e None at h = (let f : Result Enveloped SoapError → Enveloped = or_ok d in (λ i. f (h i)), at)
by_find d e (Some block) at h = let f : ◌≡◌ {A = Result Enveloped SoapError} (Err (soap_error.MustUnderstand block.name)) (Ok e) = h in cc

by_order : (children : Nodes) (found : Option Enveloped) (e : Enveloped) → in_order children ≡ found → understood found ≡ Ok e → (in_order children ≡ Some e) × (find is_not_understood e.headers ≡ None)
by_order children None e at h = let f : ◌≡◌ {A = Result Enveloped SoapError} (Err soap_error.Order) (Ok e) = h in cc
by_order children (Some d) e at h =
    let both = by_find d e (find is_not_understood d.headers) refl h in
    (at ∙ ap (λ z. Some z) both.0, ap (λ z. find is_not_understood z.headers) (sym both.0) ∙ both.1)

was_read : (t : Tree) (e : Enveloped) → envelope_of t ≡ Ok e → (in_order t.children ≡ Some e) × (find is_not_understood e.headers ≡ None)
unfolding envelope_of
was_read t e h = by_names (bytes_eq t.name.local envelope_word) (bytes_eq t.name.space envelope_space) h
  where
    by_names : (named spaced : Bool) → (if not named then Err soap_error.NotEnvelope else if not spaced then Err soap_error.Version else understood (in_order t.children)) ≡ Ok e → (in_order t.children ≡ Some e) × (find is_not_understood e.headers ≡ None)
    by_names false spaced g = let f : ◌≡◌ {A = Result Enveloped SoapError} (Err soap_error.NotEnvelope) (Ok e) = g in cc
    by_names true false g = let f : ◌≡◌ {A = Result Enveloped SoapError} (Err soap_error.Version) (Ok e) = g in cc
    by_names true true g = by_order t.children (in_order t.children) e refl g

-- what is in order is marked
was_marked : (children : Nodes) (e : Enveloped) → in_order children ≡ Some e → list_all is_well_marked e.headers ≡ true
was_marked children e h = by_white (are_texts_white children) h
  where
    by_parts : (found : Option Parts) → blocks_of found ≡ Some e → list_all is_well_marked e.headers ≡ true
    by_parts None g = let f : ◌≡◌ {A = Option Enveloped} None (Some e) = g in cc
    by_parts (Some p) g =
        let c = chosen (are_texts_white p.header && list_all is_well_marked (elements p.header)) (let d : Enveloped = record { headers = elements p.header; body = p.body } in d) e g in
        ap (λ z. list_all is_well_marked z.headers) (sym c.is) ∙ second_true (are_texts_white p.header) (list_all is_well_marked (elements p.header)) c.asked

    by_white : (white : Bool) → (if white then blocks_of (parts_of (elements children)) else None) ≡ Some e → list_all is_well_marked e.headers ≡ true
    by_white true g = by_parts (parts_of (elements children)) g
    by_white false g = let f : ◌≡◌ {A = Option Enveloped} None (Some e) = g in cc

pub read_back : EnvelopesReadBack
read_back t e h =
    let both = was_read t e h in
    let marks = was_marked t.children e both.0 in
    root_read e ∙ (ap (λ b. understood (if b then Some e else None)) marks ∙ ap (not_understood e) both.1)

abbrev pub seen_in : Tree → Option Enveloped
seen_in t = option_map (λ p. let d : Enveloped = record { headers = elements p.header; body = p.body } in d) (parts_of (elements t.children))

seen_back : (e : Enveloped) → seen_in (root_of e) ≡ Some e
seen_back e =
    ap (option_map (λ p. let d : Enveloped = record { headers = elements p.header; body = p.body } in d)) (parts_back e.headers e.body)
    ∙ ap (λ hs. Some (let d : Enveloped = record { headers = hs; body = e.body } in d)) (elements_back e.headers)

pub roots_apart : RootsTellApart
roots_apart d e = (
  λ h. some_same d e (sym (seen_back d) ∙ (ap seen_in h ∙ seen_back e)),
  λ h. ap root_of h,
)
  where
    some_same : (d e : Enveloped) → Some d ≡ Some e → d ≡ e
    some_same d e h = cc
