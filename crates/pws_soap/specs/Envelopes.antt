-- Envelopes, and which tree is one (SOAP 1.2 Part 1, sections 5.1 to 5.3). The order of the refusals, and that white
-- space beside the parts isn't kept, are this project's own.
use Rattle.std.specs.Prelude.{◌≡◌, ℕ, Bool, true, not, ◌&&◌, if◌then◌else◌, List, [], ◌∷◌, Option, Some, None, Result, Ok, Err}
use Rattle.std.specs.List.{list_all, find}
use Rattle.std.specs.Str.{bytes_eq}
use Rattle.pws_tree.specs.Names.{envelope_space}
use Rattle.pws_tree.specs.Trees.{Tree, Nodes, NoNode, TextThen, QualifiedThen, ElementThen}
use Rattle.pws_soap.specs.Names.{soap_name, is_soap_name, envelope_word, header_word, body_word}
use Rattle.pws_soap.specs.Blocks.{is_well_marked, is_not_understood}
use Rattle.pws_soap.specs.White.{is_all_white}
use Rattle.pws_soap.specs.declared.errors.SoapError.{SoapError}
use Rattle.pws_soap.specs.declared.errors.SoapError.TheVariants as soap_error

-- header blocks, and what the body contains
pub record Enveloped : Type 0 where
  pub headers : List Tree
  pub body : Nodes

-- an element of the envelope namespace without attributes
abbrev pub soap_tree : List ℕ → Nodes → Tree
soap_tree local children = record { name = soap_name local; attrs = []; children = children }

abbrev pub element_then : Tree → Nodes → Nodes
element_then t rest = ElementThen t.name t.attrs t.children rest

abbrev pub nodes_of_trees : List Tree → Nodes
nodes_of_trees [] = NoNode
nodes_of_trees (t ∷ ts) = element_then t (nodes_of_trees ts)

-- a Header is left out where there are no header blocks
abbrev pub header_then : List Tree → Nodes → Nodes
header_then [] rest = rest
header_then (t ∷ ts) rest = element_then (soap_tree header_word (nodes_of_trees (t ∷ ts))) rest

-- the root that is written for an envelope
abbrev pub root_of : Enveloped → Tree
root_of e = soap_tree envelope_word (header_then e.headers (element_then (soap_tree body_word e.body) NoNode))

-- the elements among children
abbrev pub elements : Nodes → List Tree
elements NoNode = []
elements (TextThen t rest) = elements rest
elements (QualifiedThen n rest) = elements rest
elements (ElementThen n attrs inner rest) = record { name = n; attrs = attrs; children = inner } ∷ elements rest

-- no text among children has other than white space
abbrev pub are_texts_white : Nodes → Bool
are_texts_white NoNode = true
are_texts_white (TextThen t rest) = is_all_white t && are_texts_white rest
are_texts_white (QualifiedThen n rest) = are_texts_white rest
are_texts_white (ElementThen n attrs inner rest) = are_texts_white rest

-- what a Header and a Body contain
pub record Parts : Type 0 where
  pub header : Nodes
  pub body : Nodes

-- an optional Header and one Body, in this order, and nothing else
abbrev pub parts_of : List Tree → Option Parts
parts_of [] = None
parts_of (b ∷ []) = if is_soap_name body_word b.name then Some (record { header = NoNode; body = b.children }) else None
parts_of (h ∷ b ∷ []) =
    if is_soap_name header_word h.name && is_soap_name body_word b.name then Some (record { header = h.children; body = b.children }) else None
parts_of (a ∷ b ∷ c ∷ more) = None

-- the header blocks, where no text stands among them and their marks have truth values
abbrev pub blocks_then : Parts → Option Enveloped
blocks_then p =
    if are_texts_white p.header && list_all is_well_marked (elements p.header) then Some (record { headers = elements p.header; body = p.body })
    else None

abbrev pub blocks_of : Option Parts → Option Enveloped
blocks_of None = None
blocks_of (Some p) = blocks_then p

-- what stands in an envelope with these children, where they are in order
abbrev pub in_order : Nodes → Option Enveloped
in_order children = if are_texts_white children then blocks_of (parts_of (elements children)) else None

abbrev pub not_understood : Enveloped → Option Tree → Result Enveloped SoapError
not_understood e None = Ok e
not_understood e (Some block) = Err (soap_error.MustUnderstand block.name)

-- the first header block for this node that isn't understood refuses
abbrev pub understood : Option Enveloped → Result Enveloped SoapError
understood None = Err soap_error.Order
understood (Some e) = not_understood e (find is_not_understood e.headers)

-- the envelope that a tree is, or the first cause of refusal
unfoldable pub envelope_of : Tree → Result Enveloped SoapError
envelope_of t =
    if not (bytes_eq t.name.local envelope_word) then Err soap_error.NotEnvelope
    else if not (bytes_eq t.name.space envelope_space) then Err soap_error.Version
    else understood (in_order t.children)

-- that is answered; for want of memory there is no rule
abbrev pub Answers : Result Enveloped SoapError → Result Enveloped SoapError → Type 0
Answers wanted (Err soap_error.Memory) = Unit {0}
Answers wanted answer = wanted ≡ answer
