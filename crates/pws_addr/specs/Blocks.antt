-- The header blocks of an addressing (WS-Addressing 1.0 Core, section 3; SOAP Binding, section 3). That the order of the
-- blocks is this one, and that the type of a reply isn't written, are this project's own.
use Rattle.std.specs.Prelude.{ℕ, Bool, true, false, if◌then◌else◌, List, [], ◌∷◌, ◌++◌, map, codes}
use Rattle.std.specs.Option.{option_to_list}
use Rattle.std.specs.Str.{bytes_eq}
use Rattle.pws_tree.specs.Trees.{Tree, Nodes, NoNode}
use Rattle.pws_tree.specs.declared.texts.Attr.{Attr}
use Rattle.pws_soap.specs.Envelopes.{element_then}
use Rattle.pws_soap.specs.Faults.{text_nodes}
use Rattle.pws_addr.specs.Headers.{reply_relation, addressing_name, header_name}
use Rattle.pws_addr.specs.declared.headers.Header.{Header}
use Rattle.pws_addr.specs.declared.headers.Header.TheVariants as header
use Rattle.pws_addr.specs.declared.headers.Relation.{Relation}
use Rattle.pws_addr.specs.declared.headers.Addressing.{Addressing}

unfoldable pub address_word : List ℕ
address_word = codes "Address"

unfoldable pub relationship_word : List ℕ
relationship_word = codes "RelationshipType"

-- Core, section 2.2: these hold an endpoint reference, whose address is the text of a child
abbrev pub holds_address : Header → Bool
holds_address header.To = false
holds_address header.From = true
holds_address header.ReplyTo = true
holds_address header.FaultTo = true
holds_address header.Action = false
holds_address header.MessageId = false
holds_address header.RelatesTo = false

abbrev pub address_tree : List ℕ → Tree
address_tree text = record { name = addressing_name address_word; attrs = []; children = text_nodes text }

abbrev pub content_of : Header → List ℕ → Nodes
content_of h text = if holds_address h then element_then (address_tree text) NoNode else text_nodes text

-- the header block that says this text
abbrev pub block_of : Header → List Attr → List ℕ → Tree
block_of h attrs text = record { name = header_name h; attrs = attrs; children = content_of h text }

abbrev pub plain_block : Header → List ℕ → Tree
plain_block h text = block_of h [] text

-- an attribute in no namespace
abbrev pub relationship : List ℕ → Attr
relationship kind = record { name = record { space = []; local = relationship_word }; value = kind }

abbrev pub kind_attrs : List ℕ → List Attr
kind_attrs kind = if bytes_eq kind reply_relation then [] else relationship kind ∷ []

abbrev pub relation_block : Relation → Tree
relation_block r = block_of header.RelatesTo (kind_attrs r.kind) r.id

-- To, Action, MessageID, RelatesTo, ReplyTo, From and FaultTo in this order, those that are there
abbrev pub blocks_of : Addressing → List Tree
blocks_of a =
    plain_block header.To a.to ∷ plain_block header.Action a.action ∷ []
    ++ map (plain_block header.MessageId) (option_to_list a.message_id)
    ++ map relation_block a.relates_to
    ++ map (plain_block header.ReplyTo) (option_to_list a.reply_to)
    ++ map (plain_block header.From) (option_to_list a.from)
    ++ map (plain_block header.FaultTo) (option_to_list a.fault_to)
