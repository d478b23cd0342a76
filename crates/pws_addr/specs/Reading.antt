-- What the addressing headers for this node say (WS-Addressing 1.0 Core, section 3; SOAP Binding, section 3). The order of
-- the refusals, and that reference parameters and blocks for the role none aren't looked at, are this project's own.
use Rattle.std.specs.Prelude.{◌≡◌, ℕ, Bool, not, ◌&&◌, if◌then◌else◌, nat_lt, List, [], ◌∷◌, ◌++◌, length, filter, find, Option, Some, None, is_some, unwrap_or, option_and_then, Result, Ok, Err}
use Rattle.std.specs.List.{list_any, filter_map}
use Rattle.std.specs.Option.{option_map}
use Rattle.pws_tree.specs.Lawful.{is_empty}
use Rattle.pws_tree.specs.Trees.{Tree, Nodes, NoNode, TextThen, QualifiedThen, ElementThen}
use Rattle.pws_tree.specs.declared.texts.Attr.{Attr}
use Rattle.pws_soap.specs.Blocks.{is_for_node}
use Rattle.pws_soap.specs.Envelopes.{elements}
use Rattle.pws_soap.specs.Names.{addressing_space, is_named}
use Rattle.pws_soap.specs.White.{trim}
use Rattle.pws_addr.specs.Blocks.{address_word, relationship_word, holds_address}
use Rattle.pws_addr.specs.Headers.{anonymous, reply_relation, header_local, header_name}
use Rattle.pws_addr.specs.declared.headers.Header.{Header}
use Rattle.pws_addr.specs.declared.headers.Header.TheVariants as header
use Rattle.pws_addr.specs.declared.headers.Relation.{Relation}
use Rattle.pws_addr.specs.declared.headers.Addressing.{Addressing}
use Rattle.pws_addr.specs.declared.reading.AddrError.{AddrError}
use Rattle.pws_addr.specs.declared.reading.AddrError.TheVariants as addr_error

-- whether a header block is this header, for this node
abbrev pub is_block : Header → Tree → Bool
is_block h block = is_for_node block && is_named addressing_space (header_local h) block.name

-- the text, where there is a character
abbrev pub some_text : List ℕ → Option (List ℕ)
some_text [] = None
some_text (c ∷ cs) = Some (c ∷ cs)

-- the text that is the only child
abbrev pub only_text : Nodes → Option (List ℕ)
only_text NoNode = None
only_text (TextThen t rest) = if is_empty rest then Some t else None
only_text (QualifiedThen n rest) = None
only_text (ElementThen n attrs inner rest) = None

-- what content says that is one text with more than white space: that text without the white space round it
abbrev pub text_said : Nodes → Option (List ℕ)
text_said children = option_and_then (λ t. some_text (trim t)) (only_text children)

abbrev pub is_address : Tree → Bool
is_address t = is_named addressing_space address_word t.name

abbrev pub only_of : List Tree → Option Tree
only_of [] = None
only_of (t ∷ []) = Some t
only_of (t ∷ u ∷ more) = None

-- there has to be one child Address; others may stand beside it
abbrev pub address_said : Nodes → Option (List ℕ)
address_said children = option_and_then (λ t. text_said t.children) (only_of (filter is_address (elements children)))

-- what a header says: its own text, or that of its child Address
abbrev pub said : Header → Tree → Option (List ℕ)
said h block = if holds_address h then address_said block.children else text_said block.children

-- Core, section 3.2: the relation, which is that of a reply where none is told
abbrev pub is_relationship : Attr → Bool
is_relationship a = is_named [] relationship_word a.name

abbrev pub kind_said : List Attr → List ℕ
kind_said attrs = unwrap_or (option_map (λ a. a.value) (find is_relationship attrs)) reply_relation

abbrev pub relation_said : Tree → Option Relation
relation_said block = option_map (λ id. record { kind = kind_said block.attrs; id = id }) (said header.RelatesTo block)

-- what the first of these headers says
abbrev pub first_said : Header → List Tree → Option (List ℕ)
first_said h headers = option_and_then (said h) (find (is_block h) headers)

-- where To is absent the message goes to the anonymous address
abbrev pub all_said : List Tree → Addressing
all_said headers = record {
  to = unwrap_or (first_said header.To headers) anonymous;
  action = unwrap_or (first_said header.Action headers) [];
  message_id = first_said header.MessageId headers;
  relates_to = filter_map relation_said (filter (is_block header.RelatesTo) headers);
  reply_to = first_said header.ReplyTo headers;
  from = first_said header.From headers;
  fault_to = first_said header.FaultTo headers;
}

-- the headers that stand once at most, and all, in the order in which refusals are looked for
abbrev pub single_headers : List Header
single_headers = header.To ∷ header.From ∷ header.ReplyTo ∷ header.FaultTo ∷ header.Action ∷ header.MessageId ∷ []

abbrev pub all_headers : List Header
all_headers = single_headers ++ header.RelatesTo ∷ []

abbrev pub is_twice : List Tree → Header → Bool
is_twice headers h = nat_lt 1 (length (filter (is_block h) headers))

abbrev pub is_invalid : List Tree → Header → Bool
is_invalid headers h = list_any (λ block. is_block h block && not (is_some (said h block))) headers

-- the first header that says nothing is refused
abbrev pub valid : List Tree → Option Header → Result Addressing AddrError
valid headers None = Ok (all_said headers)
valid headers (Some h) = Err (addr_error.Invalid (header_name h))

-- before it, that there is no Action
abbrev pub required : List Tree → Result Addressing AddrError
required headers = if list_any (is_block header.Action) headers then valid headers (find (is_invalid headers) all_headers) else Err addr_error.Required

-- and before that the first header that stands twice
abbrev pub single : List Tree → Option Header → Result Addressing AddrError
single headers None = required headers
single headers (Some h) = Err (addr_error.Cardinality (header_name h))

-- the addressing that these header blocks say, or the first cause of refusal
unfoldable pub addressing_of : List Tree → Result Addressing AddrError
addressing_of headers = single headers (find (is_twice headers) single_headers)

-- that is answered; for want of memory there is no rule
abbrev pub Answers : Result Addressing AddrError → Result Addressing AddrError → Type 0
Answers wanted (Err addr_error.Memory) = Unit {0}
Answers wanted answer = wanted ≡ answer
