-- What is put into an envelope is what is read there, what one driver writes the other reads, and what drivers make fits into
-- a body.
use Rattle.std.specs.Prelude.{◌≡◌, ℕ, ◌≤◌, Bool, not, ◌&&◌, List, [], ◌∷◌, ◌++◌, map, filter, length, Option, Some, None, Ok, IsTrue}
use Rattle.std.specs.List.{list_all}
use Rattle.std.specs.Option.{option_to_list}
use Rattle.std.specs.Str.{bytes_eq}
use Rattle.pws_tree.specs.Trees.{Tree}
use Rattle.pws_soap.specs.Blocks.{is_for_node, is_addressing_header}
use Rattle.pws_soap.specs.Envelopes.{envelope_of, root_of}
use Rattle.pws_soap.specs.White.{trim}
use Rattle.pws_addr.specs.Blocks.{blocks_of}
use Rattle.pws_addr.specs.Envelopes.{addressed, call_addressing, call_text, reply_addressing, reply_text, fault_addressing, fault_text, bare_fault_text}
use Rattle.pws_addr.specs.Reading.{addressing_of}
use Rattle.pws_addr.specs.declared.causes.Cause.{Cause}
use Rattle.pws_addr.specs.declared.headers.Relation.{Relation}
use Rattle.pws_addr.specs.declared.headers.Addressing.{Addressing}

-- a header block that isn't an addressing header for this node
abbrev pub is_other : Tree → Bool
is_other block = not (is_for_node block && is_addressing_header block.name)

-- a text that a header can say: not empty, without white space round it
abbrev pub is_sayable : List ℕ → Bool
is_sayable text = not (bytes_eq text []) && bytes_eq (trim text) text

-- all that an addressing says in the texts of its headers
abbrev pub texts_of : Addressing → List (List ℕ)
texts_of a =
    a.to ∷ a.action ∷ []
    ++ option_to_list a.message_id
    ++ map (λ (r : Relation). r.id) a.relates_to
    ++ option_to_list a.reply_to
    ++ option_to_list a.from
    ++ option_to_list a.fault_to

-- behind header blocks that are other ones, the blocks of an addressing say it
abbrev pub PutIsRead : Type 0
PutIsRead = (headers : List Tree) (a : Addressing) → IsTrue (list_all is_other headers) → IsTrue (list_all is_sayable (texts_of a)) → addressing_of (headers ++ blocks_of a) ≡ Ok a

-- the blocks of an addressing, alone, say it
abbrev pub SaysItself : Addressing → Type 0
SaysItself a = addressing_of (blocks_of a) ≡ Ok a

-- what was read is read again from the blocks of it
abbrev pub ReadIsReadAgain : Type 0
ReadIsReadAgain = (headers : List Tree) (a : Addressing) → addressing_of headers ≡ Ok a → SaysItself a

-- what was read says only texts that a header can say
abbrev pub ReadIsSayable : Type 0
ReadIsSayable = (headers : List Tree) (a : Addressing) → addressing_of headers ≡ Ok a → IsTrue (list_all is_sayable (texts_of a))

-- the header blocks for this node alone count
abbrev pub OursCount : Type 0
OursCount = (headers : List Tree) → addressing_of (filter is_for_node headers) ≡ addressing_of headers

-- an envelope with the header blocks of an addressing, round whatever element, is read as that envelope: none of them is
-- refused, since they are the addressing headers
abbrev pub AddressedAreRead : Type 0
AddressedAreRead = (a : Addressing) (t : Tree) → envelope_of (root_of (addressed a t)) ≡ Ok (addressed a t)

-- and the addressing that is read from a call is the one with which it was made
abbrev pub CallsAreRead : Type 0
CallsAreRead = (me called number : ℕ) → SaysItself (call_addressing me called number)

-- what an answer takes from the addressing of a request, where it has one: the identifier to which it relates, and the
-- address to which it goes
abbrev pub texts_taken : Option Addressing → List (List ℕ)
texts_taken None = []
texts_taken (Some a) = option_to_list a.message_id ++ option_to_list a.reply_to

-- the addressing that is read from a reply, and from a fault, is the one with which it was made
abbrev pub RepliesAreRead : Type 0
RepliesAreRead = (me caller number : ℕ) (request : Option Addressing) → IsTrue (list_all is_sayable (texts_taken request)) → SaysItself (reply_addressing me caller number request)

abbrev pub FaultsAreRead : Type 0
FaultsAreRead = (me caller number : ℕ) (request : Option Addressing) → IsTrue (list_all is_sayable (texts_taken request)) → SaysItself (fault_addressing me caller number request)

-- and so it is wherever the addressing of the request was read
abbrev pub AnswersAreRead : Type 0
AnswersAreRead =
    (me caller number : ℕ) (headers : List Tree) (request : Addressing) → addressing_of headers ≡ Ok request
    → SaysItself (reply_addressing me caller number (Some request)) × SaysItself (fault_addressing me caller number (Some request))

-- calls, faults and replies have at most 32,768 bytes, whatever the numbers
abbrev pub CallsFit : Type 0
CallsFit = (me called number : ℕ) (text body : List ℕ) → call_text me called number text ≡ Some body → length body ≤ 32768

abbrev pub FaultsFit : Type 0
FaultsFit = (me caller number : ℕ) (addressing : Option Addressing) (c : Cause) → length (fault_text me caller number addressing c) ≤ 32768

abbrev pub RepliesFit : Type 0
RepliesFit = (me caller number : ℕ) (addressing : Option Addressing) (text : List ℕ) → length (reply_text me caller number addressing text) ≤ 32768

abbrev pub BareFaultsFit : Type 0
BareFaultsFit = (c : Cause) → length (bare_fault_text c) ≤ 32768
