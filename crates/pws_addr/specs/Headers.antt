-- The addressing headers (WS-Addressing 1.0 Core, section 3).
use Rattle.std.specs.Prelude.{ℕ, List, codes}
use Rattle.pws_tree.specs.declared.texts.Name.{Name}
use Rattle.pws_soap.specs.Names.{addressing_space}
use Rattle.pws_addr.specs.declared.headers.Header.{Header}
use Rattle.pws_addr.specs.declared.headers.Header.TheVariants as header

-- section 3.2: the address of a message without To, and of its reply without ReplyTo: the sender's own connection
unfoldable pub anonymous : List ℕ
anonymous = codes "http://www.w3.org/2005/08/addressing/anonymous"

-- section 3.2: the relation of a reply, which holds where no other is told
unfoldable pub reply_relation : List ℕ
reply_relation = codes "http://www.w3.org/2005/08/addressing/reply"

-- section 3.2: the local parts of the headers' names
unfoldable pub header_local : Header → List ℕ
header_local header.To = codes "To"
header_local header.From = codes "From"
header_local header.ReplyTo = codes "ReplyTo"
header_local header.FaultTo = codes "FaultTo"
header_local header.Action = codes "Action"
header_local header.MessageId = codes "MessageID"
header_local header.RelatesTo = codes "RelatesTo"

-- a name of the addressing namespace
abbrev pub addressing_name : List ℕ → Name
addressing_name local = record { space = addressing_space; local = local }

abbrev pub header_name : Header → Name
header_name h = addressing_name (header_local h)
