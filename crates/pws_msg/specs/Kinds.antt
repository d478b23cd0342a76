-- The kinds of contents, in one table: the byte and the name of each; this project's own format.
use Rattle.std.specs.Prelude.{ℕ, ◌==◌, if◌then◌else◌, List, codes, Option, Some, None}
use Rattle.pws_msg.specs.declared.kinds.Kind.{Kind}
use Rattle.pws_msg.specs.declared.kinds.Kind.TheVariants as kind

-- the byte of a kind
abbrev pub kind_byte : Kind → ℕ
kind_byte kind.Request = 1
kind_byte kind.Reply = 2
kind_byte kind.Part = 3
kind_byte kind.Expired = 4
kind_byte kind.Reading = 5
kind_byte kind.PrePrepare = 6
kind_byte kind.Prepare = 7
kind_byte kind.Commit = 8
kind_byte kind.Checkpoint = 9
kind_byte kind.ViewChange = 10
kind_byte kind.Ack = 11
kind_byte kind.NewView = 12
kind_byte kind.Relay = 13
kind_byte kind.Fetch = 14
kind_byte kind.Done = 15
kind_byte kind.Need = 16
kind_byte kind.Give = 17

-- the name of a kind
abbrev pub kind_name : Kind → List ℕ
kind_name kind.Request = codes "REQ"
kind_name kind.Reply = codes "REPLY"
kind_name kind.Part = codes "PART"
kind_name kind.Expired = codes "EXPIRED"
kind_name kind.Reading = codes "READING"
kind_name kind.PrePrepare = codes "PRE_PREPARE"
kind_name kind.Prepare = codes "PREPARE"
kind_name kind.Commit = codes "COMMIT"
kind_name kind.Checkpoint = codes "CHECKPOINT"
kind_name kind.ViewChange = codes "VIEW_CHANGE"
kind_name kind.Ack = codes "ACK"
kind_name kind.NewView = codes "NEW_VIEW"
kind_name kind.Relay = codes "RELAY"
kind_name kind.Fetch = codes "FETCH"
kind_name kind.Done = codes "DONE"
kind_name kind.Need = codes "NEED"
kind_name kind.Give = codes "GIVE"

-- the kind of a byte, where one has it
unfoldable pub kind_with : ℕ → Option Kind
kind_with byte =
    if byte == 1 then Some kind.Request
    else if byte == 2 then Some kind.Reply
    else if byte == 3 then Some kind.Part
    else if byte == 4 then Some kind.Expired
    else if byte == 5 then Some kind.Reading
    else if byte == 6 then Some kind.PrePrepare
    else if byte == 7 then Some kind.Prepare
    else if byte == 8 then Some kind.Commit
    else if byte == 9 then Some kind.Checkpoint
    else if byte == 10 then Some kind.ViewChange
    else if byte == 11 then Some kind.Ack
    else if byte == 12 then Some kind.NewView
    else if byte == 13 then Some kind.Relay
    else if byte == 14 then Some kind.Fetch
    else if byte == 15 then Some kind.Done
    else if byte == 16 then Some kind.Need
    else if byte == 17 then Some kind.Give
    else None
