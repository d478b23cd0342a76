-- The packets that a replica makes; this project's own rules.
use Rattle.std.specs.Prelude.{ℕ, ◌+◌, ◌%◌, ◌==◌, Bool, if◌then◌else◌, List, [], ◌∷◌, Option, Some, None}
use Rattle.sha2.specs.Sha256.{sha256}
use Rattle.pws_auth.specs.Keys.{tags_for}
use Rattle.pws_service.specs.declared.keys.Key.{Key}
use Rattle.pws_msg.specs.Contents.{content_text}
use Rattle.pws_msg.specs.Packets.{VoucherFields, PacketFields}
use Rattle.pws_msg.specs.Statements.{ReplyNoteFields}
use Rattle.pws_msg.specs.declared.contents.Content.{Content}
use Rattle.pws_msg.specs.declared.contents.Content.TheVariants as content
use Rattle.pws_runs.specs.ReplicaStates.{ReplicaState, Output, Send, own_f, own_size}

-- my tags over a content for each replica of a group
abbrev pub sealed : ReplicaState → ℕ → Content → List (List ℕ)
sealed s group c = tags_for s.keys s.me (content_text c) group

-- my packet to a group
unfoldable pub packet_with : ReplicaState → ℕ → Content → Option (List ℕ) → List VoucherFields → PacketFields
packet_with s group c body vouchers = record { sender = s.me; receiver = group; content = c; tags = sealed s group c; body = body; vouchers = vouchers }

-- a statement to a whole group; to one replica of it
abbrev pub to_group : ReplicaState → ℕ → Content → List VoucherFields → Output
to_group s group c vouchers = Send group None (packet_with s group c None vouchers)

-- a statement to one replica of a group
abbrev pub to_one : ReplicaState → ℕ → ℕ → Content → List VoucherFields → Output
to_one s group index c vouchers = Send group (Some index) (packet_with s group c None vouchers)

-- a statement to my whole group; a group of one sends nothing to itself
abbrev pub to_own : ReplicaState → Content → List VoucherFields → List Output
to_own s c vouchers = if own_f s == 0 then [] else to_group s s.me.group c vouchers ∷ []

-- what is told of a reply: whose request it answers, and the digest of its body
abbrev pub note_of : Key → List ℕ → ReplyNoteFields
note_of k body = record { caller = k.group; number = k.number; digest = sha256 body }

-- my REPLY with its body, and with vouchers of others, to the caller's group or one replica of it
abbrev pub reply_out : ReplicaState → Key → List ℕ → Option ℕ → List VoucherFields → Output
reply_out s k body to vouchers = Send k.group to (packet_with s k.group (content.Reply (note_of k body)) (Some body) vouchers)

-- the index of the replica that gathers the parts of a reply; whether it is me
abbrev pub responder : ReplicaState → Key → ℕ
responder s k = (k.group + k.number) % own_size s

-- whether that replica is me
abbrev pub is_responder : ReplicaState → Key → Bool
is_responder s k = responder s k == s.me.index

-- my REPLY, sealed for the caller's group
abbrev own_voucher : ReplicaState → Key → List ℕ → VoucherFields
own_voucher s k body = record { sender = s.me; content = content.Reply (note_of k body); tags = sealed s k.group (content.Reply (note_of k body)) }

-- my PART to the responder, with that voucher
abbrev pub part_out : ReplicaState → Key → List ℕ → Output
part_out s k body = to_one s s.me.group (responder s k) (content.Part (note_of k body)) (own_voucher s k body ∷ [])
