-- What follows from the formats alone; this project's own.
use Rattle.std.specs.Prelude.{◌≡◌, ◌↔◌, ℕ, List, ◌++◌, Ok}
use Rattle.pws_msg.specs.Bytes.{IsBytes}
use Rattle.pws_msg.specs.Frames.{IsStream, IsBroken}
use Rattle.pws_msg.specs.Contents.{IsContent, content_text}
use Rattle.pws_msg.specs.Packets.{PacketFields, IsPacket, packet_text}
use Rattle.pws_msg.specs.PacketFields.{packet_of}
use Rattle.pws_msg.specs.RawPackets.{raw_packet_of, raw_packet_text}
use Rattle.pws_msg.specs.Spelling.{Spells}
use Rattle.pws_msg.specs.declared.contents.Content.{Content}

-- bytes are the stream of one list of packets and one rest
abbrev pub StreamsAreOne : Type 0
StreamsAreOne = (bytes : List ℕ) (packets others : List (List ℕ)) (rest other : List ℕ) → IsStream bytes packets rest → IsStream bytes others other → (packets ≡ others) × (rest ≡ other)

-- they are broken at one place, after one list of packets
abbrev pub BreaksAreOne : Type 0
BreaksAreOne = (bytes : List ℕ) (packets others : List (List ℕ)) (at other : ℕ) → IsBroken bytes packets at → IsBroken bytes others other → (packets ≡ others) × (at ≡ other)

-- what is broken is the beginning of no stream
abbrev pub NoStreamIsBroken : Type 0
NoStreamIsBroken = (bytes more : List ℕ) (packets others : List (List ℕ)) (at : ℕ) (rest : List ℕ) → IsBroken bytes packets at → IsStream (bytes ++ more) others rest → ⊥

-- a packet whose fields are in range is what reading its spelling gives
abbrev pub PacketsReadBack : Type 0
PacketsReadBack = (p : PacketFields) → IsPacket p → packet_of (packet_text p) ≡ Ok p

-- what reading bytes gives has its fields in range, and these bytes are its spelling
abbrev pub PacketsWriteBack : Type 0
PacketsWriteBack = (bytes : List ℕ) (p : PacketFields) → IsBytes bytes → packet_of bytes ≡ Ok p → IsPacket p × (packet_text p ≡ bytes)

-- reading bytes gives a packet exactly where they spell it
abbrev pub ReadsWhatIsSpelled : Type 0
ReadsWhatIsSpelled = (bytes : List ℕ) (p : PacketFields) → IsBytes bytes → (packet_of bytes ≡ Ok p) ↔ Spells p bytes

-- bytes spell at most one packet
abbrev pub NoTextSpellsTwo : Type 0
NoTextSpellsTwo = (bytes : List ℕ) (p q : PacketFields) → Spells p bytes → Spells q bytes → p ≡ q

-- a packet whose fields are in range is spelled, by its one text
abbrev pub EachIsSpelled : Type 0
EachIsSpelled = (p : PacketFields) → IsPacket p → Spells p (packet_text p)

-- a packet is spelled by at most one text
abbrev pub OneSpelling : Type 0
OneSpelling = (p : PacketFields) (bytes others : List ℕ) → Spells p bytes → Spells p others → bytes ≡ others

-- two contents whose fields are in range have two texts
abbrev pub ContentsDiffer : Type 0
ContentsDiffer = (c d : Content) → IsContent c → IsContent d → content_text c ≡ content_text d → c ≡ d

-- the text of a packet whose parts needn't be lawful is, for a lawful packet, its spelling
abbrev pub LawfulIsRaw : Type 0
LawfulIsRaw = (p : PacketFields) → raw_packet_text (raw_packet_of p) ≡ packet_text p
