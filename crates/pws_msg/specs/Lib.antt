-- to believe, in the order of reading: what spells what
pub mod Wire
pub mod Rows
pub mod Reported
pub mod Statements
pub mod StatementTexts
pub mod Kinds
pub mod Contents
pub mod Rules
pub mod Packets
pub mod Spelling
pub mod RawPackets
-- what reading gives, and which refusal is first
pub mod Bytes
pub mod RowFields
pub mod StatementFields
pub mod ContentFields
pub mod PacketFields
pub mod PacketFaults
-- what a stream is
pub mod Frames
pub mod Deframing
pub mod Feeds
-- what follows
pub mod Laws
-- here for the proofs alone
pub mod Begun
pub mod Pieces
pub mod Same
