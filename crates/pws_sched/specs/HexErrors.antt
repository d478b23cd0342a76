-- Which answer of `decode_lower` stands for an error of the crate hex; this project's own rule.
use Rattle.hex.specs.declared.error.FromHexError.{FromHexError}
use Rattle.hex.specs.declared.error.FromHexError.TheVariants.{InvalidHexCharacter, OddLength, InvalidStringLength, OutOfMemory}
use Rattle.pws_sched.specs.declared.hexadecimal.HexError.{HexError}
use Rattle.pws_sched.specs.declared.hexadecimal.HexError.TheVariants as hex_error

-- a text that doesn't decode isn't in hexadecimal, and want of memory stays what it is
abbrev pub hex_error_of : FromHexError → HexError
hex_error_of OutOfMemory = hex_error.Memory
hex_error_of (InvalidHexCharacter c index) = hex_error.NotHexadecimal
hex_error_of OddLength = hex_error.NotHexadecimal
hex_error_of InvalidStringLength = hex_error.NotHexadecimal
