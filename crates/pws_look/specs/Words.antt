-- The words of the program; this project's own.
use Rattle.std.specs.Prelude.{ℕ, Bool, true, false, if◌then◌else◌, List, [], ◌∷◌, codes, Option, Some, None}
use Rattle.std.specs.Option.{option_map}
use Rattle.std.specs.Str.{bytes_eq}
use Rattle.pws_look.specs.declared.words.Kind.{Kind}
use Rattle.pws_look.specs.declared.words.Kind.TheVariants as kind
use Rattle.pws_look.specs.declared.words.Command.{Command}

abbrev pub kind_named : List ℕ → Option Kind
kind_named word =
    if bytes_eq word (codes "event") then Some kind.Event
    else if bytes_eq word (codes "packet") then Some kind.Packet
    else if bytes_eq word (codes "envelope") then Some kind.Envelope
    else if bytes_eq word (codes "soap") then Some kind.Soap
    else if bytes_eq word (codes "script") then Some kind.Script
    else None

abbrev pub command_with : Bool → Option Kind → Option Command
command_with lines found = option_map (λ k. record { kind = k; lines = lines }) found

-- a kind, and then --lines or nothing
abbrev pub command_of : List (List ℕ) → Option Command
command_of (word ∷ []) = command_with false (kind_named word)
command_of (word ∷ second ∷ []) = if bytes_eq second (codes "--lines") then command_with true (kind_named word) else None
command_of words = None
