-- What a stop of the reader needs of where it is: what may be refused there, and which characters beyond ASCII it takes.
-- It is here for the proofs alone: no contract of another crate names it.
use Rattle.std.specs.Prelude.{◌≡◌, ℕ, ◌+◌, ◌-◌, ◌%◌, ◌≤◌, Bool, true, false, ◌&&◌, ◌||◌, ◌==◌, nat_le, nat_lt, if◌then◌else◌, List, [], ◌∷◌, slice_get, Option, Some, None}
use Rattle.std.specs.Option.{is_some}
use Rattle.pws_tree.specs.Characters.{is_xml_char, is_name_start, is_name_char, meets, xml_ranges, name_start_ranges, name_more_ranges}
use Rattle.pws_mark.specs.Outcome.{is_bang, question_before}
use Rattle.pws_mark.specs.ReaderLaws.{Shares, is_early_in, is_before}
use Rattle.pws_mark.specs.Scan.{region, run, start, step, is_within}
use Rattle.pws_mark.specs.States.{Open, Outer, State}
use Rattle.pws_mark.specs.declared.modes.Reference.{Reference}
use Rattle.pws_mark.specs.declared.modes.Reference.TheVariants as reference
use Rattle.pws_mark.specs.declared.modes.Region.{Region}
use Rattle.pws_mark.specs.declared.modes.Region.TheVariants as region_is
use Rattle.pws_mark.specs.declared.modes.Mode.{Mode}
use Rattle.pws_mark.specs.declared.modes.Mode.TheVariants as mode
use Rattle.pws_mark.specs.declared.stopping.BeyondAscii.{BeyondAscii}
use Rattle.pws_mark.specs.declared.stopping.BeyondAscii.TheVariants as beyond
use Rattle.pws_mark.specs.declared.stopping.Stand.{Stand}

-- whether a character is one of the set
abbrev pub is_among : BeyondAscii → ℕ → Bool
is_among beyond.Nothing c = false
is_among (beyond.One d) c = c == d
is_among beyond.NameStarts c = is_name_start c
is_among beyond.NameChars c = is_name_char c
is_among beyond.XmlChars c = is_xml_char c

-- in a name, where the next character has to start a part or not
abbrev pub beyond_name : Bool → BeyondAscii
beyond_name true = beyond.NameStarts
beyond_name false = beyond.NameChars

abbrev pub beyond_reference : Reference → BeyondAscii
beyond_reference reference.Begun = beyond.NameStarts
beyond_reference (reference.Entity name starts) = beyond_name starts
beyond_reference _ = beyond.Nothing

abbrev pub beyond_content : Region → BeyondAscii
beyond_content region_is.Inside = beyond.XmlChars
beyond_content _ = beyond.Nothing

abbrev pub beyond_opened : Region → BeyondAscii
beyond_opened region_is.Behind = beyond.Nothing
beyond_opened _ = beyond.NameStarts

abbrev pub beyond_comment : ℕ → BeyondAscii
beyond_comment n = if n == 2 then beyond.Nothing else beyond.XmlChars

abbrev pub beyond_one : Option ℕ → BeyondAscii
beyond_one None = beyond.Nothing
beyond_one (Some c) = beyond.One c

-- the character at a place of the innermost element's name
abbrev pub name_char_at : List Open → ℕ → Option ℕ
name_char_at [] n = None
name_char_at (x ∷ xs) n = slice_get x.name n

-- the characters beyond ASCII that are taken
abbrev pub beyond_ascii : Mode → Outer → BeyondAscii
beyond_ascii (mode.Start marked) o = if marked then beyond.One 0xFEFF else beyond.Nothing
beyond_ascii (mode.HeadOpened at) o = beyond.NameStarts
beyond_ascii (mode.Content n after_return) o = beyond_content (region o)
beyond_ascii (mode.TextReference at r) o = beyond_reference r
beyond_ascii (mode.Opened at) o = beyond_opened (region o)
beyond_ascii (mode.Comment n) o = beyond_comment n
beyond_ascii (mode.Section n after_return) o = beyond.XmlChars
beyond_ascii (mode.TagName tag starts) o = beyond_name starts
beyond_ascii (mode.InTag tag spaced) o = if spaced then beyond.NameStarts else beyond.Nothing
beyond_ascii (mode.AttributeName tag name starts) o = beyond_name starts
beyond_ascii (mode.Value tag name v) o = beyond.XmlChars
beyond_ascii (mode.ValueReference tag name v at r) o = beyond_reference r
beyond_ascii (mode.EndName n) o = beyond_one (name_char_at o.opens n)
beyond_ascii _ o = beyond.Nothing

-- what a stop needs
abbrev pub stand_of : Mode → Outer → Stand
stand_of m o = record {
  early = is_early_in m && is_before (region o);
  bang = is_bang m;
  within = is_within m;
  question = question_before m;
  beyond = beyond_ascii m o;
}

abbrev pub StandsAt : Stand → State → Type 0
StandsAt stand s = stand ≡ stand_of s.mode s.outer

-- the reader takes these characters beyond ASCII, and no others
abbrev pub TakesBeyond : State → BeyondAscii → Type 0
TakesBeyond s b = (c : ℕ) → 0x80 ≤ c → is_some (step s c) ≡ is_among b c

abbrev pub BeyondTells : Type 0
BeyondTells = (front : List ℕ) (s : State) → run start front ≡ Some s → TakesBeyond s (beyond_ascii s.mode s.outer)

-- whether one of the set has a number from the first to the last
abbrev pub has_between : BeyondAscii → ℕ → ℕ → Bool
has_between beyond.Nothing first last = false
has_between (beyond.One d) first last = nat_le first d && nat_le d last
has_between beyond.NameStarts first last = meets name_start_ranges first last
has_between beyond.NameChars first last = meets name_start_ranges first last || meets name_more_ranges first last
has_between beyond.XmlChars first last = meets xml_ranges first last

-- The characters that have the same number of bytes, and the same first ones, have numbers that follow one another (RFC
-- 3629, section 3): so many from a multiple of that on, without those below the least that has so many bytes.
abbrev pub has_alike : BeyondAscii → ℕ → ℕ → ℕ → Bool
has_alike b least count c =
    let start = c - c % count in
    has_between b (if nat_le start least then least else start) (start + (count - 1))

abbrev pub shared_of_two : BeyondAscii → ℕ → ℕ
shared_of_two b c = if has_alike b 0x80 64 c then 1 else 0

abbrev pub shared_of_three : BeyondAscii → ℕ → ℕ
shared_of_three b c =
    if has_alike b 0x800 64 c then 2
    else if has_alike b 0x800 4096 c then 1
    else 0

abbrev pub shared_of_four : BeyondAscii → ℕ → ℕ
shared_of_four b c =
    if has_alike b 0x10000 64 c then 3
    else if has_alike b 0x10000 4096 c then 2
    else if has_alike b 0x10000 262144 c then 1
    else 0

-- how many bytes of a character that isn't in the set are those of one that is
abbrev pub shared_by : BeyondAscii → ℕ → ℕ
shared_by b c =
    if nat_lt c 0x80 then 0
    else if nat_lt c 0x800 then shared_of_two b c
    else if nat_lt c 0x10000 then shared_of_three b c
    else shared_of_four b c

abbrev pub SharedTells : Type 0
SharedTells = (s : State) (b : BeyondAscii) (c : ℕ) → TakesBeyond s b → step s c ≡ None → Shares s c (shared_by b c)
