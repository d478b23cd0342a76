-- What a reader that takes one character after another notes as refused. It is here for the proofs: of other crates'
-- contracts it stands behind `tree_of` alone (`TreeOf`), where a law says what that means without it.
use Rattle.std.specs.Prelude.{◌↔◌, ℕ, ◌+◌, Bool, not, ◌&&◌, ◌||◌, ◌==◌, nat_le, if◌then◌else◌, List, [], ◌∷◌, ◌++◌, length, map, Option, Some, None, is_none, encode_utf8, Contains}
use Rattle.std.specs.List.{list_any}
use Rattle.pws_tree.specs.Characters.{is_name_start}
use Rattle.pws_tree.specs.declared.texts.Name.{Name}
use Rattle.std.specs.Str.{bytes_eq}
use Rattle.pws_mark.specs.Bindings.{Bindings, written_prefix, has_two_colons, is_bound, element_name, attribute_name, same_name, is_wrong_declaration}
use Rattle.pws_mark.specs.Faults.{Fault, is_wrong_name, first_place, is_value_name}
use Rattle.pws_mark.specs.Scan.{reference_step, name_has, step}
use Rattle.pws_mark.specs.States.{Open, Outer, State, bound_at, prefix_declared, read_bound, word_of}
use Rattle.pws_mark.specs.Values.{Marked, letters}
use Rattle.pws_mark.specs.declared.errors.MarkKind.{MarkKind}
use Rattle.pws_mark.specs.declared.errors.MarkKind.TheVariants as kind
use Rattle.pws_mark.specs.declared.modes.ReadAttribute.{ReadAttribute}
use Rattle.pws_mark.specs.declared.modes.ReadTag.{ReadTag}
use Rattle.pws_mark.specs.declared.modes.ReferenceStep.{ReferenceStep}
use Rattle.pws_mark.specs.declared.modes.ReferenceStep.TheVariants as stepped
use Rattle.pws_mark.specs.declared.modes.Mode.{Mode}
use Rattle.pws_mark.specs.declared.modes.Mode.TheVariants as mode

-- what is refused, and its place
abbrev pub if_found : Bool → MarkKind → ℕ → List (MarkKind × ℕ)
if_found wrong k at = if wrong then (k, at) ∷ [] else []

abbrev pub is_wrong_read : Bindings → ReadAttribute → Option (List ℕ) → Bool
is_wrong_read m a None = is_wrong_name m a.name
is_wrong_read m a (Some prefix) = has_two_colons a.name || is_wrong_declaration prefix a.value

abbrev pub read_name : Bindings → List ℕ → Option Name
read_name m name = if is_none (prefix_declared name) then attribute_name m name else None

abbrev pub are_read_twice : Bindings → ReadAttribute → ReadAttribute → Bool
are_read_twice m a b = bytes_eq a.name b.name || same_name (read_name m a.name) (read_name m b.name)

abbrev pub attributes_finds : Bindings → List ReadAttribute → List ReadAttribute → List (MarkKind × ℕ)
attributes_finds m seen [] = []
attributes_finds m seen (a ∷ more) =
    if_found (is_wrong_read m a (prefix_declared a.name)) kind.Prefix a.at
    ++ (if_found (list_any (are_read_twice m a) seen) kind.Twice a.at
    ++ attributes_finds m (a ∷ seen) more)

-- in a complete tag, inside of which these bindings hold
unfoldable pub tag_finds : Bindings → ReadTag → List (MarkKind × ℕ)
tag_finds m tag = if_found (is_wrong_name m tag.name) kind.Prefix (tag.at + 1) ++ attributes_finds m [] tag.attributes

-- in the content of a Value that begins at this place
abbrev pub content_finds : Bindings → ℕ → Option Marked → List (MarkKind × ℕ)
content_finds m at None = (kind.Syntax, at) ∷ []
content_finds m at (Some word) = if_found (not (is_bound m (written_prefix (letters word)))) kind.Prefix (first_place word)

abbrev pub word_finds : Bindings → ℕ → Option (Option Marked) → List (MarkKind × ℕ)
word_finds m at None = []
word_finds m at (Some w) = content_finds m at (word_of w)

abbrev pub start_finds : Outer → ReadTag → List (MarkKind × ℕ)
start_finds o tag = tag_finds (read_bound tag.attributes (bound_at o.opens)) tag

abbrev pub hollow_finds : Outer → ReadTag → List (MarkKind × ℕ)
hollow_finds o tag =
    start_finds o tag
    ++ if_found (is_value_name (element_name (read_bound tag.attributes (bound_at o.opens)) tag.name)) kind.Syntax tag.at

abbrev pub end_finds : List Open → List (MarkKind × ℕ)
end_finds [] = []
end_finds (x ∷ xs) = word_finds x.bound x.at x.word

abbrev pub depth_finds : Outer → ℕ → ℕ → List (MarkKind × ℕ)
depth_finds o at c = if_found (is_name_start c && nat_le 64 (length o.opens)) kind.Depth at

abbrev pub reference_finds : ℕ → Option ReferenceStep → List (MarkKind × ℕ)
reference_finds at None = []
reference_finds at (Some (stepped.More r)) = []
reference_finds at (Some (stepped.Done c)) = if_found (is_none c) kind.Entity at

-- what this character, where it is taken, shows to be refused
unfoldable pub finds : Mode → Outer → ℕ → List (MarkKind × ℕ)
finds (mode.HeadOpened at) o c = depth_finds o at c
finds (mode.Opened at) o c = depth_finds o at c
finds (mode.TagName tag starts) o c = if c == 62 then start_finds o tag else []
finds (mode.InTag tag spaced) o c = if c == 62 then start_finds o tag else []
finds (mode.Slash tag) o c = hollow_finds o tag
finds (mode.TextReference at r) o c = reference_finds at (reference_step r c)
finds (mode.ValueReference tag name v at r) o c = reference_finds at (reference_step r c)
finds (mode.EndName n) o c = if name_has o.opens n c then [] else if c == 62 then end_finds o.opens else []
finds mode.EndGap o c = if c == 62 then end_finds o.opens else []
finds _ o c = []

abbrev pub noted_at : State → ℕ → List Fault
noted_at s c = map (λ f. record { kind = f.0; at = f.1; end = s.at + length (encode_utf8 c) }) (finds s.mode s.outer c)

abbrev pub then_noted : Option State → (State → List Fault) → List Fault
then_noted None more = []
then_noted (Some s) more = more s

-- what is noted over these characters
unfoldable pub noted : State → List ℕ → List Fault
noted s [] = []
noted s (c ∷ cs) = noted_at s c ++ then_noted (step s c) (λ t. noted t cs)

-- two lists have the same faults
abbrev pub SameFaults : List Fault → List Fault → Type 0
SameFaults fs gs = (f : Fault) → Contains fs f ↔ Contains gs f
