-- How the words of a line and the text of a literal are read; this project's own rules.
use Rattle.std.specs.Prelude.{ℕ, ◌==◌, ◌&&◌, Bool, true, false, if◌then◌else◌, List, [], ◌∷◌, length, drop, slice_index, codes, Option, Some, None, Result, Ok, Err}
use Rattle.std.specs.List.{join_with_byte, slice_split}
use Rattle.std.specs.Str.{bytes_eq}
use Rattle.pws_script.specs.Texts.{is_text}
use Rattle.pws_script.specs.declared.faults.ScriptFault.{ScriptFault}
use Rattle.pws_script.specs.declared.faults.ScriptFault.TheVariants as fault

infixl 10 ◌>>=◌
abbrev pub ◌>>=◌ : {A B E : Type 0} → Result A E → (A → Result B E) → Result B E
(Ok x) >>= f = f x
(Err e) >>= f = Err e

-- the byte that stands for itself or for a line feed after a backslash
abbrev pub unescaped : ℕ → Result ℕ ScriptFault
unescaped c = if c == 34 then Ok 34 else if c == 92 then Ok 92 else if c == 110 then Ok 10 else Err fault.Text

-- the bytes after an opening quote, up to the closing quote that ends them; whether a backslash came just before
abbrev pub bytes_after : Bool → List ℕ → Result (List ℕ) ScriptFault
bytes_after escaped [] = Err fault.Text
bytes_after true (c ∷ cs) = do
  b ← unescaped c
  more ← bytes_after false cs
  Ok (b ∷ more)
bytes_after false (c ∷ cs) =
    if c == 34 then (if length cs == 0 then Ok [] else Err fault.Text)
    else if c == 92 then bytes_after true cs
    else do
      more ← bytes_after false cs
      Ok (c ∷ more)

-- the text of these bytes, if a literal can have it
abbrev pub text_from : List ℕ → Result (List ℕ) ScriptFault
text_from bytes = if is_text bytes then Ok bytes else Err fault.Text

-- the text of a literal that begins with a quote
unfoldable pub text_at : List ℕ → Result (List ℕ) ScriptFault
text_at quoted = do
  bytes ← bytes_after false (drop 1 quoted)
  text_from bytes

-- the second word, and the rest of the line after the second space, where the first word is `set` and a double
-- quote follows that space
abbrev pub text_set_in : List (List ℕ) → Option (List ℕ × List ℕ)
text_set_in (name ∷ word ∷ value ∷ more) =
    if bytes_eq name (codes "set") && slice_index value 0 == 34 then Some (word, join_with_byte 32 (value ∷ more)) else None
text_set_in words = None

-- the words of a line: the pieces between its spaces
abbrev pub words_of : List ℕ → List (List ℕ)
words_of bytes = slice_split (λ b. b == 32) bytes
