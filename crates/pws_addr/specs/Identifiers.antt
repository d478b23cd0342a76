-- The names of groups, of calls and of replies between groups; they are this project's own.
use Rattle.std.specs.Prelude.{ℕ, List, ◌∷◌, ◌++◌, codes}
use Rattle.std.specs.Fmt.{decimal}

unfoldable pub group_word : List ℕ
group_word = codes "urn:pws:group:"

unfoldable pub call_word : List ℕ
call_word = codes "urn:pws:call:"

unfoldable pub reply_word : List ℕ
reply_word = codes "urn:pws:reply:"

-- the address of a group
abbrev pub group_address : ℕ → List ℕ
group_address group = group_word ++ decimal group

-- three numbers with colons between them
abbrev pub three_numbers : ℕ → ℕ → ℕ → List ℕ
three_numbers a b c = decimal a ++ 58 ∷ (decimal b ++ 58 ∷ decimal c)

-- the identifier of the call with this number of one group to another, and of the reply of a group to a caller's
abbrev pub call_id : ℕ → ℕ → ℕ → List ℕ
call_id caller called number = call_word ++ three_numbers caller called number

abbrev pub reply_id : ℕ → ℕ → ℕ → List ℕ
reply_id called caller number = reply_word ++ three_numbers called caller number
