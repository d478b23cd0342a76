-- White space round a text (XML 1.0 fifth edition, production 3, S).
use Rattle.std.specs.Prelude.{ℕ, ◌-◌, Bool, List, length, take, drop}
use Rattle.std.specs.List.{list_all, prefix_len, suffix_len}
use Rattle.pws_mark.specs.Tokens.{is_white}

abbrev pub is_all_white : List ℕ → Bool
is_all_white text = list_all is_white text

abbrev pub trim_start : List ℕ → List ℕ
trim_start text = drop (prefix_len is_white text) text

abbrev pub trim_end : List ℕ → List ℕ
trim_end text = take (length text - suffix_len is_white text) text

-- a text without the white space round it
unfoldable pub trim : List ℕ → List ℕ
trim text = trim_end (trim_start text)
