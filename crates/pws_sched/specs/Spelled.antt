-- How a schedule of the first form is spelled: the text of the requests that it says; this project's own rule.
use Rattle.std.specs.Prelude.{◌≡◌, ℕ, List, ◌∷◌, ◌++◌, length, codes, IsTrue}
use Rattle.std.specs.List.{All, flat_map, list_all}
use Rattle.hex.specs.Hex.{IsBytes, encode_lower}
use Rattle.pws_base.specs.Texts.{u32_text, sized_text}
use Rattle.pws_event.specs.Requests.{RequestFields, IsRequest}
use Rattle.pws_sched.specs.Hexadecimal.{is_lower_digit}

-- the bytes of a request: kind 1, its number, its low number, and its body after the body's length
abbrev pub content_text : RequestFields → List ℕ
content_text r = 1 ∷ u32_text r.number ++ u32_text r.low ++ sized_text r.body

-- the line that says a request, its bytes in lower-case hexadecimal (RFC 4648 section 8)
abbrev pub say_line : RequestFields → List ℕ
say_line r = codes "say 0.0 1.0 " ++ encode_lower (content_text r) ++ codes "\n"

-- the text with this seed that says these requests
abbrev pub first_text : List ℕ → List RequestFields → List ℕ
first_text seed requests = codes "pws-schedule 1\nseed " ++ seed ++ codes "\ngroup 0 0\ngroup 1 0\nbad 0.0\nbegin\n" ++ flat_map say_line requests ++ codes "end\n"

-- 64 digits of lower-case hexadecimal, which spell 32 bytes
pub record IsSeed (seed : List ℕ) : Type 0 where
  pub size : length seed ≡ 64
  pub digits : IsTrue (list_all is_lower_digit seed)

-- a request that a schedule of the first form can say: one of caller 0, in range, with a body of bytes
pub record IsSayable (r : RequestFields) : Type 0 where
  pub caller : r.caller ≡ 0
  pub in_range : IsRequest r
  pub body : IsBytes r.body

-- the text is a schedule of the first form, and says these requests
pub record IsFirstForm (text : List ℕ) (requests : List RequestFields) : Type 0 where
  pub seed : List ℕ
  pub is_seed : IsSeed seed
  pub sayable : All IsSayable requests
  pub spells : text ≡ first_text seed requests
