-- Texts, character by character.
use Rattle.std.proofs.Common.{◌≡◌, ℕ, Bool, true, false, ◌&&◌, List, [], ◌∷◌, ◌++◌, ap, ◌∙◌, sym, length, arith}
use Rattle.std.specs.List.{list_all}
use Rattle.std.specs.Str.{chars, IsUtf8}
use lib.Utf8.{encode}
use Rattle.std.proofs.lemmas.Str.{is_utf8-from_IsUtf8, chars_past_char, chars-nil}
use Rattle.pws_tree.specs.Characters.{is_xml_char, is_xml_text, is_local_name, are_a_name, is_name_start, is_name_char}

pub xml_text_is : (bs : List ℕ) → IsUtf8 bs → is_xml_text bs ≡ list_all is_xml_char (chars bs)
unfolding is_xml_text
xml_text_is bs u = rw (is_utf8-from_IsUtf8 bs u)

pub local_name_is : (bs : List ℕ) → IsUtf8 bs → is_local_name bs ≡ are_a_name (chars bs)
unfolding is_local_name
local_name_is bs u = rw (is_utf8-from_IsUtf8 bs u)

-- what holds of all characters holds of the first and of the others
pub all_past_char : (p : ℕ → Bool) (bs rest : List ℕ) (c : ℕ) → IsUtf8 bs → bs ≡ encode c ++ rest → list_all p (chars bs) ≡ (p c && list_all p (chars rest))
all_past_char p bs rest c u e = ap (list_all p) (chars_past_char bs rest c u e)

pub local_name_past_char : (bs rest : List ℕ) (c : ℕ) → IsUtf8 bs → bs ≡ encode c ++ rest → is_local_name bs ≡ (is_name_start c && list_all is_name_char (chars rest))
local_name_past_char bs rest c u e = local_name_is bs u ∙ ap are_a_name (chars_past_char bs rest c u e)

pub all_fails : (p : ℕ → Bool) (bs rest : List ℕ) (c : ℕ) → IsUtf8 bs → bs ≡ encode c ++ rest → p c ≡ false → list_all p (chars bs) ≡ false
all_fails p bs rest c u e f = all_past_char p bs rest c u e ∙ ap (λ b. b && list_all p (chars rest)) f

pub all_goes_on : (p : ℕ → Bool) (bs rest : List ℕ) (c : ℕ) → IsUtf8 bs → bs ≡ encode c ++ rest → p c ≡ true → list_all p (chars bs) ≡ list_all p (chars rest)
all_goes_on p bs rest c u e t = all_past_char p bs rest c u e ∙ ap (λ b. b && list_all p (chars rest)) t

pub all_of_none : (p : ℕ → Bool) (bs : List ℕ) → length bs ≡ 0 → list_all p (chars bs) ≡ true
all_of_none p [] e = ap (list_all p) chars-nil
all_of_none p (b ∷ bs) e = absurd (omega arith)

pub no_local_name : (bs : List ℕ) → IsUtf8 bs → length bs ≡ 0 → is_local_name bs ≡ false
no_local_name [] u e = local_name_is [] u ∙ ap are_a_name chars-nil
no_local_name (b ∷ bs) u e = absurd (omega arith)

-- the first character decides, or the others do
pub name_by_first : (text bs rest : List ℕ) (c : ℕ) (b : Bool) → IsUtf8 text → bs ≡ text → bs ≡ encode c ++ rest → b ≡ is_name_start c → is_local_name text ≡ (b && list_all is_name_char (chars rest))
name_by_first text bs rest c b u same e first = local_name_past_char text rest c u (sym same ∙ e) ∙ ap (λ z. z && list_all is_name_char (chars rest)) (sym first)

pub no_name : (text bs : List ℕ) → IsUtf8 text → bs ≡ text → length bs ≡ 0 → false ≡ is_local_name text
no_name text bs u same e = sym (no_local_name text u (sym (ap length same) ∙ e))
