-- Names and texts.
use Rattle.std.proofs.Common.{◌≡◌, ℕ, ◌≤◌, ◌&&◌, Bool, true, false, List, length, arith, nat_le, Err, refl, ◌∙◌}
use Rattle.std.specs.List.{list_all}
use Rattle.std.specs.Str.{IsUtf8, is_utf8, chars}
use Rattle.std.proofs.lemmas.Str.{is_utf8-from_IsUtf8, IsUtf8-from_is_utf8}
use Rattle.std.proofs.lemmas.Bool.Decides.{nat_tests}
use Rattle.pws_script.specs.Texts.{is_word, is_name, is_text, is_character}
use Rattle.pws_script.specs.Reading.{text_from}
use Rattle.pws_script.specs.declared.faults.ScriptFault.TheVariants as fault

pub named : (word : List ℕ) → IsUtf8 word → is_word word ≡ true → 1 ≤ length word → is_name word ≡ true
unfolding is_name
named word u w s =
    let utf8 = is_utf8-from_IsUtf8 word u in
    let some : nat_le 1 (length word) ≡ true = grind (arith, nat_tests, s) in
    rw (some, utf8, w) refl

pub is_text_utf8 : (bytes : List ℕ) (result : Bool) → IsUtf8 bytes → result ≡ (list_all is_character (chars bytes) && nat_le (length bytes) 4096) → result ≡ is_text bytes
unfolding is_text
is_text_utf8 bytes result u e = e ∙ rw (is_utf8-from_IsUtf8 bytes u) refl

pub is_utf8_not : (bytes : List ℕ) (b : Bool) → ¬ (IsUtf8 bytes) → is_utf8 bytes ≡ b → is_utf8 bytes ≡ false
is_utf8_not bytes true n e = absurd (n (IsUtf8-from_is_utf8 bytes e))
is_utf8_not bytes false n e = e

pub is_text_other : (bytes : List ℕ) → ¬ (IsUtf8 bytes) → false ≡ is_text bytes
unfolding is_text
is_text_other bytes n = rw (is_utf8_not bytes (is_utf8 bytes) n refl) refl

pub refused_text : (bytes : List ℕ) → is_text bytes ≡ false → Err fault.Text ≡ text_from bytes
refused_text bytes h = rw h refl
