-- Texts that have XML characters only, and others.
use Rattle.std.proofs.Common.{◌≡◌, ℕ, Bool, true, false, List, [], codes, refl}
use lib.Utf8.{encode}
use Rattle.std.specs.Str.{IsUtf8, is_utf8, chars}
use Rattle.std.proofs.lemmas.Str.{IsUtf8-from_is_utf8}
use Rattle.pws_tree.specs.Characters.{is_xml_text, xml_ranges}
use Rattle.pws_driver_plain.specs.Plain.{xml_of}

pub receiver_xml : is_xml_text (codes "Receiver") ≡ true
unfolding is_xml_text is_utf8 chars xml_ranges encode
receiver_xml = refl

not_utf8 : (bytes : List ℕ) (b : Bool) → ¬ (IsUtf8 bytes) → is_utf8 bytes ≡ b → is_utf8 bytes ≡ false
not_utf8 bytes true n e = absurd (n (IsUtf8-from_is_utf8 bytes e))
not_utf8 bytes false n e = e

not_xml : (bytes : List ℕ) → ¬ (IsUtf8 bytes) → is_xml_text bytes ≡ false
unfolding is_xml_text
not_xml bytes n = rw (not_utf8 bytes (is_utf8 bytes) n refl) refl

pub nothing_is : (bytes : List ℕ) → ¬ (IsUtf8 bytes) → [] ≡ xml_of bytes
nothing_is bytes n = rw (not_xml bytes n) refl
