-- Texts in the place of envelopes: a message is its text, and one that begins with an exclamation mark is a fault.
use Rattle.std.specs.Prelude.{◌≡◌, ℕ, ◌≤◌, ◌==◌, not, Bool, true, false, nat_le, if◌then◌else◌, List, [], ◌∷◌, length, drop, slice_index, codes, Option, Some, None, refl}
use Rattle.std.specs.Str.{bytes_eq}
use Rattle.std.proofs.Common.{cond, arith, subst}
use Rattle.std.proofs.lemmas.Bool.Decides.{nat_tests}
use Rattle.pws_tree.specs.Characters.{is_xml_text}
use Rattle.pws_driver.specs.Envelopes.{EnvelopeWords, TextsFit}

abbrev pub is_fault : List ℕ → Bool
is_fault text = slice_index text 0 == 33

-- the text, if it fits into a body
abbrev pub fitting : List ℕ → Option (List ℕ)
fitting text = if nat_le (length text) 32768 then Some text else None

abbrev pub refused : List ℕ → Option (List ℕ)
refused body = if is_fault body then fitting body else None

abbrev replied : List ℕ → List ℕ
replied text = if nat_le (length text) 32768 then text else codes "!reply too long"

abbrev pub only_if : Bool → List ℕ → List ℕ
only_if b text = if b then text else []

-- the text, if it has XML characters only
abbrev pub xml_of : List ℕ → List ℕ
xml_of text = if is_xml_text text then text else []

abbrev pub field_of : List ℕ → List ℕ → List ℕ
field_of message name =
    if bytes_eq name (codes "text") then only_if (not (is_fault message)) (xml_of message)
    else if bytes_eq name (codes "Reason") then only_if (is_fault message) (xml_of (drop 1 message))
    else if bytes_eq name (codes "Code") then only_if (is_fault message) (codes "Receiver")
    else []

abbrev pub plain_words : EnvelopeWords
plain_words = record {
  call_text = λ me key text. fitting text;
  refusal_of = λ me key body. refused body;
  reply_text = λ me key message text. replied text;
  halted_text = λ me key body. codes "!service halted";
  is_readable = λ body. not (is_fault body);
  unreadable = codes "!unreadable reply";
  timed_out = codes "!timed out";
  same_message = bytes_eq;
  field_text = field_of;
}

small : (n : ℕ) → nat_le n 32768 ≡ true → n ≤ 32768
small n h = grind (arith, nat_tests)

fitting_fits : (text body : List ℕ) (b : Bool) → nat_le (length text) 32768 ≡ b → cond b (Some text) None ≡ Some body → length body ≤ 32768
fitting_fits text body true e h = let i : text ≡ body = cc in subst (λ (x : List ℕ). length x ≤ 32768) i (small (length text) e)
fitting_fits text body false e h = let i : ◌≡◌ {A = Option (List ℕ)} None (Some body) = h in absurd (cc)

refused_fits : (text body : List ℕ) (b : Bool) → cond b (fitting text) None ≡ Some body → length body ≤ 32768
refused_fits text body true h = fitting_fits text body (nat_le (length text) 32768) refl h
refused_fits text body false h = let i : ◌≡◌ {A = Option (List ℕ)} None (Some body) = h in absurd (cc)

replied_fits : (text : List ℕ) (b : Bool) → nat_le (length text) 32768 ≡ b → length (cond b text (codes "!reply too long")) ≤ 32768
replied_fits text true e = small (length text) e
replied_fits text false e = omega arith

pub plain_fit : TextsFit plain_words
plain_fit = record {
  call = λ me key text body h. fitting_fits text body (nat_le (length text) 32768) refl h;
  refusal = λ me key request body h. refused_fits request body (is_fault request) h;
  reply = λ me key message text. replied_fits text (nat_le (length text) 32768) refl;
  halted = λ me key request. omega arith;
}
