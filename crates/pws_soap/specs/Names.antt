-- Names that SOAP 1.2 Part 1 and WS-Addressing 1.0 give.
use Rattle.std.specs.Prelude.{ℕ, Bool, ◌&&◌, List, [], ◌∷◌, codes}
use Rattle.std.specs.Str.{bytes_eq}
use Rattle.pws_tree.specs.Names.{envelope_space}
use Rattle.pws_tree.specs.declared.texts.Name.{Name}

-- SOAP 1.2 Part 1, sections 5.1 to 5.3
unfoldable pub envelope_word : List ℕ
envelope_word = codes "Envelope"

unfoldable pub header_word : List ℕ
header_word = codes "Header"

unfoldable pub body_word : List ℕ
body_word = codes "Body"

-- sections 5.2.2 and 5.2.3
unfoldable pub role_word : List ℕ
role_word = codes "role"

unfoldable pub must_understand_word : List ℕ
must_understand_word = codes "mustUnderstand"

-- section 2.2: the roles in which every receiver acts, and in which the last one acts
unfoldable pub next_role : List ℕ
next_role = codes "http://www.w3.org/2003/05/soap-envelope/role/next"

unfoldable pub ultimate_role : List ℕ
ultimate_role = codes "http://www.w3.org/2003/05/soap-envelope/role/ultimateReceiver"

-- section 5.4
unfoldable pub fault_word : List ℕ
fault_word = codes "Fault"

unfoldable pub code_word : List ℕ
code_word = codes "Code"

unfoldable pub subcode_word : List ℕ
subcode_word = codes "Subcode"

unfoldable pub reason_word : List ℕ
reason_word = codes "Reason"

unfoldable pub text_word : List ℕ
text_word = codes "Text"

-- XML 1.0 fifth edition, section 2.12, and the language of the reasons that are given here, English
unfoldable pub lang_word : List ℕ
lang_word = codes "lang"

unfoldable pub english : List ℕ
english = codes "en"

-- a name of the envelope namespace
abbrev pub soap_name : List ℕ → Name
soap_name local = record { space = envelope_space; local = local }

abbrev pub is_named : List ℕ → List ℕ → Name → Bool
is_named space local n = bytes_eq n.space space && bytes_eq n.local local

abbrev pub is_soap_name : List ℕ → Name → Bool
is_soap_name local n = is_named envelope_space local n

-- WS-Addressing 1.0 Core, section 1.2, and the header blocks of SOAP Binding, section 3
unfoldable pub addressing_space : List ℕ
addressing_space = codes "http://www.w3.org/2005/08/addressing"

unfoldable pub addressing_words : List (List ℕ)
addressing_words =
    codes "To" ∷ codes "From" ∷ codes "ReplyTo" ∷ codes "FaultTo" ∷ codes "Action" ∷ codes "MessageID" ∷ codes "RelatesTo" ∷ []
