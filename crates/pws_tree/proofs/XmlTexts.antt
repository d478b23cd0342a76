-- Texts of XML characters.
use Rattle.std.proofs.Common.{◌≡◌, ℕ, true, List, [], ◌++◌, refl, sym, ◌∙◌, subst}
use Rattle.std.specs.List.{list_all}
use Rattle.std.specs.Str.{IsUtf8, is_utf8, chars}
use Rattle.std.proofs.lemmas.List.Folds.{list_all-append}
use Rattle.std.proofs.lemmas.Str.{is_utf8-from_IsUtf8, IsUtf8-from_is_utf8, IsUtf8-append, chars-append}
use Rattle.pws_tree.specs.Characters.{is_xml_char, is_xml_text}
use Rattle.pws_tree.proofs.Joined.{first_true, second_true, both_true}

record Known (t : List ℕ) : Type 0 where
  pub utf8 : IsUtf8 t
  pub xml : list_all is_xml_char (chars t) ≡ true

known : (t : List ℕ) → is_xml_text t ≡ true → Known t
unfolding is_xml_text
known t h = record {
  utf8 = IsUtf8-from_is_utf8 t (first_true (is_utf8 t) (list_all is_xml_char (chars t)) h);
  xml = second_true (is_utf8 t) (list_all is_xml_char (chars t)) h;
}

xml_from : (t : List ℕ) → IsUtf8 t → list_all is_xml_char (chars t) ≡ true → is_xml_text t ≡ true
unfolding is_xml_text
xml_from t u h = both_true (is_utf8 t) (list_all is_xml_char (chars t)) (is_utf8-from_IsUtf8 t u) h

pub appended_xml : (s t : List ℕ) → is_xml_text s ≡ true → is_xml_text t ≡ true → is_xml_text (s ++ t) ≡ true
appended_xml s t h g =
    let a = known s h in
    let b = known t g in
    xml_from (s ++ t) (IsUtf8-append s t a.utf8 b.utf8)
    (subst (λ cs. list_all is_xml_char cs ≡ true) (sym (chars-append s t a.utf8))
    (list_all-append is_xml_char (chars s) (chars t) ∙ both_true (list_all is_xml_char (chars s)) (list_all is_xml_char (chars t)) a.xml b.xml))

pub nothing_xml : is_xml_text [] ≡ true
unfolding is_xml_text is_utf8 chars
nothing_xml = refl
