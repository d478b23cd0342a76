-- Attributes, one by one.
use Rattle.std.proofs.Common.{◌≡◌, ℕ, ◌+◌, ◌<◌, List, [], ◌∷◌, ◌++◌, length, take, get_or, ap, sym, ◌∙◌}
use Rattle.std.specs.Prelude.{not, ◌&&◌, filter}
use Rattle.std.specs.List.{filter_map}
use Rattle.std.specs.Str.{bytes_eq}
use Rattle.std.proofs.lemmas.List.{take_more}
use Rattle.std.proofs.lemmas.List.Elements.{filter-append, filter_map-append}
use Rattle.pws_tree.specs.declared.texts.Attr.{Attr}
use Rattle.pws_mark.specs.Bindings.{Bindings, xmlns_word}
use Rattle.pws_mark.specs.Canonical.{xml_word}
use Rattle.pws_mark.specs.Scopes.{own_bound}
use Rattle.pws_mark.specs.States.{read_declared, read_attr, read_attrs}
use Rattle.pws_mark.specs.declared.modes.ReadAttribute.{ReadAttribute}

own_bound-append : (xs ys : List ReadAttribute) → own_bound (xs ++ ys) ≡ own_bound xs ++ own_bound ys
own_bound-append xs ys =
    ap (filter (λ b. not (bytes_eq b.0 xml_word) && not (bytes_eq b.0 xmlns_word))) (filter_map-append read_declared xs ys)
    ∙ filter-append (λ b. not (bytes_eq b.0 xml_word) && not (bytes_eq b.0 xmlns_word)) (filter_map read_declared xs) (filter_map read_declared ys)

pub declared_more : (xs : List ReadAttribute) (i : ℕ) (x : ReadAttribute) (before after : Bindings) → i < length xs → x ≡ get_or xs i x → before ≡ own_bound (take i xs) → after ≡ before ++ own_bound (x ∷ []) → after ≡ own_bound (take (i + 1) xs)
declared_more xs i x before after within here now grown =
    grown ∙ (ap (λ z. z ++ own_bound (x ∷ [])) now ∙ sym (ap own_bound (take_more xs i x within) ∙ (own_bound-append (take i xs) (get_or xs i x ∷ []) ∙ ap (λ z. own_bound (take i xs) ++ own_bound (z ∷ [])) (sym here))))

pub attrs_more : (m : Bindings) (xs : List ReadAttribute) (i : ℕ) (x : ReadAttribute) (before after : List Attr) → i < length xs → x ≡ get_or xs i x → before ≡ read_attrs m (take i xs) → after ≡ before ++ read_attrs m (x ∷ []) → after ≡ read_attrs m (take (i + 1) xs)
unfolding read_attrs
attrs_more m xs i x before after within here now grown =
    grown ∙ (ap (λ z. z ++ read_attrs m (x ∷ [])) now ∙ sym (ap (read_attrs m) (take_more xs i x within) ∙ (filter_map-append (read_attr m) (take i xs) (get_or xs i x ∷ []) ∙ ap (λ z. read_attrs m (take i xs) ++ read_attrs m (z ∷ [])) (sym here))))
