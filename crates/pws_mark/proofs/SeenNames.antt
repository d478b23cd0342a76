-- The names of attributes that were seen, and what is refused in attributes, one by one.
use Rattle.std.proofs.Common.{◌≡◌, ℕ, ◌+◌, ◌<◌, ◌≤◌, Bool, true, false, ◌||◌, List, [], ◌∷◌, ◌++◌, fold, map, length, drop, get_or, refl, ap, sym, ◌∙◌, append_assoc}
use Rattle.std.specs.Prelude.{Option}
use Rattle.std.specs.List.{list_any}
use Rattle.std.proofs.lemmas.List.Sums.{fold-append}
use Rattle.pws_tree.specs.declared.texts.Name.{Name}
use Rattle.pws_mark.specs.Bindings.{Bindings}
use Rattle.pws_mark.specs.Faults.{is_wrong_name}
use Rattle.pws_mark.specs.declared.modes.ReadTag.{ReadTag}
use Rattle.pws_mark.specs.Least.{lower, lowered}
use Rattle.pws_mark.specs.Noted.{attributes_finds, are_read_twice, if_found, is_wrong_read, tag_finds}
use Rattle.pws_mark.specs.Seen.{then_seen, seen_of, are_one, names_of, attribute_finds, finds_behind}
use Rattle.pws_mark.specs.States.{prefix_declared}
use Rattle.pws_mark.specs.declared.errors.MarkError.{MarkError}
use Rattle.pws_mark.specs.declared.errors.MarkKind.{MarkKind}
use Rattle.pws_mark.specs.declared.errors.MarkKind.TheVariants as kind
use Rattle.pws_mark.specs.declared.modes.ReadAttribute.{ReadAttribute}
use Rattle.pws_mark.proofs.Walks.{drop_from_item, drop_all}

or_swap : (a b c : Bool) → (a || (b || c)) ≡ (b || (a || c))
or_swap true true c = refl
or_swap true false c = refl
or_swap false true c = refl
or_swap false false c = refl

any_fold : (p : List ℕ × Option Name → Bool) (acc xs : List (List ℕ × Option Name)) → list_any p (fold then_seen acc xs) ≡ (list_any p xs || list_any p acc)
any_fold p acc [] = refl
any_fold p acc (x ∷ xs) = any_fold p (x ∷ acc) xs ∙ by (list_any p xs) (p x) (list_any p acc)
  where
    by : (a b c : Bool) → (a || (b || c)) ≡ ((b || a) || c)
    by true true c = refl
    by true false c = refl
    by false true c = refl
    by false false c = refl

or_false : (a : Bool) → (a || false) ≡ a
or_false true = refl
or_false false = refl

pub seen_any : (p : List ℕ × Option Name → Bool) (xs : List (List ℕ × Option Name)) → list_any p (seen_of xs) ≡ list_any p xs
seen_any p xs = any_fold p [] xs ∙ or_false (list_any p xs)

-- the same refusals, with the names of the attributes before
any_names : (m : Bindings) (a : ReadAttribute) (seen : List ReadAttribute) → list_any (are_read_twice m a) seen ≡ list_any (are_one (names_of m a)) (map (names_of m) seen)
any_names m a [] = refl
any_names m a (b ∷ seen) = ap (λ z. are_read_twice m a b || z) (any_names m a seen)

pub finds_of_names : (m : Bindings) (seen attributes : List ReadAttribute) → finds_behind m (map (names_of m) seen) attributes ≡ attributes_finds m seen attributes
finds_of_names m seen [] = refl
finds_of_names m seen (a ∷ more) =
    append_assoc (if_found (is_wrong_read m a (prefix_declared a.name)) kind.Prefix a.at) (if_found (list_any (are_one (names_of m a)) (map (names_of m) seen)) kind.Twice a.at) (finds_behind m (map (names_of m) (a ∷ seen)) more)
    ∙ ap (λ z. if_found (is_wrong_read m a (prefix_declared a.name)) kind.Prefix a.at ++ z) (
    ap (λ b. if_found b kind.Twice a.at ++ finds_behind m (map (names_of m) (a ∷ seen)) more) (sym (any_names m a seen))
    ∙ ap (λ z. if_found (list_any (are_read_twice m a) seen) kind.Twice a.at ++ z) (finds_of_names m (a ∷ seen) more)
    )

pub lowered_append : (least : Option MarkError) (xs ys : List (MarkKind × ℕ)) → lowered least (xs ++ ys) ≡ lowered (lowered least xs) ys
unfolding lowered
lowered_append least xs ys = fold-append lower least xs ys

-- one attribute more
pub noted_step : (m : Bindings) (xs : List ReadAttribute) (i : ℕ) (a : ReadAttribute) (seen after_seen : List (List ℕ × Option Name)) (now after total : Option MarkError) →
    i < length xs → a ≡ get_or xs i a → lowered now (finds_behind m seen (drop i xs)) ≡ total → after ≡ lowered now (attribute_finds m seen a) → after_seen ≡ names_of m a ∷ seen →
    lowered after (finds_behind m after_seen (drop (i + 1) xs)) ≡ total
noted_step m xs i a seen after_seen now after total within here h noted grown =
    ap (λ z. lowered z (finds_behind m after_seen (drop (i + 1) xs))) noted
    ∙ (ap (λ z. lowered (lowered now (attribute_finds m seen a)) (finds_behind m z (drop (i + 1) xs))) grown
    ∙ (sym (lowered_append now (attribute_finds m seen a) (finds_behind m (names_of m a ∷ seen) (drop (i + 1) xs)))
    ∙ (ap (λ z. lowered now (finds_behind m seen z)) (sym (drop_from_item xs i a here within)) ∙ h)))

pub noted_all : (m : Bindings) (xs : List ReadAttribute) (i : ℕ) (seen : List (List ℕ × Option Name)) (now total : Option MarkError) → length xs ≤ i → lowered now (finds_behind m seen (drop i xs)) ≡ total → now ≡ total
unfolding lowered
noted_all m xs i seen now total end h = ap (λ z. lowered now (finds_behind m seen z)) (sym (drop_all xs i end)) ∙ h

-- a tag's refusals are those of its name and then of its attributes
pub tag_noted : (m : Bindings) (tag : ReadTag) (old mid new : Option MarkError) → mid ≡ lowered old (if_found (is_wrong_name m tag.name) kind.Prefix (tag.at + 1)) → new ≡ lowered mid (finds_behind m [] tag.attributes) → new ≡ lowered old (tag_finds m tag)
unfolding tag_finds
tag_noted m tag old mid new first second =
    second ∙ (ap (λ z. lowered z (finds_behind m [] tag.attributes)) first
    ∙ (sym (lowered_append old (if_found (is_wrong_name m tag.name) kind.Prefix (tag.at + 1)) (finds_behind m [] tag.attributes))
    ∙ ap (λ z. lowered old (if_found (is_wrong_name m tag.name) kind.Prefix (tag.at + 1) ++ z)) (finds_of_names m [] tag.attributes)))
