-- Names of attributes, each as written and as bound. It is here for the proofs alone: no contract of another crate names
-- it.
use Rattle.std.specs.Prelude.{◌≡◌, ℕ, Bool, ◌||◌, List, [], ◌∷◌, ◌++◌, fold, Option, Some}
use Rattle.std.specs.BTreeSet.{BTreeSet, contains_by}
use Rattle.std.specs.Borrow.{Bor}
use Rattle.std.specs.Cmp.Lexicographic.{slice_cmp}
use Rattle.std.specs.Ordering.{nat_cmp, ordering_then}
use Rattle.std.specs.List.{list_any}
use Rattle.std.specs.Str.{bytes_eq}
use Rattle.pws_tree.specs.declared.texts.Name.{Name}
use Rattle.pws_mark.specs.Bindings.{Bindings, same_name}
use Rattle.pws_mark.specs.Noted.{if_found, is_wrong_read, read_name}
use Rattle.pws_mark.specs.States.{prefix_declared}
use Rattle.pws_mark.specs.declared.errors.MarkKind.{MarkKind}
use Rattle.pws_mark.specs.declared.errors.MarkKind.TheVariants as kind
use Rattle.pws_mark.specs.declared.modes.ReadAttribute.{ReadAttribute}

abbrev pub Names : Type 0
Names = List ℕ × Option Name

abbrev pub then_seen : List (List ℕ × Option Name) → List ℕ × Option Name → List (List ℕ × Option Name)
then_seen seen x = x ∷ seen

-- the last that was seen comes first
abbrev pub seen_of : List (List ℕ × Option Name) → List (List ℕ × Option Name)
seen_of items = fold then_seen [] items

-- what is seen of a kept name
abbrev pub now_of : Bor (List ℕ) × Bor (Option Name) → List ℕ × Option Name
now_of i = (i.0.now, i.1.now)

-- whether a set has this name as written, or this one as bound
abbrev pub has_written : BTreeSet (Bor (List ℕ)) → List ℕ → Bool
has_written set name = contains_by (λ k. slice_cmp nat_cmp name k.now) set

abbrev pub has_bound : BTreeSet (Bor (List ℕ) × Bor (List ℕ)) → Name → Bool
has_bound set name = contains_by (λ k. ordering_then (slice_cmp nat_cmp name.local k.0.now) (slice_cmp nat_cmp name.space k.1.now)) set

-- the sets have the names that were seen, and no others
pub record FindsSeen (written : BTreeSet (Bor (List ℕ))) (bound : BTreeSet (Bor (List ℕ) × Bor (List ℕ))) (seen : List (List ℕ × Option Name)) : Type 0 where
  pub by_written : (name : List ℕ) → has_written written name ≡ list_any (λ x. bytes_eq name x.0) seen
  pub by_bound : (name : Name) → has_bound bound name ≡ list_any (λ x. same_name (Some name) x.1) seen

abbrev pub are_one : List ℕ × Option Name → List ℕ × Option Name → Bool
are_one a b = bytes_eq a.0 b.0 || same_name a.1 b.1

abbrev pub names_of : Bindings → ReadAttribute → List ℕ × Option Name
names_of m a = (a.name, read_name m a.name)

-- one attribute, behind these
abbrev pub attribute_finds : Bindings → List (List ℕ × Option Name) → ReadAttribute → List (MarkKind × ℕ)
attribute_finds m seen a =
    if_found (is_wrong_read m a (prefix_declared a.name)) kind.Prefix a.at
    ++ if_found (list_any (are_one (names_of m a)) seen) kind.Twice a.at

abbrev pub finds_behind : Bindings → List (List ℕ × Option Name) → List ReadAttribute → List (MarkKind × ℕ)
finds_behind m seen [] = []
finds_behind m seen (a ∷ more) = attribute_finds m seen a ++ finds_behind m (names_of m a ∷ seen) more
