-- The tests of a view change and of a new view decide what they say.
use Rattle.std.proofs.Common.{◌≡◌, ◌↔◌, IsTrue, ℕ, ◌%◌, ◌&&◌, ◌==◌, nat_le, nat_lt, Bool, true, false, List, [], ◌∷◌, length, map, refl, sym, ap, subst}
use Rattle.std.specs.List.{list_all}
use Rattle.std.specs.Str.{bytes_eq}
use Rattle.std.specs.Cmp.Lexicographic.{pointwise, pointwise_decides}
use Rattle.std.proofs.lemmas.Bool.{false≢true, and_parts, and_from, eqb-true, eq-eqb, leb-true, le-leb}
use Rattle.std.proofs.lemmas.Slice.Eq.{bytes_eq-Decides}
use Rattle.pws_base.specs.Shapes.{quorum_of}
use Rattle.pws_msg.specs.declared.changes.Choice.{Choice}
use Rattle.pws_msg.specs.declared.changes.Named.{Named}
use Rattle.pws_msg.specs.declared.changes.NewView.{NewView}
use Rattle.pws_msg.specs.declared.changes.ViewChange.{ViewChange}
use Rattle.pws_change.specs.declared.heard.Heard.{Heard}
use Rattle.pws_change.specs.declared.decisions.Decision.{Decision}
use Rattle.pws_change.specs.declared.decisions.Decision.TheVariants.{Chosen, Undecided}
use Rattle.pws_change.specs.Agreements.{Agrees, name_of, is_name_of, is_decided_as, agrees_by}
use Rattle.pws_change.specs.Choices.{IsChoice}
use Rattle.pws_change.specs.Rising.{rises}
use Rattle.pws_change.specs.Valid.{IsValid, is_valid, are_checkpoints_valid, are_p_rows_valid, are_q_rows_valid}
use Rattle.pws_change.proofs.Unique.{choice_is_unique}
use Rattle.pws_change.specs.Decisions.{decision_of}
use Rattle.pws_change.specs.Laws.{ValidIsTested, AgreesIsTested}
use Rattle.pws_change.proofs.Deciding.{decision_is_choice}

five : (a b c d e : Bool) → (a && (b && (c && (d && e)))) ≡ true → (a ≡ true) × (b ≡ true) × (c ≡ true) × (d ≡ true) × (e ≡ true)
five a b c d e h =
    let x = and_parts a (b && (c && (d && e))) h in
    let y = and_parts b (c && (d && e)) x.1 in
    let z = and_parts c (d && e) y.1 in
    let w = and_parts d e z.1 in
    (x.0, y.0, z.0, w.0, w.1)

from_five : (a b c d e : Bool) → a ≡ true → b ≡ true → c ≡ true → d ≡ true → e ≡ true → (a && (b && (c && (d && e)))) ≡ true
from_five a b c d e p q r s t = and_from a (b && (c && (d && e))) p (and_from b (c && (d && e)) q (and_from c (d && e) r (and_from d e s t)))

valid_tells : (c : ViewChange) → is_valid c ≡ true → IsValid c
unfolding is_valid
valid_tells c h =
    let x = five (nat_le 1 c.view) (c.low % 16 == 0) (are_checkpoints_valid c.low c.checkpoints) (are_p_rows_valid c.low c.view c.prepared) (are_q_rows_valid c.low c.view c.pre_prepared) h in
    record { view = x.0; low = x.1; checkpoints = x.2; prepared = x.3; pre_prepared = x.4 }

valid_from : (c : ViewChange) → IsValid c → is_valid c ≡ true
unfolding is_valid
valid_from c h =
    from_five (nat_le 1 c.view) (c.low % 16 == 0) (are_checkpoints_valid c.low c.checkpoints) (are_p_rows_valid c.low c.view c.prepared) (are_q_rows_valid c.low c.view c.pre_prepared)
    h.view h.low h.checkpoints h.prepared h.pre_prepared

pub valid_is_tested : ValidIsTested
valid_is_tested c = (valid_tells c, valid_from c)

-- the names
names_tell : (ns : List Named) (hs : List Heard) → pointwise is_name_of ns hs ≡ true → ns ≡ map name_of hs
names_tell [] [] h = refl
names_tell [] (x ∷ hs) h = absurd (false≢true h)
names_tell (n ∷ ns) [] h = absurd (false≢true h)
names_tell (n ∷ ns) (x ∷ hs) h =
    let a = and_parts (is_name_of n x) (pointwise is_name_of ns hs) h in
    let b = and_parts (n.index == x.index) (bytes_eq n.digest x.digest) a.0 in
    let i : n.index ≡ x.index = eqb-true n.index x.index b.0 in
    let d : n.digest ≡ x.digest = (bytes_eq-Decides n.digest x.digest).0 b.1 in
    let e : n ≡ name_of x = λ k. record { index = i k; digest = d k } in
    λ k. e k ∷ names_tell ns hs a.1 k

names_pass : (hs : List Heard) → pointwise is_name_of (map name_of hs) hs ≡ true
names_pass [] = refl
names_pass (x ∷ hs) =
    and_from (is_name_of (name_of x) x) (pointwise is_name_of (map name_of hs) hs)
    (and_from (x.index == x.index) (bytes_eq x.digest x.digest) (eq-eqb x.index x.index refl) ((bytes_eq-Decides x.digest x.digest).1 refl)) (names_pass hs)

-- the choice
same_choice : (c d : Choice) → is_decided_as c (Chosen d) ≡ true → c ≡ d
same_choice c d h =
    let a = and_parts (c.place == d.place) (bytes_eq c.digest d.digest && pointwise bytes_eq c.chosen d.chosen) h in
    let b = and_parts (bytes_eq c.digest d.digest) (pointwise bytes_eq c.chosen d.chosen) a.1 in
    let p : c.place ≡ d.place = eqb-true c.place d.place a.0 in
    let e : c.digest ≡ d.digest = (bytes_eq-Decides c.digest d.digest).0 b.0 in
    let x : c.chosen ≡ d.chosen = (pointwise_decides bytes_eq-Decides c.chosen d.chosen).0 b.1 in
    λ k. record { place = p k; digest = e k; chosen = x k }

decided_tells : (c : Choice) (d : Decision) → is_decided_as c d ≡ true → Chosen c ≡ d
decided_tells c (Chosen d) h = ap (λ x. Chosen x) (same_choice c d h)
decided_tells c (Undecided place) h = absurd (false≢true h)

decided_itself : (c : Choice) → is_decided_as c (Chosen c) ≡ true
decided_itself c =
    and_from (c.place == c.place) (bytes_eq c.digest c.digest && pointwise bytes_eq c.chosen c.chosen) (eq-eqb c.place c.place refl)
    (and_from (bytes_eq c.digest c.digest) (pointwise bytes_eq c.chosen c.chosen) ((bytes_eq-Decides c.digest c.digest).1 refl) ((pointwise_decides bytes_eq-Decides c.chosen c.chosen).1 refl))

module _ (f : ℕ) (new : NewView) (changes : List Heard) where
  rise : Bool
  rise = rises (λ (a b : Named). nat_lt a.index b.index) new.named

  agrees_tells : agrees_by f new changes ≡ true → Agrees f new changes
  unfolding agrees_by rise
  agrees_tells h =
      let x = five rise (nat_le (quorum_of f) (length new.named)) (pointwise is_name_of new.named changes) (list_all (λ (y : Heard). y.change.view == new.view) changes) (is_decided_as new.choice (decision_of f changes)) h in
      record {
        rises = x.0;
        many = leb-true (quorum_of f) (length new.named) x.1;
        named = names_tell new.named changes x.2;
        views = x.3;
        choice = subst (λ d. IsChoice f changes d) (sym (decided_tells new.choice (decision_of f changes) x.4)) (decision_is_choice f changes);
      }

  agrees_from : Agrees f new changes → agrees_by f new changes ≡ true
  unfolding agrees_by rise
  agrees_from h =
      let one = choice_is_unique f changes (Chosen new.choice) (decision_of f changes) h.choice (decision_is_choice f changes) in
      from_five rise (nat_le (quorum_of f) (length new.named)) (pointwise is_name_of new.named changes) (list_all (λ (y : Heard). y.change.view == new.view) changes) (is_decided_as new.choice (decision_of f changes))
      h.rises (le-leb (quorum_of f) (length new.named) h.many)
      (subst (λ ns. pointwise is_name_of ns changes ≡ true) (sym h.named) (names_pass changes)) h.views
      (subst (λ d. is_decided_as new.choice d ≡ true) one (decided_itself new.choice))

pub agrees_is_tested : AgreesIsTested
agrees_is_tested f new changes = (agrees_tells f new changes, agrees_from f new changes)

-- a test that decides the same is the same
same_test : (a b : Bool) → (a ≡ true → b ≡ true) → (b ≡ true → a ≡ true) → a ≡ b
same_test true b h k = sym (h refl)
same_test false true h k = k refl
same_test false false h k = refl

pub same_as_valid : (c : ViewChange) (b : Bool) → IsTrue b ↔ IsValid c → b ≡ is_valid c
same_as_valid c b h = same_test b (is_valid c) (λ t. valid_from c (h.0 t)) (λ t. h.1 (valid_tells c t))

pub same_as_agrees : (f : ℕ) (new : NewView) (changes : List Heard) (b : Bool) → IsTrue b ↔ Agrees f new changes → b ≡ agrees_by f new changes
same_as_agrees f new changes b h = same_test b (agrees_by f new changes) (λ t. agrees_from f new changes (h.0 t)) (λ t. h.1 (agrees_tells f new changes t))
