-- A list of changes has one decision.
use Rattle.std.proofs.Common.{◌≡◌, ℕ, ◌+◌, ◌-◌, ◌≤◌, ◌⊎◌, inl, inr, List, [], length, sym, ◌∙◌, ap, subst, arith}
use Rattle.std.specs.List.{slice_index_or}
use Rattle.std.proofs.lemmas.Bool.{cases_order}
use Rattle.std.proofs.lemmas.List.{ext_get_or}
use Rattle.pws_msg.specs.declared.changes.Choice.{Choice}
use Rattle.pws_change.specs.declared.heard.Heard.{Heard}
use Rattle.pws_change.specs.declared.decisions.Decision.TheVariants.{Chosen, Undecided}
use Rattle.pws_change.specs.Choices.{MayStart, IsStart, HasNoStart, MeetsA, IsBestEntry, IsChosenAt, IsUndecidedAt, last_place, last_of, chosen_at, GivesChoice, LeavesUndecided}
use Rattle.pws_change.specs.Laws.{ChoiceIsUnique}
use Rattle.pws_change.proofs.Orders.{at_most_both}

module _ (f : ℕ) (changes : List Heard) where
  pub one_start : (p q : ℕ) (d e : List ℕ) → IsStart f changes p d → IsStart f changes q e → (p ≡ q) × (d ≡ e)
  one_start p q d e a b =
      let low = a.highest q e b.may in
      let high = b.highest p d a.may in
      let same : p ≡ q = omega arith in (
        same,
        at_most_both d e (a.least e (subst (λ n. MayStart f changes n e) (sym same) b.may)) (b.least d (subst (λ n. MayStart f changes n d) same a.may)),
      )

  one_best : (place : ℕ) (d e : List ℕ) (v w : ℕ) → IsBestEntry f changes place d v → IsBestEntry f changes place e w → d ≡ e
  one_best place d e v w a b =
      let low = a.highest e w b.meets in
      let high = b.highest d v a.meets in
      let same : v ≡ w = omega arith in
      at_most_both d e (a.least e (subst (λ n. MeetsA f changes place e n) (sym same) b.meets)) (b.least d (subst (λ n. MeetsA f changes place d n) same a.meets))

  pub one_chosen : (place : ℕ) (d e : List ℕ) → IsChosenAt f changes place d → IsChosenAt f changes place e → d ≡ e
  one_chosen place d e (inl a) (inl b) = one_best place d e a.0 b.0 a.1 b.1
  one_chosen place d e (inl a) (inr b) = absurd (b.0 d a.0 a.1.meets)
  one_chosen place d e (inr a) (inl b) = absurd (a.0 e b.0 b.1.meets)
  one_chosen place d e (inr a) (inr b) = a.2 ∙ sym b.2

  -- a place where a digest is chosen isn't undecided
  pub chosen_decides : (place : ℕ) (d : List ℕ) → IsChosenAt f changes place d → IsUndecidedAt f changes place → ⊥
  chosen_decides place d (inl a) u = u.0 d a.0 a.1.meets
  chosen_decides place d (inr a) u = u.1 a.1

  same_chosen : (a b : Choice) → GivesChoice f changes a → GivesChoice f changes b → a.place ≡ b.place → a.chosen ≡ b.chosen
  same_chosen a b g h e =
      let last : last_of a ≡ last_of b = g.last ∙ ap (λ n. last_place n changes) e ∙ sym h.last in
      let long : length a.chosen ≡ length b.chosen = omega arith in
      ext_get_or [] a.chosen b.chosen long (λ i l. (
      let p = a.place + 1 + i in
      let left : p - (a.place + 1) ≡ i = omega arith in
      let right : p - (b.place + 1) ≡ i = omega arith in
      ap (λ n. slice_index_or a.chosen n []) (sym left)
      ∙ one_chosen p (chosen_at a p) (chosen_at b p) (g.chosen p (omega arith) (omega arith)) (h.chosen p (omega arith) (omega arith))
      ∙ ap (λ n. slice_index_or b.chosen n []) right))

  one_choice : (a b : Choice) → GivesChoice f changes a → GivesChoice f changes b → a ≡ b
  one_choice a b g h =
      let s = one_start a.place b.place a.digest b.digest g.start h.start in
      let c = same_chosen a b g h s.0 in
      λ i. record { place = s.0 i; digest = s.1 i; chosen = c i }

  -- a choice leaves nothing undecided
  apart : (c : Choice) (p : ℕ) → GivesChoice f changes c → ((p ≡ 0) × HasNoStart f changes) ⊎ ((start : ℕ) × (digest : List ℕ) × LeavesUndecided f changes start digest p) → ⊥
  apart c p g (inl n) = n.1 c.place c.digest g.start.may
  apart c p g (inr u) =
      let s = one_start c.place u.0 c.digest u.1 g.start u.2.checkpoint in
      let after = u.2.after in
      let last : last_of c ≡ last_place u.0 changes = g.last ∙ ap (λ n. last_place n changes) s.0 in
      let within = u.2.within in
      chosen_decides p (chosen_at c p) (g.chosen p (omega (arith, s.0)) (subst (λ n. p ≤ n) (sym last) within)) u.2.undecided

  one_undecided : (p q : ℕ) → ((p ≡ 0) × HasNoStart f changes) ⊎ ((start : ℕ) × (digest : List ℕ) × LeavesUndecided f changes start digest p)
      → ((q ≡ 0) × HasNoStart f changes) ⊎ ((start : ℕ) × (digest : List ℕ) × LeavesUndecided f changes start digest q) → p ≡ q
  one_undecided p q (inl a) (inl b) = a.0 ∙ sym b.0
  one_undecided p q (inl a) (inr b) = absurd (a.1 b.0 b.1 b.2.checkpoint.may)
  one_undecided p q (inr a) (inl b) = absurd (b.1 a.0 a.1 a.2.checkpoint.may)
  one_undecided p q (inr a) (inr b) =
      let s = (one_start a.0 b.0 a.1 b.1 a.2.checkpoint b.2.checkpoint).0 in
      let x = a.2.after in
      let y = b.2.after in
      elim (cases_order p q) [
        | inl e ↦ e
        | inr g ↦ elim g [
          | inl l ↦ absurd (b.2.first p (omega arith) l a.2.undecided)
          | inr l ↦ absurd (a.2.first q (omega arith) l b.2.undecided)
        ]
      ]

pub choice_is_unique : ChoiceIsUnique
choice_is_unique f changes (Chosen a) (Chosen b) g h = ap Chosen (one_choice f changes a b g h)
choice_is_unique f changes (Chosen a) (Undecided p) g h = absurd (apart f changes a p g h)
choice_is_unique f changes (Undecided p) (Chosen b) g h = absurd (apart f changes b p h g)
choice_is_unique f changes (Undecided p) (Undecided q) g h = ap Undecided (one_undecided f changes p q g h)
