-- A run goes on by a step whose statements are sent at once.
use Rattle.std.proofs.Common.{ℕ, ◌≡◌, inl, inr, sym, ap, subst, List, [], ◌∷◌, ◌++◌, ◌==◌}
use Rattle.std.specs.List.{Contains}
use Rattle.std.proofs.lemmas.Bool.{cases_eq, eq-eqb, ne_eqb, cond-true, cond-false}
use Rattle.std.proofs.lemmas.List.Elements.{Contains-append_left, Contains-append_right, Contains-append_cases}
use Rattle.pws_safety.specs.Statement.{Statement}
use Rattle.pws_safety.specs.Statements.{Group, Sent, IsCorrect}
use Rattle.pws_safety.specs.Voters.{Core, new_core, Step}
use Rattle.pws_safety.specs.Runs.{Reached, start, step, again, Sends, Repeats, said_by, with_core}
use Rattle.pws_safety.specs.Agreement.{SaidIsSent}
use Rattle.pws_base.proofs.Members.{nowhere, here, there, first_or_rest}

-- what is said by a replica
pub said_has : (i : ℕ) (xs : List Statement) (x : Statement) → Contains xs x → Contains (said_by i xs) (i, x)
said_has i [] x h = absurd (nowhere x h)
said_has i (y ∷ xs) x h =
    elim (first_or_rest y x xs h) [
      | inl e ↦ subst (λ z. Contains ((i, y) ∷ said_by i xs) (i, z)) e (here (i, y) (said_by i xs))
      | inr k ↦ there (i, y) (i, x) (said_by i xs) (said_has i xs x k)
    ]

pub said_from : (i : ℕ) (xs : List Statement) (k : ℕ) (x : Statement) → Contains (said_by i xs) (k, x) → (i ≡ k) × Contains xs x
said_from i [] k x h = absurd (nowhere (k, x) h)
said_from i (y ∷ xs) k x h =
    elim (first_or_rest (i, y) (k, x) (said_by i xs) h) [
      | inl e ↦ (ap (λ (z : ℕ × Statement). z.0) e, subst (λ z. Contains (y ∷ xs) z) (ap (λ (z : ℕ × Statement). z.1) e) (here y xs))
      | inr j ↦ (let r = said_from i xs k x j in (r.0, there y x xs r.1))
    ]

-- what was sent in the name of correct replicas is what they said
pub record IsLinked (g : Group) (cores : ℕ → Core) (sent : Sent) : Type 0 where
  pub said : (i : ℕ) → IsCorrect g i → (x : Statement) → Contains (cores i).said x → Contains sent (i, x)
  pub only_said : (i : ℕ) → IsCorrect g i → (x : Statement) → Contains sent (i, x) → Contains (cores i).said x

pub linked_start : (g : Group) → IsLinked g (λ i. new_core) []
linked_start g = record { said = λ i ci x h. absurd (nowhere x h); only_said = λ i ci x h. absurd (nowhere (i, x) h) }

pub linked_step : (g : Group) (cores : ℕ → Core) (before after : Sent) (i : ℕ) (s : Core) → IsLinked g cores before → Sends g i s before after → IsLinked g (with_core cores i s) after
linked_step g cores before after i s l sends =
    let at : (k : ℕ) → k ≡ i → with_core cores i s k ≡ s = λ k e. cond-true (k == i) s (cores k) (eq-eqb k i e) in
    let off : (k : ℕ) → (k ≡ i → ⊥) → with_core cores i s k ≡ cores k = λ k e. cond-false (k == i) s (cores k) (ne_eqb k i e) in
    record {
      said = λ k ck x h. elim (cases_eq k i) [
        | inl e ↦ subst (λ y. Contains after (y, x)) (sym e) (sends.own x (subst (λ (y : Core). Contains y.said x) (at k e) h))
        | inr e ↦ sends.stays k x (l.said k ck x (subst (λ (y : Core). Contains y.said x) (off k e) h))
      ];
      only_said = λ k ck x h. elim (cases_eq k i) [
        | inl e ↦ subst (λ (y : Core). Contains y.said x) (sym (at k e)) (sends.only_own x (subst (λ y. Contains after (y, x)) e h))
        | inr e ↦ subst (λ (y : Core). Contains y.said x) (sym (off k e)) (l.only_said k ck x (sends.others k x ck e h))
      ];
    }

pub linked_again : (g : Group) (cores : ℕ → Core) (before after : Sent) → IsLinked g cores before → Repeats g before after → IsLinked g cores after
linked_again g cores before after l repeats = record { said = λ i ci x h. repeats.stays i x (l.said i ci x h); only_said = λ i ci x h. l.only_said i ci x (repeats.nothing_new i x ci h) }

linked_run_from : (g : Group) {cores : ℕ → Core} {sent : Sent} → Reached g cores sent → IsLinked g cores sent
linked_run_from g start = linked_start g
linked_run_from g (again cores before after r repeats) = linked_again g cores before after (linked_run_from g r) repeats
linked_run_from g (step cores before after i s r ci t sends) = linked_step g cores before after i s (linked_run_from g r) sends

pub said_is_sent : SaidIsSent
said_is_sent i xs k x = (
  said_from i xs k x,
  λ h. subst (λ y. Contains (said_by i xs) (y, x)) h.0 (said_has i xs x h.1),
)

-- a step says these statements, and they are sent
pub sends_next : (g : Group) (cores : ℕ → Core) (sent : Sent) (i : ℕ) (s : Core) (xs : List Statement) → IsLinked g cores sent → IsCorrect g i → s.said ≡ xs ++ (cores i).said → Sends g i s sent (said_by i xs ++ sent)
sends_next g cores sent i s xs l ci says = record {
  stays = λ k x h. Contains-append_right (said_by i xs) sent (k, x) h;
  own = λ x h. elim (Contains-append_cases xs (cores i).said x (subst (λ ys. Contains ys x) says h)) [
    | inl a ↦ Contains-append_left (said_by i xs) sent (i, x) (said_has i xs x a)
    | inr a ↦ Contains-append_right (said_by i xs) sent (i, x) (l.said i ci x a)
  ];
  only_own = λ x h. subst (λ ys. Contains ys x) (sym says) (elim (Contains-append_cases (said_by i xs) sent (i, x) h) [
    | inl a ↦ Contains-append_left xs (cores i).said x (said_from i xs i x a).1
    | inr a ↦ Contains-append_right xs (cores i).said x (l.only_said i ci x a)
  ]);
  others = λ k x ck other h. elim (Contains-append_cases (said_by i xs) sent (k, x) h) [
    | inl a ↦ absurd (other (sym (said_from i xs k x a).0))
    | inr a ↦ a
  ];
}

pub next : (g : Group) (cores : ℕ → Core) (sent : Sent) (i : ℕ) (s : Core) (xs : List Statement) → Reached g cores sent → IsCorrect g i → Step g sent i (cores i) s → s.said ≡ xs ++ (cores i).said
    → Reached g (with_core cores i s) (said_by i xs ++ sent)
next g cores sent i s xs r ci t says = step cores sent (said_by i xs ++ sent) i s r ci t (sends_next g cores sent i s xs (linked_run_from g r) ci says)
