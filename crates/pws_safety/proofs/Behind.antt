-- The view changes behind a NEW_VIEW: each of a correct replica is one that it sent, however it was had.
use Rattle.std.proofs.Common.{ℕ, ◌<◌, ◌≡◌, inl, inr, Bool, true, false, not, ◌&&◌, ◌||◌, refl, sym, ap, ◌∙◌, subst, List, [], ◌∷◌, map, ◌==◌, arith}
use Rattle.std.specs.Prelude.{nat_lt}
use Rattle.std.specs.List.{Contains, list_all}
use Rattle.std.proofs.lemmas.Bool.{true≢false, and_parts, and_left, and_cases, not-true, not-false, not_from_true, cases_Bool, or_cases, eq-eqb, eqb-true, leb-true}
use Rattle.pws_msg.specs.declared.changes.Named.{Named}
use Rattle.pws_msg.specs.declared.changes.ViewChange.{ViewChange}
use Rattle.pws_msg.specs.declared.changes.NewView.{NewView}
use Rattle.pws_change.specs.declared.heard.Heard.{Heard}
use Rattle.pws_change.specs.Agreements.{Agrees, name_of}
use Rattle.pws_change.specs.Changes.{is_low_by}
use Rattle.pws_change.specs.Rising.{rises}
use Rattle.pws_safety.specs.Replicas.{AtLeast, IsSound}
use Rattle.pws_safety.specs.Statement.{Statement, Ack}
use Rattle.pws_safety.specs.Statement as say
use Rattle.pws_safety.specs.Statements.{Group, Sent, Told, IsCorrect, size, primary}
use Rattle.pws_safety.specs.Voters.{IsHeard, IsHad}
use Rattle.pws_safety.specs.Kept.{IsBehind}
use Rattle.pws_safety.specs.Runs.{NoCollision}
use Rattle.pws_base.proofs.Members.{nowhere, here, there, first_or_rest, all_has, count_some}
use Rattle.pws_safety.proofs.Counted.{count_apart, count_more, count_insert, some_passes, at_least_weaker}

-- the names of a list, and whether they rise
all_named : (x : ℕ) (S : List Heard) → list_all (λ (n : Named). nat_lt x n.index) (map name_of S) ≡ list_all (λ (h : Heard). nat_lt x h.index) S
all_named x [] = refl
all_named x (h ∷ S) = ap (λ b. nat_lt x h.index && b) (all_named x S)

rises_named : (S : List Heard) → rises (λ (a b : Named). nat_lt a.index b.index) (map name_of S) ≡ rises (λ (a b : Heard). nat_lt a.index b.index) S
rises_named [] = refl
rises_named (h ∷ S) = ap (λ b. b && rises (λ (a b : Named). nat_lt a.index b.index) (map name_of S)) (all_named h.index S) ∙ ap (λ b. list_all (λ (g : Heard). nat_lt h.index g.index) S && b) (rises_named S)

pub named_has : (S : List Heard) (h : Heard) → Contains S h → Contains (map name_of S) (name_of h)
named_has [] h k = absurd (nowhere h k)
named_has (x ∷ S) h k =
    elim (first_or_rest x h S k) [
      | inl e ↦ subst (λ y. Contains (name_of x ∷ map name_of S) (name_of y)) e (here (name_of x) (map name_of S))
      | inr j ↦ there (name_of x) (name_of h) (map name_of S) (named_has S h j)
    ]

pub named_from : (S : List Heard) (n : Named) → Contains (map name_of S) n → (h : Heard) × Contains S h × (name_of h ≡ n)
named_from [] n k = absurd (nowhere n k)
named_from (x ∷ S) n k =
    elim (first_or_rest (name_of x) n (map name_of S) k) [
      | inl e ↦ (x, here x S, e)
      | inr j ↦ (let r = named_from S n j in (r.0, there x r.0 S r.1, r.2))
    ]

pub agreed_rises : (f : ℕ) (new : NewView) (S : List Heard) → Agrees f new S → rises (λ (a b : Heard). nat_lt a.index b.index) S ≡ true
agreed_rises f new S a = sym (rises_named S) ∙ subst (λ ns. rises (λ (a b : Named). nat_lt a.index b.index) ns ≡ true) a.named a.rises

pub agreed_view : (f : ℕ) (new : NewView) (S : List Heard) → Agrees f new S → (h : Heard) → Contains S h → h.change.view ≡ new.view
agreed_view f new S a h k = eqb-true _ _ (all_has (λ (h : Heard). h.change.view == new.view) S a.views h k)

-- view changes are for views above 0
pub behind_view : (g : Group) (sent : Sent) (new : NewView) (S : List Heard) → IsBehind g sent new S → 0 < new.view
behind_view g sent new S b =
    let r = count_some (is_low_by new.choice.place) S (omega (arith, b.agrees.choice.start.may.reached)) in
    let v = leb-true _ _ (b.valid r.0 r.1).view in
    let e = agreed_view g.f new S b.agrees r.0 r.1 in
    omega (arith, v, e)

module _ (g : Group) (sent : Sent) (few : IsSound g.f g.compromised) where
  sure : (j : ℕ) (x : Statement) → g.compromised j ≡ false → Told g sent j x → Contains sent (j, x)
  sure j x good t = elim t [ inl y ↦ absurd (true≢false (sym y ∙ good)) | inr y ↦ y ]

  -- of f replicas that aren't the primary one is correct, where the primary is compromised
  a_correct_acker : (m : ℕ) (P : ℕ → Type 0) → m < size g → g.compromised m ≡ true → AtLeast (size g) g.f (λ k. (k ≡ m → ⊥) × P k) → (k : ℕ) × IsCorrect g k × P k
  a_correct_acker m P l b many =
      let n = size g in
      let t = many.0 in
      let other : ℕ → Bool = λ i. not (m == i) && g.compromised i in
      let gone : other m ≡ false = and_left (not (m == m)) (g.compromised m) (not_from_true (m == m) (eq-eqb m m refl)) in
      let fewer = count_insert n m other l gone in
      let within = count_more n (λ i. (m == i) || other i) g.compromised (λ i _ h. elim (or_cases (m == i) (other i) h) [ inl e ↦ subst (λ y. g.compromised y ≡ true) (eqb-true m i e) b | inr e ↦ (and_parts (not (m == i)) (g.compromised i) e).1 ]) in
      let r = some_passes n (λ i. t i && not (other i)) (omega (arith, count_apart n t other, fewer, within, few, many.1)) in
      let s = and_parts (t r.0) (not (other r.0)) r.2 in
      let q = many.2 r.0 r.1 s.0 in
      let o = not-true (other r.0) s.1 in
      (r.0, (r.1, elim (and_cases (not (m == r.0)) (g.compromised r.0) o) [ inl e ↦ absurd (q.0 (sym (eqb-true m r.0 (not-false (m == r.0) e)))) | inr e ↦ e ]), q.1)

  -- from view changes that were heard themselves
  pub behind_heard : (w : ℕ) (new : NewView) (S : List Heard) → Agrees g.f new S
      → ((h : Heard) → Contains S h → (g.digest_of h.change ≡ h.digest) × IsHeard g sent w h.index h.change)
      → IsBehind g sent new S
  behind_heard w new S agrees heard = record {
    agrees = agrees;
    replica = λ h k. (heard h k).1.replica;
    valid = λ h k. (heard h k).1.valid;
    sent_it = λ h k good. sure h.index (say.ViewChange h.change) good (heard h k).1.told;
  }

  module _ (no_collision : NoCollision g)
      (acks : (k w j : ℕ) (d : List ℕ) → IsCorrect g k → Contains sent (k, Ack w j d) → (c : ViewChange) × IsHeard g sent w j c × (g.digest_of c ≡ d))
      (names : (k : ℕ) (new : NewView) → IsCorrect g k → Contains sent (k, say.NewView new) → (n : Named) → Contains new.named n → (c : ViewChange) × IsHeard g sent new.view n.index c × (g.digest_of c ≡ n.digest)) where
    -- what was heard under this digest is this change
    known : (w : ℕ) (h : Heard) → IsHad g sent w h → g.compromised h.index ≡ false → ((c : ViewChange) × IsHeard g sent w h.index c × (g.digest_of c ≡ h.digest)) → Contains sent (h.index, say.ViewChange h.change)
    known w h had good r =
        let e = no_collision r.0 h.change r.1.occurs had.occurs (r.2 ∙ sym had.digest) in
        subst (λ y. Contains sent (h.index, say.ViewChange y)) e (sure h.index (say.ViewChange r.0) good r.1.told)

    had_is_sent : (w : ℕ) (new : NewView) (h : Heard) → Told g sent (primary g w) (say.NewView new) → new.view ≡ w → Contains new.named (name_of h) → IsHad g sent w h → g.compromised h.index ≡ false → Contains sent (h.index, say.ViewChange h.change)
    had_is_sent w new h told view has had good =
        elim had.source [
          | inl t ↦ sure h.index (say.ViewChange h.change) good t
          | inr many ↦ elim (cases_Bool (g.compromised (primary g w))) [
            | inl b ↦
                (let weaker = at_least_weaker (size g) g.f (λ k. (k ≡ h.index → ⊥) × (k ≡ primary g w → ⊥) × Told g sent k (Ack w h.index h.digest)) (λ k. (k ≡ primary g w → ⊥) × Told g sent k (Ack w h.index h.digest)) (λ i x. (x.1, x.2)) many in
                let k = a_correct_acker (primary g w) (λ k. Told g sent k (Ack w h.index h.digest)) (omega arith) b weaker in
                known w h had good (acks k.0 w h.index h.digest k.1 (sure k.0 (Ack w h.index h.digest) k.1.1 k.2)))
            | inr b ↦ known w h had good
                (subst (λ v. (c : ViewChange) × IsHeard g sent v h.index c × (g.digest_of c ≡ h.digest)) view
                (names (primary g w) new (omega arith, b) (sure (primary g w) (say.NewView new) b told) (name_of h) has))
          ]
        ]

    -- from view changes that were had
    pub behind_had : (w : ℕ) (new : NewView) (S : List Heard) → Told g sent (primary g w) (say.NewView new) → new.view ≡ w → Agrees g.f new S → ((h : Heard) → Contains S h → IsHad g sent w h) → IsBehind g sent new S
    behind_had w new S told view agrees had = record {
      agrees = agrees;
      replica = λ h k. (had h k).replica;
      valid = λ h k. (had h k).valid;
      sent_it = λ h k good. had_is_sent w new h told view (subst (λ ns. Contains ns (name_of h)) (sym agrees.named) (named_has S h k)) (had h k) good;
    }
