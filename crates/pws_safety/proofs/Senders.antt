-- A list of view changes whose senders rise counts distinct senders.
use Rattle.std.proofs.Common.{ℕ, suc, ◌<◌, ◌≤◌, ◌≡◌, inl, inr, Bool, true, false, ◌&&◌, ◌||◌, cond, refl, List, [], ◌∷◌, ◌==◌, arith}
use Rattle.std.specs.List.{list_all, Contains, count_by}
use Rattle.std.specs.Prelude.{nat_lt}
use Rattle.std.proofs.lemmas.Bool.{and_parts, or_cases, and_from, or_left, or_right, eqb-true, false_from_ne_true, ltb-true}
use Rattle.pws_base.specs.Counts.{count_below}
use Rattle.pws_change.specs.declared.heard.Heard.{Heard}
use Rattle.pws_change.specs.Rising.{rises}
use Rattle.pws_safety.specs.Replicas.{AtLeast, SendersAreDistinct, sent_one}
use Rattle.pws_base.proofs.Members.{any_has, all_has, here, there, tally, tally_counts}
use Rattle.pws_safety.proofs.Counted.{count_more, count_insert}

pub sent_tells : (q : Heard → Bool) (S : List Heard) (i : ℕ) → sent_one q S i ≡ true → (h : Heard) × Contains S h × (h.index ≡ i) × (q h ≡ true)
sent_tells q S i t =
    let r = any_has (λ h. (h.index == i) && q h) S t in
    let e = and_parts (r.0.index == i) (q r.0) r.2 in
    (r.0, r.1, eqb-true _ _ e.0, e.1)

-- the rest has no change of a replica that all its senders are above
not_sent : (q : Heard → Bool) (S : List Heard) (m : ℕ) → ((g : Heard) → Contains S g → m < g.index) → sent_one q S m ≡ false
not_sent q S m above = false_from_ne_true (sent_one q S m) (λ t. let r = sent_tells q S m t in let l = above r.0 r.1 in let e = r.2 in omega arith)

tally_step : (n m x : ℕ) (b : Bool) (t : ℕ → Bool) → m < n → t m ≡ false → x ≤ count_below n t → cond b (suc x) x ≤ count_below n (λ i. ((m == i) && b) || t i)
tally_step n m x true t l e h = let k = count_insert n m t l e in let j = count_more n (λ i. (m == i) || t i) (λ i. ((m == i) && true) || t i) (λ i _ g. elim (or_cases (m == i) (t i) g) [ inl y ↦ or_left _ _ (and_from _ _ y refl) | inr y ↦ or_right _ _ y ]) in omega arith
tally_step n m x false t l e h = let j = count_more n t (λ i. ((m == i) && false) || t i) (λ i _ g. or_right _ _ g) in omega arith

tally_senders : (n : ℕ) (q : Heard → Bool) (S : List Heard) → rises (λ (a b : Heard). nat_lt a.index b.index) S ≡ true → ((h : Heard) → Contains S h → h.index < n) → tally q S ≤ count_below n (sent_one q S)
tally_senders n q [] r l = omega arith
tally_senders n q (h ∷ S) r l =
    let e = and_parts (list_all (λ (g : Heard). nat_lt h.index g.index) S) (rises (λ (a b : Heard). nat_lt a.index b.index) S) r in
    tally_step n h.index (tally q S) (q h) (sent_one q S) (l h (here h S)) (not_sent q S h.index (λ g k. ltb-true _ _ (all_has (λ (g : Heard). nat_lt h.index g.index) S e.0 g k)))
    (tally_senders n q S e.1 (λ g k. l g (there h g S k)))

pub senders_are_distinct : SendersAreDistinct
senders_are_distinct n q S r l = let k = tally_senders n q S r l in let e = tally_counts q S in omega arith

-- so where k changes pass, at least k replicas sent one that does
pub senders_of : (n k : ℕ) (q : Heard → Bool) (S : List Heard) → rises (λ (a b : Heard). nat_lt a.index b.index) S ≡ true → ((h : Heard) → Contains S h → h.index < n) → k ≤ count_by q S
    → AtLeast n k (λ i. (h : Heard) × Contains S h × (h.index ≡ i) × (q h ≡ true))
senders_of n k q S r l many = (sent_one q S, (let d = senders_are_distinct n q S r l in omega arith), λ i _ t. sent_tells q S i t)
