-- What the primary offers as it starts a view.
use Rattle.std.proofs.Common.{◌≡◌, ◌⊎◌, inl, inr, ℕ, zero, suc, ◌+◌, ◌*◌, ◌-◌, ◌<◌, ◌≤◌, Bool, true, false, cond, List, [], ◌∷◌, map, filter, length, Option, Some, None, Contains, refl, sym, ◌∙◌, ap, subst, arith, nat_lt, nat_le, not, ◌&&◌, ◌||◌, ◌==◌}
use Rattle.std.specs.List.{fold, list_all, filter_map, cons_option, range_with_len}
use Rattle.std.specs.Option.{option_and_then, option_map_or}
use Rattle.std.specs.Ordering.{nat_cmp}
use Rattle.std.specs.FinMap.{FinMap, get, insert, empty, get-empty}
use Rattle.std.proofs.lemmas.Bool.{and_parts, and_from, eqb-true, eq-eqb, lt-ltb, leb-true, not-true}
use Rattle.std.proofs.lemmas.Cmp.{nat_cmp_total}
use Rattle.std.proofs.lemmas.List.{length-map}
use Rattle.std.proofs.lemmas.Map.Lookups.{exact_unsigned}
use Rattle.pws_base.specs.Shapes.{size_of_group, quorum_of}
use Rattle.pws_base.proofs.Maps.{put_cases}
use Rattle.pws_base.proofs.Members.{nowhere, here, there, first_or_rest, map_has, filter_has, all_pass}
use Rattle.pws_msg.specs.declared.changes.Choice.{Choice}
use Rattle.pws_msg.specs.declared.changes.Named.{Named}
use Rattle.pws_msg.specs.declared.changes.NewView.{NewView}
use Rattle.pws_change.specs.declared.heard.Heard.{Heard}
use Rattle.pws_change.specs.declared.decisions.Decision.{Decision}
use Rattle.pws_change.specs.declared.decisions.Decision.TheVariants.{Chosen, Undecided}
use Rattle.pws_change.specs.Agreements.{Agrees, name_of}
use Rattle.pws_change.specs.Choices.{IsChoice}
use Rattle.pws_change.specs.Decisions.{decision_of, choice_in}
use Rattle.pws_change.specs.Rising.{rises}
use Rattle.pws_change.proofs.Deciding.{decision_is_choice}
use Rattle.pws_safety.specs.Statements.{Sent}
use Rattle.pws_safety.specs.Voters.{IsHeard}
use Rattle.pws_protocol.specs.States.{State, HeldChange, Relayed, primary, is_primary, is_held}
use Rattle.pws_protocol.specs.Gathered.{acks_for, counted_at, counted, possible_choice}
use Rattle.pws_protocol.specs.Actions.{next_offer}
use Rattle.pws_protocol.specs.Doing.{with_offer}
use Rattle.pws_refine.specs.Contexts.{Context, IsLawful, IsOf}
use Rattle.pws_refine.specs.Links.{Links}
use Rattle.pws_refine.proofs.Places.{size_is}

-- the test of a change that counts, and what it is then
abbrev counts : State → ℕ → HeldChange → Bool
counts s j x = x.change.view == s.view && (j == s.me.index || nat_le (2 * s.me.f - 1) (acks_for s (λ i. not (i == s.me.index) && not (i == j)) j x.digest))

abbrev heard_at : ℕ → HeldChange → Heard
heard_at j x = record { index = j; digest = x.digest; change = x.change }

abbrev counted_of : State → ℕ → Option Heard
counted_of s j = option_and_then (counted_at s j) (get s.heard j)

abbrev counted_from : State → ℕ → ℕ → List Heard
counted_from s j n = filter_map (counted_of s) (range_with_len j n)

abbrev IsCounted : State → ℕ → Heard → Type 0
IsCounted s j x = (y : HeldChange) × (get s.heard j ≡ Some y) × (y.change.view ≡ s.view) × (x ≡ heard_at j y)

-- what counts was heard for the view
counts_is : (s : State) (j : ℕ) (x : Heard) → counted_of s j ≡ Some x → IsCounted s j x
counts_is s j x h = go (get s.heard j) refl h
  where
    test : (y : HeldChange) (b : Bool) → counts s j y ≡ b → cond b (Some (heard_at j y)) None ≡ Some x → (y.change.view ≡ s.view) × (x ≡ heard_at j y)
    test y true e k = (eqb-true y.change.view s.view (and_parts (y.change.view == s.view) _ e).0, let i : ◌≡◌ {A = Option Heard} (Some (heard_at j y)) (Some x) = k in cc)
    test y false e k = absurd (let i : ◌≡◌ {A = Option Heard} None (Some x) = k in cc)

    go : (o : Option HeldChange) → get s.heard j ≡ o → option_and_then (counted_at s j) o ≡ Some x → IsCounted s j x
    go None e k = absurd (let i : ◌≡◌ {A = Option Heard} None (Some x) = k in cc)
    go (Some y) e k = let t = test y (counts s j y) refl k in (y, e, t.0, t.1)

rest_cases : (o : Option Heard) (hs : List Heard) (x : Heard) → Contains (cons_option o hs) x → (o ≡ Some x) ⊎ Contains hs x
rest_cases None hs x m = inr m
rest_cases (Some h) hs x m = elim (first_or_rest h x hs m) [ inl e ↦ inl (ap Some e) | inr r ↦ inr r ]

from_is : (s : State) (j n : ℕ) (x : Heard) → Contains (counted_from s j n) x → (j ≤ x.index) × (counted_of s x.index ≡ Some x)
from_is s j zero x m = absurd (nowhere x m)
from_is s j (suc n) x m =
    elim (rest_cases (counted_of s j) (counted_from s (j + 1) n) x m) [
      | inl e ↦
          let k = counts_is s j x e in
          let at : x.index ≡ j = ap (λ (y : Heard). y.index) k.3 in
          (omega (arith, at), subst (λ i. counted_of s i ≡ Some x) (sym at) e)
      | inr r ↦ let k = from_is s (j + 1) n x r in let l = k.0 in (omega (arith, l), k.1)
    ]

below_all : (i : ℕ) (xs : List Heard) → ((x : Heard) → Contains xs x → i < x.index) → list_all (λ (n : Named). nat_lt i n.index) (map name_of xs) ≡ true
below_all i [] h = refl
below_all i (x ∷ xs) h = and_from (nat_lt i x.index) (list_all (λ (n : Named). nat_lt i n.index) (map name_of xs)) (lt-ltb i x.index (h x (here x xs))) (below_all i xs (λ y m. h y (there x y xs m)))

names_rise : (s : State) (j n : ℕ) → rises (λ (a b : Named). nat_lt a.index b.index) (map name_of (counted_from s j n)) ≡ true
names_rise s j zero = refl
names_rise s j (suc n) = go (counted_of s j) refl (names_rise s (j + 1) n)
  where
    go : (o : Option Heard) → counted_of s j ≡ o → rises (λ (a b : Named). nat_lt a.index b.index) (map name_of (counted_from s (j + 1) n)) ≡ true → rises (λ (a b : Named). nat_lt a.index b.index) (map name_of (cons_option o (counted_from s (j + 1) n))) ≡ true
    go None e rest = rest
    go (Some h) e rest =
        let at : h.index ≡ j = ap (λ (y : Heard). y.index) (counts_is s j h e).3 in
        and_from _ _ (below_all h.index (counted_from s (j + 1) n) (λ x m. let l = (from_is s (j + 1) n x m).0 in omega (arith, at, l))) rest

rise : (s : State) → rises (λ (a b : Named). nat_lt a.index b.index) (map name_of (counted s)) ≡ true
unfolding counted
rise s = names_rise s 0 (size_of_group s.me.f)

pub counted_is : (s : State) (x : Heard) → Contains (counted s) x → IsCounted s x.index x
unfolding counted
counted_is s x m = counts_is s x.index x (from_is s 0 (size_of_group s.me.f) x m).1

abbrev IsOffer : State → Choice → Type 0
IsOffer s v = (s.active ≡ false) × (s.me.index ≡ primary s) × (quorum_of s.me.f ≤ length (counted s)) × (decision_of s.me.f (counted s) ≡ Chosen v)

abbrev may_offer : State → Bool
may_offer s = not s.active && (is_primary s && nat_le (quorum_of s.me.f) (length (counted s)))

possible_is : (s : State) (v : Choice) → possible_choice s ≡ Some v → IsOffer s v
unfolding possible_choice
possible_is s v h = go (may_offer s) refl h
  where
    chosen : (d : Decision) → choice_in d ≡ Some v → d ≡ Chosen v
    chosen (Chosen e) k = let i : ◌≡◌ {A = Option Choice} (Some e) (Some v) = k in let same : e ≡ v = cc in ap Chosen same
    chosen (Undecided p) k = absurd (let i : ◌≡◌ {A = Option Choice} None (Some v) = k in cc)

    go : (b : Bool) → may_offer s ≡ b → cond b (choice_in (decision_of s.me.f (counted s))) None ≡ Some v → IsOffer s v
    go true e k =
        let a = and_parts (not s.active) _ e in
        let b = and_parts (s.me.index == primary s) _ a.1 in
        (not-true s.active a.0, eqb-true s.me.index (primary s) b.0, leb-true (quorum_of s.me.f) (length (counted s)) b.1, chosen (decision_of s.me.f (counted s)) k)
    go false e k = absurd (let i : ◌≡◌ {A = Option Choice} None (Some v) = k in cc)

-- what is offered is the choice of the changes that count
pub offer_is : (s : State) (v : Choice) → next_offer s ≡ Some v → IsOffer s v
unfolding next_offer
offer_is s v h = go (possible_choice s) refl h
  where
    held : (w : Choice) (b : Bool) → cond b (Some w) None ≡ Some v → w ≡ v
    held w true k = let i : ◌≡◌ {A = Option Choice} (Some w) (Some v) = k in cc
    held w false k = absurd (let i : ◌≡◌ {A = Option Choice} None (Some v) = k in cc)

    go : (o : Option Choice) → possible_choice s ≡ o → option_and_then (λ (w : Choice). cond (list_all (is_held s) w.chosen) (Some w) None) o ≡ Some v → IsOffer s v
    go None e k = absurd (let i : ◌≡◌ {A = Option Choice} None (Some v) = k in cc)
    go (Some w) e k = possible_is s v (e ∙ ap Some (held w (list_all (is_held s) w.chosen) k))

-- the NEW_VIEW of a choice
abbrev pub offer_of : State → Choice → NewView
offer_of s v = record { view = s.view; named = map name_of (counted s); choice = v }

module _ (c : Context) (sent : Sent) (s : State) (law : IsLawful c) (is : IsOf c s) where
  pub offer_agrees : (v : Choice) → quorum_of s.me.f ≤ length (counted s) → decision_of s.me.f (counted s) ≡ Chosen v → Agrees c.group.f (offer_of s v) (counted s)
  offer_agrees v many chosen = record {
    rises = rise s;
    many = let l : length (map name_of (counted s)) ≡ length (counted s) = length-map (counted s) name_of in let f = size_is c s law is in omega (arith, l, many, f);
    named = refl;
    views = all_pass (λ (x : Heard). x.change.view == s.view) (counted s) (λ x k.
        let o = counted_is s x k in
        eq-eqb x.change.view s.view (ap (λ (y : Heard). y.change.view) o.3 ∙ o.2));
    choice = subst (IsChoice c.group.f (counted s)) (subst (λ f. decision_of f (counted s) ≡ Chosen v) (size_is c s law is) chosen) (decision_is_choice c.group.f (counted s));
  }

  pub counted_heard : Links c sent s → (x : Heard) → Contains (counted s) x → (c.group.digest_of x.change ≡ x.digest) × IsHeard c.group sent s.view x.index x.change
  counted_heard l x k =
      let o = counted_is s x k in
      let m = l.heard x.index o.0 o.1 in
      subst (λ (y : Heard). (c.group.digest_of y.change ≡ y.digest) × IsHeard c.group sent s.view x.index y.change) (sym o.3) (m.1, subst (λ v. IsHeard c.group sent v x.index o.0.change) o.2 m.0)

-- what is passed on is what was heard
abbrev relayed : HeldChange → Relayed
relayed x = record { digest = x.digest; change = x.change; tags = x.tags; is_verified = true }

abbrev relay_in : State → FinMap nat_cmp Relayed → ℕ → FinMap nat_cmp Relayed
relay_in s m j = option_map_or (λ (x : HeldChange). insert m j (relayed x)) (get s.heard j) m

abbrev IsPassed : State → ℕ → Relayed → Type 0
IsPassed s j r = (x : HeldChange) × (get s.heard j ≡ Some x) × (r ≡ relayed x)

one_passed : (s : State) (m : FinMap nat_cmp Relayed) (i j : ℕ) (r : Relayed) → get (relay_in s m i) j ≡ Some r → (get m j ≡ Some r) ⊎ ((i ≡ j) × IsPassed s j r)
one_passed s m i j r h = go (get s.heard i) refl h
  where
    go : (o : Option HeldChange) → get s.heard i ≡ o → get (option_map_or (λ (x : HeldChange). insert m i (relayed x)) o m) j ≡ Some r → (get m j ≡ Some r) ⊎ ((i ≡ j) × IsPassed s j r)
    go None e k = inl k
    go (Some x) e k =
        elim (put_cases nat_cmp_total exact_unsigned m i j (relayed x) r k) [
          | inl y ↦ inr (sym y.0, (x, subst (λ q. get s.heard q ≡ Some x) (sym y.0) e, sym y.1))
          | inr y ↦ inl y
        ]

all_passed : (s : State) (js : List ℕ) (m : FinMap nat_cmp Relayed) (j : ℕ) (r : Relayed) → get (fold (relay_in s) m js) j ≡ Some r → (get m j ≡ Some r) ⊎ (Contains js j × IsPassed s j r)
all_passed s [] m j r h = inl h
all_passed s (i ∷ js) m j r h =
    elim (all_passed s js (relay_in s m i) j r h) [
      | inl x ↦ elim (one_passed s m i j r x) [
        | inl y ↦ inl y
        | inr y ↦ inr (subst (λ q. Contains (i ∷ js) q) y.0 (here i js), y.1)
      ]
      | inr x ↦ inr (there i j js x.0, x.1)
    ]

abbrev others : State → List ℕ
others s = filter (λ j. not (j == s.me.index)) (map (λ (h : Heard). h.index) (counted s))

-- a change that is passed on with an offer is one that counts
pub offered_is : (s : State) (v : Choice) (j : ℕ) (r : Relayed) → get (with_offer s v).relayed j ≡ Some r → (h : Heard) × Contains (counted s) h × (h.index ≡ j) × (h.change ≡ r.change) × (h.digest ≡ r.digest)
unfolding with_offer
offered_is s v j r h =
    elim (all_passed s (others s) empty j r h) [
      | inl x ↦ absurd (let i : ◌≡◌ {A = Option Relayed} None (Some r) = sym (get-empty nat_cmp j) ∙ x in cc)
      | inr x ↦
          let f = filter_has (λ j. not (j == s.me.index)) (map (λ (h : Heard). h.index) (counted s)) j x.0 in
          let m = map_has (λ (h : Heard). h.index) (counted s) j f.0 in
          let o = counted_is s m.0 m.1 in
          let p = x.1 in
          let same : o.0 ≡ p.0 = let i : ◌≡◌ {A = Option HeldChange} (Some o.0) (Some p.0) = sym o.1 ∙ (ap (get s.heard) m.2 ∙ p.1) in cc in (
            m.0,
            m.1,
            m.2,
            ap (λ (y : Heard). y.change) o.3 ∙ (ap (λ (y : HeldChange). y.change) same ∙ sym (ap (λ (y : Relayed). y.change) p.2)),
            ap (λ (y : Heard). y.digest) o.3 ∙ (ap (λ (y : HeldChange). y.digest) same ∙ sym (ap (λ (y : Relayed). y.digest) p.2)),
          )
    ]
