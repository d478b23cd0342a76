-- The actions of one call: the function and the relation.
use Rattle.std.proofs.Common.{◌≡◌, ◌⊎◌, ℕ, zero, suc, Bool, true, false, if◌then◌else◌, Option, Some, None, refl, sym, ◌∙◌, ap, subst, inl, inr}
use Rattle.pws_event.specs.Counters.{Counters}
use Rattle.pws_protocol.specs.Actions.{Action, next_action}
use Rattle.pws_protocol.specs.Doing.{Reaction}
use Rattle.pws_protocol.specs.Reactions.{Acts, Follows, begun, settled_state, react, acts, turns, is_last, then_did, turn, more_unless}
use Rattle.pws_protocol.specs.Reactions as one
use Rattle.pws_protocol.specs.Laws.{ReactsInOneWay, ReactIsMet, Goes, none, more}

same_action : (o : Option Action) (a b : Action) → o ≡ Some a → o ≡ Some b → a ≡ b
same_action o a b h k = cc

no_action : (o : Option Action) (a : Action) → o ≡ None → o ≡ Some a → ⊥
no_action o a h k = cc

two_lasts : (a b : Action) → a ≡ b → is_last a ≡ true → is_last b ≡ false → ⊥
two_lasts a b e h k = let f : is_last a ≡ is_last b = ap is_last e in cc

-- what is reached where nothing is enabled
at_rest : (asked : Counters) (r v : Reaction) → next_action r.state asked ≡ None → Acts asked r v → r ≡ v
at_rest asked r v h (one.rests x k) = refl
at_rest asked r v h (one.ends x b k m) = absurd (no_action _ b h k)
at_rest asked r v h (one.goes x y b k m q) = absurd (no_action _ b h k)

-- what is reached by the last action of a call
at_last : (asked : Counters) (r v : Reaction) (a : Action) → next_action r.state asked ≡ Some a → is_last a ≡ true → Acts asked r v → then_did r a ≡ v
at_last asked r v a h l (one.rests x k) = absurd (no_action _ a k h)
at_last asked r v a h l (one.ends x b k m) = ap (then_did r) (same_action _ a b h k)
at_last asked r v a h l (one.goes x y b k m q) = absurd (two_lasts a b (same_action _ a b h k) l m)

-- what is reached after another action
going : (asked : Counters) (r v : Reaction) (a : Action) → next_action r.state asked ≡ Some a → is_last a ≡ false → Acts asked r v → Acts asked (then_did r a) v
going asked r v a h l (one.rests x k) = absurd (no_action _ a k h)
going asked r v a h l (one.ends x b k m) = absurd (two_lasts b a (same_action _ b a k h) m l)
going asked r v a h l (one.goes x y b k m q) = subst (λ (b : Action). Acts asked (then_did r b) v) (same_action _ b a k h) q

acts_is_one : (asked : Counters) (r u v : Reaction) → Acts asked r u → Acts asked r v → u ≡ v
acts_is_one asked r u v (one.rests x h) q = at_rest asked r v h q
acts_is_one asked r u v (one.ends x a h l) q = at_last asked r v a h l q
acts_is_one asked r u v (one.goes x y a h l p) q = acts_is_one asked (then_did r a) u v p (going asked r v a h l q)

follows_is_one : (asked : Counters) (b : Bool) (r u v : Reaction) → Follows asked b r u → Follows asked b r v → u ≡ v
follows_is_one asked true r u v p q = acts_is_one asked r u v p q
follows_is_one asked false r u v p q = sym p ∙ q

pub reacts_in_one_way : ReactsInOneWay
reacts_in_one_way s asked input u v p q =
    let b = begun (settled_state s asked) asked input in
    follows_is_one asked b.goes_on b.reaction u v p q

-- one turn of the function
abbrev Met : Counters → ℕ → Reaction → Reaction → Type 0
Met asked n r u = Acts asked r u ⊎ Goes asked n r

by_last : (n : ℕ) (asked : Counters) (r : Reaction) (a : Action) (b : Bool) → next_action r.state asked ≡ Some a → is_last a ≡ b
    → ((t : Reaction) → Met asked n t (acts n asked t)) → Met asked (suc n) r (more_unless b (then_did r a) (λ t. acts n asked t))
by_last n asked r a true e l f = inl (one.ends r a e l)
by_last n asked r a false e l f = after (f (then_did r a))
  where
    after : Met asked n (then_did r a) (acts n asked (then_did r a)) → Met asked (suc n) r (acts n asked (then_did r a))
    after (inl p) = inl (one.goes r (acts n asked (then_did r a)) a e l p)
    after (inr p) = inr (more n r a e l p)

by_turn : (n : ℕ) (asked : Counters) (r : Reaction) (o : Option Action) → next_action r.state asked ≡ o
    → ((t : Reaction) → Met asked n t (acts n asked t)) → Met asked (suc n) r (turn o r (λ t. acts n asked t))
by_turn n asked r None e f = inl (one.rests r e)
by_turn n asked r (Some a) e f = by_last n asked r a (is_last a) e refl f

acts_are_met : (n : ℕ) (asked : Counters) (r : Reaction) → Met asked n r (acts n asked r)
unfolding acts
acts_are_met zero asked r = inr (none r)
acts_are_met (suc n) asked r = by_turn n asked r (next_action r.state asked) refl (λ t. acts_are_met n asked t)

follows_is_met : (n : ℕ) (asked : Counters) (b : Bool) (r : Reaction) → Follows asked b r (if b then acts n asked r else r) ⊎ Goes asked n r
follows_is_met n asked true r = acts_are_met n asked r
follows_is_met n asked false r = inl refl

pub react_is_met : ReactIsMet
unfolding react
react_is_met s asked input =
    let b = begun (settled_state s asked) asked input in
    follows_is_met turns asked b.goes_on b.reaction
