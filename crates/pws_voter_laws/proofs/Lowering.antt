-- What fits before the low mark is raised fits after it.
use Rattle.std.proofs.Common.{◌≡◌, ℕ, ◌+◌, ◌<◌, nat_lt, nat_le, Option, Some, None, refl, sym, ◌∙◌, ap, arith}
use Rattle.std.specs.Ordering.{nat_cmp}
use Rattle.std.specs.Cmp.{nat_cmp_total}
use Rattle.std.specs.FinMap.{FinMap, empty, get, get-empty, same_map, nat_cmp-IsAntisymmetric}
use Rattle.std.proofs.lemmas.Bool.{and_parts, and_from, ltb-true, leb-true, lt-ltb, le-leb}
use Rattle.pws_base.specs.Places.{is_in_window}
use Rattle.pws_base.specs.Shapes.{size_of_group}
use Rattle.pws_base.proofs.Maps.{retain_cases, retain_kept}
use Rattle.pws_event.specs.Counters.{Counters}
use Rattle.pws_change.specs.Sets.{trimmed}
use Rattle.pws_votes.specs.declared.kinds.VoteKind.TheVariants as kind
use Rattle.pws_votes.specs.Votes.{key}
use Rattle.pws_votes.proofs.VoteLemmas.{keys_are_ordered}
use Rattle.pws_protocol.specs.States.{State}
use Rattle.pws_protocol.specs.Actions as act
use Rattle.pws_protocol.specs.Doing.{did, did_stable}
use Rattle.pws_voter_laws.specs.Enabled.{IsEnabled}
use Rattle.pws_voter_laws.proofs.Found.{nothing}
use Rattle.pws_voter_laws.proofs.Parts.{Whole, in_window}
use Rattle.pws_voter_laws.proofs.Tests.{stable_is_open}

-- of nothing nothing is kept
none_of : {X : Type 0} (o : Option X) → ((x : X) → o ≡ Some x → ⊥) → o ≡ None
none_of None h = refl
none_of (Some x) h = absurd (h x refl)

none_kept : {X : Type 0} (p : ℕ) → trimmed p (empty {X = X} {R = nat_cmp}) ≡ empty
none_kept {X} p = same_map nat_cmp_total nat_cmp-IsAntisymmetric (trimmed p (empty {X = X} {R = nat_cmp})) empty (λ q.
    none_of (get (trimmed p (empty {X = X} {R = nat_cmp})) q) (λ x h. nothing x (sym (get-empty nat_cmp q) ∙ (retain_cases nat_cmp-IsAntisymmetric (empty {X = X} {R = nat_cmp}) (nat_lt p) q x h).1))
    ∙ sym (get-empty nat_cmp q))

-- what a trimmed map has is above the mark, and was there
above : {X : Type 0} (p : ℕ) (m : FinMap nat_cmp X) (q : ℕ) (x : X) → get (trimmed p m) q ≡ Some x → (p < q) × (get m q ≡ Some x)
above p m q x h = let r = retain_cases nat_cmp-IsAntisymmetric m (nat_lt p) q x h in (ltb-true p q r.0, r.1)

pub stable_fits : (s : State) (asked : Counters) (p : ℕ) → Whole s → IsEnabled s asked (act.Stable p) → Whole (did s (act.Stable p)).state
unfolding did did_stable
stable_fits s asked p f h =
    let o = stable_is_open s p h in
    let up = o.0 in
    let down = o.1 in
    let l = f.low in
    let far = l.1 in
    let at = f.chains p o.3.0 o.3.1 in
    record {
      who = f.who;
      evidence = f.evidence;
      bodies = f.bodies;
      book = (f.book.0, refl);
      votes = λ k d h.
          let r = retain_cases keys_are_ordered.exact s.book.votes (λ k. nat_lt p k.place) k d h in
          let v = f.votes k d r.1 in
          let a = and_parts (nat_lt k.voter (size_of_group s.book.f)) (is_in_window s.book.low k.place) v.0 in
          let w = (in_window s.book.low k.place a.1).1 in
          let b = f.book.1 in
          (and_from (nat_lt k.voter (size_of_group s.book.f)) (is_in_window p k.place) a.0 (and_from (nat_lt p k.place) (nat_le k.place (p + 32)) r.0 (le-leb k.place (p + 32) (omega (arith, w, b, up)))), v.1, v.2);
      numbers = f.numbers;
      own_votes = λ q d h.
          let r = retain_cases keys_are_ordered.exact s.book.votes (λ k. nat_lt p k.place) (key kind.Checkpoint q s.me.index) d h in
          let a = ltb-true p q r.0 in
          retain_kept nat_cmp-IsAntisymmetric s.chains (nat_le p) q (le-leb p q (omega (arith, a))) ∙ f.own_votes q d r.1;
      waited = f.waited;
      marks = (f.marks.0, (let x = f.marks.1 in omega (arith, x, up)), f.marks.2);
      acks = f.acks;
      needed = f.needed;
      low = (down, omega (arith, far, up), at.2);
      pending = λ q e k.
          let r = above p s.pending q e k in
          let x = f.pending q e r.1 in
          let a = r.0 in
          let b = x.0.1 in
          ((a, omega (arith, b, up), x.0.2), x.1, x.2, retain_kept nat_cmp-IsAntisymmetric s.slots (nat_lt p) q (lt-ltb p q a) ∙ x.3, x.4);
      slots = λ q t k.
          let r = above p s.slots q t k in
          let x = f.slots q t r.1 in
          let a = r.0 in
          let b = x.0.1 in
          ((a, omega (arith, b, up), x.0.2), x.1, x.2, x.3);
      way = λ k. let x = f.way k in (ap (trimmed p) x.0 ∙ none_kept p, ap (trimmed p) x.1 ∙ none_kept p, x.2, x.3);
      started = f.started;
      new_view = f.new_view;
      texts = f.texts;
      dones = λ j e k. let x = f.dones j e k in let b = x.3 in (x.0, x.1, x.2, omega (arith, b, up));
      there = λ q a b c. let x = f.there q (omega (arith, a, up)) b c in (x.0, retain_kept nat_cmp-IsAntisymmetric s.chains (nat_le p) q (le-leb p q a) ∙ x.1);
      chains = λ q d k. let r = retain_cases nat_cmp-IsAntisymmetric s.chains (nat_le p) q d k in let x = f.chains q d r.1 in (leb-true p q r.0, x.1, x.2, x.3, x.4, x.5);
      chain = f.chain;
      prepared = λ q d v k.
          let r = above p s.prepared q (d, v) k in
          let x = f.prepared q d v r.1 in
          let a = r.0 in
          let b = x.0.1 in
          ((a, omega (arith, b, up), x.0.2), x.1, x.2);
      pre_prepared = λ q row k.
          let r = above p s.pre_prepared q row k in
          let x = f.pre_prepared q row r.1 in
          let a = r.0 in
          let b = x.0.1 in
          ((a, omega (arith, b, up), x.0.2), x.1, x.2, x.3);
      heard = f.heard;
      own = f.own;
      relayed = f.relayed;
      alone_view = f.alone_view;
      alone_waited = f.alone_waited;
      alone_held = f.alone_held;
    }
